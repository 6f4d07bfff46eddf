-- What a call by a handle does: the client, the answer that is kept, and what is written (own: docs/DEFINITIONS.md).
use Rattle.std.specs.Prelude.{ℕ, ℤ, pos, ◌≡◌, ◌≢◌, ◌⊎◌, ◌≤◌, ◌<◌, ◌++◌, List, [], length, drop, Option, None, Some}
use Rattle.std.specs.Prelude.{option_map}
use Rattle.publicsuffix.specs.Rules.{Rule}
use Rattle.cookie_store.specs.Rows.{Store}
use Rattle.fonnalich_c.specs.Numbers.{answer_word, receive_word, word_of, refusal_number}
use Rattle.fonnalich_c.specs.Started.{start_of}
use Rattle.user_agent.specs.Refusals.{browser_rules}
use Rattle.user_agent.specs.declared.rules.Rules.{Rules}
use Rattle.fonnalich_c.specs.Tasks.{Given, State, Makes, Fails}
use Rattle.fonnalich_c.specs.declared.held.Held.{Held as Stored}
use Rattle.fonnalich_c.specs.declared.refusal.Refusal.{Refusal}
use Rattle.fonnalich_c.specs.declared.refusal.Refusal.TheVariants as refusal
use Rattle.fonnalich_c.specs.declared.word.Word.{Word}

-- what a handle holds: a client once there is one, a list that it keeps for others or none, the rules of its lines and
-- headers, and the answer that had no room
pub record Held : Type 0 where
  pub client : Option Store
  pub list : Option (List Rule)
  pub rules : Rules
  pub kept : List ℕ

-- of all that stands in it
abbrev pub view : Stored → Held
view h = record { client = h.client; list = h.list; rules = h.browsing.rules; kept = h.kept.items }

-- it begins behind the rules of browsers
abbrev pub IsFresh : Held → Type 0
IsFresh held =
    (held.client ≡ None) × (held.list ≡ None) × (held.rules ≡ browser_rules) × (held.kept ≡ [])

abbrev pub state_of : Held → State
state_of held = record { list = held.list; rules = held.rules; client = held.client }

-- The number is the answer's length. Where there is room for all of it, it stands at the beginning of what is written
-- and nothing is kept; else nothing is written and it is kept.
abbrev pub IsHandedOut : List ℕ → List ℕ → List ℕ → List ℕ → ℤ → Type 0
IsHandedOut answer out kept written number = (number ≡ pos (length answer))
    × (((length answer ≤ length out) × (written ≡ answer ++ drop (length answer) out) × (kept ≡ []))
    ⊎ ((length out < length answer) × (written ≡ out) × (kept ≡ answer)))

-- What a word made is handed out; a refusal writes and drops nothing, and leaves the list and the rules.
abbrev pub ActsBy : Option Word → Given → Held → List ℕ → Held → List ℕ → ℤ → Type 0
ActsBy word given old out new written number =
    ((answer : List ℕ) × Makes word given (state_of old) answer (state_of new)
    × IsHandedOut answer out new.kept written number)
    ⊎ ((refused : Refusal) × Fails word given (state_of old) refused new.client × (new.list ≡ old.list)
    × (new.rules ≡ old.rules) × (new.kept ≡ old.kept) × (written ≡ out) × (number ≡ refusal_number refused))

-- the first word hands out what was kept
abbrev pub Acts : ℕ → Given → Held → List ℕ → Held → List ℕ → ℤ → Type 0
Acts word given old out new written number =
    ((word ≡ answer_word) × (state_of new ≡ state_of old) × IsHandedOut old.kept out new.kept written number)
    ⊎ ((word ≢ answer_word) × ActsBy (word_of word) given old out new written number)

-- the lines of an answer come, and a number says what started its request
abbrev pub ActsOnReceipt : ℕ → Given → Held → List ℕ → Held → List ℕ → ℤ → Type 0
ActsOnReceipt started given old out new written number =
    ActsBy (option_map receive_word (start_of started)) given old out new written number

-- why a handle gets no list of another: that keeps none, or memory was refused
abbrev pub IsNoShare : Option (List Rule) → Refusal → Type 0
IsNoShare given refused = (refused ≡ refusal.Memory) ⊎ ((refused ≡ refusal.NoList) × (given ≡ None))

-- It keeps the list that another keeps; a refusal changes nothing.
abbrev pub Shares : Option (List Rule) → Held → Held → ℤ → Type 0
Shares given old new number =
    ((list : List Rule) × (given ≡ Some list) × (new ≡ record old { list = Some list }) × (number ≡ pos 0))
    ⊎ ((refused : Refusal) × IsNoShare given refused × (new ≡ old) × (number ≡ refusal_number refused))

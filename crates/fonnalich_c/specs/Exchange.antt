-- One exchange of a site, without a handle: a session on a request's header, what its commands read, and the lines that
-- it closes with (own: docs/DEFINITIONS.md). Its words are those of the session's calls. The session is on a ring of
-- keys; with a single key that is the ring of this one, and the site reads no place of a key and no value that ends.
use Rattle.std.specs.Prelude.{ℕ, ℤ, ◌≡◌, ◌≢◌, ◌⊎◌, ◌≤◌, ◌<◌, ◌++◌, Bool, false, true, List, [], ◌∷◌, length, take, drop}
use Rattle.std.specs.Prelude.{Option, Some}
use Rattle.std.specs.List.{flat_map}
use Rattle.jiff.specs.Types.{DateTime}
use Rattle.jiff.specs.Words.{civil_nanos}
use Rattle.cookie.specs.KeyRing.{Ring, alone}
use Rattle.cookie_text.specs.Record.{Seen}
use Rattle.cookie_client.specs.Jar.{Sets, TakesOut, IsRemovalRefusal, ClosesWith}
use Rattle.cookie_client.specs.RingSession.{EndsAt, IsOpenedOnShown, KeepsRing, ReadsEnding, RingReadsIn, Ringed}
use Rattle.cookie_client.specs.RingSession.{SetsUntil, keyed, until_refusal, value_alone}
use Rattle.cookie_client.specs.Ways.{set_refusal}
use Rattle.cookie_client.specs.declared.command.Command.TheVariants.{Set, Remove, Get}
use Rattle.cookie_client.specs.declared.ending.EndingWay.{EndingWay}
use Rattle.cookie_client.specs.declared.ending.EndingWay.TheVariants as ends
use Rattle.cookie_client.specs.declared.outcome.SessionError.{SessionError}
use Rattle.cookie_client.specs.declared.way.Way.{Way}
use Rattle.cookie_client.specs.declared.way.Way.TheVariants.{Plain, Host, Secure, Signed, Sealed}
use Rattle.fonnalich_c.specs.Commands.{IsCommandBy, IsNoCommandBy}
use Rattle.fonnalich_c.specs.Faults.{IsTold}
use Rattle.fonnalich_c.specs.Given.{IsNoMoment, nanos_of, lines_of}
use Rattle.fonnalich_c.specs.Items.{item, reading_text, placed_text}
use Rattle.fonnalich_c.specs.Numbers.{told_as}
use Rattle.fonnalich_c.specs.Ring.{IsKeyFault, IsRing}
use Rattle.fonnalich_c.specs.declared.command.RingCommand.{RingCommand}
use Rattle.fonnalich_c.specs.declared.command.RingCommand.TheVariants.{Kept, SetUntil, GetUntil}
use Rattle.fonnalich_c.specs.declared.refusal.Refusal.{Refusal}
use Rattle.fonnalich_c.specs.declared.refusal.Refusal.TheVariants as refusal

-- ---- a command

-- how many bytes of nonce a set takes
abbrev pub nonce_length : Way → ℕ
nonce_length Plain = 0
nonce_length Host = 0
nonce_length Secure = 0
nonce_length Signed = 0
nonce_length Sealed = 12

-- and one of a value that ends
abbrev pub ending_nonce_length : EndingWay → ℕ
ending_nonce_length ends.Signed = 0
ending_nonce_length ends.Sealed = 12

-- an accepted set by the current key, whose nonce, where it is sealed, is the first of these
abbrev pub SetsBy : Ringed → Way → Seen → List ℕ → Ringed → Type 0
SetsBy old way cookie nonces new =
    Sets (λ nonce. nonce ≡ take (nonce_length way) nonces) (keyed old) way cookie (keyed new) × KeepsRing old new

abbrev pub SetsUntilBy : Ringed → EndingWay → Seen → DateTime → List ℕ → Ringed → Type 0
SetsUntilBy old way cookie until nonces new =
    SetsUntil (λ nonce. nonce ≡ take (ending_nonce_length way) nonces) old way cookie until new

-- what is told of a value that was read: on a ring with the place of its key
abbrev pub read_text : Bool → Option (List ℕ × ℕ) → List ℕ
read_text false read = reading_text (value_alone read)
read_text true read = placed_text read

-- what a command tells, the session that it leaves, and the nonces
abbrev pub Tells : Bool → Ringed → DateTime → List ℕ → RingCommand → List ℕ → Ringed → List ℕ → Type 0
Tells on_ring old now nonces (Kept (Set way cookie)) told new left =
    (told ≡ []) × SetsBy old way cookie nonces new × (left ≡ drop (nonce_length way) nonces)
Tells on_ring old now nonces (Kept (Remove way name)) told new left =
    (told ≡ []) × TakesOut (keyed old) way name now (keyed new) × KeepsRing old new × (left ≡ nonces)
Tells on_ring old now nonces (Kept (Get way name)) told new left = (new ≡ old) × (left ≡ nonces)
    × ((read : Option (List ℕ × ℕ)) × (name ≢ []) × RingReadsIn old way name read × (told ≡ read_text on_ring read))
Tells on_ring old now nonces (SetUntil way cookie until) told new left =
    (told ≡ []) × SetsUntilBy old way cookie until nonces new × (left ≡ drop (ending_nonce_length way) nonces)
Tells on_ring old now nonces (GetUntil way name) told new left = (new ≡ old) × (left ≡ nonces)
    × ((read : Option (List ℕ × ℕ)) × (name ≢ []) × ReadsEnding old way name read × (told ≡ read_text on_ring read))

-- why one is refused: too few nonces, and else what the session refuses it for
abbrev pub RefusesSet : Way → Seen → List ℕ → Refusal → Type 0
RefusesSet way cookie nonces refused =
    ((refused ≡ refusal.Nonces) × (length nonces < nonce_length way))
    ⊎ ((error : SessionError) × (nonce_length way ≤ length nonces) × (set_refusal way cookie.cookie ≡ Some error)
    × (refused ≡ told_as error))

abbrev pub RefusesSetUntil : EndingWay → Seen → DateTime → List ℕ → Refusal → Type 0
RefusesSetUntil way cookie until nonces refused =
    ((refused ≡ refusal.Nonces) × (length nonces < ending_nonce_length way))
    ⊎ ((error : SessionError) × (ending : Seen) × (ending_nonce_length way ≤ length nonces)
    × EndsAt cookie until ending × (until_refusal way ending.cookie ≡ Some error) × (refused ≡ told_as error))

abbrev pub RefusesRemoval : List ℕ → DateTime → Refusal → Type 0
RefusesRemoval name now refused =
    (error : SessionError) × IsRemovalRefusal name now (Some error) × (refused ≡ told_as error)

abbrev pub Refuses : DateTime → List ℕ → RingCommand → Refusal → Type 0
Refuses now nonces (Kept (Set way cookie)) refused = RefusesSet way cookie nonces refused
Refuses now nonces (Kept (Remove way name)) refused = RefusesRemoval name now refused
Refuses now nonces (Kept (Get way name)) refused = (refused ≡ refusal.EmptyName) × (name ≡ [])
Refuses now nonces (SetUntil way cookie until) refused = RefusesSetUntil way cookie until nonces refused
Refuses now nonces (GetUntil way name) refused = (refused ≡ refusal.EmptyName) × (name ≡ [])

-- ---- the lines of commands

abbrev pub LineTells : Bool → Ringed → DateTime → List ℕ → List ℕ → List ℕ → Ringed → List ℕ → Type 0
LineTells on_ring old now nonces line told new left =
    (command : RingCommand) × IsCommandBy on_ring line command × Tells on_ring old now nonces command told new left

abbrev pub RefusesLine : Bool → DateTime → List ℕ → List ℕ → Refusal → Type 0
RefusesLine on_ring now nonces line refused =
    ((refused ≡ refusal.Command) × IsNoCommandBy on_ring line)
    ⊎ ((command : RingCommand) × IsCommandBy on_ring line command × Refuses now nonces command refused)

-- one line after another, each with the nonces that those before it leave
abbrev pub AllTell : Bool → Ringed → DateTime → List ℕ → List (List ℕ) → List ℕ → Ringed → List ℕ → Type 0
AllTell on_ring old now nonces [] told new left = (told ≡ []) × (new ≡ old) × (left ≡ nonces)
AllTell on_ring old now nonces (line ∷ lines) told new left =
    (first : List ℕ) × (later : List ℕ) × (mid : Ringed) × (between : List ℕ)
    × LineTells on_ring old now nonces line first mid between
    × AllTell on_ring mid now between lines later new left × (told ≡ first ++ later)

-- the lines before this one are done, and it is refused
pub record StopsAt (on_ring : Bool) (opened : Ringed) (now : DateTime) (lines : List (List ℕ)) (nonces : List ℕ)
    (refused : Refusal) : Type 0 where
  pub before : List (List ℕ)
  pub line : List ℕ
  pub after : List (List ℕ)
  pub cut : lines ≡ before ++ line ∷ after
  pub told : List ℕ
  pub session : Ringed
  pub left : List ℕ
  pub done : AllTell on_ring opened now nonces before told session left
  pub refuses : RefusesLine on_ring now left line refused

-- ---- the exchange

-- an open session answers what its commands tell, and behind it the lines that it closes with
abbrev pub Answers : Bool → Ringed → DateTime → List (List ℕ) → List ℕ → List ℕ → Type 0
Answers on_ring opened now lines nonces answer =
    (told : List ℕ) × (closed : Ringed) × (left : List ℕ) × AllTell on_ring opened now nonces lines told closed left
    × ((closing : List (List ℕ)) × ClosesWith closed.jar closing × (answer ≡ told ++ flat_map item closing))

-- the keys make a ring, on which a session is opened at the second on the header
abbrev pub Opens : (Ring → Type 0) → List ℕ → ℤ → Ringed → DateTime → Type 0
Opens IsOf header second opened now =
    (ring : Ring) × IsOf ring × IsOpenedOnShown ring now header opened × (civil_nanos now ≡ nanos_of second)

-- the ring of the key of the first 64 bytes
abbrev pub IsAlone : List ℕ → Ring → Type 0
IsAlone key ring = (64 ≤ length key) × (ring ≡ alone (take 64 key))

abbrev pub IsExchangeOn : Bool → (Ring → Type 0) → List ℕ → ℤ → List ℕ → List ℕ → List ℕ → Type 0
IsExchangeOn on_ring IsOf header second commands nonces answer =
    (opened : Ringed) × (now : DateTime) × Opens IsOf header second opened now
    × Answers on_ring opened now (lines_of commands) nonces answer

abbrev pub IsExchange : List ℕ → List ℕ → ℤ → List ℕ → List ℕ → List ℕ → Type 0
IsExchange key = IsExchangeOn false (IsAlone key)

abbrev pub IsRingExchange : List ℕ → List ℤ → List ℕ → ℤ → List ℕ → List ℕ → List ℕ → Type 0
IsRingExchange keys ends = IsExchangeOn true (IsRing keys ends)

-- what is wrong with a second and keys
abbrev pub IsOpeningFault : (Refusal → Type 0) → ℤ → Refusal → Type 0
IsOpeningFault IsKeyFault second refused = ((refused ≡ refusal.Moment) × IsNoMoment second) ⊎ IsKeyFault refused

-- none opens, or the first command that is refused refuses it
abbrev pub IsNoExchangeOn : Bool → (Ring → Type 0) → (Refusal → Type 0) → List ℕ → ℤ → List ℕ → List ℕ → Refusal
    → Type 0
IsNoExchangeOn on_ring IsOf IsKeyFault header second commands nonces refused =
    IsTold (IsOpeningFault IsKeyFault second) refused
    ⊎ ((opened : Ringed) × (now : DateTime) × Opens IsOf header second opened now
    × StopsAt on_ring opened now (lines_of commands) nonces refused)

abbrev pub IsShortKey : List ℕ → Refusal → Type 0
IsShortKey key refused = (refused ≡ refusal.Key) × (length key < 64)

abbrev pub IsNoExchange : List ℕ → List ℕ → ℤ → List ℕ → List ℕ → Refusal → Type 0
IsNoExchange key = IsNoExchangeOn false (IsAlone key) (IsShortKey key)

abbrev pub IsNoRingExchange : List ℕ → List ℤ → List ℕ → ℤ → List ℕ → List ℕ → Refusal → Type 0
IsNoRingExchange keys ends = IsNoExchangeOn true (IsRing keys ends) (IsKeyFault keys ends)

-- One cookie of a client, by its key (own: docs/DEFINITIONS.md).
use Rattle.std.specs.Prelude.{ℕ, ℤ, ◌≡◌, ◌⊎◌, ◌==◌, if◌then◌else◌, List, Option, Some, None}
use Rattle.std.specs.Str.{IsUtf8}
use Rattle.cookie_store.specs.Rows.{Key, Store, found, found_live, removed}
use Rattle.fonnalich_c.specs.Faults.{IsTold}
use Rattle.fonnalich_c.specs.Given.{IsNoMoment, nanos_of}
use Rattle.fonnalich_c.specs.Handle.{Held, IsHandedOut}
use Rattle.fonnalich_c.specs.Listing.{found_text}
use Rattle.fonnalich_c.specs.Numbers.{refusal_number}
use Rattle.fonnalich_c.specs.declared.one.Pick.{Pick}
use Rattle.fonnalich_c.specs.declared.one.Pick.TheVariants as pick
use Rattle.fonnalich_c.specs.declared.refusal.Refusal.{Refusal}
use Rattle.fonnalich_c.specs.declared.refusal.Refusal.TheVariants as refusal

-- what the words do
abbrev pub pick_of : ℕ → Option Pick
pick_of number = if number == 0 then Some pick.Get else if number == 1 then Some pick.Remove else None

abbrev pub IsKeyText : Key → Type 0
IsKeyText key = IsUtf8 key.domain × IsUtf8 key.path × IsUtf8 key.name

-- the items of the cookie of the key: of one that isn't expired at the second; or of the one that was taken out
abbrev pub Picks : Pick → ℤ → Key → Store → List ℕ → Store → Type 0
Picks pick.Get second key old answer new =
    (new ≡ old) × (answer ≡ found_text (found_live (nanos_of second) key old.rows))
Picks pick.Remove second key old answer new =
    (new ≡ record old { rows = removed key old.rows }) × (answer ≡ found_text (found key old.rows))

-- what is wrong with a second and a key
abbrev pub IsPickFault : ℤ → Key → Refusal → Type 0
IsPickFault second key refused =
    ((refused ≡ refusal.Moment) × IsNoMoment second) ⊎ ((refused ≡ refusal.Text) × (¬ IsKeyText key))

-- what a word answers by the client that there may be, and what that is then
abbrev pub PicksOf : Option Pick → ℤ → Key → Option Store → List ℕ → Option Store → Type 0
PicksOf None second key old answer new = ⊥
PicksOf (Some pick) second key None answer new = ⊥
PicksOf (Some pick) second key (Some old) answer new =
    (client : Store) × (new ≡ Some client) × Picks pick second key old answer client

-- why it answers nothing
abbrev pub IsNoPick : Option Pick → ℤ → Key → Option Store → Refusal → Type 0
IsNoPick None second key client refused = refused ≡ refusal.Word
IsNoPick (Some pick) second key None refused = refused ≡ refusal.NoClient
IsNoPick (Some pick) second key (Some client) refused = IsTold (IsPickFault second key) refused

-- A word hands its answer out; a refusal writes, drops and changes nothing.
abbrev pub ActsOnOne : ℕ → ℤ → Key → Held → List ℕ → Held → List ℕ → ℤ → Type 0
ActsOnOne word second key old out new written number =
    ((answer : List ℕ) × PicksOf (pick_of word) second key old.client answer new.client × (new.list ≡ old.list)
    × (new.rules ≡ old.rules)
    × IsHandedOut answer out new.kept written number)
    ⊎ ((refused : Refusal) × IsNoPick (pick_of word) second key old.client refused × (new ≡ old) × (written ≡ out)
    × (number ≡ refusal_number refused))

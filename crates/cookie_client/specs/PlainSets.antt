-- What a session signs or seals it sets as it is: a set in those ways is a plain set of the cookie with its text.
use Rattle.std.specs.Prelude.{ℕ, List, ⊤}
use Rattle.cookie_text.specs.Record.{Seen}
use Rattle.cookie_text.specs.Setting.{with_value}
use Rattle.cookie.specs.Sealing.{IsSealing}
use Rattle.cookie.specs.Signing.{signing}
use Rattle.cookie_client.specs.Jar.{Keyed, Sets}
use Rattle.cookie_client.specs.declared.way.Way.TheVariants.{Plain, Signed, Sealed}

-- whatever the nonce is
abbrev pub any_nonce : List ℕ → Type 0
any_nonce nonce = ⊤

abbrev pub SignedSetsArePlain : Type 0
SignedSetsArePlain = (old new : Keyed) (s : Seen) → Sets any_nonce old Signed s new
    → Sets any_nonce old Plain (with_value s (signing old.key s.cookie.value)) new

abbrev pub SealedSetsArePlain : Type 0
SealedSetsArePlain = (old new : Keyed) (s : Seen) → Sets any_nonce old Sealed s new
    → (text : List ℕ) × IsSealing old.key s.cookie.name s.cookie.value text
    × Sets any_nonce old Plain (with_value s text) new

-- What a child jar reads of a cookie that is stored.
use Rattle.std.specs.Prelude.{◌≡◌, ℕ, List, Option, None, MatchOption}
use Rattle.std.specs.Str.{IsUtf8}
use Rattle.cookie_text.specs.Record.{Seen}
use Rattle.cookie_text.specs.Setting.{with_value}
use Rattle.cookie.specs.Signing.{signing}
use Rattle.cookie.specs.Sealing.{IsSealing}

-- where the stored cookie stands for a value, it is read with that value in the place of its own; where
-- it stands for none, as where its value is `1`, there is no answer
abbrev pub Reads : (List ℕ → Type 0) → Seen → Option Seen → Type 0
Reads StandsFor stored answer = MatchOption answer
    ((value : List ℕ) → ¬ (StandsFor value))
    (λ read. (value : List ℕ) × StandsFor value × (read ≡ with_value stored value))

-- its value is the signing of this one
abbrev pub IsSigned : List ℕ → Seen → List ℕ → Type 0
IsSigned key stored value = stored.cookie.value ≡ signing key value

-- its value is a sealing of this text, under its own name
abbrev pub IsSealed : List ℕ → Seen → List ℕ → Type 0
IsSealed key stored value = IsUtf8 value × IsSealing key stored.cookie.name value stored.cookie.value

-- the same of the cookie that a jar gives, where it gives one
abbrev pub ReadsFound : (Seen → List ℕ → Type 0) → Option Seen → Option Seen → Type 0
ReadsFound StandsFor found answer =
    MatchOption found (answer ≡ None) (λ stored. Reads (StandsFor stored) stored answer)

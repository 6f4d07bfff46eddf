-- What a child jar reads of a cookie right after it was added through it.
use Rattle.std.specs.Prelude.{◌≡◌, ◌++◌, ℕ, List, Option, MatchOption}
use Rattle.std.specs.Option.{option_map}
use Rattle.cookie_text.specs.Record.{Seen}
use Rattle.cookie_text.specs.Setting.{with_name, with_value}
use Rattle.cookie.specs.Jar.{Jar, view, with_added}
use Rattle.cookie.specs.Prefix.{prefixed}
use Rattle.cookie.specs.Signing.{signing}
use Rattle.cookie.specs.Sealing.{SealsAs}
use Rattle.cookie.specs.Reading.{ReadsFound, IsSigned, IsSealed}

-- a cookie was read, with name and value of this one
abbrev pub IsReadAs : Seen → Option Seen → Type 0
IsReadAs c read =
    MatchOption read ⊥ (λ d. (d.cookie.name ≡ c.cookie.name) × (d.cookie.value ≡ c.cookie.value))

-- what the jar gives under the cookie's name once `stored` was added
abbrev pub given_after : Jar → Seen → List ℕ → Option Seen
given_after jar stored name = view (with_added jar stored) name

-- by a prefixed jar whose prefix conforms cookies so
abbrev pub PrefixedReadsBack : List ℕ → (Seen → Seen) → Type 0
PrefixedReadsBack text conformed = (jar : Jar) (c : Seen)
    → IsReadAs c (option_map (λ d. with_name d c.cookie.name)
    (given_after jar (conformed (prefixed text c)) (text ++ c.cookie.name)))

-- by a signed jar with this key
abbrev pub SignedReadsBack : List ℕ → Type 0
SignedReadsBack key = (jar : Jar) (c : Seen) (read : Option Seen)
    → ReadsFound (IsSigned key) (given_after jar (with_value c (signing key c.cookie.value)) c.cookie.name) read
    → IsReadAs c read

-- by a private jar with this key, of this cookie, whatever the nonce was
abbrev pub PrivateReadsBack : List ℕ → Seen → Type 0
PrivateReadsBack key c = (jar : Jar) (nonce : List ℕ) (stored : Seen) (read : Option Seen)
    → SealsAs key nonce c stored
    → ReadsFound (IsSealed key) (given_after jar stored c.cookie.name) read → IsReadAs c read

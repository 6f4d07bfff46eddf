-- What a ring reads of a cookie: a ring of one key, and any ring right after a cookie was added under it.
use Rattle.std.specs.Prelude.{◌≡◌, ◌↔◌, ℕ, List, Option, MatchOption}
use Rattle.jiff.specs.Types.{DateTime}
use Rattle.cookie_text.specs.Record.{Seen}
use Rattle.cookie_text.specs.Setting.{with_value}
use Rattle.cookie.specs.Jar.{Jar}
use Rattle.cookie.specs.KeyRing.{Ring, ReadsFoundUnder, alone, without_place}
use Rattle.cookie.specs.Laws.{given_after}
use Rattle.cookie.specs.Reading.{ReadsFound, IsSigned, IsSealed}
use Rattle.cookie.specs.Sealing.{SealsAs}
use Rattle.cookie.specs.Signing.{signing}

-- under a ring of one key a jar reads what it reads by that key, at place 0, and nothing else
abbrev pub IsThatKey : (List ℕ → Seen → List ℕ → Type 0) → Type 0
IsThatKey StandsFor = (key : List ℕ) (now : DateTime) (found : Option Seen) (read : Option (Seen × ℕ))
    → ReadsFoundUnder StandsFor now (alone key) found read
    ↔ (ReadsFound (StandsFor key) found (without_place read) × MatchOption read (Unit {0}) (λ r. r.1 ≡ 0))

-- a cookie was read by the current key, with name and value of this one
abbrev pub IsReadByCurrent : Seen → Option (Seen × ℕ) → Type 0
IsReadByCurrent c read = MatchOption read ⊥
    (λ r. (r.0.cookie.name ≡ c.cookie.name) × (r.0.cookie.value ≡ c.cookie.value) × (r.1 ≡ 0))

-- at any moment, whatever the earlier keys are
abbrev pub SignedReadsBackUnder : Ring → Type 0
SignedReadsBackUnder ring = (jar : Jar) (c : Seen) (now : DateTime) (read : Option (Seen × ℕ))
    → ReadsFoundUnder IsSigned now ring
    (given_after jar (with_value c (signing ring.current c.cookie.value)) c.cookie.name) read → IsReadByCurrent c read

abbrev pub PrivateReadsBackUnder : Ring → Seen → Type 0
PrivateReadsBackUnder ring c = (jar : Jar) (nonce : List ℕ) (stored : Seen) (now : DateTime)
    (read : Option (Seen × ℕ)) → SealsAs ring.current nonce c stored
    → ReadsFoundUnder IsSealed now ring (given_after jar stored c.cookie.name) read → IsReadByCurrent c read

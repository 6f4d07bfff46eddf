-- What is read of a copy of the cookie that was found, under a ring of keys.
use Rattle.std.proofs.Common.{◌≡◌, ℕ, List, Option, Some, Result, IfOk, subst}
use Rattle.jiff.specs.Types.{DateTime}
use Rattle.cookie_text.specs.Record.{Seen}
use Rattle.cookie.specs.KeyRing.{Ring, ReadsUnder, ReadsFoundUnder}
use Rattle.cookie.specs.Trials.{GivesValue}

pub found_reads_under : {E : Type 0} (StandsFor : List ℕ → Seen → List ℕ → Type 0) (now : DateTime) (ring : Ring)
    (r : Result (Option (Seen × ℕ)) E) (copy stored : Seen) (found : Option Seen) → copy ≡ stored → Some stored ≡ found
    → IfOk r (λ read. ReadsUnder StandsFor now ring copy read)
    → IfOk r (λ read. ReadsFoundUnder StandsFor now ring found read)
found_reads_under StandsFor now ring r copy stored found same is reads =
    subst (λ o. IfOk r (λ read. ReadsFoundUnder StandsFor now ring o read)) is
    (subst (λ s. IfOk r (λ read. ReadsUnder StandsFor now ring s read)) same reads)

-- the same of a text and a name that were read of a cookie
pub of_cookie : (P : (List ℕ → List ℕ → Type 0) → Type 0) (name text own_name own_text : List ℕ) → name ≡ own_name
    → text ≡ own_text → P (GivesValue name text) → P (GivesValue own_name own_text)
of_cookie P name text own_name own_text named valued p =
    subst (λ (t : List ℕ). P (GivesValue own_name t)) valued
    (subst (λ (n : List ℕ). P (GivesValue n text)) named p)

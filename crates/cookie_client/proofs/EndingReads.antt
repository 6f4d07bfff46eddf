-- What is read of a text with a mark, and of one without.
use Rattle.std.proofs.Common.{◌≡◌, ◌≢◌, ◌∙◌, ◌↔◌, ℕ, List, ◌∷◌, Option, Some, None, Result, Ok, Err, IfOk}
use Rattle.std.proofs.Common.{String, Global, refl, ap, subst}
use Rattle.jiff.specs.Types.{DateTime}
use Rattle.jiff.specs.Words.{civil_nanos}
use Rattle.cookie.specs.KeyRing.{Ring, GivesAt}
use Rattle.cookie.specs.Sealing.{IsSealing}
use Rattle.cookie.specs.Signing.{signing}
use Rattle.cookie.specs.Trials.{GivesValue}
use Rattle.cookie_client.specs.Ending.{IsReadBefore, ReadsGiven, ReadsUntil, StandsFor, ending_key, ending_ring, mark}
use Rattle.cookie_client.specs.Ending.{placed}
use Rattle.cookie_client.specs.declared.ending.EndingWay.{EndingWay}
use Rattle.cookie_client.specs.declared.ending.EndingWay.TheVariants.{Signed, Sealed}
use Rattle.cookie_client.proofs.EndingKeys.{given_under}

pub read_under : (Gives Derived : List ℕ → List ℕ → Type 0) (name : List ℕ) (now : DateTime) (ring derived : Ring)
    (read : Option (List ℕ × ℕ)) → derived ≡ ending_ring name ring
    → ((key v : List ℕ) → Derived (ending_key key name) v ↔ Gives key v)
    → ReadsGiven Derived now derived read → ReadsGiven Gives now ring read
read_under Gives Derived name now ring derived read is each r =
    let moved : ReadsGiven Derived now (ending_ring name ring) read =
    subst (λ (q : Ring). ReadsGiven Derived now q read) is r in
    (moved.0, given_under Gives Derived name now ring moved.0 each moved.1, moved.2)

pub signed_is : (name text rest : List ℕ) → text ≡ mark ∷ rest → (key v : List ℕ)
    → (rest ≡ signing (ending_key key name) v) ↔ StandsFor Signed name text key v
signed_is name text rest e key v = (
  λ s. e ∙ ap (λ (r : List ℕ). mark ∷ r) s,
  λ s. let same : rest ≡ signing (ending_key key name) v = cc (e, s) in same,
)

pub sealed_is : (name text rest : List ℕ) → text ≡ mark ∷ rest → (key v : List ℕ)
    → GivesValue name rest (ending_key key name) v ↔ StandsFor Sealed name text key v
sealed_is name text rest e key v = (
  λ g. (rest, e, g.0, g.1),
  λ s. let same : s.0 ≡ rest = cc (e, s.1) in
      (s.2, subst (λ (t : List ℕ). IsSealing (ending_key key name) name v t) same s.3),
)

-- a text without the mark stands for nothing
unmarked : (way : EndingWay) (name text key v : List ℕ) → ((rest : List ℕ) → text ≢ mark ∷ rest)
    → ¬ (StandsFor way name text key v)
unmarked Signed name text key v none s = none (signing (ending_key key name) v) s
unmarked Sealed name text key v none s = none s.0 s.1

pub read_unmarked : (way : EndingWay) (now : DateTime) (ring : Ring) (name text : List ℕ)
    → ((rest : List ℕ) → text ≢ mark ∷ rest) → ReadsUntil way now ring name text None
read_unmarked way now ring name text none = (None, (λ p key v at. unmarked way name text key v none), refl)

-- what is read of the dated text that a key gives
pub read_of : {E : Type 0} (Gives : List ℕ → List ℕ → Type 0) (now : DateTime) (ring : Ring) (dated : List ℕ)
    (place : ℕ) (r : Result (Option (String Global × ℕ)) E) → GivesAt Gives now ring dated place
    → IfOk r (λ read. IsReadBefore (civil_nanos now) dated place (placed read))
    → IfOk r (λ read. ReadsGiven Gives now ring (placed read))
read_of Gives now ring dated place (Ok x) gives is = (Some (dated, place), gives, is)
read_of Gives now ring dated place (Err e) gives is = tt

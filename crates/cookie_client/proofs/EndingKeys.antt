-- What a ring whose keys were derived gives, its own keys give.
use Rattle.std.proofs.Common.{◌≡◌, ◌∙◌, ℕ, zero, suc, ◌↔◌, Bool, true, false, List, Option, Some, None}
use Rattle.std.proofs.Common.{refl, ap, sym, subst}
use Rattle.std.specs.Option.{option_map}
use Rattle.std.specs.List.{slice_get}
use Rattle.std.proofs.lemmas.Option.{slice_get-map}
use Rattle.jiff.specs.Types.{DateTime}
use Rattle.cookie.specs.KeyRing.{Ring, key_at, counts, counting, GivesUnder}
use Rattle.cookie.specs.declared.secure.key_ring.EarlierKey.{EarlierKey}
use Rattle.cookie_client.specs.Ending.{ending_key, ending_earlier, ending_ring}

-- the derived key of a key
abbrev of_key : List ℕ → List ℕ → List ℕ
of_key name key = ending_key key name

if_counts : (name : List ℕ) (now : DateTime) (e : EarlierKey) (b : Bool) → counts now e ≡ b
    → counting now (Some (ending_earlier name e)) ≡ option_map (of_key name) (counting now (Some e))
if_counts name now e true is = cc is
if_counts name now e false is = cc is

counted : (name : List ℕ) (now : DateTime) (o : Option EarlierKey)
    → counting now (option_map (ending_earlier name) o) ≡ option_map (of_key name) (counting now o)
counted name now None = refl
counted name now (Some e) = if_counts name now e (counts now e) refl

-- the key of a place is the derived one
pub key_of_place : (name : List ℕ) (now : DateTime) (ring : Ring) (p : ℕ)
    → key_at now (ending_ring name ring) p ≡ option_map (of_key name) (key_at now ring p)
key_of_place name now ring zero = refl
key_of_place name now ring (suc n) =
    ap (counting now) (slice_get-map (ending_earlier name) ring.earlier n) ∙ counted name now (slice_get ring.earlier n)

-- where there is a derived one, there is the one that it was derived of
pub key_behind : (name : List ℕ) (at : Option (List ℕ)) (derived : List ℕ) → option_map (of_key name) at ≡ Some derived
    → (key : List ℕ) × (at ≡ Some key) × (derived ≡ ending_key key name)
key_behind name None derived is = let no : ⊥ = cc is in absurd no
key_behind name (Some key) derived is = (key, refl, let same : derived ≡ ending_key key name = cc is in same)

derived_at : (name : List ℕ) (now : DateTime) (ring : Ring) (p : ℕ) (key : List ℕ) → key_at now ring p ≡ Some key
    → key_at now (ending_ring name ring) p ≡ Some (ending_key key name)
derived_at name now ring p key at = key_of_place name now ring p ∙ ap (option_map (of_key name)) at

-- what is given under the ring of derived keys is given under the ring itself, where a key gives what its derived one
-- does
pub given_under : (Gives Derived : List ℕ → List ℕ → Type 0) (name : List ℕ) (now : DateTime) (ring : Ring)
    (given : Option (List ℕ × ℕ)) → ((key v : List ℕ) → Derived (ending_key key name) v ↔ Gives key v)
    → GivesUnder Derived now (ending_ring name ring) given → GivesUnder Gives now ring given
given_under Gives Derived name now ring None each none =
    λ p key v at gives. none p (ending_key key name) v (derived_at name now ring p key at) ((each key v).1 gives)
given_under Gives Derived name now ring (Some g) each it =
    let from = key_behind name (key_at now ring g.1) it.key (sym (key_of_place name now ring g.1) ∙ it.counts) in
    record {
      key = from.0;
      counts = from.1;
      gives = (each from.0 g.0).0 (subst (λ (k : List ℕ). Derived k g.0) from.2 it.gives);
      first = λ p key v lt at gives.
          it.first p (ending_key key name) v lt (derived_at name now ring p key at) ((each key v).1 gives);
    }

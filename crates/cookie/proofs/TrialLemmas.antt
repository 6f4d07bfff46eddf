-- Which keys of a ring were tried, and what that says of a text.
use Rattle.std.proofs.Common.{◌≡◌, ◌≢◌, ◌⊎◌, inl, inr, ℕ, zero, suc, ◌+◌, ◌<◌, ◌≤◌, ◌↔◌, Bool, true, false, List}
use Rattle.std.proofs.Common.{IsTrue, length, take, drop, get_or, Option, Some, None, MatchOption, Result, Ok, Err}
use Rattle.std.proofs.Common.{IfOk, refl, ap, sym, subst, ◌∙◌, arith}
use Rattle.std.specs.String.{string_bytes}
use Rattle.std.specs.declared.string.String.{String}
use Rattle.std.proofs.Math.ListN.{set}
use Rattle.std.proofs.lemmas.Bool.{cases_lt}
use Rattle.std.proofs.lemmas.List.{get_or-set_same, get_or-set_other, length-set}
use Rattle.std.proofs.lemmas.Option.{slice_get_past}
use Rattle.std.specs.List.{slice_get}
use Rattle.jiff.specs.Types.{DateTime}
use Rattle.cookie.specs.Base64.{IsBase64}
use Rattle.cookie.specs.KeyRing.{Ring, key_at, counting, GivesAt, GivesNone, GivesUnder}
use Rattle.cookie.specs.Sealing.{IsSealedAs}
use Rattle.cookie.specs.Signing.{signing}
use Rattle.cookie.specs.Trials.{AreVerdicts, AreSealed, GivesBelow, GivesValue, IsCode, IsYes, OpensAt, told}
use Rattle.cookie.proofs.SigningLemmas.{CodesHave32, code, parts_of_signing, signing_from_parts}

-- ---- while keys are tried

-- below n each verdict is told, and from there on none is true
pub record AreToldBelow (Opens : List ℕ → Type 0) (now : DateTime) (ring : Ring) (n : ℕ) (v : List Bool) : Type 0 where
  pub len : length v ≡ 17
  pub each : (p : ℕ) → p < n → IsYes v p ↔ OpensAt Opens now ring p
  pub rest : (p : ℕ) → n ≤ p → ¬ (IsYes v p)

only_key : (key k : List ℕ) (at : Option (List ℕ)) → at ≡ Some key → at ≡ Some k → k ≡ key
only_key key k at e f = cc (e, f)

-- one more key was tried
pub tried : (Opens : List ℕ → Type 0) (now : DateTime) (ring : Ring) (n : ℕ) (v : List Bool) (b : Bool) (key : List ℕ)
    → n < 17 → AreToldBelow Opens now ring n v → key_at now ring n ≡ Some key → IsTrue b ↔ Opens key
    → AreToldBelow Opens now ring (n + 1) (set v n b)
tried Opens now ring n v b key within s at is =
    let same : get_or (set v n b) n false ≡ b = get_or-set_same v n b false (omega (arith, s.len)) in
    let here : IsYes (set v n b) n ↔ OpensAt Opens now ring n = (
      λ y. (key, at, is.0 (sym same ∙ y)),
      λ o. same ∙ is.1 (subst Opens (only_key key o.0 (key_at now ring n) at o.1) o.2),
    ) in
    record {
      len = length-set v n b ∙ s.len;
      each = λ p below. elim (cases_lt p n) [
        | inl lt ↦
            let e = get_or-set_other v n p b false (omega arith) in
            (λ y. (s.each p lt).0 (sym e ∙ y), λ o. e ∙ (s.each p lt).1 o)
        | inr ge ↦
            let is_n : n ≡ p = omega arith in
            subst (λ (q : ℕ). IsYes (set v n b) q ↔ OpensAt Opens now ring q) is_n here
      ];
      rest = λ p above y. s.rest p (omega arith) (sym (get_or-set_other v n p b false (omega arith)) ∙ y);
    }

-- the next key doesn't count
pub untried : (Opens : List ℕ → Type 0) (now : DateTime) (ring : Ring) (n : ℕ) (v : List Bool)
    → AreToldBelow Opens now ring n v → key_at now ring n ≡ None → AreToldBelow Opens now ring (n + 1) v
untried Opens now ring n v s none =
    let here : IsYes v n ↔ OpensAt Opens now ring n = (
      λ y. absurd (s.rest n (omega arith) y),
      λ o. let no : ⊥ = cc (o.1, none) in absurd no,
    ) in
    record {
      len = s.len;
      each = λ p below. elim (cases_lt p n) [
        | inl lt ↦ s.each p lt
        | inr ge ↦
            let is_n : n ≡ p = omega arith in
            subst (λ (q : ℕ). IsYes v q ↔ OpensAt Opens now ring q) is_n here
      ];
      rest = λ p above. s.rest p (omega arith);
    }

-- there are no more keys than places
pub no_key_past : (now : DateTime) (ring : Ring) (p : ℕ) (k : List ℕ) → length ring.earlier + 1 ≤ p
    → key_at now ring p ≡ Some k → ⊥
no_key_past now ring zero k past at = omega arith
no_key_past now ring (suc n) k past at =
    let none : key_at now ring (suc n) ≡ None = ap (counting now) (slice_get_past ring.earlier n (omega arith)) in
    cc (at, none)

pub all_told : (Opens : List ℕ → Type 0) (now : DateTime) (ring : Ring) (n : ℕ) (v : List Bool)
    → AreToldBelow Opens now ring n v → n ≡ length ring.earlier + 1 → n ≤ 17 → AreVerdicts Opens now ring v
all_told Opens now ring n v s is few = record {
  each = λ p within. elim (cases_lt p n) [
    | inl lt ↦ s.each p lt
    | inr ge ↦ (
      λ y. absurd (s.rest p ge y),
      λ o. absurd (no_key_past now ring p o.0 (omega arith) o.1),
    )
  ];
  few = λ p key at. elim (cases_lt p n) [
    | inl lt ↦ omega arith
    | inr ge ↦ absurd (no_key_past now ring p key (omega arith) at)
  ];
}

-- ---- a signed text

-- its two parts are these
pub record IsCut (text front rest : List ℕ) : Type 0 where
  pub front_is : front ≡ take 44 text
  pub rest_is : rest ≡ drop 44 text

abbrev pub Signs : List ℕ → List ℕ → List ℕ → Type 0
Signs text key value = text ≡ signing key value

signed_opens : CodesHave32 → (text front rest key value : List ℕ) → IsCut text front rest → Signs text key value
    → IsCode front rest key
signed_opens sizes text front rest key value cut is =
    (parts_of_signing sizes key value text front rest cut.front_is cut.rest_is is).0

pub signed_first : CodesHave32 → (text front rest value : List ℕ) (now : DateTime) (ring : Ring) (v : List Bool)
    (place : ℕ) → IsCut text front rest → rest ≡ value → AreVerdicts (IsCode front rest) now ring v → place < 17
    → IsYes v place → ((p : ℕ) → p < place → ¬ (IsYes v p)) → GivesAt (Signs text) now ring value place
signed_first sizes text front rest value now ring v place cut same told within is_yes before =
    let opens = (told.each place within).0 is_yes in
    record {
      key = opens.0;
      counts = opens.1;
      gives = signing_from_parts opens.0 rest text front cut.front_is cut.rest_is opens.2 ∙ ap (signing opens.0) same;
      first = λ p k w lt at is. before p lt ((told.each p (omega arith)).1
          (k, at, signed_opens sizes text front rest k w cut is));
    }

pub signed_none : CodesHave32 → (text front rest : List ℕ) (now : DateTime) (ring : Ring) (v : List Bool)
    → IsCut text front rest → AreVerdicts (IsCode front rest) now ring v → ((p : ℕ) → p < 17 → ¬ (IsYes v p))
    → GivesNone (Signs text) now ring
signed_none sizes text front rest now ring v cut told none p k w at is =
    let within : p < 17 = told.few p k at in
    none p within ((told.each p within).1 (k, at, signed_opens sizes text front rest k w cut is))

-- ---- a sealed text

-- what gives a value opens the bytes
pub gives_opens : (name text key value held : List ℕ) → ((b : List ℕ) → IsBase64 b text → held ≡ b)
    → GivesValue name text key value → AreSealed name held key
gives_opens name text key value held one s = (
  value,
  s.1.0,
  s.1.1,
  subst (IsSealedAs key name value s.1.0) (sym (one s.1.2.0 s.1.2.2)) s.1.2.1,
)

pub none_more : (Gives : List ℕ → List ℕ → Type 0) (now : DateTime) (ring : Ring) (n : ℕ) (given : Option (List ℕ × ℕ))
    → GivesBelow Gives now ring n given → ((k v : List ℕ) → key_at now ring n ≡ Some k → ¬ (Gives k v))
    → GivesBelow Gives now ring (n + 1) given
none_more Gives now ring n None below none = λ p k v within at gives.
    elim (cases_lt p n) [
      | inl lt ↦ below p k v lt at gives
      | inr ge ↦
          let is_n : p ≡ n = omega arith in
          none k v (subst (λ (q : ℕ). key_at now ring q ≡ Some k) is_n at) gives
    ]
none_more Gives now ring n (Some g) below none = below

pub found_here : (Gives : List ℕ → List ℕ → Type 0) (now : DateTime) (ring : Ring) (n : ℕ) (key value : List ℕ)
    → GivesBelow Gives now ring n None → key_at now ring n ≡ Some key → Gives key value
    → GivesAt Gives now ring value n
found_here Gives now ring n key value below at gives =
    record { key = key; counts = at; gives = gives; first = below }

pub under_from_below : (Gives : List ℕ → List ℕ → Type 0) (now : DateTime) (ring : Ring) (n : ℕ)
    (given : Option (List ℕ × ℕ)) → GivesBelow Gives now ring n given
    → ((p : ℕ) (k : List ℕ) → key_at now ring p ≡ Some k → p < n) → GivesUnder Gives now ring given
under_from_below Gives now ring n None below few = λ p k v at gives. below p k v (few p k at) at gives
under_from_below Gives now ring n (Some g) below few = below

-- one more place was tried, where none before gave a value
pub or_opened : {E Y : Type 0} (name text : List ℕ) (now : DateTime) (ring : Ring) (n : ℕ)
    (before : Option (String Y × ℕ)) (r : Result (Option (String Y × ℕ)) E) → before ≡ None
    → IfOk r (λ opened. MatchOption opened
    ((key value : List ℕ) → key_at now ring n ≡ Some key → ¬ (GivesValue name text key value))
    (λ o. (o.1 ≡ n) × (key : List ℕ) × (key_at now ring n ≡ Some key) × GivesValue name text key (string_bytes o.0)))
    → IfOk r (λ opened. GivesBelow (GivesValue name text) now ring n (told before)
    → GivesBelow (GivesValue name text) now ring (n + 1) (told opened))
or_opened {E} {Y} name text now ring n before (Ok None) is h = λ below.
    none_more (GivesValue name text) now ring n None
    (subst (λ (b : Option (String Y × ℕ)). GivesBelow (GivesValue name text) now ring n (told b)) is below) h
or_opened {E} {Y} name text now ring n before (Ok (Some o)) is h = λ below.
    subst (λ (q : ℕ). GivesAt (GivesValue name text) now ring (string_bytes o.0) q) (sym h.0)
    (found_here (GivesValue name text) now ring n h.1 (string_bytes o.0)
    (subst (λ (b : Option (String Y × ℕ)). GivesBelow (GivesValue name text) now ring n (told b)) is below) h.2 h.3)
or_opened name text now ring n before (Err e) is h = tt

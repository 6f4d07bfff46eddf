-- What the rows of a host stand for, each name once.
use Rattle.std.proofs.Common.{◌≡◌, ℕ, ℤ, Bool, true, false, cond, List, [], ◌∷◌, ◌++◌, sym, refl, ap, ◌∙◌, subst}
use Rattle.std.proofs.Common.{⊎_elim, Option, Some, None}
use Rattle.std.specs.Prelude.{map, option_map, IfSome}
use Rattle.std.specs.List.{filter, AllByRecursion}
use Rattle.std.specs.Str.{bytes_eq}
use Rattle.std.proofs.lemmas.Bool.{cases_Bool, cond-true, cond-false}
use Rattle.cookie.specs.ByName.{HaveOwnNames as EntriesApart, value_in as entry_in}
use Rattle.cookie_client.proofs.Texts.{same_text, turned, some_is_not_none}

-- a name and a value, and when they end
pub record Kept : Type 0 where
  pub name : List ℕ
  pub value : List ℕ
  pub death : Option ℤ

abbrev pub by_name : List Kept → List (List ℕ × Kept)
by_name ks = map (λ k. (k.name, k)) ks

-- the first of a name
abbrev pub found_in : List Kept → List ℕ → Option Kept
found_in ks name = entry_in (by_name ks) name

abbrev pub lacks : List Kept → List ℕ → Type 0
lacks ks name = found_in ks name ≡ None

abbrev pub AreApart : List Kept → Type 0
AreApart ks = EntriesApart (by_name ks)

found_cond : (b : Bool) (k : Kept) (o : Option Kept) (q : List ℕ) → (b ≡ true → k.name ≡ q) → IfSome o (λ d. d.name ≡ q)
    → IfSome (cond b (Some k) o) (λ d. d.name ≡ q)
found_cond true k o q h g = h refl
found_cond false k o q h g = g

pub found_named : (ks : List Kept) (q : List ℕ) → IfSome (found_in ks q) (λ d. d.name ≡ q)
found_named [] q = tt
found_named (k ∷ ks) q = found_cond (bytes_eq q k.name) k (found_in ks q) q (λ e. sym (same_text q k.name e))
    (found_named ks q)

-- ---- each in its place

map_cond : (f : Kept → Kept) (b : Bool) (k : Kept) (o : Option Kept) → cond b (Some (f k)) (option_map f o) ≡ option_map
    f (cond b (Some k) o)
map_cond f true k o = refl
map_cond f false k o = refl

pub found_map : (f : Kept → Kept) → ((d : Kept) → (f d).name ≡ d.name) → (ks : List Kept) (q : List ℕ)
    → found_in (map f ks) q ≡ option_map f (found_in ks q)
found_map f h [] q = refl
found_map f h (k ∷ ks) q =
    ap (λ n. cond (bytes_eq q n) (Some (f k)) (found_in (map f ks) q)) (h k)
    ∙ (ap (cond (bytes_eq q k.name) (Some (f k))) (found_map f h ks q) ∙ map_cond f (bytes_eq q k.name) k
    (found_in ks q))

pub apart_map : (f : Kept → Kept) → ((d : Kept) → (f d).name ≡ d.name) → (ks : List Kept) → AreApart ks
    → AreApart (map f ks)
apart_map f h [] apart = tt
apart_map f h (k ∷ ks) apart = (
  ap (found_in (map f ks)) (h k) ∙ (found_map f h ks k.name ∙ ap (option_map f) apart.0),
  apart_map f h ks apart.1,
)

pub all_map : (P : Kept → Type 0) (f : Kept → Kept) → ((d : Kept) → P d → P (f d)) → (ks : List Kept)
    → AllByRecursion P ks → AllByRecursion P (map f ks)
all_map P f h [] all = tt
all_map P f h (k ∷ ks) all = (h k all.0, all_map P f h ks all.1)

-- ---- one more

pub found_push : (k : Kept) (ks : List Kept) (q : List ℕ) → lacks ks k.name → found_in (ks ++ k ∷ []) q ≡ cond
    (bytes_eq q k.name) (Some k) (found_in ks q)
found_push k [] q none = refl
found_push k (d ∷ ds) q none =
    ⊎_elim
    (λ (e : bytes_eq k.name d.name ≡ true). absurd (some_is_not_none d (sym (cond-true _ _ _ e) ∙ none)))
    (λ (e : bytes_eq k.name d.name ≡ false).
    let rest : lacks ds k.name = sym (cond-false _ _ _ e) ∙ none in
    ⊎_elim
    (λ (s : bytes_eq q d.name ≡ true).
    let other : bytes_eq q k.name ≡ false = subst (λ n. bytes_eq n k.name ≡ false) (sym (same_text q d.name s))
    (turned k.name d.name false e) in
    cond-true _ _ _ s ∙ (sym (cond-true (bytes_eq q d.name) (Some d) (found_in ds q) s)
    ∙ sym (cond-false (bytes_eq q k.name) (Some k) _ other)))
    (λ (s : bytes_eq q d.name ≡ false).
    cond-false _ _ _ s ∙ (found_push k ds q rest ∙ ap (cond (bytes_eq q k.name) (Some k))
    (sym (cond-false (bytes_eq q d.name) (Some d) (found_in ds q) s))))
    (cases_Bool (bytes_eq q d.name)))
    (cases_Bool (bytes_eq k.name d.name))

pub apart_push : (k : Kept) (ks : List Kept) → AreApart ks → lacks ks k.name → AreApart (ks ++ k ∷ [])
apart_push k [] apart none = (refl, tt)
apart_push k (d ∷ ds) apart none =
    ⊎_elim
    (λ (e : bytes_eq k.name d.name ≡ true). absurd (some_is_not_none d (sym (cond-true _ _ _ e) ∙ none)))
    (λ (e : bytes_eq k.name d.name ≡ false).
    let rest : lacks ds k.name = sym (cond-false _ _ _ e) ∙ none in (
      found_push k ds d.name rest ∙ (cond-false _ _ _ (turned k.name d.name false e) ∙ apart.0),
      apart_push k ds apart.1
          rest,
    ))
    (cases_Bool (bytes_eq k.name d.name))

pub all_push : (P : Kept → Type 0) (k : Kept) (ks : List Kept) → P k → AllByRecursion P ks
    → AllByRecursion P (ks ++ k ∷ [])
all_push P k [] g all = (g, tt)
all_push P k (d ∷ ds) g all = (all.0, all_push P k ds g all.1)

-- ---- some of them

abbrev pub pass : (Kept → Bool) → Option Kept → Option Kept
pass p None = None
pass p (Some k) = cond (p k) (Some k) None

pub found_filter : (p : Kept → Bool) (ks : List Kept) (q : List ℕ) → AreApart ks → found_in (filter p ks) q ≡ pass p
    (found_in ks q)
found_filter p [] q apart = refl
found_filter p (k ∷ ks) q apart =
    let rest = found_filter p ks q apart.1 in
    ⊎_elim
    (λ (s : bytes_eq q k.name ≡ true).
    let none : found_in ks q ≡ None = ap (found_in ks) (same_text q k.name s) ∙ apart.0 in
    ⊎_elim
    (λ (e : p k ≡ true). ap (λ b. found_in (cond b (k ∷ filter p ks) (filter p ks)) q) e
    ∙ (cond-true _ _ _ s ∙ (sym (cond-true (p k) (Some k) None e)
    ∙ ap (pass p) (sym (cond-true (bytes_eq q k.name) (Some k) (found_in ks q) s)))))
    (λ (e : p k ≡ false). ap (λ b. found_in (cond b (k ∷ filter p ks) (filter p ks)) q) e
    ∙ (rest ∙ (ap (pass p) none ∙ (sym (cond-false (p k) (Some k) None e)
    ∙ ap (pass p) (sym (cond-true (bytes_eq q k.name) (Some k) (found_in ks q) s))))))
    (cases_Bool (p k)))
    (λ (s : bytes_eq q k.name ≡ false).
    let skip : pass p (found_in ks q) ≡ pass p (found_in (k ∷ ks) q) = ap (pass p)
    (sym (cond-false (bytes_eq q k.name) (Some k) (found_in ks q) s)) in
    ⊎_elim
    (λ (e : p k ≡ true). ap (λ b. found_in (cond b (k ∷ filter p ks) (filter p ks)) q) e
    ∙ (cond-false _ _ _ s ∙ (rest ∙ skip)))
    (λ (e : p k ≡ false). ap (λ b. found_in (cond b (k ∷ filter p ks) (filter p ks)) q) e ∙ (rest ∙ skip))
    (cases_Bool (p k)))
    (cases_Bool (bytes_eq q k.name))

pub apart_filter : (p : Kept → Bool) (ks : List Kept) → AreApart ks → AreApart (filter p ks)
apart_filter p [] apart = tt
apart_filter p (k ∷ ks) apart =
    ⊎_elim
    (λ (e : p k ≡ true). subst (λ b. AreApart (cond b (k ∷ filter p ks) (filter p ks))) (sym e)
    (found_filter p ks k.name apart.1 ∙ ap (pass p) apart.0, apart_filter p ks apart.1))
    (λ (e : p k ≡ false). subst (λ b. AreApart (cond b (k ∷ filter p ks) (filter p ks))) (sym e)
    (apart_filter p ks apart.1))
    (cases_Bool (p k))

pub all_filter : (P : Kept → Type 0) (p : Kept → Bool) (ks : List Kept) → AllByRecursion P ks
    → AllByRecursion P (filter p ks)
all_filter P p [] all = tt
all_filter P p (k ∷ ks) all =
    ⊎_elim
    (λ (e : p k ≡ true). subst (λ b. AllByRecursion P (cond b (k ∷ filter p ks) (filter p ks))) (sym e)
    (all.0, all_filter P p ks all.1))
    (λ (e : p k ≡ false). subst (λ b. AllByRecursion P (cond b (k ∷ filter p ks) (filter p ks))) (sym e)
    (all_filter P p ks all.1))
    (cases_Bool (p k))

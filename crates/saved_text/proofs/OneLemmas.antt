-- Words say one list of rows at most.
use Rattle.std.specs.Prelude.{Bool, true, false, IsTrue, ◌||◌, Option, Some, None, codes, flat_map}
use Rattle.std.specs.Str.{bytes_eq}
use Rattle.std.proofs.Common.{◌≡◌, ℕ, ◌++◌, List, [], ◌∷◌, refl, sym, ap, ◌∙◌, arith, subst, length}
use Rattle.std.proofs.lemmas.List.{append-nil}
use Rattle.std.proofs.lemmas.Grind.{flat_map-append}
use Rattle.std.proofs.lemmas.Bool.{false≢true}
use Rattle.std.specs.List.{AllByRecursion}
use Rattle.std.specs.List.Sorted.{IsPermutation}
use Rattle.std.proofs.lemmas.List.Elements.{All-from_recursion, recursion_from_All}
use Rattle.std.proofs.lemmas.List.Sorted.{All-permutation, IsPermutation-sym, IsPermutation-trans, length_permutation}
use Rattle.saved_text.specs.Grammar.{Word}
use Rattle.saved_text.specs.Grammar.Word.{the_name, letter, the_end}
use Rattle.saved_text.specs.Row.{Shown, Domain, host_only, suffix, not_present, empty}
use Rattle.saved_text.specs.RowWords.{SaysRows, field_words, bool_words, expires_words}
use Rattle.saved_text.specs.Words.{string_words, domain_words}
use Rattle.saved_text.specs.Drafts.{raw_words, path_words, words_of_domain, words_of_date}
use Rattle.saved_text.proofs.StepLemmas.{head_same}

-- ---- words

same_name : (n m : List ℕ) (v w : List Word) → the_name n ∷ v ≡ the_name m ∷ w → n ≡ m
same_name n m v w e = cc

same_tail : (a b : Word) (v w : List Word) → a ∷ v ≡ b ∷ w → v ≡ w
same_tail a b v w e = cc

same_word : (a b : Word) (v w : List Word) → a ∷ v ≡ b ∷ w → a ≡ b
same_word a b v w e = cc

same_letter : (a b : ℕ) (v w : List Word) → letter a ∷ v ≡ letter b ∷ w → a ≡ b
same_letter a b v w e = cc

end_letter : (b : ℕ) (v w : List Word) → the_end ∷ v ≡ letter b ∷ w → ⊥
end_letter b v w e = absurd (cc)

no_word : (a : Word) (v : List Word) → a ∷ v ≡ [] → ⊥
no_word a v e = absurd (cc)

-- names that begin with other bytes
other_name : (a b : ℕ) (n m : List ℕ) (v w : List Word) → (a ≡ b → ⊥) → the_name (a ∷ n) ∷ v ≡ the_name (b ∷ m) ∷ w → ⊥
other_name a b n m v w d e = d (head_same a b n m (same_name (a ∷ n) (b ∷ m) v w e))

string_one : (x y : List ℕ) (s t : List Word) → string_words x ++ s ≡ string_words y ++ t → (x ≡ y) × (s ≡ t)
string_one [] [] s t e = (refl, same_tail the_end the_end s t e)
string_one [] (b ∷ y) s t e = absurd (end_letter b s (string_words y ++ t) e)
string_one (a ∷ x) [] s t e = absurd (end_letter a t (string_words x ++ s) (sym e))
string_one (a ∷ x) (b ∷ y) s t e =
    let r = string_one x y s t (same_tail (letter a) (letter b) (string_words x ++ s) (string_words y ++ t) e) in
    (λ i. same_letter a b (string_words x ++ s) (string_words y ++ t) e i ∷ r.0 i, r.1)

string_alone : (x y : List ℕ) → string_words x ≡ string_words y → x ≡ y
string_alone x y e = (string_one x y [] [] (append-nil (string_words x) ∙ e ∙ sym (append-nil (string_words y)))).0

bool_one : (a b : Bool) → bool_words a ≡ bool_words b → a ≡ b
bool_one true true e = refl
bool_one true false e = absurd (other_name 116 102 _ _ [] [] (λ d. omega (arith, d)) e)
bool_one false true e = absurd (other_name 102 116 _ _ [] [] (λ d. omega (arith, d)) e)
bool_one false false e = refl

tagged_one : (n x y : List ℕ) → the_name n ∷ string_words x ≡ the_name n ∷ string_words y → x ≡ y
tagged_one n x y e = string_alone x y (same_tail (the_name n) (the_name n) (string_words x) (string_words y) e)

domain_one : (c d : Domain) → domain_words c ≡ domain_words d → c ≡ d
domain_one (host_only x) (host_only y) e = ap host_only (tagged_one (codes "HostOnly") x y e)
domain_one (host_only x) (suffix y) e = absurd (other_name 72 83 _ _ _ _ (λ d. omega (arith, d)) e)
domain_one (host_only x) not_present e = absurd (other_name 72 78 _ _ _ _ (λ d. omega (arith, d)) e)
domain_one (host_only x) empty e = absurd (other_name 72 69 _ _ _ _ (λ d. omega (arith, d)) e)
domain_one (suffix x) (host_only y) e = absurd (other_name 83 72 _ _ _ _ (λ d. omega (arith, d)) e)
domain_one (suffix x) (suffix y) e = ap suffix (tagged_one (codes "Suffix") x y e)
domain_one (suffix x) not_present e = absurd (other_name 83 78 _ _ _ _ (λ d. omega (arith, d)) e)
domain_one (suffix x) empty e = absurd (other_name 83 69 _ _ _ _ (λ d. omega (arith, d)) e)
domain_one not_present (host_only y) e = absurd (other_name 78 72 _ _ _ _ (λ d. omega (arith, d)) e)
domain_one not_present (suffix y) e = absurd (other_name 78 83 _ _ _ _ (λ d. omega (arith, d)) e)
domain_one not_present not_present e = refl
domain_one not_present empty e = absurd (other_name 78 69 _ _ _ _ (λ d. omega (arith, d)) e)
domain_one empty (host_only y) e = absurd (other_name 69 72 _ _ _ _ (λ d. omega (arith, d)) e)
domain_one empty (suffix y) e = absurd (other_name 69 83 _ _ _ _ (λ d. omega (arith, d)) e)
domain_one empty not_present e = absurd (other_name 69 78 _ _ _ _ (λ d. omega (arith, d)) e)
domain_one empty empty e = refl

date_one : (x y : Option (List ℕ)) → expires_words x ≡ expires_words y → x ≡ y
date_one (Some x) (Some y) e = ap Some (tagged_one (codes "AtUtc") x y e)
date_one (Some x) None e = absurd (other_name 65 83 _ _ _ _ (λ d. omega (arith, d)) e)
date_one None (Some y) e = absurd (other_name 83 65 _ _ _ _ (λ d. omega (arith, d)) e)
date_one None None e = refl

path_one : (x y : List ℕ) (a b : Bool) → path_words x a ≡ path_words y b → (x ≡ y) × (a ≡ b)
path_one x y a b e =
    let r = string_one x y (bool_words a) (bool_words b)
    (same_tail (the_name (codes "path")) (the_name (codes "path")) (string_words x ++ bool_words a)
    (string_words y ++ bool_words b) e) in
    (r.0, bool_one a b r.1)

-- ---- fields, of which one ends where the next begins

abbrev starts_field : Word → Bool
starts_field (the_name n) = bytes_eq n (codes "raw_cookie") || bytes_eq n (codes "path") || bytes_eq n
    (codes "domain") || bytes_eq n (codes "expires")
starts_field (letter b) = false
starts_field the_end = false

abbrev AreWithin : List Word → Type 0
AreWithin said = AllByRecursion (λ w. starts_field w ≡ false) said

abbrev Begin : List Word → Type 0
Begin [] = Unit {0}
Begin (w ∷ said) = IsTrue (starts_field w)

abbrev IsField : List Word → Type 0
IsField [] = ⊥
IsField (w ∷ said) = IsTrue (starts_field w) × AreWithin said

within_one : (x y s t : List Word) → AreWithin x → AreWithin y → Begin s → Begin t → x ++ s ≡ y ++ t → (x ≡ y) × (s ≡ t)
within_one [] [] s t a b c d e = (refl, e)
within_one [] (w ∷ y) [] t a b c d e = absurd (no_word w (y ++ t) (sym e))
within_one [] (w ∷ y) (v ∷ s) t a b c d e = absurd
    (false≢true (sym b.0 ∙ ap starts_field (sym (same_word v w s (y ++ t) e)) ∙ c))
within_one (w ∷ x) [] s [] a b c d e = absurd (no_word w (x ++ s) e)
within_one (w ∷ x) [] s (v ∷ t) a b c d e = absurd
    (false≢true (sym a.0 ∙ ap starts_field (same_word w v (x ++ s) t e) ∙ d))
within_one (w ∷ x) (v ∷ y) s t a b c d e =
    let r = within_one x y s t a.1 b.1 c d (same_tail w v (x ++ s) (y ++ t) e) in
    (λ i. same_word w v (x ++ s) (y ++ t) e i ∷ r.0 i, r.1)

field_one : (f g s t : List Word) → IsField f → IsField g → Begin s → Begin t → f ++ s ≡ g ++ t → (f ≡ g) × (s ≡ t)
field_one [] g s t a b c d e = absurd a
field_one (w ∷ f) [] s t a b c d e = absurd b
field_one (w ∷ f) (v ∷ g) s t a b c d e =
    let r = within_one f g s t a.1 b.1 c d (same_tail w v (f ++ s) (g ++ t) e) in
    (λ i. same_word w v (f ++ s) (g ++ t) e i ∷ r.0 i, r.1)

abbrev flat : List (List Word) → List Word
flat fs = flat_map (λ f. f) fs

begin_flat : (fs : List (List Word)) → AllByRecursion IsField fs → Begin (flat fs)
begin_flat [] a = tt
begin_flat ([] ∷ fs) a = absurd a.0
begin_flat ((w ∷ f) ∷ fs) a = a.0.0

fields_one : (fs gs : List (List Word)) → AllByRecursion IsField fs → AllByRecursion IsField gs → flat fs ≡ flat gs
    → fs ≡ gs
fields_one [] [] a b e = refl
fields_one [] ([] ∷ gs) a b e = absurd b.0
fields_one [] ((w ∷ g) ∷ gs) a b e = absurd (no_word w (g ++ flat gs) (sym e))
fields_one ([] ∷ fs) gs a b e = absurd a.0
fields_one ((w ∷ f) ∷ fs) [] a b e = absurd (no_word w (f ++ flat fs) e)
fields_one ((w ∷ f) ∷ fs) (g ∷ gs) a b e =
    let r = field_one (w ∷ f) g (flat fs) (flat gs) a.0 b.0 (begin_flat fs a.1) (begin_flat gs b.1) e in
    let s = fields_one fs gs a.1 b.1 r.1 in
    λ i. r.0 i ∷ s i

-- ---- the fields of a row

within_both : (x y : List Word) → AreWithin x → AreWithin y → AreWithin (x ++ y)
within_both [] y a b = b
within_both (w ∷ x) y a b = (a.0, within_both x y a.1 b)

string_within : (x : List ℕ) → AreWithin (string_words x)
string_within [] = (refl, tt)
string_within (b ∷ x) = (refl, string_within x)

bool_within : (b : Bool) → AreWithin (bool_words b)
bool_within true = (refl, tt)
bool_within false = (refl, tt)

domain_within : (d : Domain) → AreWithin (domain_words d)
domain_within (host_only t) = (refl, string_within t)
domain_within (suffix t) = (refl, string_within t)
domain_within not_present = (refl, tt)
domain_within empty = (refl, tt)

date_within : (d : Option (List ℕ)) → AreWithin (expires_words d)
date_within (Some t) = (refl, string_within t)
date_within None = (refl, tt)

are_fields : (t : Shown) → AllByRecursion IsField (field_words t)
are_fields t = (
  (refl, string_within t.raw),
  (
    (
      refl,
      within_both (string_words t.path) (bool_words t.from_attribute) (string_within t.path)
          (bool_within t.from_attribute),
    ),
    ((refl, domain_within t.domain), ((refl, date_within t.expires), tt)),
  ),
)

-- the field of this name is this one
abbrev IsThe : List ℕ → List Word → List Word → Type 0
IsThe n words f = (w : List Word) → f ≡ the_name n ∷ w → f ≡ words

all_raw : (t : Shown) → AllByRecursion (IsThe (codes "raw_cookie") (raw_words t.raw)) (field_words t)
all_raw t = (
  λ w e. refl,
  (
    λ w e. absurd (other_name 112 114 _ _ _ _ (λ d. omega (arith, d)) e),
    (
      λ w e. absurd (other_name 100 114 _ _ _ _ (λ d. omega (arith, d)) e),
      (λ w e. absurd (other_name 101 114 _ _ _ _ (λ d. omega (arith, d)) e), tt),
    ),
  ),
)

all_path : (t : Shown) → AllByRecursion (IsThe (codes "path") (path_words t.path t.from_attribute)) (field_words t)
all_path t = (
  λ w e. absurd (other_name 114 112 _ _ _ _ (λ d. omega (arith, d)) e),
  (
    λ w e. refl,
    (
      λ w e. absurd (other_name 100 112 _ _ _ _ (λ d. omega (arith, d)) e),
      (λ w e. absurd (other_name 101 112 _ _ _ _ (λ d. omega (arith, d)) e), tt),
    ),
  ),
)

all_domain : (t : Shown) → AllByRecursion (IsThe (codes "domain") (words_of_domain t.domain)) (field_words t)
all_domain t = (
  λ w e. absurd (other_name 114 100 _ _ _ _ (λ d. omega (arith, d)) e),
  (
    λ w e. absurd (other_name 112 100 _ _ _ _ (λ d. omega (arith, d)) e),
    (λ w e. refl, (λ w e. absurd (other_name 101 100 _ _ _ _ (λ d. omega (arith, d)) e), tt)),
  ),
)

all_date : (t : Shown) → AllByRecursion (IsThe (codes "expires") (words_of_date t.expires)) (field_words t)
all_date t = (
  λ w e. absurd (other_name 114 101 _ _ _ _ (λ d. omega (arith, d)) e),
  (
    λ w e. absurd (other_name 112 101 _ _ _ _ (λ d. omega (arith, d)) e),
    (λ w e. absurd (other_name 100 101 _ _ _ _ (λ d. omega (arith, d)) e), (λ w e. refl, tt)),
  ),
)

turned : (P : List Word → Type 0) (t u : Shown) → IsPermutation (field_words t) (field_words u)
    → AllByRecursion P (field_words t) → AllByRecursion P (field_words u)
turned P t u p a = recursion_from_All P (field_words u)
    (All-permutation P (field_words t) (field_words u) p (All-from_recursion P (field_words t) a))

row_one : (t u : Shown) → IsPermutation (field_words t) (field_words u) → t ≡ u
row_one t u p =
    let raw = (turned (IsThe (codes "raw_cookie") (raw_words t.raw)) t u p (all_raw t)).0 (string_words u.raw) refl in
    let path = (turned (IsThe (codes "path") (path_words t.path t.from_attribute)) t u p (all_path t)).1.0
    (string_words u.path ++ bool_words u.from_attribute) refl in
    let domain = (turned (IsThe (codes "domain") (words_of_domain t.domain)) t u p (all_domain t)).1.1.0
    (domain_words u.domain) refl in
    let date = (turned (IsThe (codes "expires") (words_of_date t.expires)) t u p (all_date t)).1.1.1.0
    (expires_words u.expires) refl in
    let a = tagged_one (codes "raw_cookie") t.raw u.raw (sym raw) in
    let b = path_one t.path u.path t.from_attribute u.from_attribute (sym path) in
    let c = domain_one t.domain u.domain
    (same_tail (the_name (codes "domain")) (the_name (codes "domain")) (domain_words t.domain)
    (domain_words u.domain) (sym domain)) in
    let d = date_one t.expires u.expires
    (same_tail (the_name (codes "expires")) (the_name (codes "expires")) (expires_words t.expires)
    (expires_words u.expires) (sym date)) in
    λ i. record { raw = a i; path = b.0 i; from_attribute = b.1 i; domain = c i; expires = d i }

-- ---- rows, of four fields each

abbrev Grouped : List Shown → List (List Word) → Type 0
Grouped [] fs = fs ≡ []
Grouped (t ∷ ts) fs = (a b : List (List Word)) × IsPermutation (field_words t) a × Grouped ts b × (fs ≡ a ++ b)

abbrev AreGrouped : List Shown → List Word → Type 0
AreGrouped ts said = (fs : List (List Word)) × (said ≡ flat fs) × AllByRecursion IsField fs × Grouped ts fs

fields_both : (a b : List (List Word)) → AllByRecursion IsField a → AllByRecursion IsField b
    → AllByRecursion IsField (a ++ b)
fields_both [] b x y = y
fields_both (f ∷ a) b x y = (x.0, fields_both a b x.1 y)

grouped : (ts : List Shown) (said : List Word) → SaysRows ts said → AreGrouped ts said
grouped [] said e = ([], e, tt, refl)
grouped (t ∷ ts) said s =
    let g = grouped ts s.1 s.3 in
    let a : AllByRecursion IsField s.2.0 = recursion_from_All IsField s.2.0
    (All-permutation IsField (field_words t) s.2.0 s.2.1
    (All-from_recursion IsField (field_words t) (are_fields t))) in (
      s.2.0 ++ g.0,
      s.4 ∙ (λ i. s.2.2 i ++ g.1 i) ∙ sym (flat_map-append (λ f. f) s.2.0 g.0),
      fields_both s.2.0 g.0 a g.2,
      (s.2.0, g.0, s.2.1, g.3, refl),
    )

four_each : (a b c d : List (List Word)) → length a ≡ length c → a ++ b ≡ c ++ d → (a ≡ c) × (b ≡ d)
four_each [] b [] d l e = (refl, e)
four_each [] b (g ∷ c) d l e = absurd (omega (arith, l))
four_each (f ∷ a) b [] d l e = absurd (omega (arith, l))
four_each (f ∷ a) b (g ∷ c) d l e =
    let h : f ≡ g = first_same f g (a ++ b) (c ++ d) e in
    let r = four_each a b c d (omega (arith, l)) (rest_same f g (a ++ b) (c ++ d) e) in
    (λ i. h i ∷ r.0 i, r.1)
  where
    first_same : (x y : List Word) (v w : List (List Word)) → x ∷ v ≡ y ∷ w → x ≡ y
    first_same x y v w q = cc

    rest_same : (x y : List Word) (v w : List (List Word)) → x ∷ v ≡ y ∷ w → v ≡ w
    rest_same x y v w q = cc

no_group : (t : Shown) (a b : List (List Word)) → IsPermutation (field_words t) a → a ++ b ≡ [] → ⊥
no_group t [] b p e = absurd (let l : 0 ≡ 4 = length_permutation (field_words t) [] p in omega (arith, l))
no_group t (f ∷ a) b p e = absurd (no_cells f (a ++ b) e)
  where
    no_cells : (x : List Word) (v : List (List Word)) → x ∷ v ≡ [] → ⊥
    no_cells x v q = absurd (cc)

groups_one : (ts us : List Shown) (fs : List (List Word)) → Grouped ts fs → Grouped us fs → ts ≡ us
groups_one [] [] fs g h = refl
groups_one [] (u ∷ us) fs g h = absurd (no_group u h.0 h.1 h.2 (sym h.4 ∙ g))
groups_one (t ∷ ts) [] fs g h = absurd (no_group t g.0 g.1 g.2 (sym g.4 ∙ h))
groups_one (t ∷ ts) (u ∷ us) fs g h =
    let l : length g.0 ≡ length h.0 = length_permutation (field_words t) g.0 g.2
    ∙ sym (length_permutation (field_words u) h.0 h.2) in
    let e = four_each g.0 g.1 h.0 h.1 l (sym g.4 ∙ h.4) in
    let p : IsPermutation (field_words t) h.0 = subst (IsPermutation (field_words t)) e.0 g.2 in
    let same = row_one t u (IsPermutation-trans (field_words t) h.0 (field_words u) p
    (IsPermutation-sym (field_words u) h.0 h.2)) in
    let more = groups_one ts us h.1 (subst (Grouped ts) e.1 g.3) h.3 in
    λ i. same i ∷ more i

pub rows_one : (ts us : List Shown) (said : List Word) → SaysRows ts said → SaysRows us said → ts ≡ us
rows_one ts us said s r =
    let g = grouped ts said s in
    let h = grouped us said r in
    let e = fields_one g.0 h.0 g.2 h.2 (sym g.1 ∙ h.1) in
    groups_one ts us h.0 (subst (Grouped ts) e g.3) h.3

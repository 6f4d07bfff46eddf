-- The fields of a line.
use Rattle.std.proofs.Common.{◌≡◌, ◌≢◌, ◌<◌, ℕ, Bool, true, false, cond, List, [], ◌∷◌, ◌++◌, All, length, get_or}
use Rattle.std.proofs.Common.{Option, Some, None, MatchOption, option_map, refl, sym, ap, subst, ◌∙◌, arith}
use Rattle.std.specs.Borrow.{Bor}
use Rattle.std.specs.Prelude.{◌==◌, is_some}
use Rattle.std.specs.List.{slice_split, onto_first}
use Rattle.std.proofs.lemmas.Bool.Decides.{nat_tests}
use Rattle.std.proofs.lemmas.List.{get_or_default}
use Rattle.std.proofs.lemmas.List.Splits.{slice_split_at, slice_split_none}
use Rattle.cookies_txt.specs.Layout.{tab}
use Rattle.cookies_txt.specs.Reading.{field_texts, parts}
use Rattle.cookies_txt.specs.Steps.{last_two}

abbrev pub is_tab : ℕ → Bool
is_tab b = b == tab

pub no_tab : (b : ℕ) → b ≢ 9 → is_tab b ≡ false
no_tab b other = grind (arith, nat_tests)

-- ---- what tabs part

lacks_tab : (xs : List ℕ) → ((i : ℕ) → i < length xs → get_or xs i 0 ≢ 9) → All (λ b. is_tab b ≡ false) xs
lacks_tab xs lacks = λ k d inside.
    no_tab _ (subst (λ b. b ≢ 9) (get_or_default xs k 0 d inside) (lacks k inside))

-- a text that is cut at its first tab
pub cut_parts : (text : List ℕ) (r : Option (Bor (List ℕ) × Bor (List ℕ)))
    → MatchOption r ((i : ℕ) → i < length text → get_or text i 0 ≢ 9)
    (λ x. (text ≡ x.0.now ++ (9 ∷ x.1.now)) × ((i : ℕ) → i < length x.0.now → get_or x.0.now i 0 ≢ 9))
    → MatchOption r (parts text ≡ text ∷ []) (λ cut. parts text ≡ cut.0.now ∷ parts cut.1.now)
unfolding parts
cut_parts text None lacks = slice_split_none is_tab text (lacks_tab text lacks)
cut_parts text (Some (x, y)) (e, lacks) =
    ap (slice_split is_tab) e ∙ slice_split_at is_tab x.now 9 y.now (lacks_tab x.now lacks) refl

-- there is a first part
abbrev pub HasFirst : List (List ℕ) → Type 0
HasFirst ps = (part : List ℕ) × (more : List (List ℕ)) × (ps ≡ part ∷ more)

pub first_part : (p : ℕ → Bool) (text : List ℕ) → HasFirst (slice_split p text)
first_part p [] = ([], [], refl)
first_part p (x ∷ xs) = by (p x) (slice_split p xs)
  where
    by : (b : Bool) (ps : List (List ℕ)) → HasFirst (cond b ([] ∷ ps) (onto_first x ps))
    by true ps = ([], ps, refl)
    by false [] = (x ∷ [], [], refl)
    by false (part ∷ ps) = (x ∷ part, ps, refl)

pub first_of_parts : (text : List ℕ) → HasFirst (parts text)
unfolding parts
first_of_parts text = first_part is_tab text

-- where a third part follows, the last two aren't the last
pub third_part : (text name value : List ℕ) (r : Option (Bor (List ℕ) × Bor (List ℕ)))
    → parts text ≡ name ∷ parts value
    → MatchOption r (parts value ≡ value ∷ []) (λ cut. parts value ≡ cut.0.now ∷ parts cut.1.now)
    → is_some r ≡ true → None ≡ last_two (parts text)
third_part text name value None e h some = cc
third_part text name value (Some (x, y)) e h some =
    subst (λ ps. None ≡ last_two ps) (sym (e ∙ ap (λ ps. name ∷ ps) h)) (by (parts y.now) (first_of_parts y.now))
  where
    by : (ps : List (List ℕ)) → HasFirst ps → None ≡ last_two (name ∷ x.now ∷ ps)
    by ps (part, more, e) = subst (λ ps. None ≡ last_two (name ∷ x.now ∷ ps)) (sym e) refl

-- five fields, and the last two
pub with_last_two : (domain below path secure expires : List ℕ) (ps : List (List ℕ))
    → field_texts (domain ∷ below ∷ path ∷ secure ∷ expires ∷ ps)
    ≡ option_map (λ two. record {
      domain = domain;
      below = below;
      path = path;
      secure = secure;
      expires = expires;
      name = two.0;
      value = two.1;
    }) (last_two ps)
with_last_two domain below path secure expires [] = refl
with_last_two domain below path secure expires (name ∷ []) = refl
with_last_two domain below path secure expires (name ∷ value ∷ []) = refl
with_last_two domain below path secure expires (name ∷ value ∷ third ∷ more) = refl

-- ---- what fields say

-- the fields of a line that was cut five times
pub joined_fields : (line domain below path secure expires r1 r2 r3 r4 r5 : List ℕ)
    (two : Option (List ℕ × List ℕ)) → parts line ≡ domain ∷ parts r1 → parts r1 ≡ below ∷ parts r2
    → parts r2 ≡ path ∷ parts r3 → parts r3 ≡ secure ∷ parts r4 → parts r4 ≡ expires ∷ parts r5
    → last_two (parts r5) ≡ two → field_texts (parts line) ≡ option_map (λ two. record {
      domain = domain;
      below = below;
      path = path;
      secure = secure;
      expires = expires;
      name = two.0;
      value = two.1;
    }) two
joined_fields line domain below path secure expires r1 r2 r3 r4 r5 two e1 e2 e3 e4 e5 e6 =
    let all : parts line ≡ domain ∷ below ∷ path ∷ secure ∷ expires ∷ parts r5 = cc in
    ap field_texts all ∙ (with_last_two domain below path secure expires (parts r5) ∙ ap (option_map _) e6)

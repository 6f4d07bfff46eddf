-- The set of the decoded names of Secure rows, and the rows that win beside it.
use Rattle.std.proofs.Common.{◌≡◌, ◌<◌, ◌+◌, ◌||◌, ◌&&◌, ◌∙◌, ℕ, List, [], ◌∷◌, Bool, true, false, map}
use Rattle.std.proofs.Common.{refl, sym, ap, take, length, get_or}
use Rattle.std.specs.BTreeMap.{is_at}
use Rattle.std.specs.Borrow.{Bor}
use Rattle.std.specs.BTreeSet.{BTreeSet, insert_key}
use Rattle.std.specs.Cmp.Lexicographic.{slice_cmp}
use Rattle.std.specs.Global.{Vec}
use Rattle.std.specs.List.{list_any}
use Rattle.std.specs.Ordering.{is_eq, match_ordering, nat_cmp}
use Rattle.std.specs.Str.{bytes_eq}
use Rattle.std.specs.declared.cmp.Ordering.{Ordering}
use Rattle.std.specs.declared.cmp.Ordering.TheVariants.{Less, Equal, Greater}
use Rattle.std.proofs.lemmas.List.{take_more, map-append}
use Rattle.std.proofs.lemmas.List.Folds.{list_any-append}
use Rattle.std.proofs.lemmas.Map.Lookups.{exact_bytes}
use Rattle.std.proofs.lemmas.Map.Text.{is_eq-slice_cmp}
use Rattle.cookie_text.specs.Printing.{is_set}
use Rattle.cookie_store.specs.Given.{lent_row}
use Rattle.cookie_store.specs.declared.stored_cookie.Cookie.{Cookie}
use Rattle.user_agent.specs.SecureWins.{decoded_name, is_in, is_secure_of}

or-false : (b : Bool) → (b || false) ≡ b
or-false true = refl
or-false false = refl

or-last : (a b : Bool) → (a || b) ≡ (b || a)
or-last true true = refl
or-last true false = refl
or-last false true = refl
or-last false false = refl

or-again : (a b : Bool) → (a || b) ≡ ((a || b) || a)
or-again true b = refl
or-again false true = refl
or-again false false = refl

or-apart : (a b c : Bool) → (a || (b || c)) ≡ ((a || b) || c)
or-apart true b c = refl
or-apart false b c = refl

-- ---- a set of texts

module _ {V : Type 0} (text : V → List ℕ) where
  abbrev by_text : V → V → Ordering
  by_text x y = slice_cmp nat_cmp (text x) (text y)

  abbrev has : List ℕ → List V → Bool
  has name ks = list_any (is_at (λ k. slice_cmp nat_cmp name (text k))) ks

  -- one text more
  pub has-insert : (name : List ℕ) (ks : List V) (k : V)
      → has name (insert_key by_text ks k) ≡ (has name ks || bytes_eq name (text k))
  has-insert name [] k = or-false (is_eq (slice_cmp nat_cmp name (text k))) ∙ is_eq-slice_cmp name (text k)
  has-insert name (x ∷ xs) k = by (by_text k x) refl (has-insert name xs k)
    where
      here : is_eq (slice_cmp nat_cmp name (text k)) ≡ bytes_eq name (text k)
      here = is_eq-slice_cmp name (text k)

      same : by_text k x ≡ Equal → is_eq (slice_cmp nat_cmp name (text x)) ≡ bytes_eq name (text k)
      same e = ap (λ t. is_eq (slice_cmp nat_cmp name t)) (sym (exact_bytes (text k) (text x) e)) ∙ here

      by : (o : Ordering) → by_text k x ≡ o
          → has name (insert_key by_text xs k) ≡ (has name xs || bytes_eq name (text k))
          → has name (match_ordering o (k ∷ x ∷ xs) (x ∷ xs) (x ∷ insert_key by_text xs k))
          ≡ (has name (x ∷ xs) || bytes_eq name (text k))
      by Less e later = ap (λ b. b || has name (x ∷ xs)) here ∙ or-last (bytes_eq name (text k)) (has name (x ∷ xs))
      by Equal e later =
          let first : Bool = is_eq (slice_cmp nat_cmp name (text x)) in
          or-again first (has name xs) ∙ ap (λ b. (first || has name xs) || b) (same e)
      by Greater e later =
          let first : Bool = is_eq (slice_cmp nat_cmp name (text x)) in
          ap (λ b. first || b) later ∙ or-apart first (has name xs) (bytes_eq name (text k))

-- ---- one row more

-- a test of the first elements and the next
any_more : {A B : Type 0} (test : B → Bool) (f : A → B) (xs : List A) (i : ℕ) (d : A) → i < length xs
    → list_any test (map f (take (i + 1) xs)) ≡ (list_any test (map f (take i xs)) || test (f (get_or xs i d)))
any_more test f xs i d h =
    ap (λ ys. list_any test (map f ys)) (take_more xs i d h)
    ∙ (ap (list_any test) (map-append f (take i xs) (get_or xs i d ∷ []))
    ∙ (list_any-append test (map f (take i xs)) (f (get_or xs i d) ∷ [])
    ∙ ap (λ b. list_any test (map f (take i xs)) || b) (or-false (test (f (get_or xs i d))))))

-- the names of the first cookies, and the next one
module _ (cookies : List (Bor Cookie)) (i : ℕ) (cookie : Bor Cookie) (within : i < length cookies)
    (is : cookie ≡ get_or cookies i cookie) (name : List ℕ) where
  abbrev found : ℕ → Bool
  found n = list_any (is_secure_of name) (map lent_row (take n cookies))

  step : found (i + 1) ≡ (found i || is_secure_of name (lent_row cookie))
  step =
      any_more (is_secure_of name) lent_row cookies i cookie within
      ∙ ap (λ c. found i || is_secure_of name (lent_row c)) (sym is)

  pub secure_more : (names new : BTreeSet (Vec ℕ)) (key : Vec ℕ)
      → new.keys ≡ insert_key (by_text (λ (k : Vec ℕ). k.items)) names.keys key
      → key.items ≡ decoded_name (lent_row cookie) → is_set (lent_row cookie).raw.cookie.secure ≡ true
      → is_in names name ≡ found i → is_in new name ≡ found (i + 1)
  secure_more names new key keys items set h =
      ap (has (λ (k : Vec ℕ). k.items) name) keys
      ∙ (has-insert (λ (k : Vec ℕ). k.items) name names.keys key
      ∙ ((λ j. h j || bytes_eq name (items j))
      ∙ (ap (λ b. found i || (b && bytes_eq name (decoded_name (lent_row cookie)))) (sym set) ∙ sym step)))

  pub plain_more : (names : BTreeSet (Vec ℕ)) → is_set (lent_row cookie).raw.cookie.secure ≡ false
      → is_in names name ≡ found i → is_in names name ≡ found (i + 1)
  plain_more names set h =
      h ∙ (sym (or-false (found i))
      ∙ (ap (λ b. found i || (b && bytes_eq name (decoded_name (lent_row cookie)))) (sym set) ∙ sym step))

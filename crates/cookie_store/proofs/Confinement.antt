-- Which rows an insertion can touch.
use Rattle.std.proofs.Common.{◌≡◌, inl, inr, ℕ, ℤ, Bool, true, false, cond, not, ◌&&◌, List, [], ◌∷◌, filter, map, refl}
use Rattle.std.proofs.Common.{sym, ap, subst, ◌∙◌}
use Rattle.std.specs.Prelude.{◌⊎◌, Option, Some, None, Ok, IsSomeAnd}
use Rattle.std.specs.List.{list_any, AllByRecursion}
use Rattle.std.specs.Str.{bytes_eq}
use Rattle.std.proofs.lemmas.Bool.{cond-true, cond-false, and_parts, both_ways}
use Rattle.publicsuffix.specs.Prevailing.{Listed}
use Rattle.publicsuffix.specs.Rules.{Rule}
use Rattle.store_parts.specs.DomainMatch.{Domain, host_only, suffix, not_present, empty, text_or_empty, Covers}
use Rattle.store_parts.specs.DomainMatch.{CoversAt, IsListedIn}
use Rattle.store_parts.specs.Expiry.{is_dead}
use Rattle.store_parts.specs.Schemes.{host_of}
use Rattle.store_parts.specs.declared.error.CookieError.TheVariants.{Expired}
use Rattle.url.specs.Parts.{Parts}
use Rattle.cookie_store.specs.Confined.{MaySet, rows_under, IsAlone, IsConfined, IsOneOf}
use Rattle.cookie_store.specs.Insertion.{End, action_of, settled, Fits, Inserts, alone, refused}
use Rattle.cookie_store.specs.Rows.{Row, Key, key_of, domain_text, has_key_of, has_place_of, has_domain, is_live}
use Rattle.cookie_store.specs.Rows.{is_live_of, expired, ended, behind_last, put_in_place, put}
use Rattle.cookie_store.specs.declared.action.StoreAction.TheVariants.{ExpiredExisting}
use Rattle.cookie_store.proofs.ApartLemmas.{key_is}
use Rattle.cookie_store.proofs.PlaceLaws.{others_stay}
use Rattle.cookie_store.proofs.TextLemmas.{same_text}

-- ---- the rows under other texts

other_text : (x y : List ℕ) → (x ≡ y → ⊥) → bytes_eq x y ≡ false
other_text x y differs = by (bytes_eq x y) refl
  where
    by : (b : Bool) → bytes_eq x y ≡ b → bytes_eq x y ≡ false
    by true is = absurd (differs (same_text x y is))
    by false is = is

-- a change of rows that a test keeps out, or leaves
filter-map : {A : Type 0} (t : A → Bool) (f : A → A) → ((y : A) → t (f y) ≡ t y) → ((y : A) → t y ≡ true → f y ≡ y)
    → (ys : List A) → filter t (map f ys) ≡ filter t ys
filter-map t f keeps leaves [] = refl
filter-map t f keeps leaves (y ∷ ys) = by (t y) refl (filter-map t f keeps leaves ys)
  where
    by : (b : Bool) → t y ≡ b → filter t (map f ys) ≡ filter t ys
        → filter t (f y ∷ map f ys) ≡ filter t (y ∷ ys)
    by true is rest =
        cond-true (t (f y)) _ _ (keeps y ∙ is) ∙ (λ i. leaves y is i ∷ rest i) ∙ sym (cond-true (t y) _ _ is)
    by false is rest = cond-false (t (f y)) _ _ (keeps y ∙ is) ∙ rest ∙ sym (cond-false (t y) _ _ is)

module _ (text : List ℕ) (now : ℤ) (row : Row) (other : bytes_eq (domain_text row) text ≡ false) where
  abbrev is_under : Row → Bool
  is_under r = bytes_eq (domain_text r) text

  of_key : (r : Row) → has_key_of row r ≡ true → is_under r ≡ false
  of_key r is = ap (λ (k : Key). bytes_eq k.domain text) (sym (key_is (key_of row) r is)) ∙ other

  ended_under : (rows : List Row) → rows_under text (ended now row rows) ≡ rows_under text rows
  ended_under rows = filter-map is_under _ (λ r. keeps r (is_live_of now row r))
      (λ r is. leaves r is (is_live_of now row r) refl) rows
    where
      keeps : (r : Row) (b : Bool) → is_under (cond b (expired r) r) ≡ is_under r
      keeps r true = refl
      keeps r false = refl

      leaves : (r : Row) → is_under r ≡ true → (b : Bool) → is_live_of now row r ≡ b → cond b (expired r) r ≡ r
      leaves r is true live = absurd (both_ways (is_under r)
          (of_key r (and_parts (has_key_of row r) (is_live now r) live).0) is)
      leaves r is false live = refl

  settled_under : (rows : List Row) → rows_under text (settled rows now row).1 ≡ rows_under text rows
  settled_under rows = by (is_dead now row.death) (list_any (is_live_of now row) rows)
    where
      by : (d l : Bool)
          → rows_under text (cond d (cond l (Ok ExpiredExisting, ended now row rows) (refused Expired rows))
          (Ok (action_of row rows), put row rows)).1 ≡ rows_under text rows
      by true true = ended_under rows
      by true false = refl
      by false l = others_stay is_under (key_of row) row other of_key rows

-- ---- rows of one host alone

module _ {A : Type 0} (P : A → Type 0) where
  all_map : (f : A → A) → ((y : A) → P y → P (f y)) → (ys : List A) → AllByRecursion P ys → AllByRecursion P (map f ys)
  all_map f keeps [] all = tt
  all_map f keeps (y ∷ ys) all = (keeps y all.0, all_map f keeps ys all.1)

  all_behind : (test : A → Bool) (x : A) → P x → (ys : List A) → AllByRecursion P ys
      → AllByRecursion P (behind_last test x ys)
  all_behind test x own [] all = (own, tt)
  all_behind test x own (y ∷ ys) all = by (test y && not (list_any test ys)) (all_behind test x own ys all.1)
    where
      by : (b : Bool) → AllByRecursion P (behind_last test x ys)
          → AllByRecursion P (cond b (y ∷ x ∷ ys) (y ∷ behind_last test x ys))
      by true rest = (all.0, (own, all.1))
      by false rest = (all.0, rest)

  pick : (b : Bool) (x y : A) → P x → P y → P (cond b x y)
  pick true x y p q = p
  pick false x y p q = q

module _ (P : Row → Type 0) (ends : (r : Row) → P r → P (expired r)) where
  module _ (now : ℤ) (row : Row) (own : P row) (rows : List Row) (all : AllByRecursion P rows) where
    put_all_so : AllByRecursion P (put row rows)
    put_all_so = by (list_any (has_key_of row) rows) (list_any (has_place_of row) rows)
      where
        by : (k p : Bool) → AllByRecursion P (cond k (put_in_place (has_key_of row) row rows)
            (cond p (behind_last (has_place_of row) row rows) (behind_last (has_domain (key_of row)) row rows)))
        by true p = all_map P _ (λ r q. pick P (has_key_of row r) row r own q) rows all
        by false true = all_behind P (has_place_of row) row own rows all
        by false false = all_behind P (has_domain (key_of row)) row own rows all

    settled_all_so : AllByRecursion P (settled rows now row).1
    settled_all_so = by (is_dead now row.death) (list_any (is_live_of now row) rows)
      where
        by : (d l : Bool) → AllByRecursion P (cond d
            (cond l (Ok ExpiredExisting, ended now row rows) (refused Expired rows))
            (Ok (action_of row rows), put row rows)).1
        by true true = all_map P _ (λ r q. pick P (is_live_of now row r) (expired r) r (ends r q) q) rows all
        by true false = all
        by false l = put_all_so

  -- what holds of rows holds of each that is one of them
  one_of_all : (rows : List Row) → AllByRecursion P rows → (r : Row) → IsOneOf rows r → P r
  one_of_all [] all r one = absurd one
  one_of_all (x ∷ xs) all r (inl is) = subst P (sym is) all.0
  one_of_all (x ∷ xs) all r (inr (inl is)) = subst P (sym is) (ends x all.0)
  one_of_all (x ∷ xs) all r (inr (inr one)) = one_of_all xs all.1 r one

all_weaker : {A : Type 0} (P Q : A → Type 0) → ((x : A) → P x → Q x) → (xs : List A) → AllByRecursion P xs
    → AllByRecursion Q xs
all_weaker P Q weaker [] all = tt
all_weaker P Q weaker (x ∷ xs) all = (weaker x all.0, all_weaker P Q weaker xs all.1)

-- each of some rows is one of them
each_one : (rows : List Row) → AllByRecursion (IsOneOf rows) rows
each_one [] = tt
each_one (r ∷ rows) = (
  inl refl,
  all_weaker (IsOneOf rows) (IsOneOf (r ∷ rows)) (λ x one. inr (inr one)) rows (each_one rows),
)

-- an ended row that is one of them is so still
ended_one : (rows : List Row) (r : Row) → IsOneOf rows r → IsOneOf rows (expired r)
ended_one [] r one = one
ended_one (x ∷ xs) r (inl is) = inr (inl (ap expired is))
ended_one (x ∷ xs) r (inr (inl is)) = inr (inl (ap expired is))
ended_one (x ∷ xs) r (inr (inr one)) = inr (inr (ended_one xs r one))

-- an old row, or one of its host alone
abbrev IsOldOrAlone : List Rule → List Row → Row → Type 0
IsOldOrAlone list old r = IsOneOf old r ⊎ IsAlone list r

ended_or_alone : (list : List Rule) (old : List Row) (r : Row) → IsOldOrAlone list old r
    → IsOldOrAlone list old (expired r)
ended_or_alone list old r (inl one) = inl (ended_one old r one)
ended_or_alone list old r (inr is) = inr is

-- rows that are old ones, or of their hosts alone, are of their hosts alone where the old ones are
stay_alone : (list : List Rule) (old new : List Row) → AllByRecursion (IsOldOrAlone list old) new
    → AllByRecursion (IsAlone list) old → AllByRecursion (IsAlone list) new
stay_alone list old new each all = all_weaker (IsOldOrAlone list old) (IsAlone list) by new each
  where
    by : (r : Row) → IsOldOrAlone list old r → IsAlone list r
    by r (inl one) = one_of_all (IsAlone list) (λ x is. is) old all r one
    by r (inr is) = is

-- ---- the domains that may be

-- which texts a domain that covers the host can have
may_set : (list : List Rule) (d : Domain) → ((text : List ℕ) → d ≡ suffix text → ¬ (Listed list text))
    → (host : Option (List ℕ)) → IsSomeAnd host (Covers d) → MaySet list host (text_or_empty d)
may_set list d unlisted None covers = absurd covers
may_set list (host_only text) unlisted (Some host) covers = inl (sym covers)
may_set list (suffix text) unlisted (Some host) covers = inr (covers, unlisted text refl)
may_set list not_present unlisted (Some host) covers = absurd covers
may_set list empty unlisted (Some host) covers = absurd covers

unlisted_suffix : (list : List Rule) (d : Domain) → ¬ (IsListedIn d list) → (text : List ℕ) → d ≡ suffix text
    → ¬ (Listed list text)
unlisted_suffix list d unlisted text is = subst (λ x. ¬ (IsListedIn x list)) is unlisted

-- one that covers a host, and isn't listed, has no listed text
unlisted_text : (list : List Rule) (d : Domain) (host : Option (List ℕ)) → IsSomeAnd host (Covers d)
    → ¬ (IsListedIn d list)
    → Listed list (text_or_empty d) → d ≡ host_only (text_or_empty d)
unlisted_text list d None covers unlisted listed = absurd covers
unlisted_text list (host_only text) (Some host) covers unlisted listed = refl
unlisted_text list (suffix text) (Some host) covers unlisted listed = absurd (unlisted listed)
unlisted_text list not_present (Some host) covers unlisted listed = absurd covers
unlisted_text list empty (Some host) covers unlisted listed = absurd covers

-- ---- an insertion

module _ (list : List Rule) (rows : List Row) (url : Parts) (now : ℤ) (end : End) where
  confined : ((text : List ℕ) → ¬ (MaySet list (host_of url) text) → rows_under text end.1 ≡ rows_under text rows)
      → AllByRecursion (IsOldOrAlone list rows) end.1 → IsConfined list (host_of url) rows end.1
  confined others each = record { others = others; each = each; alone = stay_alone list rows end.1 each }

  same_rows : end.1 ≡ rows → IsConfined list (host_of url) rows end.1
  same_rows is = confined (λ text no. ap (rows_under text) is) (subst (AllByRecursion (IsOldOrAlone list rows)) (sym is)
      (all_weaker (IsOneOf rows) (IsOldOrAlone list rows) (λ x one. inl one) rows (each_one rows)))

  fits_confined : (row : Row) → (CoversAt row.domain url → MaySet list (host_of url) (domain_text row))
      → (CoversAt row.domain url → IsAlone list row) → Fits rows url now row end
      → IsConfined list (host_of url) rows end.1
  fits_confined row may own (inl x) = same_rows (ap (λ (e : End). e.1) x.1)
  fits_confined row may own (inr (covers, inl x)) = same_rows (ap (λ (e : End). e.1) x.1)
  fits_confined row may own (inr (covers, inr x)) =
      let is = ap (λ (e : End). e.1) x.1 in
      confined
      (λ text barred. ap (rows_under text) is
      ∙ settled_under text now row
      (other_text (domain_text row) text
      (λ same. barred (subst (MaySet list (host_of url)) same (may covers)))) rows)
      (subst (AllByRecursion (IsOldOrAlone list rows)) (sym is)
      (settled_all_so (IsOldOrAlone list rows) (ended_or_alone list rows) now row (inr (own covers)) rows
      (all_weaker (IsOneOf rows) (IsOldOrAlone list rows) (λ x one. inl one) rows (each_one rows))))

  pub inserts_confined : (row : Row) → Inserts list rows url now row end → IsConfined list (host_of url) rows end.1
  inserts_confined row (inl x) = same_rows (ap (λ (e : End). e.1) x.1)
  inserts_confined row (inr (free, inl (unlisted, fits))) =
      fits_confined row
      (λ covers. may_set list row.domain (unlisted_suffix list row.domain unlisted) (host_of url) covers)
      (λ covers listed. unlisted_text list row.domain (host_of url) covers unlisted listed) fits
  inserts_confined row (inr (free, inr (inl (listed, at_host, fits)))) =
      fits_confined (alone row)
      (λ covers. may_set list (host_only (domain_text row)) (λ text is. absurd (host_is_none is)) (host_of url) covers)
      (λ covers listed. refl) fits
    where
      is_suffix : Domain → Bool
      is_suffix (host_only text) = false
      is_suffix (suffix text) = true
      is_suffix not_present = false
      is_suffix empty = false

      host_is_none : {text : List ℕ} → host_only (domain_text row) ≡ suffix text → ⊥
      host_is_none is = both_ways true (ap is_suffix (sym is) ∙ refl) refl
  inserts_confined row (inr (free, inr (inr x))) = same_rows (ap (λ (e : End). e.1) x.2)

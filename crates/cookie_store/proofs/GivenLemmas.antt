-- The parts that the index finds have each row that a request is given; and how many questions that takes.
use Rattle.std.proofs.Common.{◌≡◌, ◌⊎◌, ◌+◌, ◌-◌, ◌*◌, ◌<◌, ◌≤◌, ◌++◌, ◌||◌, ℕ, ℤ, true, false, List, [], ◌∷◌, length}
use Rattle.std.proofs.Common.{zero, suc, take, drop, map, get_or, refl, sym, ap, subst, ◌∙◌, inl, inr, arith}
use Rattle.std.proofs.Common.{true≢false}
use Rattle.std.specs.Prelude.{Box, Some, None, IsSomeAnd, slice_get, slice_range, option_map, unwrap_or, nat_le}
use Rattle.std.specs.Prelude.{nat_lt, filter}
use Rattle.std.specs.List.{AllByRecursion, flat_map, list_any}
use Rattle.std.proofs.lemmas.Bool.{lt-leb, le-ltb, and_left, and_right}
use Rattle.std.proofs.lemmas.List.Folds.{drop_split}
use Rattle.std.proofs.lemmas.List.{at_drop_more, drop-map, length-map, take-map}
use Rattle.std.proofs.lemmas.Option.{none-some, slice_get-map}
use Rattle.place_index.specs.Candidates.{is_among, count_of, domains_of, paths_of}
use Rattle.place_index.specs.Found.{AscendFrom, Finds, is_in, looks_at}
use Rattle.place_index.specs.Index.{Span}
use Rattle.place_index.specs.Places.{is_of}
use Rattle.place_index.proofs.CandidateLemmas.{are_domains, are_paths}
use Rattle.store_parts.specs.DomainMatch.{Domain, host_only, suffix, not_present, empty, dot, text_or_empty, Covers}
use Rattle.store_parts.specs.PathMatch.{PathMatches, slash}
use Rattle.store_parts.specs.Schemes.{host_of}
use Rattle.url.specs.Parts.{Parts}
use Rattle.cookie_store.specs.Asking.{has_row, looks_at_host, looks_at_url}
use Rattle.cookie_store.specs.Given.{AreGiven, ArePicked, IsGiven}
use Rattle.cookie_store.specs.Indexed.{place_of, places_of}
use Rattle.cookie_store.specs.Rows.{Row}
use Rattle.cookie_store.specs.Steps.{AreInside, rows_in}
use Rattle.cookie_store.specs.StoredCookie.{stored_in}
use Rattle.cookie_store.specs.declared.stored_cookie.Cookie.{Cookie}

-- ---- elements of parts

module _ {A : Type 0} where
  get_drop : (n : ℕ) (xs : List A) (i : ℕ) → slice_get (drop n xs) i ≡ slice_get xs (n + i)
  get_drop zero xs i = let e : i ≡ 0 + i = omega arith in ap (slice_get xs) e
  get_drop (suc n) [] i = refl
  get_drop (suc n) (x ∷ xs) i =
      let e : suc (n + i) ≡ suc n + i = omega arith in
      get_drop n xs i ∙ ap (slice_get (x ∷ xs)) e

  get_take : (n : ℕ) (xs : List A) (i : ℕ) (x : A) → slice_get (take n xs) i ≡ Some x
      → (i < n) × (slice_get xs i ≡ Some x)
  get_take zero xs i x e = absurd (none-some x e)
  get_take (suc n) [] i x e = absurd (none-some x e)
  get_take (suc n) (y ∷ ys) zero x e = (omega arith, e)
  get_take (suc n) (y ∷ ys) (suc i) x e =
      let h = get_take n ys i x e in
      let l = h.0 in (omega (arith, l), h.1)

  get_range : (xs : List A) (start end i : ℕ) (x : A) → slice_get (slice_range xs start end) i ≡ Some x
      → (i < end - start) × (slice_get xs (start + i) ≡ Some x)
  get_range xs start end i x e =
      let h = get_take (end - start) (drop start xs) i x e in
      (h.0, sym (get_drop start xs i) ∙ h.1)

-- ---- what is picked of a list

module _ {A : Type 0} (Is : A → Type 0) where
  -- none where none is so
  pub picks_none : (xs : List A) → ((i : ℕ) (x : A) → slice_get xs i ≡ Some x → ¬ (Is x)) → ArePicked Is xs []
  picks_none [] none = refl
  picks_none (x ∷ xs) none = ([], picks_none xs (λ i y e. none (suc i) y e), inr (none 0 x refl, refl))

  -- of one list and another
  pub picks_append : (xs ys picked more : List A) → ArePicked Is xs picked → ArePicked Is ys more
      → ArePicked Is (xs ++ ys) (picked ++ more)
  picks_append [] ys picked more none picks = subst (λ l. ArePicked Is ys (l ++ more)) (sym none) picks
  picks_append (x ∷ xs) ys picked more (later, rest, first) picks =
      (later ++ more, picks_append xs ys later more rest picks, by first)
    where
      by : (Is x × (picked ≡ x ∷ later)) ⊎ ((¬ (Is x)) × (picked ≡ later))
          → (Is x × (picked ++ more ≡ x ∷ (later ++ more))) ⊎ ((¬ (Is x)) × (picked ++ more ≡ later ++ more))
      by (inl h) = inl (h.0, ap (λ l. l ++ more) h.1)
      by (inr h) = inr (h.0, ap (λ l. l ++ more) h.1)

  -- behind the same elements
  picks_behind : (xs ys zs picked : List A) → ((more : List A) → ArePicked Is ys more → ArePicked Is zs more)
      → ArePicked Is (xs ++ ys) picked → ArePicked Is (xs ++ zs) picked
  picks_behind [] ys zs picked over picks = over picked picks
  picks_behind (x ∷ xs) ys zs picked over (later, rest, first) =
      (later, picks_behind xs ys zs later over rest, first)

-- ---- parts in order

before_part : (i : ℕ) (part : Span) → i < part.0 → is_in i part ≡ false
before_part i part low = and_left (nat_le part.0 i) (nat_lt i part.1) (lt-leb part.0 i low)

after_part : (i : ℕ) (part : Span) → part.1 ≤ i → is_in i part ≡ false
after_part i part high = and_right (nat_le part.0 i) (nat_lt i part.1) (le-ltb i part.1 high)

before_all : (i start : ℕ) (parts : List Span) → AscendFrom start parts → i < start → list_any (is_in i) parts ≡ false
before_all i start [] up low = refl
before_all i start (part ∷ parts) up low =
    let from = up.0 in
    let some = up.1 in
    ap (λ b. b || list_any (is_in i) parts) (before_part i part (omega (arith, low, from)))
    ∙ before_all i part.1 parts up.2 (omega (arith, low, from, some))

-- what is picked of the parts is what is picked from there on, where each element that is so is in a part
picks_parts : {A : Type 0} (Is : A → Type 0) (parts : List Span) (start : ℕ) (xs picked : List A)
    → AscendFrom start parts
    → ((i : ℕ) (x : A) → start ≤ i → slice_get xs i ≡ Some x → Is x → list_any (is_in i) parts ≡ true)
    → ArePicked Is (flat_map (λ part. slice_range xs part.0 part.1) parts) picked → ArePicked Is (drop start xs) picked
picks_parts Is [] start xs picked up all picks =
    subst (ArePicked Is (drop start xs)) (sym picks)
    (picks_none Is (drop start xs)
    (λ i x e is. true≢false (sym (all (start + i) x (omega arith) (sym (get_drop start xs i) ∙ e) is))))
picks_parts {A} Is (part ∷ parts) start xs picked up all picks =
    subst (λ l. ArePicked Is l picked) (sym (drop_split xs start part.0 up.0))
    (picks_append Is (slice_range xs start part.0) (drop part.0 xs) [] picked
    (picks_none Is (slice_range xs start part.0) none)
    (subst (λ l. ArePicked Is l picked) (sym (drop_split xs part.0 part.1 within))
    (picks_behind Is (slice_range xs part.0 part.1) (flat_map (λ p. slice_range xs p.0 p.1) parts) (drop part.1 xs)
    picked
    (λ more. picks_parts Is parts part.1 xs more up.2 later) picks)))
  where
    within : part.0 ≤ part.1
    within = let some = up.1 in omega (arith, some)

    none : (i : ℕ) (x : A) → slice_get (slice_range xs start part.0) i ≡ Some x → ¬ (Is x)
    none i x e is =
        let h = get_range xs start part.0 i x e in
        let low = h.0 in
        true≢false (sym (all (start + i) x (omega arith) h.1 is)
        ∙ before_all (start + i) part.0 (part ∷ parts) (omega arith, up.1, up.2) (omega (arith, low)))

    later : (i : ℕ) (x : A) → part.1 ≤ i → slice_get xs i ≡ Some x → Is x → list_any (is_in i) parts ≡ true
    later i x high e is =
        let from = up.0 in
        let some = up.1 in
        sym (ap (λ b. b || list_any (is_in i) parts) (after_part i part high))
        ∙ all i x (omega (arith, from, some, high)) e is

-- ---- what a request asks for

-- the text of a domain that covers the host
pub domain_asked : (domain : Domain) (host : List ℕ) → Covers domain host
    → is_among (text_or_empty domain) (domains_of host) ≡ true
domain_asked (host_only text) host is = (are_domains host text).1 (inl is)
domain_asked (suffix text) host (inl same) = (are_domains host text).1 (inl same)
domain_asked (suffix text) host (inr below) = (are_domains host text).1 (inr below.1)
domain_asked not_present host is = absurd is
domain_asked empty host is = absurd is

-- a path that the request-path path-matches
pub path_asked : (path text : List ℕ) → PathMatches text path → is_among text (paths_of path) ≡ true
path_asked path text = (are_paths path text).1

-- ---- what it is given

module _ (rows : List Row) (url : Parts) (now : ℤ) where
  -- nothing without a host
  pub none_given : host_of url ≡ None → AreGiven rows url now []
  none_given none =
      picks_none (λ row. IsGiven row url now) rows
      (λ i row e is. subst (λ host. IsSomeAnd host (Covers row.domain)) none is.goes.domain)

  module _ (host : List ℕ) (at : host_of url ≡ Some host) (found : List Span)
      (finds : Finds host url.path (places_of rows) found) where
    given_is_found : (i : ℕ) (row : Row) → slice_get rows i ≡ Some row → IsGiven row url now
        → list_any (is_in i) found ≡ true
    given_is_found i row e is =
        (finds.exactly i (place_of row) (slice_get-map place_of rows i ∙ ap (option_map place_of) e)).1 (
          domain_asked row.domain host (subst (λ o. IsSomeAnd o (Covers row.domain)) at is.goes.domain),
          path_asked url.path row.path.text is.goes.path.1,
        )

    -- what of the parts that are found is given is all that is given
    pub given_of_parts : (given : List Row) → AreGiven (rows_in found rows) url now given → AreGiven rows url now given
    given_of_parts given picks =
        picks_parts (λ row. IsGiven row url now) found 0 rows given finds.ascend
        (λ i row from e is. given_is_found i row e is) picks

-- ---- one step further

module _ (url : Parts) (now : ℤ) where
  left : {Z : Type 0} (cookies : List (Box Cookie Z)) (i : ℕ) (cookie : Box Cookie Z) → i < length cookies
      → cookie ≡ get_or cookies i cookie
      → map stored_in (drop i cookies) ≡ stored_in cookie ∷ map stored_in (drop (i + 1) cookies)
  left cookies i cookie l at =
      at_drop_more (map stored_in) cookies i cookie l
      ∙ ap (λ c. stored_in c ∷ map stored_in (drop (i + 1) cookies)) (sym at)

  pub first_given : {Z : Type 0} (cookies : List (Box Cookie Z)) (i : ℕ) (cookie : Box Cookie Z) (rest : List Row)
      → i < length cookies → cookie ≡ get_or cookies i cookie → IsGiven (stored_in cookie) url now
      → AreGiven (map stored_in (drop (i + 1) cookies)) url now rest
      → AreGiven (map stored_in (drop i cookies)) url now (stored_in cookie ∷ rest)
  first_given cookies i cookie rest l at is picks =
      subst (λ rows. AreGiven rows url now (stored_in cookie ∷ rest)) (sym (left cookies i cookie l at))
      (rest, picks, inl (is, refl))

  pub first_passed : {Z : Type 0} (cookies : List (Box Cookie Z)) (i : ℕ) (cookie : Box Cookie Z) (rest : List Row)
      → i < length cookies → cookie ≡ get_or cookies i cookie → ¬ (IsGiven (stored_in cookie) url now)
      → AreGiven (map stored_in (drop (i + 1) cookies)) url now rest
      → AreGiven (map stored_in (drop i cookies)) url now rest
  first_passed cookies i cookie rest l at not picks =
      subst (λ rows. AreGiven rows url now rest) (sym (left cookies i cookie l at)) (rest, picks, inr (not, refl))

  pub part_given : (rows : List Row) (parts : List Span) (i : ℕ) (d : Span) (own rest : List Row) → i < length parts
      → AreGiven (slice_range rows (get_or parts i d).0 (get_or parts i d).1) url now own
      → AreGiven (rows_in (drop (i + 1) parts) rows) url now rest
      → AreGiven (rows_in (drop i parts) rows) url now (own ++ rest)
  part_given rows parts i d own rest l picks later =
      subst (λ those. AreGiven those url now (own ++ rest)) (sym (at_drop_more (λ ps. rows_in ps rows) parts i d l))
      (picks_append (λ row. IsGiven row url now) (slice_range rows (get_or parts i d).0 (get_or parts i d).1)
      (rows_in (drop (i + 1) parts) rows) own rest picks later)

pub rows_of_part : {Z : Type 0} (cookies : List (Box Cookie Z)) (start end : ℕ)
    → map stored_in (slice_range cookies start end) ≡ slice_range (map stored_in cookies) start end
rows_of_part cookies start end =
    sym (ap (take (end - start)) (drop-map stored_in start cookies)
    ∙ take-map stored_in (end - start) (drop start cookies))

-- ---- the parts that are found

pub are_inside : (rows : List Row) (start : ℕ) (parts : List Span) → AscendFrom start parts
    → AllByRecursion (λ part. part.1 ≤ length (places_of rows)) parts → AreInside rows parts
are_inside rows start [] up within k d l = absurd (omega arith)
are_inside rows start (part ∷ parts) up within zero d l =
    let some = up.1 in
    let le = within.0 in
    let e = length-map rows place_of in
    (omega (arith, some), omega (arith, le, e))
are_inside rows start (part ∷ parts) up within (suc k) d l =
    are_inside rows part.1 parts up.2 within.1 k d (omega arith)

-- ---- how many questions

domain_found : (rows : List Row) (domain : List ℕ) → list_any (is_of domain) (places_of rows) ≡ has_row rows domain
domain_found [] domain = refl
domain_found (row ∷ rows) domain = ap (λ b. is_of domain (place_of row) || b) (domain_found rows domain)

looks_same : (rows : List Row) (path host : List ℕ)
    → looks_at host path (places_of rows) ≡ looks_at_host rows path host
looks_same rows path host =
    λ i. 1 + count_of dot host + length (filter (λ domain. domain_found rows domain i) (domains_of host))
    * (1 + 2 * count_of slash path)

pub looks_at_host_of : (rows seen : List Row) (url : Parts) (path host : List ℕ) → rows ≡ seen → path ≡ url.path
    → Some host ≡ host_of url → looks_at host path (places_of rows) ≡ looks_at_url seen url
looks_at_host_of rows seen url path host same path_is at =
    looks_same rows path host
    ∙ (λ i. unwrap_or (option_map (looks_at_host (same i) (path_is i)) (at i)) 0)

-- What a request finds by the index, and how many questions that takes.
use Rattle.std.proofs.Common.{◌≡◌, ◌⊎◌, ◌+◌, ◌*◌, ◌<◌, ◌≤◌, ◌||◌, ℕ, Bool, true, false, List, [], ◌∷◌, length, refl}
use Rattle.std.proofs.Common.{sym, ap, subst, ◌∙◌, inl, inr, arith, true≢false}
use Rattle.std.specs.Prelude.{Option, Some, None, slice_get, nat_le, nat_lt}
use Rattle.std.specs.Str.{bytes_eq}
use Rattle.std.specs.List.{flat_map, list_any}
use Rattle.std.proofs.Math.Nat.{mul-le-mul_left}
use Rattle.std.proofs.lemmas.Bool.{cases_lt, and_from, and_parts, and_left, and_right, or_left, or_right}
use Rattle.std.proofs.lemmas.Grind.{common_steps}
use Rattle.std.proofs.lemmas.List.Folds.{list_any-append}
use Rattle.matching.specs.Domains.{dot}
use Rattle.place_index.specs.Places.{Place, is_at, is_of}
use Rattle.place_index.specs.Entries.{value_at}
use Rattle.place_index.specs.Candidates.{is_among, domains_of, paths_of, count_of}
use Rattle.place_index.specs.Found.{FindsExactly, LooksAreFew, is_in, span_of, spans_of, spans, looks_for, path_looks}
use Rattle.place_index.specs.Found.{found_domain, found_domains}
use Rattle.place_index.specs.Index.{DomainPart}
use Rattle.place_index.specs.Parts.{Part}
use Rattle.place_index.specs.Index.{Index, IsPart, PathAgrees, DomainAgrees, PartsAgree, Span}
use Rattle.place_index.proofs.CandidateLemmas.{among_case, among_head, among_tail, or_split, domains_of-count}
use Rattle.place_index.proofs.CandidateLemmas.{paths_of-count}
use Rattle.place_index.proofs.EntryLemmas.{same_text}
use Rattle.place_index.proofs.IndexLemmas.{own_domain, own_path}

-- ---- its place is in its part

within : (i start end : ℕ) → start ≤ i → i < end → is_in i (start, end) ≡ true
within i start end a b =
    and_from (nat_le start i) (nat_lt i end) (grind (arith, common_steps)) (grind (arith, common_steps))

in_part : (test : Place → Bool) (rows : List Place) (start len i : ℕ) (row : Place)
    → IsPart test rows start len → slice_get rows i ≡ Some row → test row ≡ true → is_in i (start, start + len) ≡ true
in_part test rows start len i row part at passes = by (cases_lt i start) (cases_lt i (start + len))
  where
    by : (i < start) ⊎ (start ≤ i) → (i < start + len) ⊎ (start + len ≤ i) → is_in i (start, start + len) ≡ true
    by (inl low) k = absurd (true≢false (sym passes ∙ part.before i row low at))
    by (inr low) (inl high) = within i start (start + len) low high
    by (inr low) (inr high) = absurd (true≢false (sym passes ∙ part.after i row high at))

-- ---- one among many

any_of : (test : Span → Bool) (f : List ℕ → List Span) (text : List ℕ) (ts : List (List ℕ)) → is_among text ts ≡ true
    → list_any test (f text) ≡ true → list_any test (flat_map f ts) ≡ true
any_of test f text [] e h = absurd (true≢false (sym e))
any_of test f text (t ∷ ts) e h =
    list_any-append test (f t) (flat_map f ts) ∙ by (among_case text t ts e) (λ m. any_of test f text ts m h)
  where
    by : (t ≡ text) ⊎ (is_among text ts ≡ true) → (is_among text ts ≡ true → list_any test (flat_map f ts) ≡ true)
        → (list_any test (f t) || list_any test (flat_map f ts)) ≡ true
    by (inl same) rest =
        or_left (list_any test (f t)) (list_any test (flat_map f ts)) (ap (λ x. list_any test (f x)) same ∙ h)
    by (inr more) rest = or_right (list_any test (f t)) (list_any test (flat_map f ts)) (rest more)

module _ (rows : List Place) (i : ℕ) (row : Place) (at : slice_get rows i ≡ Some row) where
  path_span : (domain : DomainPart) (path : Option Part) → PathAgrees rows row.domain domain.start row.path path
      → list_any (is_in i) (span_of domain path) ≡ true
  path_span domain None none = absurd (true≢false (sym (own_path row) ∙ none i row at))
  path_span domain (Some part) is =
      or_left (is_in i (domain.start + part.start, domain.start + part.start + part.len)) false
      (in_part (is_at row.domain row.path) rows (domain.start + part.start) part.len i row is at (own_path row))

  domain_spans : (paths : List (List ℕ)) → is_among row.path paths ≡ true → (domain : Option DomainPart)
      → DomainAgrees rows row.domain domain → list_any (is_in i) (spans_of paths domain) ≡ true
  domain_spans paths asked None none = absurd (true≢false (sym (own_domain row) ∙ none i row at))
  domain_spans paths asked (Some domain) is =
      any_of (is_in i) (λ path. span_of domain (value_at path domain.paths)) row.path paths asked
      (path_span domain (value_at row.path domain.paths) (is.1 row.path))

  pub is_found : (index : Index) → PartsAgree rows index → (domains paths : List (List ℕ))
      → is_among row.domain domains ≡ true
      → is_among row.path paths ≡ true → list_any (is_in i) (spans index domains paths) ≡ true
  is_found index agrees domains paths asked path_asked =
      any_of (is_in i) (λ domain. spans_of paths (value_at domain index)) row.domain domains asked
      (domain_spans paths path_asked (value_at row.domain index) (agrees row.domain))

-- ---- nothing else is found

pub some_of : (test : Span → Bool) (f : List ℕ → List Span) (ts : List (List ℕ)) → list_any test (flat_map f ts) ≡ true
    → (t : List ℕ) × (is_among t ts ≡ true) × (list_any test (f t) ≡ true)
some_of test f [] e = absurd (true≢false (sym e))
some_of test f (t ∷ ts) e =
    by (or_split (list_any test (f t)) (list_any test (flat_map f ts))
    (sym (list_any-append test (f t) (flat_map f ts)) ∙ e)) (λ h. some_of test f ts h)
  where
    by : (list_any test (f t) ≡ true) ⊎ (list_any test (flat_map f ts) ≡ true)
        → (list_any test (flat_map f ts) ≡ true → (u : List ℕ) × (is_among u ts ≡ true) × (list_any test (f u) ≡ true))
        → (u : List ℕ) × (is_among u (t ∷ ts) ≡ true) × (list_any test (f u) ≡ true)
    by (inl here) rest = (t, among_head t t ts refl, here)
    by (inr more) rest = let r = rest more in (r.0, among_tail r.0 t ts r.1, r.2)

pub in_span : (i start end : ℕ) → list_any (is_in i) ((start, end) ∷ []) ≡ true → (start ≤ i) × (i < end)
in_span i start end e = by (cases_lt i start) (cases_lt i end)
  where
    none : is_in i (start, end) ≡ false → (start ≤ i) × (i < end)
    none h = absurd (true≢false (sym e ∙ ap (λ b. b || false) h))

    by : (i < start) ⊎ (start ≤ i) → (i < end) ⊎ (end ≤ i) → (start ≤ i) × (i < end)
    by (inr low) (inl high) = (low, high)
    by (inl low) k = none (and_left (nat_le start i) (nat_lt i end) (grind (arith, common_steps)))
    by (inr low) (inr high) = none (and_right (nat_le start i) (nat_lt i end) (grind (arith, common_steps)))

module _ (rows : List Place) (i : ℕ) (row : Place) (at : slice_get rows i ≡ Some row) where
  span_path : (domain : List ℕ) (part : DomainPart) (text : List ℕ) (path : Option Part)
      → PathAgrees rows domain part.start text path → list_any (is_in i) (span_of part path) ≡ true
      → is_at domain text row ≡ true
  span_path domain part text None is e = absurd (true≢false (sym e))
  span_path domain part text (Some path) is e =
      let h = in_span i (part.start + path.start) (part.start + path.start + path.len) e in
      is.inside i row h.0 h.1 at

  spans_domain : (domain : List ℕ) (paths : List (List ℕ)) (part : Option DomainPart) → DomainAgrees rows domain part
      → list_any (is_in i) (spans_of paths part) ≡ true
      → (is_of domain row ≡ true) × (is_among row.path paths ≡ true)
  spans_domain domain paths None is e = absurd (true≢false (sym e))
  spans_domain domain paths (Some part) is e =
      let f = some_of (is_in i) (λ path. span_of part (value_at path part.paths)) paths e in
      let p = and_parts (is_of domain row) (bytes_eq f.0 row.path)
      (span_path domain part f.0 (value_at f.0 part.paths) (is.1 f.0) f.2) in
      (p.0, subst (λ t. is_among t paths ≡ true) (same_text f.0 row.path p.1) f.1)

  pub found_is : (index : Index) → PartsAgree rows index → (domains paths : List (List ℕ))
      → list_any (is_in i) (spans index domains paths) ≡ true
      → (is_among row.domain domains ≡ true) × (is_among row.path paths ≡ true)
  found_is index agrees domains paths e =
      let f = some_of (is_in i) (λ domain. spans_of paths (value_at domain index)) domains e in
      let p = spans_domain f.0 paths (value_at f.0 index) (agrees f.0) f.2 in
      (subst (λ t. is_among t domains ≡ true) (same_text f.0 row.domain p.0) f.1, p.1)

pub finds_exactly : FindsExactly
finds_exactly rows index agrees host path i row at = (
  λ e. found_is rows i row at index agrees.parts (domains_of host) (paths_of path) e,
  λ both. is_found rows i row at index agrees.parts (domains_of host) (paths_of path) both.0 both.1,
)

-- ---- how many questions

looks_split : (index : Index) (domains : List (List ℕ)) (paths : ℕ)
    → looks_for index domains paths ≡ length domains + found_domains index domains * paths
looks_split index [] paths = omega arith
looks_split index (domain ∷ domains) paths = by (value_at domain index) (looks_split index domains paths)
  where
    by : (d : Option DomainPart) → looks_for index domains paths ≡ length domains + found_domains index domains * paths
        → 1 + path_looks paths d + looks_for index domains paths
        ≡ length (domain ∷ domains) + (found_domain d + found_domains index domains) * paths
    by None e = omega (arith, e)
    by (Some d) e =
        let m : (1 + found_domains index domains) * paths ≡ paths + found_domains index domains * paths
        = grind (arith, common_steps) in
        omega (arith, e, m)

looks_of : (index : Index) (host : List ℕ) (paths : ℕ) → looks_for index (domains_of host) paths
    ≡ 1 + count_of dot host + found_domains index (domains_of host) * paths
looks_of index host paths =
    looks_split index (domains_of host) paths
    ∙ (λ i. domains_of-count host i + found_domains index (domains_of host) * paths)

pub looks_are_few : LooksAreFew
looks_are_few index host path =
    let same = looks_of index host (length (paths_of path)) in
    let less = mul-le-mul_left (found_domains index (domains_of host)) (paths_of-count path) in
    omega (arith, same, less)

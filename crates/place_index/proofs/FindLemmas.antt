-- What an index that agrees with rows finds, in the words of the rows.
use Rattle.std.proofs.Common.{◌≡◌, ◌+◌, ◌*◌, ◌-◌, ◌<◌, ◌≤◌, ◌∙◌, ℕ, Bool, true, false, List, [], ◌∷◌, length}
use Rattle.std.proofs.Common.{refl, sym, ap, arith, suc, true≢false}
use Rattle.std.specs.Prelude.{Option, Some, None, filter}
use Rattle.std.specs.List.{list_any, AllByRecursion}
use Rattle.std.proofs.lemmas.Bool.{cond-true, cond-false, or_left, or_right}
use Rattle.std.proofs.lemmas.List.Folds.{list_any_at, list_any_none}
use Rattle.std.proofs.lemmas.Option.{get_or_from_slice_get, slice_get-get_or}
use Rattle.matching.specs.Domains.{dot}
use Rattle.matching.specs.Paths.{slash}
use Rattle.place_index.specs.Places.{Place, is_of}
use Rattle.place_index.specs.Entries.{value_at}
use Rattle.place_index.specs.Candidates.{domains_of, paths_of, count_of}
use Rattle.place_index.specs.Found.{AscendFrom, Finds, found_domain, found_domains, is_in, looks_at}
use Rattle.place_index.specs.Found.{looks_for, span_of, spans, spans_of}
use Rattle.place_index.specs.Index.{Agrees, PartsAgree, DomainAgrees, Index, IsNowhere, IsPart, PathAgrees, Span}
use Rattle.place_index.specs.Index.{DomainPart}
use Rattle.place_index.specs.Parts.{Part}
use Rattle.place_index.proofs.FoundLemmas.{finds_exactly, in_span, looks_are_few, some_of}
use Rattle.place_index.proofs.OrderLemmas.{inside}
use Rattle.place_index.proofs.PartLemmas.{is_there}

-- ---- a domain has a part where some row is of it

nowhere_any : (test : Place → Bool) (rows : List Place) → IsNowhere test rows → list_any test rows ≡ false
nowhere_any test rows none = list_any_none test rows (λ i d l. none i _ (slice_get-get_or rows i d l))

part_any : (test : Place → Bool) (rows : List Place) (start len : ℕ) → IsPart test rows start len
    → list_any test rows ≡ true
part_any test rows start len part =
    let some = part.some in
    let within = part.within in
    let low : start < length rows = omega (arith, some, within) in
    let row = is_there rows start low in
    list_any_at test rows start row.0 low (ap test (get_or_from_slice_get rows start row.0 row.0 row.1)
    ∙ part.inside start row.0 (omega arith) (omega (arith, some)) row.1)

found_domains-rows : (rows : List Place) (index : Index) → PartsAgree rows index → (domains : List (List ℕ))
    → found_domains index domains ≡ length (filter (λ domain. list_any (is_of domain) rows) domains)
found_domains-rows rows index agrees [] = refl
found_domains-rows rows index agrees (domain ∷ domains) =
    by (value_at domain index) (agrees domain) (found_domains-rows rows index agrees domains)
  where
    test : List ℕ → Bool
    test = λ domain. list_any (is_of domain) rows

    by : (part : Option DomainPart) → DomainAgrees rows domain part
        → found_domains index domains ≡ length (filter test domains)
        → found_domain part + found_domains index domains ≡ length (filter test (domain ∷ domains))
    by None none rest =
        let same : length (filter test (domain ∷ domains)) ≡ length (filter test domains) = ap length
        (cond-false (test domain) (domain ∷ filter test domains) (filter test domains)
        (nowhere_any (is_of domain) rows none)) in
        omega (arith, rest, same)
    by (Some part) own rest =
        let more : length (filter test (domain ∷ domains)) ≡ suc (length (filter test domains)) = ap length
        (cond-true (test domain) (domain ∷ filter test domains) (filter test domains)
        (part_any (is_of domain) rows part.start part.len own.0)) in
        omega (arith, rest, more)

-- the questions, in the words of the rows
pub few_looks : (rows : List Place) (index asked : Index) → asked ≡ index → PartsAgree rows index
    → (host path : List ℕ) (old new : ℕ)
    → new ≤ old + looks_for asked (domains_of host) (length (paths_of path))
    → new ≤ old + looks_at host path rows
few_looks rows index asked is agrees host path old new le =
    let same = ap (λ i. looks_for i (domains_of host) (length (paths_of path))) is in
    let few = looks_are_few index host path in
    let found = ap (λ n. 1 + count_of dot host + n * (1 + 2 * count_of slash path))
    (found_domains-rows rows index agrees (domains_of host)) in
    omega (arith, le, same, few, found)

-- ---- what is found is of the rows

path_within : (rows : List Place) (i : ℕ) (domain text : List ℕ) (domain_part : DomainPart) (part : Option Part)
    → PathAgrees rows domain domain_part.start text part
    → list_any (is_in i) (span_of domain_part part) ≡ true → i < length rows
path_within rows i domain text domain_part None none e = absurd (true≢false (sym e))
path_within rows i domain text domain_part (Some part) own e =
    let high = (in_span i (domain_part.start + part.start) (domain_part.start + part.start + part.len) e).1 in
    let within = own.within in
    omega (arith, high, within)

domain_within : (rows : List Place) (i : ℕ) (domain : List ℕ) (paths : List (List ℕ)) (part : Option DomainPart)
    → DomainAgrees rows domain part → list_any (is_in i) (spans_of paths part) ≡ true → i < length rows
domain_within rows i domain paths None none e = absurd (true≢false (sym e))
domain_within rows i domain paths (Some part) own e =
    let f = some_of (is_in i) (λ path. span_of part (value_at path part.paths)) paths e in
    path_within rows i domain f.0 part (value_at f.0 part.paths) (own.1 f.0) f.2

found_within : (rows : List Place) (index : Index) → PartsAgree rows index → (domains paths : List (List ℕ)) (i : ℕ)
    → list_any (is_in i) (spans index domains paths) ≡ true → i < length rows
found_within rows index agrees domains paths i e =
    let f = some_of (is_in i) (λ domain. spans_of paths (value_at domain index)) domains e in
    domain_within rows i f.0 paths (value_at f.0 index) (agrees f.0) f.2

-- parts that have a position each, and none past the end, end there or before
ends_within : (start len : ℕ) (found : List Span) → AscendFrom start found
    → ((i : ℕ) → list_any (is_in i) found ≡ true → i < len) → AllByRecursion (λ span. span.1 ≤ len) found
ends_within start len [] ascend below = tt
ends_within start len (span ∷ found) ascend below = (
  last,
  ends_within span.1 len found ascend.2
      (λ i e. below i (or_right (is_in i span) (list_any (is_in i) found) e)),
)
  where
    some : span.0 < span.1
    some = ascend.1

    last : span.1 ≤ len
    last =
        let i = span.1 - 1 in
        let h = below i (or_left (is_in i span) (list_any (is_in i) found)
        (inside i span (omega (arith, some)) (omega (arith, some)))) in
        omega (arith, h, some)

-- parts in order with the positions of those that were found
pub finds : (host path : List ℕ) (rows : List Place) (index : Index) (found : List Span) → Agrees rows index
    → AscendFrom 0 found
    → ((i : ℕ) → list_any (is_in i) found ≡ list_any (is_in i) (spans index (domains_of host) (paths_of path)))
    → Finds host path rows found
finds host path rows index found agrees ascend same = record {
  ascend = ascend;
  within = ends_within 0 (length rows) found ascend
      (λ i e. found_within rows index agrees.parts (domains_of host) (paths_of path) i (sym (same i) ∙ e));
  exactly = λ i row at.
      let h = finds_exactly rows index agrees host path i row at in
      (λ e. h.0 (sym (same i) ∙ e), λ both. same i ∙ h.1 both);
}

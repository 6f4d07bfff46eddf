-- A domain's part after a row of a path that is there.
use Rattle.std.proofs.Common.{◌≡◌, ◌≢◌, ◌+◌, ◌++◌, ◌<◌, ◌≤◌, ℕ, List, [], ◌∷◌, refl, sym, ap, subst, ◌∙◌, arith, suc}
use Rattle.std.proofs.Common.{length}
use Rattle.std.proofs.Common.{get_or, map}
use Rattle.std.specs.Prelude.{Option, Some, None, IfSome, option_map, slice_get}
use Rattle.indexmap.specs.IndexMap.{set_value_at}
use Rattle.place_index.specs.Entries.{place_of, value_at, set_at, with_values}
use Rattle.place_index.specs.Index.{PathsInside, OtherPathsMove, last, moved_path}
use Rattle.place_index.specs.PathParts.{BeginBefore, EndBefore, Lengthens, longer, path_at}
use Rattle.place_index.specs.Starts.{with_starts}
use Rattle.place_index.specs.declared.part.PathRows.{PathRows}
use Rattle.place_index.specs.Putting.{PutsBehind}
use Rattle.place_index.specs.declared.part.DomainRows.{DomainRows}
use Rattle.place_index.specs.Parts.{Part}
use Rattle.place_index.proofs.EntryLemmas.{value_at-with_values}
use Rattle.place_index.proofs.IndexLemmas.{not_moved, text_cases}
use Rattle.place_index.proofs.StartLemmas.{part_set, part_there}
use Rattle.place_index.proofs.TakingLemmas.{value_at-set_at, value_at-set_other}

module _ (path name : List ℕ) (old : DomainRows) (part : Part) (at : ℕ) (there : value_at path old.paths ≡ Some part)
    (at_end : at ≡ part.start + part.len) (inside : PathsInside old) (lent : List (List ℕ × Part))
    (is : lent ≡ set_at path old.paths
    (record { start = part.start; len = part.len + 1; names = part.names ++ name ∷ [] })) where
  abbrev grown : Part
  grown = record { start = part.start; len = suc part.len; names = part.names ++ name ∷ [] }

  own : value_at path lent ≡ Some grown
  own =
      let n : part.len + 1 ≡ suc part.len = omega arith in
      ap (value_at path) is
      ∙ value_at-set_at path old.paths part _ there
      ∙ (λ i. Some (record { start = part.start; len = n i; names = part.names ++ name ∷ [] }))

  other : (text : List ℕ) → text ≢ path → value_at text lent ≡ value_at text old.paths
  other text d = ap (value_at text) is ∙ value_at-set_other path text old.paths part _ there d

  begins_before : part.start < at
  begins_before =
      let part_inside = subst (λ o. IfSome o (λ p. (0 < p.len) × (p.start + p.len ≤ old.len))) there (inside path) in
      let some = part_inside.0 in
      omega (arith, some, at_end)

  puts : (paths : List (List ℕ × Part)) → value_at path paths ≡ Some grown
      → OtherPathsMove at path old.paths paths
      → PutsBehind path name old (record { len = old.len + 1; paths = paths }) at
  puts paths own_grown others = record {
    part = part;
    there = there;
    at_end = at_end;
    len = omega arith;
    grown = own_grown;
    others = others;
  }

  pub puts_before_others : (paths : List (List ℕ × Part)) → paths ≡ with_values (moved_path at) lent
      → PutsBehind path name old (record { len = old.len + 1; paths = paths }) at
  puts_before_others paths moved = puts paths
      (value path ∙ ap (option_map (moved_path at)) own
      ∙ ap (λ n. Some (record { start = n; len = suc part.len; names = part.names ++ name ∷ [] }))
      (not_moved at part.start begins_before))
      (λ text d. value text ∙ ap (option_map (moved_path at)) (other text d))
    where
      value : (text : List ℕ) → value_at text paths ≡ option_map (moved_path at) (value_at text lent)
      value text = ap (value_at text) moved ∙ value_at-with_values (moved_path at) text lent

  -- no path begins there or later
  pub puts_at_end : old.len ≤ at
      → PutsBehind path name old (record { len = old.len + 1; paths = lent }) at
  puts_at_end end = puts lent own (λ text d. other text d ∙ sym (stays (value_at text old.paths) (inside text)))
    where
      stays : (o : Option Part) → IfSome o (λ p. (0 < p.len) × (p.start + p.len ≤ old.len))
          → option_map (moved_path at) o ≡ o
      stays None _ = refl
      stays (Some p) p_inside =
          let some = p_inside.0 in
          let within = p_inside.1 in
          ap (λ n. Some (record p { start = n })) (not_moved at p.start (omega (arith, some, within, end)))

-- ---- the paths of a domain, before and after

pub begin_inside : (domain : DomainRows) → PathsInside domain → BeginBefore domain.len domain.paths
begin_inside domain inside text = by (value_at text domain.paths) (inside text)
  where
    by : (o : Option Part) → IfSome o (λ p. (0 < p.len) × (p.start + p.len ≤ domain.len))
        → IfSome o (λ p. p.start < domain.len)
    by None _ = tt
    by (Some p) p_inside =
        let some = p_inside.0 in
        let within = p_inside.1 in
        omega (arith, some, within)

pub end_inside : (domain : DomainRows) (place : ℕ) → domain.len < place → PathsInside domain
    → EndBefore place domain.paths
end_inside domain place less inside text = by (value_at text domain.paths) (inside text)
  where
    by : (o : Option Part) → IfSome o (λ p. (0 < p.len) × (p.start + p.len ≤ domain.len))
        → IfSome o (λ p. p.start + p.len < place)
    by None _ = tt
    by (Some p) p_inside = let within = p_inside.1 in omega (arith, within, less)

-- a path that has a row more begins where it did
pub still_begin : (path name : List ℕ) (old new : List (List ℕ × Part)) (at place : ℕ) → EndBefore place old
    → Lengthens path name old new at → BeginBefore place new
still_begin path name old new at place before l text = text_cases text path same other
  where
    weaker : (o : Option Part) → IfSome o (λ p. p.start + p.len < place) → IfSome o (λ p. p.start < place)
    weaker None _ = tt
    weaker (Some p) less = omega (arith, less)

    same : text ≡ path → IfSome (value_at text new) (λ p. p.start < place)
    same e =
        subst (λ o. IfSome o (λ p. p.start < place))
        (sym (ap (λ t. value_at t new) e ∙ ap (value_at path) l.is ∙ value_at-set_at path old l.part _ l.there))
        (let less = subst (λ o. IfSome o (λ p. p.start + p.len < place)) l.there (before path) in omega (arith, less))

    other : text ≢ path → IfSome (value_at text new) (λ p. p.start < place)
    other d =
        subst (λ o. IfSome o (λ p. p.start < place))
        (sym (ap (value_at text) l.is ∙ value_at-set_other path text old l.part _ l.there d))
        (weaker (value_at text old) (before text))

-- ---- a part that is one longer, where starts stand apart

module _ (path name : List ℕ) (starts : List ℕ) (rows : List (List ℕ × PathRows)) (paths : List (List ℕ × Part))
    (is : with_starts path_at starts rows ≡ paths) (same : length starts ≡ length rows) (place : ℕ)
    (at : place_of path rows ≡ Some place) (own : PathRows)
    (value : slice_get (map (λ e. e.1) rows) place ≡ Some own) (start : ℕ)
    (begins : start ≡ get_or starts place 0) where
  pub lengthens : (names : List (List ℕ)) → names ≡ own.names ++ name ∷ []
      → Lengthens path name paths
      (with_starts path_at starts (set_value_at rows place (record { len = own.len + 1; names = names })))
      (start + own.len)
  lengthens names more = record {
    part = path_at start own;
    there = part_there path_at path starts rows paths is same place at own value start 0 begins;
    at_end = refl;
    is = part_set path_at path starts rows paths is same place at own value start 0 begins
        (record { len = own.len + 1; names = names })
        ∙ ap (λ ns. set_at path paths (record { start = start; len = own.len + 1; names = ns })) more;
  }

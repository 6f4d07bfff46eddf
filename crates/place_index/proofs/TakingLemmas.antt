-- A table of parts after a row fewer of a path.
use Rattle.std.proofs.Common.{◌≡◌, ◌≢◌, ◌⊎◌, ◌<◌, ◌≤◌, ◌+◌, ◌-◌, ℕ, Bool, true, false, cond}
use Rattle.std.proofs.Common.{List, [], ◌∷◌, refl, sym, ap, ◌∙◌, inl, inr, arith}
use Rattle.std.specs.Prelude.{Option, Some, None, IfSome, nat_lt, option_map}
use Rattle.std.specs.List.{remove}
use Rattle.std.specs.Str.{bytes_eq}
use Rattle.std.proofs.lemmas.Bool.{cases_lt, cond-true, cond-false, false_from_ne_true}
use Rattle.std.proofs.lemmas.Grind.{common_steps}
use Rattle.place_index.specs.Entries.{value_at, set_at, without, with_values}
use Rattle.place_index.specs.Index.{PathsInside}
use Rattle.place_index.specs.Taking.{path_back, shorter, OtherPathsMoveBack, Shortens, Takes}
use Rattle.place_index.specs.declared.part.DomainRows.{DomainRows}
use Rattle.place_index.specs.Parts.{Part}
use Rattle.place_index.proofs.EntryLemmas.{same_text, set_at-present, value_at-with_values}
use Rattle.place_index.proofs.IndexLemmas.{value_at-with_value, value_at-with_other}
use Rattle.place_index.proofs.IndexOutLemmas.{not_back}

-- ---- tables

pub texts_fail : (a b : List ℕ) → a ≢ b → bytes_eq a b ≡ false
texts_fail a b d = false_from_ne_true (bytes_eq a b) (λ e. d (same_text a b e))

module _ {V : Type 0} (key : List ℕ) where
  pub value_at-set_at : (es : List (List ℕ × V)) (v w : V) → value_at key es ≡ Some v
      → value_at key (set_at key es w) ≡ Some w
  value_at-set_at es v w there = ap (value_at key) (set_at-present key es v w there) ∙ value_at-with_value key es w

  pub value_at-set_other : (text : List ℕ) (es : List (List ℕ × V)) (v w : V) → value_at key es ≡ Some v → text ≢ key
      → value_at text (set_at key es w) ≡ value_at text es
  value_at-set_other text es v w there d =
      ap (value_at text) (set_at-present key es v w there) ∙ value_at-with_other key text es w (texts_fail text key d)

  pub value_at-without_other : (text : List ℕ) (es : List (List ℕ × V)) → text ≢ key
      → value_at text (without key es) ≡ value_at text es
  value_at-without_other text [] d = refl
  value_at-without_other text (e ∷ es) d = by (bytes_eq key e.0) refl (value_at-without_other text es d)
    where
      by : (b : Bool) → bytes_eq key e.0 ≡ b → value_at text (without key es) ≡ value_at text es
          → value_at text (cond b es (e ∷ without key es)) ≡ value_at text (e ∷ es)
      by true same rest =
          let other : bytes_eq text e.0 ≡ false = texts_fail text e.0 (λ t. d (t ∙ sym (same_text key e.0 same))) in
          sym (cond-false (bytes_eq text e.0) (Some e.1) (value_at text es) other)
      by false same rest = ap (cond (bytes_eq text e.0) (Some e.1)) rest

-- ---- a path's part

-- a part without its row at `at`
abbrev less : ℕ → Part → Part
less at part = record { start = part.start; len = part.len - 1; names = remove part.names (at - part.start) }

pub shorter-more : (at : ℕ) (part : Part) → 1 < part.len → shorter at (Some part) ≡ Some (less at part)
shorter-more at part more = cond-true (nat_lt 1 part.len) _ None (grind (arith, common_steps))

pub shorter-only : (at : ℕ) (part : Part) → part.len ≤ 1 → shorter at (Some part) ≡ None
shorter-only at part only = cond-false (nat_lt 1 part.len) _ None (grind (arith, common_steps))

module _ (path : List ℕ) (at : ℕ) (old : List (List ℕ × Part)) where
  pub shortens_more : (new : List (List ℕ × Part)) (part : Part) → value_at path old ≡ Some part → 1 < part.len
      → new ≡ set_at path old (less at part) → Shortens path at old new
  shortens_more new part there more is = record {
    own = ap (value_at path) is ∙ value_at-set_at path old part _ there ∙ sym (shorter-more at part more)
        ∙ ap (shorter at) (sym there);
    others = λ text d. ap (value_at text) is ∙ value_at-set_other path text old part _ there d;
  }

  pub shortens_gone : (mid new : List (List ℕ × Part)) → mid ≡ old → shorter at (value_at path old) ≡ None
      → new ≡ without path mid → value_at path new ≡ None → Shortens path at old new
  shortens_gone mid new same only is gone = record {
    own = gone ∙ sym only;
    others = λ text d. ap (value_at text) is ∙ value_at-without_other path text mid d ∙ ap (value_at text) same;
  }

  pub shortens_none : value_at path old ≡ None → Shortens path at old old
  shortens_none none = record { own = none ∙ sym (ap (shorter at) none); others = λ text d. refl }

-- ---- a domain's part

module _ (path : List ℕ) (at : ℕ) (old : DomainRows) (mid : List (List ℕ × Part))
    (shortens : Shortens path at old.paths mid) where
  takes : (paths : List (List ℕ × Part))
      → value_at path paths ≡ option_map (path_back at) (shorter at (value_at path old.paths))
      → OtherPathsMoveBack at path old.paths paths
      → Takes path at old (record { len = old.len - 1; paths = paths })
  takes paths own others = record { len = refl; own = own; others = others }

  pub takes_before_others : (paths : List (List ℕ × Part)) → paths ≡ with_values (path_back at) mid
      → Takes path at old (record { len = old.len - 1; paths = paths })
  takes_before_others paths moved =
      takes paths (value path ∙ ap (option_map (path_back at)) shortens.own)
      (λ text d. value text ∙ ap (option_map (path_back at)) (shortens.others text d))
    where
      value : (text : List ℕ) → value_at text paths ≡ option_map (path_back at) (value_at text mid)
      value text = ap (value_at text) moved ∙ value_at-with_values (path_back at) text mid

  -- no path begins behind the row
  pub takes_at_end : PathsInside old → old.len - 1 ≤ at
      → Takes path at old (record { len = old.len - 1; paths = mid })
  takes_at_end inside end =
      takes mid (shortens.own ∙ sym (shorter_stays (value_at path old.paths) (inside path)))
      (λ text d. shortens.others text d ∙ sym (stays (value_at text old.paths) (inside text)))
    where
      back : (part : Part) → part.start < old.len → option_map (path_back at) (Some part) ≡ Some part
      back part low = ap (λ n. Some (record part { start = n })) (not_back at part.start (omega (arith, low, end)))

      stays : (o : Option Part) → IfSome o (λ part. (0 < part.len) × (part.start + part.len ≤ old.len))
          → option_map (path_back at) o ≡ o
      stays None _ = refl
      stays (Some part) part_inside =
          let some = part_inside.0 in
          let within = part_inside.1 in
          back part (omega (arith, some, within))

      shorter_stays : (o : Option Part) → IfSome o (λ part. (0 < part.len) × (part.start + part.len ≤ old.len))
          → option_map (path_back at) (shorter at o) ≡ shorter at o
      shorter_stays None _ = refl
      shorter_stays (Some part) part_inside = by (cases_lt 1 part.len)
        where
          by : (1 < part.len) ⊎ (part.len ≤ 1)
              → option_map (path_back at) (shorter at (Some part)) ≡ shorter at (Some part)
          by (inl more) =
              let some = part_inside.0 in
              let within = part_inside.1 in
              let is = shorter-more at part more in
              ap (option_map (path_back at)) is
              ∙ back (less at part) (omega (arith, some, within)) ∙ sym is
          by (inr few) =
              let is = shorter-only at part few in ap (option_map (path_back at)) is ∙ sym is

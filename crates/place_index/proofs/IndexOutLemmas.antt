-- The index agrees with the rows after one fewer.
use Rattle.std.proofs.Common.{◌≡◌, ◌≢◌, ◌⊎◌, ◌+◌, ◌-◌, ◌<◌, ◌≤◌, ℕ, Bool, true, false, List, length, sym, subst}
use Rattle.std.proofs.Common.{◌∙◌, inl, inr, arith, true≢false, suc}
use Rattle.std.specs.Prelude.{Option, Some, None, slice_get, option_map, nat_lt}
use Rattle.std.specs.List.{remove}
use Rattle.std.proofs.lemmas.Bool.{cases_lt, cond-true, cond-false}
use Rattle.std.proofs.lemmas.Grind.{common_steps}
use Rattle.std.proofs.lemmas.Option.{slice_get_within}
use Rattle.place_index.specs.Entries.{value_at}
use Rattle.place_index.specs.Places.{Place, is_of, is_at}
use Rattle.place_index.specs.Index.{DomainPart}
use Rattle.place_index.specs.Parts.{Part}
use Rattle.place_index.specs.Index.{Index, IsPart, IsNowhere, PathAgrees, PathsAgree, DomainAgrees, PartsAgree}
use Rattle.place_index.specs.Taking.{moved_back, domain_back, path_back, OthersMoveBack, OtherPathsMoveBack}
use Rattle.place_index.specs.Taking.{EndsDomain, EndsPath, ShrinksPath}
use Rattle.place_index.proofs.PartLemmas.{nested, part_after_out, part_before_out, part_shrinks, part_ends}
use Rattle.place_index.proofs.PartLemmas.{nowhere_stays_out}
use Rattle.place_index.proofs.IndexLemmas.{path_domain, domain_no_path, own_domain, own_path, text_cases, foreign}
use Rattle.place_index.proofs.IndexLemmas.{foreign_path, agrees_at, path_at}

-- ---- where a part goes

pub one_back : (p at : ℕ) → p < at → moved_back p at ≡ at - 1
one_back p at l = cond-true (nat_lt p at) (at - 1) at (grind (arith, common_steps))

pub not_back : (p at : ℕ) → at ≤ p → moved_back p at ≡ at
not_back p at le = cond-false (nat_lt p at) (at - 1) at (grind (arith, common_steps))

-- a part counted from start goes as it would in the vector
back_within : (start q at : ℕ) → moved_back (start + q) (start + at) ≡ start + moved_back q at
back_within start q at = by (cases_lt q at)
  where
    by : (q < at) ⊎ (at ≤ q) → moved_back (start + q) (start + at) ≡ start + moved_back q at
    by (inl l) =
        let a = one_back (start + q) (start + at) (omega (arith, l)) in
        let b = one_back q at l in
        omega (arith, a, b, l)
    by (inr le) =
        let a = not_back (start + q) (start + at) (omega (arith, le)) in
        let b = not_back q at le in
        omega (arith, a, b)

module _ (rows : List Place) (p : ℕ) (x : Place) (there : slice_get rows p ≡ Some x) where
  abbrev pub lt : p < length rows
  lt = slice_get_within rows p x there

  -- x isn't in the part, which begins behind it or ends before
  side : (test : Place → Bool) (start len : ℕ) → IsPart test rows start len → test x ≡ false
      → (p < start) ⊎ (start + len ≤ p)
  side test start len part fails = by (cases_lt p start) (cases_lt p (start + len))
    where
      by : (p < start) ⊎ (start ≤ p) → (p < start + len) ⊎ (start + len ≤ p) → (p < start) ⊎ (start + len ≤ p)
      by (inl l) k = inl l
      by (inr le) (inr k) = inr k
      by (inr le) (inl l) = absurd (true≢false (sym (part.inside p x le l there) ∙ fails))

  -- x is in the part
  pub in_part : (test : Place → Bool) (start len : ℕ) → IsPart test rows start len → test x ≡ true
      → (start ≤ p) × (p < start + len)
  in_part test start len part passes = (low (cases_lt p start), high (cases_lt p (start + len)))
    where
      low : (p < start) ⊎ (start ≤ p) → start ≤ p
      low (inr le) = le
      low (inl l) = absurd (true≢false (sym passes ∙ part.before p x l there))

      high : (p < start + len) ⊎ (start + len ≤ p) → p < start + len
      high (inl l) = l
      high (inr le) = absurd (true≢false (sym passes ∙ part.after p x le there))

  part_back : (test : Place → Bool) (start len : ℕ) → IsPart test rows start len → test x ≡ false
      → IsPart test (remove rows p) (moved_back p start) len
  part_back test start len part fails = by (side test start len part fails)
    where
      by : (p < start) ⊎ (start + len ≤ p) → IsPart test (remove rows p) (moved_back p start) len
      by (inl low) =
          let e : start ≡ suc (start - 1) = omega (arith, low) in
          subst (λ n. IsPart test (remove rows p) n len) (sym (one_back p start low))
          (part_after_out test rows p lt (start - 1) len (subst (λ n. IsPart test rows n len) e part)
          (omega (arith, low)))
      by (inr high) =
          subst (λ n. IsPart test (remove rows p) n len) (sym (not_back p start (omega (arith, high))))
          (part_before_out test rows p lt start len part high)

  -- a path of a domain that isn't x's
  path_goes_back : (domain text : List ℕ) (start len : ℕ) → IsPart (is_of domain) rows start len
      → is_of domain x ≡ false → (path : Option Part) → PathAgrees rows domain start text path
      → PathAgrees (remove rows p) domain (moved_back p start) text path
  path_goes_back domain text start len part fails None none = nowhere_stays_out (is_at domain text) rows p lt none
  path_goes_back domain text start len part fails (Some path) is =
      subst (λ n. IsPart (is_at domain text) (remove rows p) n path.len)
      (start_back (side (is_of domain) start len part fails))
      (part_back (is_at domain text) (start + path.start) path.len is (domain_no_path domain text x fails))
    where
      start_back : (p < start) ⊎ (start + len ≤ p)
          → moved_back p (start + path.start) ≡ moved_back p start + path.start
      start_back (inl low) =
          let a = one_back p (start + path.start) (omega (arith, low)) in
          let b = one_back p start low in
          omega (arith, a, b, low)
      start_back (inr high) =
          let n = nested (is_of domain) (is_at domain text) rows start len (start + path.start) path.len part is
          (path_domain domain text) in
          let inner = n.1 in
          let a = not_back p (start + path.start) (omega (arith, inner, high)) in
          let b = not_back p start (omega (arith, high)) in
          omega (arith, a, b)

  -- a domain that isn't x's
  domain_goes_back : (domain : List ℕ) → is_of domain x ≡ false → (part : Option DomainPart)
      → DomainAgrees rows domain part → DomainAgrees (remove rows p) domain (option_map (domain_back p) part)
  domain_goes_back domain fails None none = nowhere_stays_out (is_of domain) rows p lt none
  domain_goes_back domain fails (Some part) is = (
    part_back (is_of domain) part.start part.len is.0 fails,
    λ text. path_goes_back domain text part.start part.len is.0 fails (value_at text part.paths) (is.1 text),
  )

  -- another path of x's domain, which begins at start
  own_path_goes_back : (domain text : List ℕ) (start q : ℕ) → p ≡ start + q → is_at domain text x ≡ false
      → (path : Option Part) → PathAgrees rows domain start text path
      → PathAgrees (remove rows p) domain start text (option_map (path_back q) path)
  own_path_goes_back domain text start q at fails None none = nowhere_stays_out (is_at domain text) rows p lt none
  own_path_goes_back domain text start q at fails (Some path) is =
      subst (λ n. IsPart (is_at domain text) (remove rows p) n path.len)
      ((λ i. moved_back (at i) (start + path.start)) ∙ back_within start q path.start)
      (part_back (is_at domain text) (start + path.start) path.len is fails)

  -- a part that x is in, with others
  own_shrinks : (test : Place → Bool) (start len : ℕ) → IsPart test rows start len → test x ≡ true → 1 < len
      → IsPart test (remove rows p) start (len - 1)
  own_shrinks test start len part passes more =
      let inside = in_part test start len part passes in
      let low = inside.0 in
      let high = inside.1 in
      let e : len ≡ suc (len - 1) = omega (arith, more) in
      part_shrinks test rows p lt start (len - 1) (subst (λ n. IsPart test rows start n) e part) (omega (arith, more))
      low (omega (arith, high, more))

  -- a part that x is in alone
  own_ends : (test : Place → Bool) (start len : ℕ) → IsPart test rows start len → test x ≡ true → len ≡ 1
      → IsNowhere test (remove rows p)
  own_ends test start len part passes only =
      let inside = in_part test start len part passes in
      let low = inside.0 in
      let high = inside.1 in
      part_ends test rows p lt start (subst (λ n. IsPart test rows start n) only part) (omega (arith, low, high, only))

-- ---- the three removals

module _ (rows : List Place) (x : Place) (p : ℕ) (old new : Index) (agrees : PartsAgree rows old)
    (there : slice_get rows p ≡ Some x) where
  -- the other domains
  others_agree : OthersMoveBack p x.domain old new → (domain : List ℕ) → domain ≢ x.domain
      → DomainAgrees (remove rows p) domain (value_at domain new)
  others_agree others domain d =
      agrees_at (remove rows p) domain _ _ (others domain d)
      (domain_goes_back rows p x there domain (foreign x domain d) (value_at domain old) (agrees domain))

  own_domain_agrees : (part : DomainPart) → value_at x.domain old ≡ Some part
      → DomainAgrees rows x.domain (Some part)
  own_domain_agrees part is = subst (DomainAgrees rows x.domain) is (agrees x.domain)

  -- the index agrees where x's domain does
  agrees_by_own : OthersMoveBack p x.domain old new → DomainAgrees (remove rows p) x.domain (value_at x.domain new)
      → PartsAgree (remove rows p) new
  agrees_by_own others own domain = text_cases domain x.domain
      (λ e. subst (λ t. DomainAgrees (remove rows p) t (value_at t new)) (sym e) own)
      (others_agree others domain)

  -- the domain's only row
  pub ends_domain : EndsDomain x p old new → PartsAgree (remove rows p) new
  ends_domain b =
      agrees_by_own b.others (agrees_at (remove rows p) x.domain _ None b.ended
      (own_ends rows p x there (is_of x.domain) b.part.start b.part.len (own_domain_agrees b.part b.there).0
      (own_domain x) b.only))

  -- a row of a domain that has others: the paths
  in_domain : (part : DomainPart) → value_at x.domain old ≡ Some part → 1 < part.len → (paths : List (List ℕ × Part))
      → value_at x.domain new ≡ Some (record { start = part.start; len = part.len - 1; paths = paths })
      → OtherPathsMoveBack (p - part.start) x.path part.paths paths → OthersMoveBack p x.domain old new
      → PathAgrees (remove rows p) x.domain part.start x.path (value_at x.path paths)
      → PartsAgree (remove rows p) new
  in_domain part is more paths shrunk other_paths others own_path_agrees =
      agrees_by_own others (agrees_at (remove rows p) x.domain _ _ shrunk
      (own_shrinks rows p x there (is_of x.domain) part.start part.len own.0 (own_domain x) more, paths_agree))
    where
      own : DomainAgrees rows x.domain (Some part)
      own = own_domain_agrees part is

      at : p ≡ part.start + (p - part.start)
      at =
          let inside = in_part rows p x there (is_of x.domain) part.start part.len own.0 (own_domain x) in
          let low = inside.0 in omega (arith, low)

      paths_agree : PathsAgree (remove rows p) x.domain
          (record { start = part.start; len = part.len - 1; paths = paths })
      paths_agree text = text_cases text x.path
          (λ e. subst (λ t. PathAgrees (remove rows p) x.domain part.start t (value_at t paths)) (sym e)
          own_path_agrees)
          (λ d. path_at (remove rows p) x.domain part.start text _ _ (other_paths text d)
          (own_path_goes_back rows p x there x.domain text part.start (p - part.start) at (foreign_path x text d)
          (value_at text part.paths) (own.1 text)))

  own_path_agrees : (part : DomainPart) (path : Part) → value_at x.domain old ≡ Some part
      → value_at x.path part.paths ≡ Some path → PathAgrees rows x.domain part.start x.path (Some path)
  own_path_agrees part path is path_is =
      subst (PathAgrees rows x.domain part.start x.path) path_is ((own_domain_agrees part is).1 x.path)

  -- the path's only row
  pub ends_path : EndsPath x p old new → PartsAgree (remove rows p) new
  ends_path b =
      in_domain b.part b.there b.more b.paths b.shrunk b.other_paths b.others
      (path_at (remove rows p) x.domain b.part.start x.path _ None b.path_ended
      (own_ends rows p x there (is_at x.domain x.path) (b.part.start + b.path.start) b.path.len
      (own_path_agrees b.part b.path b.there b.path_there) (own_path x) b.only))

  -- a row of a path that has others
  pub shrinks_path : ShrinksPath x p old new → PartsAgree (remove rows p) new
  shrinks_path b =
      in_domain b.part b.there domain_more b.paths b.shrunk b.other_paths b.others
      (path_at (remove rows p) x.domain b.part.start x.path _ _ b.path_shrunk
      (own_shrinks rows p x there (is_at x.domain x.path) (b.part.start + b.path.start) b.path.len mine (own_path x)
      b.more))
    where
      mine : IsPart (is_at x.domain x.path) rows (b.part.start + b.path.start) b.path.len
      mine = own_path_agrees b.part b.path b.there b.path_there

      domain_more : 1 < b.part.len
      domain_more =
          let n = nested (is_of x.domain) (is_at x.domain x.path) rows b.part.start b.part.len
          (b.part.start + b.path.start) b.path.len (own_domain_agrees b.part b.there).0 mine
          (path_domain x.domain x.path) in
          let inner = n.1 in
          let more = b.more in
          omega (arith, inner, more)

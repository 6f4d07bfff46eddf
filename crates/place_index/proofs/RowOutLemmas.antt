-- An index after a row was taken out.
use Rattle.std.proofs.Common.{◌≡◌, ◌⊎◌, ◌+◌, ◌-◌, ◌<◌, ◌≤◌, ℕ, List, refl, sym, ap, subst, ◌∙◌}
use Rattle.std.proofs.Common.{inl, inr, arith, true≢false}
use Rattle.std.specs.Prelude.{Option, Some, None, slice_get, option_map}
use Rattle.std.specs.List.{remove}
use Rattle.std.proofs.lemmas.Bool.{cases_lt}
use Rattle.place_index.specs.Entries.{value_at, set_at, without, with_values}
use Rattle.place_index.specs.Index.{Index, DomainPart, DomainAgrees, PathAgrees, PathsInside, Agrees}
use Rattle.place_index.specs.Places.{Place, is_of, is_at}
use Rattle.place_index.specs.Index.{part_at}
use Rattle.place_index.specs.Taking.{BeginsBy, HasRow, TakesPlace, OthersMoveBack, domain_back, path_back, shorter}
use Rattle.place_index.specs.Taking.{Takes}
use Rattle.place_index.specs.declared.part.DomainRows.{DomainRows}
use Rattle.place_index.specs.Parts.{Part}
use Rattle.place_index.proofs.EntryLemmas.{value_at-with_values}
use Rattle.place_index.proofs.IndexLemmas.{own_domain, own_path, paths_inside}
use Rattle.place_index.proofs.IndexOutLemmas.{in_part, not_back}
use Rattle.place_index.proofs.NameLemmas.{domain_ended, path_ended, path_shrunk}
use Rattle.place_index.proofs.TakingLemmas.{value_at-set_at, value_at-set_other, value_at-without_other, shorter-more}
use Rattle.place_index.proofs.TakingLemmas.{shorter-only}

module _ (row : Place) (p : ℕ) (index : Index) (places : List Place) (agrees : Agrees places index)
    (here : slice_get places p ≡ Some row) where
  domain_agrees : (o : Option DomainPart) → value_at row.domain index ≡ o → DomainAgrees places row.domain o
  domain_agrees o is = subst (DomainAgrees places row.domain) is (agrees.parts row.domain)

  pub low_in_domain : (part : DomainPart) → value_at row.domain index ≡ Some part → part.start ≤ p
  low_in_domain part is =
      (in_part places p row here (is_of row.domain) part.start part.len (domain_agrees (Some part) is).0
      (own_domain row)).0

  path_agrees : (part : DomainPart) → value_at row.domain index ≡ Some part → (o : Option Part)
      → value_at row.path part.paths ≡ o → PathAgrees places row.domain part.start row.path o
  path_agrees part is o path_is =
      subst (PathAgrees places row.domain part.start row.path) path_is ((domain_agrees (Some part) is).1 row.path)

  low_in_path : (part : DomainPart) → value_at row.domain index ≡ Some part → (path : Part)
      → value_at row.path part.paths ≡ Some path → part.start + path.start ≤ p
  low_in_path part is path path_is =
      (in_part places p row here (is_at row.domain row.path) (part.start + path.start) path.len
      (path_agrees part is (Some path) path_is) (own_path row)).0

-- the row there
abbrev row_of : (domain path : List ℕ) (p : ℕ) (index : Index) → HasRow domain path p index → Place
row_of domain path p index has = record { domain = domain; path = path; name = has.name }

module _ (domain path : List ℕ) (p : ℕ) (index : Index) (has : HasRow domain path p index) where
  -- the part of the row's domain begins at the row or before
  pub starts_before : (part : DomainPart) → value_at domain index ≡ Some part → part.start ≤ p
  starts_before part is =
      low_in_domain (row_of domain path p index has) p index has.places has.agrees has.there part is

  -- its paths' parts lie in it
  pub inside_of : (start : ℕ) (part : DomainRows) → value_at domain index ≡ Some (part_at start part)
      → PathsInside part
  inside_of start part is =
      paths_inside has.places domain (part_at start part)
      (domain_agrees (row_of domain path p index has) p index has.places has.agrees has.there
      (Some (part_at start part)) is)

  -- the part of the row's path begins at the row or before
  pub begun_by : (start inner : ℕ) (part : DomainRows) → value_at domain index ≡ Some (part_at start part)
      → inner ≡ p - start → BeginsBy inner (value_at path part.paths)
  begun_by start inner part is from = by (value_at path part.paths) refl
    where
      by : (o : Option Part) → value_at path part.paths ≡ o → BeginsBy inner o
      by None none = tt
      by (Some own) path_is =
          let low = low_in_path (row_of domain path p index has) p index has.places has.agrees has.there
          (part_at start part) is own path_is in
          omega (arith, low, from)

module _ (row : Place) (p : ℕ) (old mid new : Index) (is : new ≡ with_values (domain_back p) mid) where
  value : (text : List ℕ) → value_at text new ≡ option_map (domain_back p) (value_at text mid)
  value text = ap (value_at text) is ∙ value_at-with_values (domain_back p) text mid

  -- the row's domain has others
  module _ (start : ℕ) (part w : DomainRows) (there : value_at row.domain old ≡ Some (part_at start part))
      (more : 1 < part.len) (t : Takes row.path (p - start) part w)
      (put : mid ≡ set_at row.domain old (part_at start w)) where
    others : OthersMoveBack p row.domain old new
    others text d =
        value text
        ∙ ap (λ es. option_map (domain_back p) (value_at text es)) put
        ∙ ap (option_map (domain_back p))
        (value_at-set_other row.domain text old (part_at start part) (part_at start w) there d)

    shrunk : start ≤ p
        → value_at row.domain new ≡ Some (record { start = start; len = part.len - 1; paths = w.paths })
    shrunk low =
        let stays = not_back p start (omega (arith, low)) in
        value row.domain
        ∙ ap (λ es. option_map (domain_back p) (value_at row.domain es)) put
        ∙ ap (option_map (domain_back p))
        (value_at-set_at row.domain old (part_at start part) (part_at start w) there)
        ∙ (λ i. Some (record { start = stays i; len = t.len i; paths = w.paths }))

    pub takes_more : TakesPlace row p old new
    takes_more places agrees here = by (value_at row.path part.paths) refl
      where
        whole : DomainPart
        whole = part_at start part

        low : start ≤ p
        low = low_in_domain row p old places agrees here whole there

        own : (path : Part) → value_at row.path part.paths ≡ Some path
            → value_at row.path w.paths ≡ option_map (path_back (p - start)) (shorter (p - start) (Some path))
        own path path_is = t.own ∙ ap (λ o. option_map (path_back (p - start)) (shorter (p - start) o)) path_is

        by_len : (path : Part) → value_at row.path part.paths ≡ Some path → (1 < path.len) ⊎ (path.len ≤ 1)
            → Agrees (remove places p) new
        by_len path path_is (inl many) =
            let q = p - start in
            let inner = low_in_path row p old places agrees here whole there path path_is in
            let stays = not_back q path.start (omega (arith, inner)) in
            path_shrunk places row p old new agrees here (record {
              part = whole;
              there = there;
              path = path;
              path_there = path_is;
              more = many;
              paths = w.paths;
              shrunk = shrunk low;
              path_shrunk = own path path_is ∙ ap (option_map (path_back q)) (shorter-more q path many)
                  ∙ (λ i. Some (record {
                    start = stays i;
                    len = path.len - 1;
                    names = remove path.names (q - path.start);
                  }));
              other_paths = t.others;
              others = others;
            })
        by_len path path_is (inr few) =
            let some = (path_agrees row p old places agrees here whole there (Some path) path_is).some in
            path_ended places row p old new agrees here (record {
              part = whole;
              there = there;
              more = more;
              path = path;
              path_there = path_is;
              only = omega (arith, some, few);
              paths = w.paths;
              shrunk = shrunk low;
              path_ended = own path path_is
                  ∙ ap (option_map (path_back (p - start))) (shorter-only (p - start) path few);
              other_paths = t.others;
              others = others;
            })

        by : (o : Option Part) → value_at row.path part.paths ≡ o → Agrees (remove places p) new
        by None none =
            let nowhere = path_agrees row p old places agrees here whole there None none in
            absurd (true≢false (sym (own_path row) ∙ nowhere p row here))
        by (Some path) path_is = by_len path path_is (cases_lt 1 path.len)

  -- the row's domain has no more
  pub takes_only : (part : DomainPart) → value_at row.domain old ≡ Some part → part.len ≤ 1
      → mid ≡ without row.domain old → value_at row.domain mid ≡ None → TakesPlace row p old new
  takes_only part there few out gone places agrees here =
      let some = (domain_agrees row p old places agrees here (Some part) there).0.some in
      domain_ended places row p old new agrees here (record {
        part = part;
        there = there;
        only = omega (arith, some, few);
        ended = value row.domain ∙ ap (option_map (domain_back p)) gone;
        others = λ text d. value text ∙ ap (λ es. option_map (domain_back p) (value_at text es)) out
            ∙ ap (option_map (domain_back p)) (value_at-without_other row.domain text old d);
      })

-- the row's domain has a part
pub takes_none : (row : Place) (p : ℕ) (old new : Index) → value_at row.domain old ≡ None → TakesPlace row p old new
takes_none row p old new none places agrees here =
    let nowhere = domain_agrees row p old places agrees here None none in
    absurd (true≢false (sym (own_domain row) ∙ nowhere p row here))

-- An index after a row of a domain that is there.
use Rattle.std.proofs.Common.{◌≡◌, ◌≢◌, ◌+◌, ◌<◌, ◌≤◌, ℕ, List, [], ◌∷◌, length, refl, sym, ap, subst, ◌∙◌, inl}
use Rattle.std.proofs.Common.{inr, arith, false}
use Rattle.std.specs.Prelude.{Result, Ok, Err, OnErr, Option, Some, None, IfSome, option_map}
use Rattle.std.specs.List.{list_any}
use Rattle.std.specs.Str.{bytes_eq}
use Rattle.std.proofs.lemmas.Bool.{false_from_ne_true}
use Rattle.place_index.specs.Entries.{value_at, set_at, with_value, with_values}
use Rattle.place_index.specs.Index.{Index, Agrees, DomainPart, DomainAgrees, OthersMove, moved_domain, moved_path}
use Rattle.place_index.specs.Index.{BeginsPath, GrowsPath, last, names_in, names_of}
use Rattle.place_index.specs.Places.{Place}
use Rattle.place_index.specs.Putting.{HasRoom, Puts, PutsAt, IsReady}
use Rattle.place_index.specs.Index.{part_at}
use Rattle.place_index.specs.declared.part.DomainRows.{DomainRows}
use Rattle.place_index.specs.Parts.{Part}
use Rattle.place_index.proofs.EntryLemmas.{same_text, value_at-with_values}
use Rattle.place_index.proofs.EndLemmas.{end_new, end_path, end_row}
use Rattle.place_index.proofs.IndexLemmas.{not_moved, value_at-with_value, value_at-with_other, paths_inside}
use Rattle.place_index.proofs.NameLemmas.{any_named, domain_begun, path_begun, path_grown}
use Rattle.place_index.proofs.TakingLemmas.{value_at-set_at, value_at-set_other}

-- whatever rows the index was that of, so many of them, each other domain's part is where it was or one further
abbrev pub OthersMoveOf : Place → ℕ → ℕ → Index → Index → Type 0
OthersMoveOf row p rows old new =
    (places : List Place) → Agrees places old → length places ≡ rows → OthersMove p row.domain old new

module _ (row : Place) (p rows : ℕ) (old new : Index) (start : ℕ) (part w : DomainRows)
    (there : value_at row.domain old ≡ Some (part_at start part))
    (grown : value_at row.domain new ≡ Some (part_at start w))
    (others : OthersMoveOf row p rows old new) where
  pub puts_row : (inner : ℕ) → p ≡ start + inner → rows < last → Puts row.path row.name part w inner
      → PutsAt row rows old new p
  puts_row inner at room (inl b) places agrees counted =
      let e = b.at_end in
      let begins : BeginsPath row p old new
      = record {
        part = part_at start part;
        there = there;
        absent = b.absent;
        at = omega (arith, at, e);
        grown = grown ∙ ap (λ d. Some (part_at start d)) b.is;
        others = others places agrees counted;
      } in (
        path_begun places row p old new agrees (omega (arith, counted, room)) begins,
        end_path row places p old new agrees.parts begins,
      )
  puts_row inner at room (inr b) places agrees counted =
      let e = b.at_end in
      let grows : GrowsPath row p old new
      = record {
        part = part_at start part;
        there = there;
        path = b.part;
        path_there = b.there;
        at = omega (arith, at, e);
        paths = w.paths;
        grown = grown ∙ ap (λ n. Some (record { start = start; len = n; paths = w.paths })) b.len;
        path_grown = b.grown;
        other_paths = λ text d. b.others text d ∙ ap (λ n. option_map (moved_path n) (value_at text part.paths)) e;
        others = others places agrees counted;
      } in (
        path_grown places row p old new agrees (omega (arith, counted, room)) grows,
        end_row row places p old new agrees.parts grows,
      )

pub has_room : (row : Place) (rows : ℕ) (index : Index) (start : ℕ) (part : DomainRows) → IsReady row rows index
    → value_at row.domain index ≡ Some (part_at start part) → HasRoom row.path row.name part × (0 < part.len)
has_room row rows index start part ready there =
    let own = subst (DomainAgrees ready.places row.domain) there (ready.agrees.parts row.domain) in
    let room = ready.room in
    let within = own.0.within in
    let counted = ready.counted in (
      record {
        room = omega (arith, room, within, counted);
        inside = paths_inside ready.places row.domain (part_at start part) own;
        absent = absent (value_at row.path part.paths) refl;
      },
      own.0.some,
    )
  where
    named : list_any (bytes_eq row.name) (names_in row.path (value_at row.domain index)) ≡ false
    named = ap (list_any (bytes_eq row.name)) (ready.agrees.names row.domain row.path) ∙ any_named row ready.places
        ∙ ready.absent

    absent : (path : Option Part) → value_at row.path part.paths ≡ path
        → IfSome path (λ q. list_any (bytes_eq row.name) q.names ≡ false)
    absent None is = tt
    absent (Some path) is =
        ap (list_any (bytes_eq row.name)) (sym (ap (names_in row.path) there ∙ ap names_of is)) ∙ named

-- a row more of the domain goes no further than the last row
pub row_fits : (row : Place) (rows : ℕ) (index : Index) (start : ℕ) (part w : DomainRows) (inner : ℕ)
    → IsReady row rows index → value_at row.domain index ≡ Some (part_at start part)
    → Puts row.path row.name part w inner → start + inner ≤ last
row_fits row rows index start part w inner ready there puts = by puts
  where
    own : DomainAgrees ready.places row.domain (Some (part_at start part))
    own = subst (DomainAgrees ready.places row.domain) there (ready.agrees.parts row.domain)

    low : inner ≤ part.len → start + inner ≤ last
    low within =
        let all = own.0.within in
        let counted = ready.counted in
        let room = ready.room in
        omega (arith, within, all, counted, room)

    by : Puts row.path row.name part w inner → start + inner ≤ last
    by (inl b) = let e = b.at_end in low (omega (arith, e))
    by (inr b) =
        let e = b.at_end in
        let inside = subst (λ o. IfSome o (λ q. (0 < q.len) × (q.start + q.len ≤ part.len))) b.there
        (paths_inside ready.places row.domain (part_at start part) own row.path) in
        let within = inside.1 in
        low (omega (arith, e, within))

module _ (row : Place) (p rows : ℕ) (old lent : Index) (start : ℕ) (part w : DomainRows)
    (there : value_at row.domain old ≡ Some (part_at start part))
    (is : lent ≡ set_at row.domain old (part_at start w)) where
  own : value_at row.domain lent ≡ Some (part_at start w)
  own = ap (value_at row.domain) is ∙ value_at-set_at row.domain old (part_at start part) (part_at start w) there

  other : (text : List ℕ) → text ≢ row.domain → value_at text lent ≡ value_at text old
  other text d =
      ap (value_at text) is
      ∙ value_at-set_other row.domain text old (part_at start part) (part_at start w) there d

  module _ (inner : ℕ) (at : p ≡ start + inner) (room : rows < last) (has : HasRoom row.path row.name part)
      (some : 0 < part.len) (puts : Puts row.path row.name part w inner) where
    low : Puts row.path row.name part w inner → start < p
    low (inl b) = let e = b.at_end in omega (arith, e, some, at)
    low (inr b) =
        let e = b.at_end in
        let part_inside = subst (λ o. IfSome o (λ q. (0 < q.len) × (q.start + q.len ≤ part.len))) b.there
        (has.inside row.path) in
        let more = part_inside.0 in
        omega (arith, e, more, at)

    -- the domains behind are moved
    pub puts_before_others : (new : Index) → new ≡ with_values (moved_domain p) lent → PutsAt row rows old new p
    puts_before_others new moved =
        puts_row row p rows old new start part w there
        (value row.domain ∙ ap (option_map (moved_domain p)) own
        ∙ ap (λ n. Some (part_at n w)) (not_moved p start (low puts)))
        (λ _ _ _ text d. value text ∙ ap (option_map (moved_domain p)) (other text d)) inner at room puts
      where
        value : (text : List ℕ) → value_at text new ≡ option_map (moved_domain p) (value_at text lent)
        value text = ap (value_at text) moved ∙ value_at-with_values (moved_domain p) text lent

    -- no domain begins there or later
    pub puts_at_end : rows ≤ p → PutsAt row rows old lent p
    puts_at_end end = puts_row row p rows old lent start part w there own others inner at room puts
      where
        stays : (places : List Place) → length places ≤ p → (text : List ℕ) (o : Option DomainPart)
            → DomainAgrees places text o → option_map (moved_domain p) o ≡ o
        stays places few text None _ = refl
        stays places few text (Some d) is =
            let d_some = is.0.some in
            let within = is.0.within in
            ap (λ n. Some (record d { start = n })) (not_moved p d.start (omega (arith, d_some, within, few)))

        others : OthersMoveOf row p rows old lent
        others places agrees counted text d =
            other text d
            ∙ sym (stays places (omega (arith, counted, end)) text (value_at text old) (agrees.parts text))

pub puts_first : (row : Place) (rows : ℕ) (old new : Index) → rows < last → value_at row.domain old ≡ None
    → new ≡ with_value old row.domain (record {
      start = rows;
      len = 1;
      paths = (row.path, record { start = 0; len = 1; names = row.name ∷ [] }) ∷ [];
    })
    → PutsAt row rows old new rows
puts_first row rows old new room absent is places agrees counted = (
  domain_begun places row rows old new agrees (omega (arith, counted, room)) (sym counted) (record {
    absent = absent;
    begun = ap (value_at row.domain) is ∙ value_at-with_value row.domain old _;
    others = λ text d. ap (value_at text) is ∙ value_at-with_other row.domain text old _
        (false_from_ne_true (bytes_eq text row.domain) (λ e. d (same_text text row.domain e)));
  }),
  sym (end_new row places old agrees.parts absent ∙ counted),
)

pub on_err : {T E : Type 0} {P : Type 0} (r : Result T E) → P → OnErr r P
on_err (Ok x) p = tt
on_err (Err x) p = p

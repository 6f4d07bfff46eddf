-- Where the row of a place stands, by what an index has for its texts.
use Rattle.std.proofs.Common.{Bool, ◌≡◌, ◌∙◌, ◌+◌, ◌<◌, ◌≤◌, ◌^◌, ℕ, List, false, true, refl, ap, subst}
use Rattle.std.proofs.Common.{sym, arith}
use Rattle.std.specs.Prelude.{IfSome, Option, Some, None, filter, option_map, position, slice_get}
use Rattle.std.specs.List.{list_any}
use Rattle.std.specs.Str.{bytes_eq}
use Rattle.std.proofs.lemmas.Bool.{and_parts, cond-false, cond-true}
use Rattle.std.proofs.lemmas.Option.{none-some, same_Some, slice_get-map, slice_get_within}
use Rattle.place_index.specs.Entries.{value_at}
use Rattle.place_index.specs.Found.{AllFit, Fits, looks_up}
use Rattle.place_index.specs.Index.{Agrees, DomainAgrees, DomainPart, Index, IsIndex, IsPart, PathAgrees}
use Rattle.place_index.specs.Index.{last}
use Rattle.place_index.specs.Index.{names_in, names_of}
use Rattle.place_index.specs.Places.{Place, is_at, is_of, is_same}
use Rattle.place_index.specs.Parts.{Part}
use Rattle.place_index.proofs.EndLemmas.{any_of_part, none_any}
use Rattle.place_index.proofs.EntryLemmas.{same_text}
use Rattle.place_index.proofs.NameLemmas.{any_named, filter-passes, filter_at, position-found, position-none}

module _ (row : Place) (index : Index) where
  -- none has the names' name
  pub not_named : (names : List (List ℕ)) → names_in row.path (value_at row.domain index) ≡ names
      → list_any (bytes_eq row.name) names ≡ false → (places : List Place) → Agrees places index
      → list_any (is_same row) places ≡ false
  not_named names is none places agrees =
      sym (any_named row places)
      ∙ ap (list_any (bytes_eq row.name)) (sym (agrees.names row.domain row.path) ∙ is) ∙ none

  pub no_domain : value_at row.domain index ≡ None → (places : List Place) → Agrees places index
      → list_any (is_same row) places ≡ false
  no_domain absent = not_named _ (ap (names_in row.path) absent) refl

  module _ (part : DomainPart) (there : value_at row.domain index ≡ Some part) where
    pub no_path : value_at row.path part.paths ≡ None → (places : List Place) → Agrees places index
        → list_any (is_same row) places ≡ false
    no_path absent = not_named _ (ap (names_in row.path) there ∙ ap names_of absent) refl

    module _ (inner : Part) (is : value_at row.path part.paths ≡ Some inner) where
      pub no_name : position (bytes_eq row.name) inner.names ≡ None → (places : List Place) → Agrees places index
          → list_any (is_same row) places ≡ false
      no_name absent =
          not_named _ (ap (names_in row.path) there ∙ ap names_of is) (position-none row.name inner.names absent)

      -- the row of the name's place among the names
      pub stands_there : (k : ℕ) → position (bytes_eq row.name) inner.names ≡ Some k → (places : List Place)
          → Agrees places index → slice_get places (part.start + inner.start + k) ≡ Some row
      stands_there k found places agrees = by (slice_get own k) refl named
        where
          test : Place → Bool
          test = is_at row.domain row.path

          own : List Place
          own = filter test places

          part_is : IsPart test places (part.start + inner.start) inner.len
          part_is = subst (PathAgrees places row.domain part.start row.path) is
              ((subst (DomainAgrees places row.domain) there (agrees.parts row.domain)).1 row.path)

          named : option_map (λ r. r.name) (slice_get own k) ≡ Some row.name
          named =
              sym (slice_get-map (λ (r : Place). r.name) own k)
              ∙ ap (λ names. slice_get names k) (sym (agrees.names row.domain row.path)
              ∙ ap (names_in row.path) there ∙ ap names_of is)
              ∙ position-found row.name inner.names k found

          by : (o : Option Place) → slice_get own k ≡ o → option_map (λ r. r.name) o ≡ Some row.name
              → slice_get places (part.start + inner.start + k) ≡ Some row
          by None at e = absurd (none-some row.name e)
          by (Some r) at e =
              let both = and_parts (bytes_eq row.domain r.domain) (bytes_eq row.path r.path)
              (filter-passes test places k r at) in
              let domain = sym (same_text row.domain r.domain both.0) in
              let path = sym (same_text row.path r.path both.1) in
              let name = same_Some r.name row.name e in
              filter_at test places (part.start + inner.start) inner.len k r part_is at
              ∙ (λ i. Some (record { domain = domain i; path = path i; name = name i }))

      -- it can be numbered
      pub stands_low : (k : ℕ) → position (bytes_eq row.name) inner.names ≡ Some k → IsIndex index
          → part.start + inner.start + k ≤ last
      stands_low k found known =
          let within = slice_get_within known.places (part.start + inner.start + k) row
          (stands_there k found known.places known.agrees) in
          let room = known.room in
          omega (arith, within, room)

-- ---- how many questions that takes

module _ (row : Place) (index : Index) (places : List Place) (agrees : Agrees places index) where
  abbrev of_path : Place → Bool
  of_path = is_at row.domain row.path

  pub looks_one : value_at row.domain index ≡ None → looks_up row places ≡ 1
  looks_one absent =
      cond-false (list_any (is_of row.domain) places) _ _
      (none_any (is_of row.domain) places (subst (DomainAgrees places row.domain) absent (agrees.parts row.domain)))

  module _ (part : DomainPart) (there : value_at row.domain index ≡ Some part) where
    own : DomainAgrees places row.domain (Some part)
    own = subst (DomainAgrees places row.domain) there (agrees.parts row.domain)

    has_rows : list_any (is_of row.domain) places ≡ true
    has_rows = any_of_part (is_of row.domain) places part.start part.len own.0

    pub looks_two : value_at row.path part.paths ≡ None → looks_up row places ≡ 2
    looks_two absent =
        cond-true (list_any (is_of row.domain) places) _ _ has_rows
        ∙ cond-false (list_any of_path places) _ _
        (none_any of_path places (subst (PathAgrees places row.domain part.start row.path) absent (own.1 row.path)))

    pub looks_three : (inner : Part) → value_at row.path part.paths ≡ Some inner → looks_up row places ≡ 3
    looks_three inner is =
        cond-true (list_any (is_of row.domain) places) _ _ has_rows
        ∙ cond-true (list_any of_path places) _ _
        (any_of_part of_path places (part.start + inner.start) inner.len
        (subst (PathAgrees places row.domain part.start row.path) is (own.1 row.path)))

-- where each part ends is a number of 64 bits
pub all_fit : (index : Index) → IsIndex index → AllFit index
all_fit index known domain = of_domain (value_at domain index) (known.agrees.parts domain)
  where
    of_domain : (o : Option DomainPart) → DomainAgrees known.places domain o → IfSome o Fits
    of_domain None none = tt
    of_domain (Some part) own = λ path. of_path path (value_at path part.paths) (own.1 path)
      where
        of_path : (path : List ℕ) (o : Option Part) → PathAgrees known.places domain part.start path o
            → IfSome o (λ inner. part.start + inner.start + inner.len < 2 ^ 64)
        of_path path None none = tt
        of_path path (Some inner) is =
            let within = is.within in
            let room = known.room in
            omega (arith, within, room)

-- A plain list of rows and the places of the index that goes with it.
use Rattle.std.proofs.Common.{◌≡◌, ◌∙◌, ◌≤◌, ◌<◌, ◌∷◌, [], ℕ, List, length, sym, ap, subst, refl, zero, suc}
use Rattle.std.specs.Prelude.{Some, slice_get, option_map}
use Rattle.std.specs.List.{insert, remove}
use Rattle.std.proofs.lemmas.Option.{slice_get-map}
use Rattle.place_index.specs.Index.{Index, Agrees, IsIndex, last}
use Rattle.place_index.specs.Putting.{IsReady, PutsAt}
use Rattle.place_index.specs.Taking.{HasRow, TakesAt}
use Rattle.proved_tests.specs.Rows.{Row, place_of, places_of, AreIndexed, IsAbsent}

counted : (rows : List Row) → length (places_of rows) ≡ length rows
counted [] = refl
counted (row ∷ rows) = ap suc (counted rows)

insert_at : (rows : List Row) (i : ℕ) (row : Row)
    → places_of (insert rows i row) ≡ insert (places_of rows) i (place_of row)
insert_at rows zero row = refl
insert_at [] (suc i) row = refl
insert_at (x ∷ rows) (suc i) row = ap (λ l. place_of x ∷ l) (insert_at rows i row)

remove_at : (rows : List Row) (i : ℕ) → places_of (remove rows i) ≡ remove (places_of rows) i
remove_at [] zero = refl
remove_at [] (suc i) = refl
remove_at (x ∷ rows) zero = refl
remove_at (x ∷ rows) (suc i) = ap (λ l. place_of x ∷ l) (remove_at rows i)

module _ (rows : List Row) (index : Index) (are : AreIndexed rows index) where
  pub is_index : length rows ≤ last → IsIndex index
  is_index room =
      let n = counted rows in
      record { places = places_of rows; agrees = are; room = subst (λ n. n ≤ last) (sym n) room }

  module _ (n : ℕ) (is : n ≡ length rows) where
    pub is_ready : (row : Row) → IsAbsent row rows → n < last → IsReady (place_of row) n index
    is_ready row absent room = record {
      places = places_of rows;
      agrees = are;
      absent = absent;
      counted = counted rows ∙ sym is;
      room = room;
    }

    pub put_in : (row : Row) (at : ℕ) (new : Index) → PutsAt (place_of row) n index new at
        → AreIndexed (insert rows at row) new
    put_in row at new puts =
        subst (λ l. Agrees l new) (sym (insert_at rows at row)) (puts (places_of rows) are (counted rows ∙ sym is)).0

  module _ (at : ℕ) (row : Row) (there : slice_get rows at ≡ Some row) where
    place_there : slice_get (places_of rows) at ≡ Some (place_of row)
    place_there = slice_get-map place_of rows at ∙ ap (option_map place_of) there

    pub has_row : length rows ≤ last → HasRow row.0.now row.1.now at index
    has_row room =
        let n = counted rows in
        record {
          places = places_of rows;
          agrees = are;
          name = row.2.now;
          there = place_there;
          room = subst (λ n. n ≤ last) (sym n) room;
        }

    pub taken : (new : Index) → TakesAt row.0.now row.1.now at index new → AreIndexed (remove rows at) new
    taken new takes =
        subst (λ l. Agrees l new) (sym (remove_at rows at)) (takes row.2.now (places_of rows) are place_there)

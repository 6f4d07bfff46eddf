-- The items of cookies, one behind the other.
use Rattle.std.proofs.Common.{◌≡◌, ℕ, List, ◌∷◌, ◌++◌, ap, sym, ◌∙◌, append_assoc}
use Rattle.cookie_store.specs.Rows.{Row}
use Rattle.fonnalich_c.specs.Listing.{row_text, rows_text}

pub listed_more : (done later all : List ℕ) (left rest : List Row) (row : Row) → left ≡ row ∷ rest
    → later ≡ done ++ row_text row → done ++ rows_text left ≡ all → later ++ rows_text rest ≡ all
listed_more done later all left rest row is put far =
    ap (λ t. t ++ rows_text rest) put ∙ append_assoc done (row_text row) (rows_text rest)
    ∙ sym (ap (λ r. done ++ rows_text r) is) ∙ far

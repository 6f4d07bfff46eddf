-- What was written of the rows so far.
use Rattle.std.proofs.Common.{◌≡◌, ◌<◌, ◌+◌, ℕ, cond, List, [], ◌∷◌, ◌++◌, length, get_or, take, drop, map}
use Rattle.std.proofs.Common.{Option, Some, None, sym, ap, ◌∙◌, append_assoc, append-nil, arith, length-append}
use Rattle.std.specs.Borrow.{Bor}
use Rattle.std.specs.Prelude.{is_none}
use Rattle.std.specs.List.{flat_map}
use Rattle.std.proofs.lemmas.List.{map-append, take_more, take-append-drop}
use Rattle.std.proofs.lemmas.List.Concat.{flat_map-append}
use Rattle.std.proofs.lemmas.List.Elements.{filter-append}
use Rattle.cookie_store.specs.Rows.{Row}
use Rattle.cookie_store.specs.StoredCookie.{stored_of}
use Rattle.cookie_store.specs.declared.stored_cookie.Cookie.{Cookie}
use Rattle.cookies_txt.specs.Layout.{heading_text, line_text, text_for}
use Rattle.cookies_txt.specs.Writing.{AreHeld, IsFirstRefused, held, line_of_row, row_fault, rows_in}
use Rattle.cookies_txt.specs.declared.error.RowFault.{RowFault}
use Rattle.cookies_txt.specs.declared.readers.Reader.{Reader}

abbrev pub text_of : Reader → List Row → List ℕ
text_of r rows = text_for r (map line_of_row (held rows))

-- the rows so far are written, and so many of them are passed over
pub record WritesSoFar (r : Reader) (rows : List Row) (out : List ℕ) (passed : ℕ) : Type 0 where
  pub text : out ≡ text_of r rows
  pub passed_over : passed + length (held rows) ≡ length rows

held_push : (rows : List Row) (row : Row) (o : Option RowFault) → row_fault row ≡ o
    → held (rows ++ row ∷ []) ≡ held rows ++ cond (is_none o) (row ∷ []) []
held_push rows row o e =
    filter-append (λ row. is_none (row_fault row)) rows (row ∷ [])
    ∙ ap (λ f. held rows ++ cond (is_none f) (row ∷ []) []) e

text_push : (r : Reader) (rows : List Row) (row : Row)
    → text_for r (map line_of_row (rows ++ row ∷ []))
    ≡ text_for r (map line_of_row rows) ++ (line_text r (line_of_row row) ++ 10 ∷ [])
text_push r rows row =
    ap (text_for r) (map-append line_of_row rows (row ∷ []))
    ∙ (ap (λ t. heading_text ++ t)
    (flat_map-append (λ line. line_text r line ++ 10 ∷ []) (map line_of_row rows) (line_of_row row ∷ [])
    ∙ ap (λ t. flat_map (λ line. line_text r line ++ 10 ∷ []) (map line_of_row rows) ++ t)
    (append-nil (line_text r (line_of_row row) ++ 10 ∷ [])))
    ∙ sym (append_assoc heading_text (flat_map (λ line. line_text r line ++ 10 ∷ []) (map line_of_row rows))
    (line_text r (line_of_row row) ++ 10 ∷ [])))

pub writes_row : (r : Reader) (rows : List Row) (row : Row) (text new : List ℕ) (passed_over : ℕ)
    → WritesSoFar r rows text passed_over → None ≡ row_fault row
    → new ≡ text ++ (line_text r (line_of_row row) ++ 10 ∷ []) → WritesSoFar r (rows ++ row ∷ []) new passed_over
writes_row r rows row text new passed_over far fine put =
    let kept : held (rows ++ row ∷ []) ≡ held rows ++ row ∷ [] = held_push rows row None (sym fine) in
    record {
      text = put ∙ (ap (λ t. t ++ (line_text r (line_of_row row) ++ 10 ∷ [])) far.text
          ∙ (sym (text_push r (held rows) row) ∙ sym (ap (λ rs. text_for r (map line_of_row rs)) kept)));
      passed_over = omega (
        arith,
        far.passed_over,
        ap length kept ∙ length-append (held rows) (row ∷ []),
        length-append rows (row ∷ []),
      );
    }

pub writes_none : (r : Reader) (rows : List Row) (row : Row) (fault : RowFault) (text : List ℕ) (passed_over : ℕ)
    → WritesSoFar r rows text passed_over → Some fault ≡ row_fault row
    → WritesSoFar r (rows ++ row ∷ []) text (passed_over + 1)
writes_none r rows row fault text passed_over far refused =
    let kept : held (rows ++ row ∷ []) ≡ held rows =
    held_push rows row (Some fault) (sym refused) ∙ append-nil (held rows) in
    record {
      text = far.text ∙ sym (ap (λ rs. text_for r (map line_of_row rs)) kept);
      passed_over = omega (arith, far.passed_over, ap length kept, length-append rows (row ∷ []));
    }

-- one more row
pub rows_more : (cookies : List (Bor Cookie)) (i : ℕ) (cookie : Bor Cookie) → i < length cookies
    → cookie ≡ get_or cookies i cookie
    → rows_in (take (i + 1) cookies) ≡ rows_in (take i cookies) ++ stored_of cookie.now ∷ []
rows_more cookies i cookie within is =
    ap rows_in (take_more cookies i cookie within ∙ ap (λ c. take i cookies ++ c ∷ []) (sym is))
    ∙ map-append (λ c. stored_of c.now) (take i cookies) (cookie ∷ [])

pub held_more : (rows : List Row) (row : Row) → AreHeld rows → None ≡ row_fault row → AreHeld (rows ++ row ∷ [])
held_more [] row h fine = (sym fine, tt)
held_more (r ∷ rs) row h fine = (h.0, held_more rs row h.1 fine)

-- the row behind these is refused
pub refused_at : (cookies : List (Bor Cookie)) (i : ℕ) (cookie : Bor Cookie) (fault : RowFault) → i < length cookies
    → cookie ≡ get_or cookies i cookie → length (rows_in (take i cookies)) ≡ i → AreHeld (rows_in (take i cookies))
    → Some fault ≡ row_fault (stored_of cookie.now) → IsFirstRefused (rows_in cookies) (i + 1) fault
refused_at cookies i cookie fault within is counted fine refused = record {
  before = rows_in (take i cookies);
  row = stored_of cookie.now;
  after = rows_in (drop (i + 1) cookies);
  split = sym (ap rows_in (take-append-drop (i + 1) cookies))
      ∙ (map-append (λ c. stored_of c.now) (take (i + 1) cookies) (drop (i + 1) cookies)
      ∙ (ap (λ rs. rs ++ rows_in (drop (i + 1) cookies)) (rows_more cookies i cookie within is)
      ∙ append_assoc (rows_in (take i cookies)) (stored_of cookie.now ∷ []) (rows_in (drop (i + 1) cookies))));
  fine = fine;
  is = sym refused;
  counted = ap (λ k. k + 1) (sym counted);
}

-- What the lines that were read gave.
use Rattle.std.proofs.Common.{◌≡◌, ◌<◌, ◌+◌, ℕ, List, [], ◌∷◌, ◌++◌, length, get_or, take, drop, Some, None}
use Rattle.std.proofs.Common.{Ok, Err, refl, sym, ap, subst, ◌∙◌, append_assoc, append-nil}
use Rattle.std.specs.Prelude.{IsOk}
use Rattle.std.specs.List.{AllByRecursion, flat_map}
use Rattle.std.specs.Str.Lines.{lines}
use Rattle.std.proofs.lemmas.List.{take_more, take-append-drop}
use Rattle.std.proofs.lemmas.List.Concat.{flat_map-append}
use Rattle.cookie_text.specs.ReadingBack.{Pairwise}
use Rattle.cookie_store.specs.Rows.{Row}
use Rattle.cookies_txt.specs.Layout.{CookieLine}
use Rattle.cookies_txt.specs.Reading.{IsFine, IsFirstFault, GivesRows, read_line, said}
use Rattle.cookies_txt.specs.Writing.{IsRowOf}
use Rattle.cookies_txt.specs.declared.error.LineFault.{LineFault}

abbrev pub said_in : List (List ℕ) → List CookieLine
said_in done = flat_map (λ line. said (read_line line)) done

-- the lines so far have no fault, and gave these rows
pub record ReadsSoFar (done : List (List ℕ)) (rows : List Row) : Type 0 where
  pub fine : AllByRecursion IsFine done
  pub pairs : Pairwise IsRowOf (said_in done) rows

all_push : (done : List (List ℕ)) (line : List ℕ) → AllByRecursion IsFine done → IsFine line
    → AllByRecursion IsFine (done ++ line ∷ [])
all_push [] line h here = (here, tt)
all_push (d ∷ ds) line h here = (h.0, all_push ds line h.1 here)

pairs_append : (xs : List CookieLine) (rows : List Row) (ys : List CookieLine) (more : List Row)
    → Pairwise IsRowOf xs rows → Pairwise IsRowOf ys more → Pairwise IsRowOf (xs ++ ys) (rows ++ more)
pairs_append [] [] ys more h k = k
pairs_append [] (r ∷ rs) ys more h k = absurd h
pairs_append (x ∷ xs) [] ys more h k = absurd h
pairs_append (x ∷ xs) (r ∷ rs) ys more h k = (h.0, pairs_append xs rs ys more h.1 k)

said_push : (done : List (List ℕ)) (line : List ℕ) (one : List CookieLine) → said (read_line line) ≡ one
    → said_in (done ++ line ∷ []) ≡ said_in done ++ one
said_push done line one e =
    flat_map-append (λ line. said (read_line line)) done (line ∷ [])
    ∙ ap (λ ls. said_in done ++ ls) (append-nil (said (read_line line)) ∙ e)

-- a line that says a cookie
pub reads_row : (done : List (List ℕ)) (rows : List Row) (line : List ℕ) (cookie : CookieLine) (row : Row)
    → ReadsSoFar done rows → read_line line ≡ Ok (Some cookie) → IsRowOf cookie row
    → ReadsSoFar (done ++ line ∷ []) (rows ++ row ∷ [])
reads_row done rows line cookie row far e is = record {
  fine = all_push done line far.fine (subst IsOk (sym e) refl);
  pairs = subst (λ ls. Pairwise IsRowOf ls (rows ++ row ∷ [])) (sym (said_push done line (cookie ∷ []) (ap said e)))
      (pairs_append (said_in done) rows (cookie ∷ []) (row ∷ []) far.pairs (is, tt));
}

-- a line that is passed over
pub reads_none : (done : List (List ℕ)) (rows : List Row) (line : List ℕ) → ReadsSoFar done rows
    → read_line line ≡ Ok None → ReadsSoFar (done ++ line ∷ []) rows
reads_none done rows line far e = record {
  fine = all_push done line far.fine (subst IsOk (sym e) refl);
  pairs = subst (λ ls. Pairwise IsRowOf ls rows)
      (sym (said_push done line [] (ap said e) ∙ append-nil (said_in done))) far.pairs;
}

-- all lines
pub reads_all : (text : List ℕ) (done : List (List ℕ)) (rows : List Row) → ReadsSoFar done rows → done ≡ lines text
    → GivesRows text rows
reads_all text done rows far all = (
  said_in done,
  record { fine = subst (AllByRecursion IsFine) all far.fine; says = ap said_in all },
  far.pairs,
)

-- the line behind these is faulty
pub stops_at : (text : List ℕ) (done : List (List ℕ)) (rows : List Row) (n : ℕ) (line : List ℕ) (fault : LineFault)
    → ReadsSoFar done rows → done ≡ take n (lines text) → n ≡ length done → n < length (lines text)
    → line ≡ get_or (lines text) n line → read_line line ≡ Err fault → IsFirstFault text (n + 1) fault
stops_at text done rows n line fault far front counted within at e = record {
  before = done;
  line = line;
  after = drop (n + 1) (lines text);
  split = sym (take-append-drop (n + 1) (lines text))
      ∙ (ap (λ ls. ls ++ drop (n + 1) (lines text)) (take_more (lines text) n line within
      ∙ (ap (λ ls. ls ++ get_or (lines text) n line ∷ []) (sym front) ∙ ap (λ l. done ++ l ∷ []) (sym at)))
      ∙ append_assoc done (line ∷ []) (drop (n + 1) (lines text)));
  fine = far.fine;
  is = e;
  counted = ap (λ k. k + 1) counted;
}

-- What becomes of the lines of a `cookies.txt`, one after another.
use Rattle.std.proofs.Common.{◌≡◌, ◌∙◌, ◌++◌, ℕ, ℤ, List, [], ◌∷◌, length, Option, Some, None, Result, Ok, Err, refl}
use Rattle.std.proofs.Common.{sym, ap, subst, map, arith}
use Rattle.std.specs.Prelude.{option_map}
use Rattle.std.proofs.lemmas.Grind.{flat_map-append}
use Rattle.std.proofs.lemmas.List.{append-nil, map-append}
use Rattle.std.specs.Result.{result_map_both}
use Rattle.cookie_store.specs.Rows.{Row}
use Rattle.cookie_store.specs.StoredCookie.{stored_of}
use Rattle.cookie_store.specs.declared.stored_cookie.Cookie.{Cookie}
use Rattle.cookie_client.specs.HostPrefix.{AreHeldRightly}
use Rattle.cookie_client.specs.Keeping.{HaveReadPairs}
use Rattle.cookies_txt.specs.Entries.{entry_text}
use Rattle.cookies_txt.specs.declared.entries.Entry.{Entry}
use Rattle.cookies_txt.specs.declared.error.LineFault.{LineFault}
use Rattle.fonnalich_c.specs.Importing.{AreEnds, End, IsBar, IsEnd, Sorts, refused_in, refused_lines, taken_in}
use Rattle.fonnalich_c.specs.Importing.{taken_of}
use Rattle.fonnalich_c.specs.declared.importing.Cause.{Cause}

abbrev Line : Type 0
Line = ℕ × Result Row LineFault

-- ---- one line more

ends_more : (now : ℤ) (lines : List Line) (ends : List (ℕ × End)) (line : Line) (end : End) → AreEnds now lines ends
    → IsEnd now line.1 end → AreEnds now (lines ++ line ∷ []) (ends ++ (line.0, end) ∷ [])
ends_more now [] [] line end are is = ((refl, is), tt)
ends_more now [] (e ∷ es) line end are is = absurd are
ends_more now (l ∷ ls) [] line end are is = absurd are
ends_more now (l ∷ ls) (e ∷ es) line end are is = (are.0, ends_more now ls es line end are.1 is)

taken_more : (ends : List (ℕ × End)) (number : ℕ) (end : End)
    → taken_of (ends ++ (number, end) ∷ []) ≡ taken_of ends ++ taken_in end
taken_more ends number end =
    flat_map-append (λ (e : ℕ × End). taken_in e.1) ends ((number, end) ∷ [])
    ∙ ap (λ rows. taken_of ends ++ rows) (append-nil (taken_in end))

refused_more : (ends : List (ℕ × End)) (number : ℕ) (end : End)
    → refused_lines (ends ++ (number, end) ∷ []) ≡ refused_lines ends ++ refused_in number end
refused_more ends number end =
    flat_map-append (λ (e : ℕ × End). refused_in e.0 e.1) ends ((number, end) ∷ [])
    ∙ ap (λ told. refused_lines ends ++ told) (append-nil (refused_in number end))

pub sorts_more : (now : ℤ) (lines : List Line) (taken : List Row) (refused : List ℕ) (line : Line) (end : End)
    → Sorts now lines taken refused → IsEnd now line.1 end
    → Sorts now (lines ++ line ∷ []) (taken ++ taken_in end) (refused ++ refused_in line.0 end)
sorts_more now lines taken refused line end (ends, are, rows, told) is = (
  ends ++ (line.0, end) ∷ [],
  ends_more now lines ends line end are is,
  ap (λ xs. xs ++ taken_in end) rows ∙ sym (taken_more ends line.0 end),
  ap (λ xs. xs ++ refused_in line.0 end) told ∙ sym (refused_more ends line.0 end),
)

-- what became of a line, of the cookies that were taken before it and with it
abbrev pub end_text : Result (Option Cookie) Cause → End
end_text answer = result_map_both (option_map stored_of) (λ cause. cause) answer

pub sorts_next : (now : ℤ) (xs : List Entry) (entry : Entry) (old new : List Cookie) (told more : List ℕ)
    (answer : Result (Option Cookie) Cause) → Sorts now (map entry_text xs) (map stored_of old) told
    → IsEnd now (entry_text entry).1 (end_text answer)
    → map stored_of new ≡ map stored_of old ++ taken_in (end_text answer)
    → more ≡ told ++ refused_in entry.number (end_text answer)
    → Sorts now (map entry_text (xs ++ entry ∷ [])) (map stored_of new) more
sorts_next now xs entry old new told more answer far is rows lines =
    let before = map entry_text xs ++ entry_text entry ∷ [] in
    subst (λ ls. Sorts now ls (map stored_of new) more) (sym (map-append entry_text xs (entry ∷ [])))
    (subst (λ rs. Sorts now before rs more) (sym rows)
    (subst (Sorts now before (map stored_of old ++ taken_in (end_text answer))) (sym lines)
    (sorts_more now (map entry_text xs) (map stored_of old) told (entry_text entry) (end_text answer) far is)))

-- ---- the rows that are taken

fit_end : (now : ℤ) (row taken : Row) → IsEnd now (Ok row) (Ok (Some taken)) → IsBar taken None
fit_end now row taken is = subst (λ r. IsBar r None) (sym is.0) is.2

pub taken_pairs : (now : ℤ) (lines : List Line) (ends : List (ℕ × End)) → AreEnds now lines ends
    → HaveReadPairs (taken_of ends)
taken_pairs now [] [] are = tt
taken_pairs now [] (e ∷ es) are = absurd are
taken_pairs now (l ∷ ls) [] are = absurd are
taken_pairs now ((n, Ok row) ∷ ls) ((m, Ok (Some taken)) ∷ es) are =
    ((fit_end now row taken are.0.1).1, taken_pairs now ls es are.1)
taken_pairs now ((n, Ok row) ∷ ls) ((m, Ok None) ∷ es) are = taken_pairs now ls es are.1
taken_pairs now ((n, Ok row) ∷ ls) ((m, Err cause) ∷ es) are = taken_pairs now ls es are.1
taken_pairs now ((n, Err fault) ∷ ls) ((m, Ok end) ∷ es) are = absurd are.0.1
taken_pairs now ((n, Err fault) ∷ ls) ((m, Err cause) ∷ es) are = taken_pairs now ls es are.1

pub taken_held : (now : ℤ) (lines : List Line) (ends : List (ℕ × End)) → AreEnds now lines ends
    → AreHeldRightly (taken_of ends)
taken_held now [] [] are = tt
taken_held now [] (e ∷ es) are = absurd are
taken_held now (l ∷ ls) [] are = absurd are
taken_held now ((n, Ok row) ∷ ls) ((m, Ok (Some taken)) ∷ es) are =
    ((fit_end now row taken are.0.1).2, taken_held now ls es are.1)
taken_held now ((n, Ok row) ∷ ls) ((m, Ok None) ∷ es) are = taken_held now ls es are.1
taken_held now ((n, Ok row) ∷ ls) ((m, Err cause) ∷ es) are = taken_held now ls es are.1
taken_held now ((n, Err fault) ∷ ls) ((m, Ok end) ∷ es) are = absurd are.0.1
taken_held now ((n, Err fault) ∷ ls) ((m, Err cause) ∷ es) are = taken_held now ls es are.1

-- ---- how many lines there are

pub as_many : (now : ℤ) (lines : List Line) (ends : List (ℕ × End)) → AreEnds now lines ends
    → length lines ≡ length ends
as_many now [] [] are = refl
as_many now [] (e ∷ es) are = absurd are
as_many now (l ∷ ls) [] are = absurd are
as_many now (l ∷ ls) (e ∷ es) are =
    let rest : length ls ≡ length es = as_many now ls es are.1 in omega (arith, rest)

-- What an import takes of lines and of items.
use Rattle.std.proofs.Common.{◌≡◌, ◌≤◌, ◌+◌, ◌∙◌, ℕ, ℤ, Bool, true, false, List, [], ◌∷◌, ◌++◌, length, map, Option}
use Rattle.std.proofs.Common.{None, Some, refl, sym, subst, ap, inl, inr, arith, ◌<◌, get_or, suc, take}
use Rattle.std.specs.Prelude.{◌&&◌, not, option_map, if◌then◌else◌}
use Rattle.std.specs.List.{AllByRecursion, list_any}
use Rattle.std.proofs.lemmas.Grind.{flat_map-append}
use Rattle.std.proofs.lemmas.List.{append-nil, length-append, length-map, map-append, take_more}
use Rattle.std.proofs.lemmas.List.Elements.{filter-append}
use Rattle.cookie_store.specs.Given.{ArePicked}
use Rattle.cookie_store.specs.Placing.{loaded, put_all}
use Rattle.cookie_store.specs.Rows.{Row, behind_last, has_domain_of, has_key_of, has_place_of, inserted}
use Rattle.cookie_store.specs.Rows.{is_live, live, put, replaced}
use Rattle.cookie_store.specs.StoredCookie.{stored_of}
use Rattle.cookie_store.specs.declared.stored_cookie.Cookie.{Cookie}
use Rattle.cookie_client.proofs.PutCookies.{picked_whole}
use Rattle.cookie_jar.specs.Entries.{entry_row}
use Rattle.cookie_jar.specs.Importing.{AreRefused, ImportText, Imports, ImportsEntries, IsUntaken, expired_of, lone}
use Rattle.cookie_jar.specs.Importing.{rows_in}
use Rattle.cookie_jar.specs.declared.entries.Entry.{Entry as CodeEntry}
use Rattle.cookie_jar.specs.Keeping.{AreKept, IsKept, IsTaken}
use Rattle.cookie_jar.specs.declared.form.Form.{Form}
use Rattle.cookie_jar.specs.declared.importing.Refused.{Refused}
use Rattle.cookie_jar.proofs.RowLemmas.{picked_all, placed_all, taken_kept}

-- ---- picked

pub picked_append : {A : Type 0} (Is : A → Type 0) (xs ys picked more : List A) → ArePicked Is xs picked
    → ArePicked Is ys more → ArePicked Is (xs ++ ys) (picked ++ more)
picked_append Is [] ys picked more p q = subst (λ l. ArePicked Is ys (l ++ more)) (sym p) q
picked_append Is (x ∷ xs) ys picked more (later, rest, inl h) q = (
  later ++ more,
  picked_append Is xs ys later more rest q,
  inl (h.0, ap (λ l. l ++ more) h.1),
)
picked_append Is (x ∷ xs) ys picked more (later, rest, inr h) q = (
  later ++ more,
  picked_append Is xs ys later more rest q,
  inr (h.0, ap (λ l. l ++ more) h.1),
)

pub picked_one : {A : Type 0} (Is : A → Type 0) (x : A) → Is x → ArePicked Is (x ∷ []) (x ∷ [])
picked_one Is x h = ([], refl, inl (h, refl))

pub picked_none : {A : Type 0} (Is : A → Type 0) (x : A) → ¬ (Is x) → ArePicked Is (x ∷ []) []
picked_none Is x h = ([], refl, inr (h, refl))

-- ---- refused lines

-- one more that is refused
refused_more : (form : Form) (now : ℤ) (entries : List (Option Row)) (refused : ℕ) (entry : Option Row)
    → AreRefused form now entries refused → IsUntaken form now entry
    → AreRefused form now (entries ++ entry ∷ []) (refused + 1)
refused_more form now entries refused entry (left, picked, is) untaken = (
  left ++ entry ∷ [],
  picked_append (IsUntaken form now) entries (entry ∷ []) left (entry ∷ []) picked
      (picked_one (IsUntaken form now) entry untaken),
  ap (λ n. n + 1) is ∙ sym (length-append left (entry ∷ [])),
)

-- one more that isn't
refused_same : (form : Form) (now : ℤ) (entries : List (Option Row)) (refused : ℕ) (entry : Option Row)
    → AreRefused form now entries refused → ¬ (IsUntaken form now entry)
    → AreRefused form now (entries ++ entry ∷ []) refused
refused_same form now entries refused entry (left, picked, is) taken = (
  left,
  subst (ArePicked (IsUntaken form now) (entries ++ entry ∷ [])) (append-nil left)
      (picked_append (IsUntaken form now) entries (entry ∷ []) left [] picked
      (picked_none (IsUntaken form now) entry taken)),
  is,
)

entries_next : (xs : List CodeEntry) (i : ℕ) (entry : CodeEntry) → i < length xs → entry ≡ get_or xs i entry
    → map entry_row (take (i + 1) xs) ≡ map entry_row (take i xs) ++ entry_row entry ∷ []
entries_next xs i entry within is =
    ap (map entry_row) (take_more xs i entry within ∙ ap (λ x. take i xs ++ x ∷ []) (sym is))
    ∙ map-append entry_row (take i xs) (entry ∷ [])

-- one line more that was looked at, of those that are refused
pub next_refused : (form : Form) (now : ℤ) (xs : List CodeEntry) (i : ℕ) (entry : CodeEntry)
    (old new : List Refused) (line : Refused) → i < length xs → entry ≡ get_or xs i entry
    → AreRefused form now (map entry_row (take i xs)) (length old) → IsUntaken form now (entry_row entry)
    → new ≡ old ++ line ∷ [] → AreRefused form now (map entry_row (take (i + 1) xs)) (length new)
next_refused form now xs i entry old new line within is far untaken pushed =
    let told : length new ≡ length old + 1 = ap length pushed ∙ length-append old (line ∷ []) in
    subst (λ es. AreRefused form now es (length new)) (sym (entries_next xs i entry within is))
    (subst (AreRefused form now (map entry_row (take i xs) ++ entry_row entry ∷ [])) (sym told)
    (refused_more form now (map entry_row (take i xs)) (length old) (entry_row entry) far untaken))

pub next_taken : (form : Form) (now : ℤ) (xs : List CodeEntry) (i : ℕ) (entry : CodeEntry) (refused : ℕ)
    → i < length xs → entry ≡ get_or xs i entry → AreRefused form now (map entry_row (take i xs)) refused
    → ¬ (IsUntaken form now (entry_row entry)) → AreRefused form now (map entry_row (take (i + 1) xs)) refused
next_taken form now xs i entry refused within is far taken =
    subst (λ es. AreRefused form now es refused) (sym (entries_next xs i entry within is))
    (refused_same form now (map entry_row (take i xs)) refused (entry_row entry) far taken)

-- ---- kept rows

-- rows that a line more gives
rows_more : (now : ℤ) (entries : List (Option Row)) (entry : Option Row)
    → live now (rows_in (entries ++ entry ∷ [])) ≡ live now (rows_in entries) ++ live now (lone entry)
rows_more now entries entry =
    ap (live now) (flat_map-append lone entries (entry ∷ [])
    ∙ ap (λ l. rows_in entries ++ l) (append-nil (lone entry)))
    ∙ filter-append (is_live now) (rows_in entries) (lone entry)

pub kept_more : (form : Form) (now : ℤ) (entries : List (Option Row)) (kept more : List Row) (entry : Option Row)
    → ArePicked (IsTaken form) (live now (rows_in entries)) kept
    → ArePicked (IsTaken form) (live now (lone entry)) more
    → ArePicked (IsTaken form) (live now (rows_in (entries ++ entry ∷ []))) (kept ++ more)
kept_more form now entries kept more entry far one =
    subst (λ rows. ArePicked (IsTaken form) rows (kept ++ more)) (sym (rows_more now entries entry))
    (picked_append (IsTaken form) (live now (rows_in entries)) (live now (lone entry)) kept more far one)

-- one line more that was looked at, of those that are kept
pub kept_next : (form : Form) (now : ℤ) (xs : List CodeEntry) (entry : CodeEntry) (old new : List Cookie)
    (found : Option Cookie) → ArePicked (IsTaken form) (live now (rows_in (map entry_row xs))) (map stored_of old)
    → ArePicked (IsTaken form) (live now (lone (entry_row entry))) (lone (option_map stored_of found))
    → map stored_of new ≡ map stored_of old ++ lone (option_map stored_of found)
    → ArePicked (IsTaken form) (live now (rows_in (map entry_row (xs ++ entry ∷ [])))) (map stored_of new)
kept_next form now xs entry old new found far one pushed =
    subst (λ es. ArePicked (IsTaken form) (live now (rows_in es)) (map stored_of new))
    (sym (map-append entry_row xs (entry ∷ [])))
    (subst (ArePicked (IsTaken form) (live now (rows_in (map entry_row xs ++ entry_row entry ∷ [])))) (sym pushed)
    (kept_more form now (map entry_row xs) (map stored_of old) (lone (option_map stored_of found)) (entry_row entry)
    far one))

-- ---- how many

-- a line is refused, or its row is expired, or kept
counts : (form : Form) (now : ℤ) (entries left : List (Option Row)) (kept : List Row)
    → ArePicked (IsUntaken form now) entries left → ArePicked (IsTaken form) (live now (rows_in entries)) kept
    → length left + length kept + length (expired_of now (rows_in entries)) ≡ length entries
counts form now [] left kept untaken picked = omega (arith, ap length untaken, ap length picked)
counts form now (None ∷ entries) left kept (later, rest, inl h) picked =
    omega (arith, counts form now entries later kept rest picked, ap length h.1)
counts form now (None ∷ entries) left kept (later, rest, inr h) picked = absurd (h.0 tt)
counts form now (Some row ∷ entries) left kept untaken picked =
    by (is_live now row) refl (counts form now entries) untaken picked
  where
    by : (b : Bool) → is_live now row ≡ b
        → ((later : List (Option Row)) (more : List Row) → ArePicked (IsUntaken form now) entries later
        → ArePicked (IsTaken form) (live now (rows_in entries)) more
        → length later + length more + length (expired_of now (rows_in entries)) ≡ length entries)
        → ArePicked (IsUntaken form now) (Some row ∷ entries) left
        → ArePicked (IsTaken form) (if b then row ∷ live now (rows_in entries) else live now (rows_in entries)) kept
        → length left + length kept
        + length (if not b then row ∷ expired_of now (rows_in entries) else expired_of now (rows_in entries))
        ≡ suc (length entries)
    by true lives deeper (later, rest, inl h) (more, behind, inl k) = absurd (h.0.1 k.0)
    by true lives deeper (later, rest, inl h) (more, behind, inr k) =
        omega (arith, deeper later more rest behind, ap length h.1, ap length k.1)
    by true lives deeper (later, rest, inr h) (more, behind, inl k) =
        omega (arith, deeper later more rest behind, ap length h.1, ap length k.1)
    by true lives deeper (later, rest, inr h) (more, behind, inr k) = absurd (h.0 (lives, k.0))
    by false dead deeper (later, rest, inl h) behind =
        let bad : true ≡ false = sym h.0.0 ∙ dead in absurd (cc)
    by false dead deeper (later, rest, inr h) behind =
        omega (arith, deeper later kept rest behind, ap length h.1)

pub entries_counted : (form : Form) (now : ℤ) (xs : List CodeEntry) (refused : ℕ) (kept : List Cookie)
    → AreRefused form now (map entry_row xs) refused
    → ArePicked (IsTaken form) (live now (rows_in (map entry_row xs))) (map stored_of kept)
    → refused + length kept + length (expired_of now (rows_in (map entry_row xs))) ≡ length xs
entries_counted form now xs refused kept (left, picked, is) are_kept =
    omega (
      arith,
      counts form now (map entry_row xs) left (map stored_of kept) picked are_kept,
      is,
      length-map kept stored_of,
      length-map xs entry_row,
    )

-- ---- placed by their keys

either_one : (b : Bool) (xs ys : List Row) (n : ℕ) → length xs ≤ n → length ys ≤ n → length (if b then xs else ys) ≤ n
either_one true xs ys n hx hy = hx
either_one false xs ys n hx hy = hy

behind_length : (test : Row → Bool) (x : Row) (ys : List Row) → length (behind_last test x ys) ≤ length ys + 1
behind_length test x [] = omega arith
behind_length test x (y ∷ ys) =
    either_one (test y && not (list_any test ys)) (y ∷ x ∷ ys) (y ∷ behind_last test x ys) (length (y ∷ ys) + 1)
    (omega arith) (omega (arith, behind_length test x ys))

put_length : (row : Row) (rows : List Row) → length (put row rows) ≤ length rows + 1
put_length row rows =
    either_one (list_any (has_key_of row) rows) (replaced row rows) (inserted row rows) (length rows + 1)
    (omega (arith, length-map rows (λ y. if has_key_of row y then row else y)))
    (either_one (list_any (has_place_of row) rows) (behind_last (has_place_of row) row rows)
    (behind_last (has_domain_of row) row rows) (length rows + 1) (behind_length (has_place_of row) row rows)
    (behind_length (has_domain_of row) row rows))

put_all_length : (rows old : List Row) → length (put_all rows old) ≤ length rows + length old
put_all_length [] old = omega arith
put_all_length (r ∷ rs) old = omega (arith, put_all_length rs (put r old), put_length r old)

live_length : (now : ℤ) (rows : List Row) → length (live now rows) ≤ length rows
live_length now [] = omega arith
live_length now (r ∷ rs) =
    either_one (is_live now r) (r ∷ live now rs) (live now rs) (length (r ∷ rs)) (omega (arith, live_length now rs))
    (omega (arith, live_length now rs))

-- no more than there were
pub loaded_fewer : (now : ℤ) (rows : List Row) → length (loaded false now rows) ≤ length rows
loaded_fewer now rows =
    let placed : length (put_all (live now rows) []) ≤ length (live now rows) + 0 = put_all_length (live now rows) [] in
    omega (arith, placed, live_length now rows)

-- what holds of rows that are placed alone
loaded_all : (P : Row → Type 0) (now : ℤ) (rows : List Row) → AllByRecursion P rows
    → AllByRecursion P (loaded false now rows)
loaded_all P now rows all = placed_all P now [] rows tt all

-- what is taken of them is all
pub taken_all : (form : Form) (now : ℤ) (rows kept others taken : List Row)
    → ArePicked (IsTaken form) (live now rows) kept → others ≡ loaded false now kept
    → ArePicked (IsTaken form) others taken → taken ≡ loaded false now kept
taken_all form now rows kept others taken are_kept same picked =
    picked_whole (IsTaken form) others taken
    (subst (AllByRecursion (IsTaken form)) (sym same)
    (loaded_all (IsTaken form) now kept (picked_all (IsTaken form) (live now rows) kept are_kept)))
    picked ∙ same

-- what an import leaves
pub entries_kept : (form : Form) (now : ℤ) (entries : List (Option Row)) (old : List Row) (told : ImportText)
    (new : List Row) → AreKept old → ImportsEntries form now entries old told new → AreKept new
entries_kept form now entries old told new kept done =
    subst AreKept (sym done.new_rows) (placed_all IsKept now old (loaded false now done.kept) kept
    (loaded_all IsKept now done.kept (taken_kept form done.kept
    (picked_all (IsTaken form) (live now (rows_in entries)) done.kept done.are_kept))))

pub import_kept : (form held : Form) (now : ℤ) (text : List ℕ) (before after : List Row) (done : ImportText)
    → AreKept before → Imports form held now text before done after → AreKept after
import_kept form held now text before after done kept (entries, gives, imports) =
    entries_kept held now entries before done after kept imports

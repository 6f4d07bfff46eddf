-- What leaves the rows as they were.
use Rattle.std.proofs.Common.{◌≡◌, ◌≢◌, ℕ, ℤ, List, sym, ap, ◌∙◌, subst, inl, inr, true, false, Option, None, Result}
use Rattle.std.proofs.Common.{Ok, Err, Some, ⊎_elim, refl, Bool}
use Rattle.std.specs.Prelude.{IfOk, OnOk}
use Rattle.std.specs.Str.{IsUtf8}
use Rattle.std.specs.List.{list_any}
use Rattle.std.proofs.lemmas.Bool.{cases_Bool, cond-true, cond-false}
use Rattle.cookie_text.specs.Decoding.{ReadsEncoded}
use Rattle.cookie_text.specs.Record.{Seen}
use Rattle.cookie_text.specs.declared.error.ParseError.{ParseError}
use Rattle.cookie_text.specs.declared.error.ParseError.TheVariants.{OutOfMemory}
use Rattle.publicsuffix.specs.Rules.{Rule}
use Rattle.store_parts.specs.Expiry.{is_dead}
use Rattle.store_parts.specs.declared.error.CookieError.{CookieError}
use Rattle.url.specs.Parts.{Parts}
use Rattle.cookie_store.specs.Insertion.{End, InsertsRead, InsertsRaw, Inserts, Admits, Fits, Settles, alone, settled}
use Rattle.cookie_store.specs.Rows.{Row, is_live_of}
use Rattle.cookie_store.specs.declared.action.StoreAction.{StoreAction}
use Rattle.cookie_client.specs.Accept.{text_end}
use Rattle.cookie_client.specs.Jar.{record_in}
use Rattle.cookie_client.specs.Laws.{IsStored, RefusedLinesChangeNothing}
use Rattle.cookie_client.specs.Reading.{GivesBy, passes_over}

-- ---- a line

rows_in : End → List Row
rows_in end = end.1

answer_in : End → Result StoreAction CookieError
answer_in end = end.0

abbrev Refuses : Result StoreAction CookieError → Type 0
Refuses answer = ¬ (IsStored (text_end answer))

refused_same : {answer : Result StoreAction CookieError} {new : List Row} (cause : CookieError) (rows : List Row)
    → ◌≡◌ {A = End} (answer, new) (Err cause, rows) → new ≡ rows
unfolding rows_in
refused_same cause rows e = ap rows_in e

settled_same : (answer : Result StoreAction CookieError) (rows new : List Row) (now : ℤ) (row : Row)
    → (answer, new) ≡ settled rows now row → Refuses answer → new ≡ rows
unfolding answer_in
settled_same answer rows new now row e stays =
    ⊎_elim
    (λ (dead : is_dead now row.death ≡ true).
    ⊎_elim
    (λ (live : list_any (is_live_of now row) rows ≡ true). absurd (no_end answer new _ _
    (e ∙ (cond-true _ _ _ dead ∙ cond-true _ _ _ live)) stays))
    (λ (none : list_any (is_live_of now row) rows ≡ false). refused_same _ rows
    (e ∙ (cond-true _ _ _ dead ∙ cond-false _ _ _ none)))
    (cases_Bool (list_any (is_live_of now row) rows)))
    (λ (lives : is_dead now row.death ≡ false). absurd (no_end answer new _ _ (e ∙ cond-false _ _ _ lives) stays))
    (cases_Bool (is_dead now row.death))
  where
    no_end : (a : Result StoreAction CookieError) (rs : List Row) (action : StoreAction) (stored : List Row)
        → ◌≡◌ {A = End} (a, rs) (Ok action, stored) → Refuses a → ⊥
    no_end a rs action stored is refuses = refuses (subst
        (λ (x : Result StoreAction CookieError). IsStored (text_end x)) (sym (ap answer_in is)) tt)

settles_same : (answer : Result StoreAction CookieError) (rows new : List Row) (url : Parts) (now : ℤ) (row : Row)
    → Settles rows url now row (answer, new) → Refuses answer → new ≡ rows
settles_same answer rows new url now row (inl s) stays = refused_same _ rows s.1
settles_same answer rows new url now row (inr s) stays = settled_same answer rows new now row s.1 stays

fits_same : (answer : Result StoreAction CookieError) (rows new : List Row) (url : Parts) (now : ℤ) (row : Row)
    → Fits rows url now row (answer, new) → Refuses answer → new ≡ rows
fits_same answer rows new url now row (inl f) stays = refused_same _ rows f.1
fits_same answer rows new url now row (inr f) stays = settles_same answer rows new url now row f.1 stays

admits_same : (answer : Result StoreAction CookieError) (list : List Rule) (rows new : List Row) (url : Parts) (now : ℤ)
    (row : Row) → Admits list rows url now row (answer, new) → Refuses answer → new ≡ rows
admits_same answer list rows new url now row (inl a) stays = fits_same answer rows new url now row a.1 stays
admits_same answer list rows new url now row (inr (inl a)) stays =
    fits_same answer rows new url now (alone row) a.2 stays
admits_same answer list rows new url now row (inr (inr a)) stays = refused_same _ rows a.2

inserts_same : (answer : Result StoreAction CookieError) (list : List Rule) (rows new : List Row) (url : Parts)
    (now : ℤ) (row : Row) → Inserts list rows url now row (answer, new) → Refuses answer → new ≡ rows
inserts_same answer list rows new url now row (inl i) stays = refused_same _ rows i.1
inserts_same answer list rows new url now row (inr i) stays = admits_same answer list rows new url now row i.1 stays

raw_same : (answer : Result StoreAction CookieError) (list : List Rule) (rows new : List Row) (url : Parts) (now : ℤ)
    (received : Seen) → InsertsRaw list rows url now received (answer, new) → Refuses answer → new ≡ rows
raw_same answer list rows new url now received (inl r) stays = refused_same r.0 rows r.3
raw_same answer list rows new url now received (inr r) stays = inserts_same answer list rows new url now r.0 r.2 stays

read_same : (answer : Result StoreAction CookieError) (list : List Rule) (rows new : List Row) (url : Parts) (now : ℤ)
    (read : Result Seen ParseError) → InsertsRead list rows url now read (answer, new) → Refuses answer → new ≡ rows
read_same answer list rows new url now (Err error) i stays = refused_same _ rows i
read_same answer list rows new url now (Ok seen) i stays = raw_same answer list rows new url now _ i stays

pub lines_same : RefusedLinesChangeNothing
lines_same list rows url now line end new (inl against) stays = against.2
lines_same list rows url now line end new (inr (free, inl none)) stays = none.2
lines_same list rows url now line end new (inr (free, inr text)) stays =
    read_same text.1.2.0 list rows new url now text.1.0 text.1.2.1
    (λ done. stays (subst IsStored (sym text.1.2.2) done))

-- ---- a piece of a header that is no cookie, for another cause than want of memory

pub gives_none : {E : Type 0} (b : Bool) (r : Result (Option Seen) E) (piece text : List ℕ) (error : ParseError)
    → text ≡ piece → ReadsEncoded text (Err error) → IfOk r (λ cookie. cookie ≡ None) → OnOk r (error ≢ OutOfMemory)
    → IfOk r (λ cookie. GivesBy b piece (record_in cookie))
gives_none b (Ok cookie) piece text error same reads none other =
    subst (λ o. GivesBy b piece (record_in o)) (sym none)
    (λ utf8. inl (error, other, subst (λ t. ReadsEncoded t (Err error)) same reads))
gives_none b (Err e) piece text error same reads none other = tt

-- ---- a piece that reads

pub gives_shown : {E : Type 0} (b : Bool) (r : Result (Option Seen) E) (piece : List ℕ) (s : Seen) → IsUtf8 piece
    → ReadsEncoded piece (Ok s)
    → IfOk r (λ shown. passes_over b piece s.cookie.name ≡ true → shown ≡ None)
    → IfOk r (λ shown. passes_over b piece s.cookie.name ≡ false → record_in shown ≡ Some s.cookie)
    → IfOk r (λ cookie. GivesBy b piece (record_in cookie))
gives_shown b (Err e) piece s utf8 reads hidden seen = tt
gives_shown b (Ok cookie) piece s utf8 reads hidden seen =
    ⊎_elim
    (λ (hides : passes_over b piece s.cookie.name ≡ true).
    subst (λ o. GivesBy b piece (record_in o)) (sym (hidden hides)) (λ text. inr (s.cookie, (s, reads, refl), hides)))
    (λ (shows : passes_over b piece s.cookie.name ≡ false). subst (GivesBy b piece) (sym (seen shows))
    (utf8, (s, reads, refl), shows))
    (cases_Bool (passes_over b piece s.cookie.name))

-- What a client does with lines one after another.
use Rattle.std.proofs.Common.{◌≡◌, ◌≢◌, ℕ, ℤ, ◌+◌, ◌<◌, List, [], ◌∷◌, ◌++◌, length, take, get_or, sym, refl, ap, ◌∙◌}
use Rattle.std.proofs.Common.{subst, inl, inr, true, false, Result, Ok, Err, ⊎_elim, zero, suc, arith}
use Rattle.std.specs.Prelude.{map, IfErr, IfOk, OnErr}
use Rattle.std.specs.List.{list_any}
use Rattle.std.specs.Str.{IsUtf8}
use Rattle.std.proofs.lemmas.Bool.{both_ways, cases_Bool, cond-true, cond-false}
use Rattle.std.proofs.lemmas.List.{take_more, take-map, map-append, length-map}
use Rattle.cookie_text.specs.Reading.{ReadsPlain}
use Rattle.cookie_text.specs.Record.{Seen}
use Rattle.cookie_text.specs.declared.error.ParseError.{ParseError}
use Rattle.publicsuffix.specs.Rules.{Rule}
use Rattle.store_parts.specs.Expiry.{is_dead}
use Rattle.store_parts.specs.declared.error.CookieError.{CookieError}
use Rattle.store_parts.specs.declared.error.CookieError.TheVariants.{NonHttpScheme, DomainMismatch, Expired, Parse}
use Rattle.store_parts.specs.declared.error.CookieError.TheVariants.{PublicSuffix, OutOfMemory}
use Rattle.url.specs.Parts.{Parts}
use Rattle.cookie_store.specs.Insertion.{End, InsertsRead, InsertsRaw, Inserts, Admits, Fits, Settles, Receives}
use Rattle.cookie_store.specs.Insertion.{alone, settled}
use Rattle.cookie_store.specs.Rows.{Row, is_live_of}
use Rattle.cookie_store.specs.declared.action.StoreAction.{StoreAction}
use Rattle.cookie_store.specs.declared.action.StoreAction.TheVariants.{ExpiredExisting}
use Rattle.cookie_client.specs.declared.outcome.LineEnd.{LineEnd}
use Rattle.cookie_client.specs.declared.outcome.LineEnd.TheVariants.{Refused}
use Rattle.cookie_client.specs.HostPrefix.{BreaksHost, IsAgainstHost}
use Rattle.cookie_client.specs.Accept.{Accepts, AcceptsAll, AcceptsCookie, AsksForMemory, IsStopped, StopsAt}
use Rattle.cookie_client.proofs.ReadOnce.{ReadsOnce, read_once}

-- ---- line by line

all_push : (list : List Rule) (rows mid new : List Row) (url : Parts) (now : ℤ) (lines : List (List ℕ))
    (ends : List LineEnd) (line : List ℕ) (end : LineEnd) → AcceptsAll list rows url now lines ends mid
    → Accepts list mid url now line end new
    → AcceptsAll list rows url now (lines ++ line ∷ []) (ends ++ end ∷ []) new
all_push list rows mid new url now [] [] line end h a =
    (new, subst (λ rs. Accepts list rs url now line end new) h.1 a, (refl, refl))
all_push list rows mid new url now [] (e ∷ ends) line end h a = absurd (not_nil e ends h.0)
  where
    not_nil : (e : LineEnd) (es : List LineEnd) → e ∷ es ≡ [] → ⊥
    not_nil e es p = cc
all_push list rows mid new url now (l ∷ lines) [] line end h a = absurd h
all_push list rows mid new url now (l ∷ lines) (e ∷ ends) line end h a =
    (h.0, h.1, all_push list h.0 mid new url now lines ends line end h.2 a)

pub map_take : {A B : Type 0} (f : A → B) (xs : List A) (i : ℕ) (d : A) → i < length xs
    → take (i + 1) (map f xs) ≡ take i (map f xs) ++ f (get_or xs i d) ∷ []
map_take f xs i d h =
    take-map f (i + 1) xs ∙ (ap (map f) (take_more xs i d h) ∙ (map-append f (take i xs) (get_or xs i d ∷ [])
    ∙ ap (λ ys. ys ++ f (get_or xs i d) ∷ []) (sym (take-map f i xs))))

pub next_line : {A : Type 0} (f : A → List ℕ) (list : List Rule) (start mid new : List Row) (old ends : List LineEnd)
    (end : LineEnd) (url : Parts) (now : ℤ) (xs : List A) (i : ℕ) (d : A) → i < length xs
    → AcceptsAll list start url now (take i (map f xs)) old mid → (here : List Rule) → here ≡ list
    → Accepts here mid url now (f (get_or xs i d)) end new → ends ≡ old ++ end ∷ []
    → AcceptsAll list start url now (take (i + 1) (map f xs)) ends new
next_line f list start mid new old ends end url now xs i d h all here same one is =
    subst (λ es. AcceptsAll list start url now (take (i + 1) (map f xs)) es new) (sym is)
    (subst (λ ls. AcceptsAll list start url now ls (old ++ end ∷ []) new) (sym (map_take f xs i d h))
    (all_push list start mid new url now (take i (map f xs)) old (f (get_or xs i d)) end all
    (subst (λ l. Accepts l mid url now (f (get_or xs i d)) end new) same one)))

pub map_at : {A : Type 0} (f : A → List ℕ) (xs : List A) (i : ℕ) (d : A) → i < length xs
    → get_or (map f xs) i [] ≡ f (get_or xs i d)
map_at f [] i d h = absurd (omega (arith, h))
map_at f (x ∷ xs) zero d h = refl
map_at f (x ∷ xs) (suc i) d h = map_at f xs i d (omega arith)

pub stopped_line : {A : Type 0} (f : A → List ℕ) (list : List Rule) (start mid new : List Row) (old : List LineEnd)
    (url : Parts) (now : ℤ) (xs : List A) (i : ℕ) (d : A) → i < length xs
    → AcceptsAll list start url now (take i (map f xs)) old mid → new ≡ mid → AsksForMemory url (f (get_or xs i d))
    → StopsAt list start url now (map f xs) (i + 1) new
stopped_line f list start mid new old url now xs i d h all same asks = record {
  before = i;
  number = refl;
  within = subst (λ n. i < n) (sym (length-map xs f)) h;
  taken = (old, subst (AcceptsAll list start url now (take i (map f xs)) old) (sym same) all);
  asks = subst (AsksForMemory url) (sym (map_at f xs i d h)) asks;
}

-- one line as an answer of one
pub one_taken : {E : Type 0} (r : Result LineEnd E) (list : List Rule) (rows new : List Row) (url : Parts) (now : ℤ)
    (line : List ℕ) → IfOk r (λ end. Accepts list rows url now line end new)
    → IfOk r (λ end. AcceptsAll list rows url now (line ∷ []) (end ∷ []) new)
one_taken (Ok end) list rows new url now line h = (new, h, (refl, refl))
one_taken (Err e) list rows new url now line h = tt

pub one_stopped : {E : Type 0} (r : Result LineEnd E) (list : List Rule) (rows new : List Row) (url : Parts) (now : ℤ)
    (line : List ℕ) → OnErr r ((new ≡ rows) × AsksForMemory url line)
    → IfErr r (λ _. IsStopped list rows url now (line ∷ []) 0 new)
one_stopped (Ok end) list rows new url now line h = tt
one_stopped (Err e) list rows new url now line h = inl (refl, h.0)

-- ---- no insertion ends so for want of memory

abbrev Lacking : List Row → End
Lacking new = (Err OutOfMemory, new)

abbrev answer_of : End → Result StoreAction CookieError
answer_of end = end.0

stored_not : {new : List Row} (action : StoreAction) (rows : List Row) → Lacking new ≡ (Ok action, rows) → ⊥
stored_not action rows e = apart action (ap answer_of e)
  where
    apart : (a : StoreAction) → answer_of (Lacking rows) ≡ answer_of (Ok a, rows) → ⊥
    apart a is = cc

refused_not : {new : List Row} (cause : CookieError) (rows : List Row) → cause ≢ OutOfMemory
    → Lacking new ≡ (Err cause, rows) → ⊥
refused_not cause rows other e = other (sym (same cause (ap answer_of e)))
  where
    same : (c : CookieError) → answer_of (Lacking rows) ≡ answer_of (Err c, rows) → OutOfMemory ≡ c
    same c is = cc

not_expired : Expired ≢ OutOfMemory
not_expired e = cc

settled_has : (rows new : List Row) (now : ℤ) (row : Row) → Lacking new ≡ settled rows now row → ⊥
settled_has rows new now row e =
    ⊎_elim
    (λ (dead : is_dead now row.death ≡ true).
    ⊎_elim
    (λ (live : list_any (is_live_of now row) rows ≡ true).
    stored_not ExpiredExisting _ (e ∙ (cond-true _ _ _ dead ∙ cond-true _ _ _ live)))
    (λ (none : list_any (is_live_of now row) rows ≡ false).
    refused_not Expired _ not_expired (e ∙ (cond-true _ _ _ dead ∙ cond-false _ _ _ none)))
    (cases_Bool (list_any (is_live_of now row) rows)))
    (λ (lives : is_dead now row.death ≡ false). stored_not _ _ (e ∙ cond-false _ _ _ lives))
    (cases_Bool (is_dead now row.death))

settles_has : (rows new : List Row) (url : Parts) (now : ℤ) (row : Row) → Settles rows url now row (Lacking new) → ⊥
settles_has rows new url now row (inl s) = refused_not NonHttpScheme rows (λ e. cc) s.1
settles_has rows new url now row (inr s) = settled_has rows new now row s.1

fits_has : (rows new : List Row) (url : Parts) (now : ℤ) (row : Row) → Fits rows url now row (Lacking new) → ⊥
fits_has rows new url now row (inl f) = refused_not DomainMismatch rows (λ e. cc) f.1
fits_has rows new url now row (inr f) = settles_has rows new url now row f.1

admits_has : (list : List Rule) (rows new : List Row) (url : Parts) (now : ℤ) (row : Row)
    → Admits list rows url now row (Lacking new) → ⊥
admits_has list rows new url now row (inl a) = fits_has rows new url now row a.1
admits_has list rows new url now row (inr (inl a)) = fits_has rows new url now (alone row) a.2
admits_has list rows new url now row (inr (inr a)) = refused_not PublicSuffix rows (λ e. cc) a.2

inserts_has : (list : List Rule) (rows new : List Row) (url : Parts) (now : ℤ) (row : Row)
    → Inserts list rows url now row (Lacking new) → ⊥
inserts_has list rows new url now row (inl i) = refused_not NonHttpScheme rows (λ e. cc) i.1
inserts_has list rows new url now row (inr i) = admits_has list rows new url now row i.1

raw_has : (list : List Rule) (rows new : List Row) (url : Parts) (now : ℤ) (received : Seen)
    → InsertsRaw list rows url now received (Lacking new) → ⊥
raw_has list rows new url now received (inl r) = refused_not r.0 rows r.1 r.3
raw_has list rows new url now received (inr r) = inserts_has list rows new url now r.0 r.2

read_has : (list : List Rule) (rows new : List Row) (url : Parts) (now : ℤ) (read : Result Seen ParseError)
    → InsertsRead list rows url now read (Lacking new) → ⊥
read_has list rows new url now (Err error) e = refused_not Parse rows (λ same. cc) e
read_has list rows new url now (Ok seen) e = raw_has list rows new url now _ e

-- ---- one line

-- what reads as a cookie that doesn't break the prefix isn't against it
free_of : (one : ReadsOnce) (url : Parts) (line : List ℕ) (seen : Seen) → ReadsPlain line (Ok seen)
    → ¬ (BreaksHost url seen) → ¬ (IsAgainstHost url line)
free_of one url line seen reads whole against =
    whole (subst (BreaksHost url) (read_once one line against.1.0 seen against.1.1 reads) against.1.2)

-- nor is what reads as no cookie
pub no_cookie : (list : List Rule) (rows : List Row) (url : Parts) (now : ℤ) (line text : List ℕ)
    (error : ParseError) → IsUtf8 line → text ≡ line → ReadsPlain text (Err error)
    → Accepts list rows url now line (Refused Parse) rows
no_cookie list rows url now line text error utf8 same reads =
    let h = subst (λ t. ReadsPlain t (Err error)) same reads in
    inr (
      (λ against. both_ways false refl (h.accepted.1 (against.1.1.accepted.0 refl))),
      inr (utf8, (Err error, h, (Err Parse, refl, refl))),
    )

-- what reads as a cookie
pub line_accepted : (one : ReadsOnce) (list : List Rule) (rows new : List Row) (url : Parts) (now : ℤ)
    (line : List ℕ) (seen : Seen) (end : LineEnd) → IsUtf8 line → ReadsPlain line (Ok seen)
    → AcceptsCookie list rows url now seen end new → Accepts list rows url now line end new
line_accepted one list rows new url now line seen end utf8 reads (inl broken) =
    inl ((utf8, (seen, reads, broken.0)), broken.1, broken.2)
line_accepted one list rows new url now line seen end utf8 reads (inr whole) =
    inr (free_of one url line seen reads whole.0, inr (utf8, (Ok seen, reads, whole.1)))

pub line_lacks : (one : ReadsOnce) (url : Parts) (line : List ℕ) (seen : Seen) → IsUtf8 line
    → ReadsPlain line (Ok seen) → ¬ (BreaksHost url seen)
    → ¬ (Rattle.cookie_store.specs.Making.IsBarred seen.cookie url) → AsksForMemory url line
line_lacks one url line seen utf8 reads whole allowed =
    (free_of one url line seen reads whole, utf8, (seen, reads, allowed))

pub line_ok : {E : Type 0} (r : Result LineEnd E) (one : ReadsOnce) (list : List Rule) (rows new : List Row)
    (url : Parts) (now : ℤ) (line text : List ℕ) (seen : Seen) → IsUtf8 line → text ≡ line
    → ReadsPlain text (Ok seen) → IfOk r (λ end. AcceptsCookie list rows url now seen end new)
    → IfOk r (λ end. Accepts list rows url now line end new)
line_ok (Ok end) one list rows new url now line text seen utf8 same reads h =
    line_accepted one list rows new url now line seen end utf8 (subst (λ t. ReadsPlain t (Ok seen)) same reads) h
line_ok (Err e) one list rows new url now line text seen utf8 same reads h = tt

pub line_err : {E : Type 0} (r : Result LineEnd E) (one : ReadsOnce) (rows new : List Row) (url : Parts)
    (line text : List ℕ) (seen : Seen) → IsUtf8 line → text ≡ line → ReadsPlain text (Ok seen)
    → OnErr r ((new ≡ rows) × (¬ (BreaksHost url seen))
    × (¬ (Rattle.cookie_store.specs.Making.IsBarred seen.cookie url)))
    → OnErr r ((new ≡ rows) × AsksForMemory url line)
line_err (Ok end) one rows new url line text seen utf8 same reads h = tt
line_err (Err e) one rows new url line text seen utf8 same reads h =
    (h.0, line_lacks one url line seen utf8 (subst (λ t. ReadsPlain t (Ok seen)) same reads) h.1 h.2)

-- ---- one cookie

-- an answer of the store that isn't want of memory
pub accepted : (list : List Rule) (rows new : List Row) (url : Parts) (now : ℤ) (seen : Seen)
    (answer : Result StoreAction CookieError) (end : LineEnd) → ¬ (BreaksHost url seen) → answer ≢ Err OutOfMemory
    → Receives list rows url now (Ok seen) (answer, new)
    → end ≡ Rattle.cookie_client.specs.Accept.text_end answer → AcceptsCookie list rows url now seen end new
accepted list rows new url now seen answer end whole had received is = inr (whole, (answer, inserts received, is))
  where
    inserts : Receives list rows url now (Ok seen) (answer, new) → InsertsRead list rows url now (Ok seen) (answer, new)
    inserts (inl i) = i
    inserts (inr l) = absurd (had (ap (λ (p : End). p.0) l.1))

-- one that is
pub lacked : (list : List Rule) (rows new : List Row) (url : Parts) (now : ℤ) (seen : Seen)
    (answer : Result StoreAction CookieError) → answer ≡ Err OutOfMemory
    → Receives list rows url now (Ok seen) (answer, new)
    → ¬ (Rattle.cookie_store.specs.Making.IsBarred seen.cookie url)
lacked list rows new url now seen answer is (inl i) =
    absurd (read_has list rows new url now (Ok seen)
    (subst (λ a. InsertsRead list rows url now (Ok seen) (a, new)) is i))
lacked list rows new url now seen answer is (inr l) = l.0

-- What is put into fields is read from them, and an exchange through messages is the play's.
use Rattle.std.proofs.Common.{◌≡◌, ◌≢◌, ◌⊎◌, ℕ, ℤ, List, [], ◌∷◌, ◌++◌, map, refl, sym, ap, subst, ◌∙◌, append_assoc}
use Rattle.std.proofs.Common.{Result, Ok, Err, inl, inr}
use Rattle.std.specs.Prelude.{IfErr, OnOk}
use Rattle.std.specs.List.{AllByRecursion}
use Rattle.std.proofs.lemmas.List.{append-nil, map-append}
use Rattle.std.proofs.lemmas.List.Elements.{All-nil, All-cons}
use Rattle.http_header.proofs.HeaderMapLemmas.{get_all-append_same, get_all-append_other, get_all-insert_same}
use Rattle.http_header.proofs.HeaderMapLemmas.{get_all-insert_other, get_all-remove_same, get_all-remove_other}
use Rattle.http_header.specs.FieldValue.{FieldValue, IsFieldValue, plain_value}
use Rattle.http_header.specs.HeaderMap.{IsHeaderMap, append, get_all}
use Rattle.cookie.specs.ByName.{Lists}
use Rattle.cookie.specs.Jar.{Jar, delta, under_names}
use Rattle.cookie_text.specs.Printing.{encoded}
use Rattle.cookie_text.specs.Record.{Seen}
use Rattle.cookie_client.specs.Accept.{AcceptsAll}
use Rattle.cookie_client.specs.Header.{IsHeader}
use Rattle.cookie_client.specs.Jar.{ClosesWith, IsOpenedBy, IsSent, lines_of}
use Rattle.cookie_store.specs.Rows.{Row}
use Rattle.url.specs.Parts.{Parts}
use Rattle.http_cookies.specs.Fields.{Fields, AreFieldValues, AreLinesRefusal, IsHeaderRefusal, TakesHeader, TakesLines}
use Rattle.http_cookies.specs.Fields.{cookie_name, header_in, joined, lines_in, set_cookie_name}
use Rattle.http_cookies.specs.Fields.{with_header, with_lines, with_values}
use Rattle.http_cookies.specs.Messages.{AreNoLines, ExchangesArePlayed, IsNoDelta, IsNoHeader, KeepsOthers}
use Rattle.http_cookies.specs.Messages.{PutsDelta, PutsHeader, PutsLines}
use Rattle.http_cookies.specs.declared.error.PutError.{PutError}
use Rattle.http_cookies.specs.declared.error.PutError.TheVariants.{OutOfMemory}
use Rattle.http_cookies.proofs.Values.{line_fits}

-- ---- a session's lines

each_fits : (cookies : List Seen) → AllByRecursion (λ s. IsSent s.cookie) cookies → AreFieldValues (lines_of cookies)
each_fits [] h = All-nil IsFieldValue
each_fits (s ∷ cookies) h =
    All-cons IsFieldValue (encoded s.cookie) (lines_of cookies) (line_fits s.cookie h.0.path h.0.domain)
    (each_fits cookies h.1)

pub session_values : (jar : Jar) (lines : List (List ℕ)) → ClosesWith jar lines → AreFieldValues lines
session_values jar lines c = subst AreFieldValues (sym c.printed) (each_fits c.cookies c.are_sent)

-- ---- lines that were put

behind : (fields : Fields) (values : List FieldValue)
    → get_all (with_values fields values) set_cookie_name ≡ get_all fields set_cookie_name ++ values
behind fields [] = sym (append-nil (get_all fields set_cookie_name))
behind fields (v ∷ vs) =
    behind (append fields set_cookie_name v) vs
    ∙ (ap (λ (found : List FieldValue). found ++ vs) (get_all-append_same fields set_cookie_name v)
    ∙ append_assoc (get_all fields set_cookie_name) (v ∷ []) vs)

untouched : (fields : Fields) (values : List FieldValue) (other : List ℕ) → set_cookie_name ≢ other
    → get_all (with_values fields values) other ≡ get_all fields other
untouched fields [] other n = refl
untouched fields (v ∷ vs) other n =
    untouched (append fields set_cookie_name v) vs other n ∙ get_all-append_other fields set_cookie_name other v n

bytes_of : (lines : List (List ℕ)) → map (λ v. v.bytes) (map plain_value lines) ≡ lines
bytes_of [] = refl
bytes_of (line ∷ lines) = ap (λ (ls : List (List ℕ)). line ∷ ls) (bytes_of lines)

pub lines_received : (fields : Fields) (lines : List (List ℕ))
    → (lines_in (with_lines fields lines) ≡ lines_in fields ++ lines)
    × KeepsOthers set_cookie_name fields (with_lines fields lines)
lines_received fields lines = (
  ap (λ (found : List FieldValue). map (λ v. v.bytes) found) (behind fields (map plain_value lines))
      ∙ (map-append (λ v. v.bytes) (get_all fields set_cookie_name) (map plain_value lines)
      ∙ ap (λ (ls : List (List ℕ)). lines_in fields ++ ls) (bytes_of lines)),
  (λ other n. untouched fields (map plain_value lines) other n),
)

-- ---- a header that was put

pub header_opened : (fields : Fields) (header : List ℕ) → IsHeaderMap fields
    → (header_in (with_header fields header) ≡ header) × KeepsOthers cookie_name fields (with_header fields header)
header_opened fields [] valid = (
  ap (λ (found : List FieldValue). joined (map (λ v. v.bytes) found))
      (get_all-remove_same fields cookie_name valid.unique),
  (λ other n. get_all-remove_other fields cookie_name other valid.unique n),
)
header_opened fields (b ∷ bs) valid = (
  ap (λ (found : List FieldValue). joined (map (λ v. v.bytes) found))
      (get_all-insert_same fields cookie_name (plain_value (b ∷ bs))) ∙ append-nil (b ∷ bs),
  (λ other n. get_all-insert_other fields cookie_name other (plain_value (b ∷ bs)) n),
)

-- ---- an exchange

pub played : ExchangesArePlayed
played b list key rows url at commands told arrival new e =
    let header : header_in e.request ≡ e.asked.header =
    ap header_in e.asked.put ∙ (header_opened e.blank e.asked.header e.blank_is).0 in
    let lines : lines_in e.answer ≡ lines_of e.answered.closes.cookies =
    ap lines_in e.answered.put ∙ ((lines_received e.empty e.answered.lines).0
    ∙ (ap (λ (ls : List (List ℕ)). ls ++ e.answered.lines) e.empty_is ∙ e.answered.closes.printed)) in (
      e.asked.header,
      e.asked.is_header,
      (
        e.session,
        (e.opened, subst (λ (h : List ℕ). IsOpenedBy b key h e.opened) header e.opens, e.tells),
        (
          e.answered.closes.cookies,
          e.answered.closes.lists,
          (
            e.ends,
            subst (λ (ls : List (List ℕ)). AcceptsAll list rows url arrival ls e.ends new) lines e.received,
          ),
        ),
      ),
    )

-- ---- answers of the calls

pub lines_put_by : {A : Type 0} (r : Result A PutError) (jar : Jar) (old new : Fields) (lines : List (List ℕ))
    → ClosesWith jar lines → OnOk r (TakesLines old lines × (new ≡ with_lines old lines))
    → OnOk r (PutsLines jar old new)
lines_put_by (Err e) jar old new lines closes h = tt
lines_put_by (Ok x) jar old new lines closes h = record {
  lines = lines;
  closes = closes;
  room = h.0.room;
  put = h.1;
}

pub lines_not_put : {A : Type 0} (r : Result A PutError) (jar : Jar) (old : Fields) (lines : List (List ℕ))
    → ClosesWith jar lines → IfErr r (λ e. (e ≡ OutOfMemory) ⊎ AreLinesRefusal old lines e)
    → IfErr r (AreNoLines jar old)
lines_not_put (Ok x) jar old lines closes h = tt
lines_not_put (Err e) jar old lines closes (inl memory) = inl memory
lines_not_put (Err e) jar old lines closes (inr (inl bad)) = absurd (bad.1 (session_values jar lines closes))
lines_not_put (Err e) jar old lines closes (inr (inr full)) = inr (full.0, (lines, closes, full.1.1))

pub delta_put : {A : Type 0} (r : Result A PutError) (jar : Jar) (old new : Fields) (cookies : List Seen)
    (lines : List (List ℕ)) → Lists (under_names cookies) (delta jar) → lines ≡ lines_of cookies
    → OnOk r (TakesLines old lines × (new ≡ with_lines old lines)) → OnOk r (PutsDelta jar old new)
delta_put (Err e) jar old new cookies lines lists is h = tt
delta_put (Ok x) jar old new cookies lines lists is h = record {
  cookies = cookies;
  lists = lists;
  takes = subst (TakesLines old) is h.0;
  put = h.1 ∙ ap (with_lines old) is;
}

pub delta_not_put : {A : Type 0} (r : Result A PutError) (jar : Jar) (old : Fields) (cookies : List Seen)
    (lines : List (List ℕ)) → Lists (under_names cookies) (delta jar) → lines ≡ lines_of cookies
    → IfErr r (λ e. (e ≡ OutOfMemory) ⊎ AreLinesRefusal old lines e) → IfErr r (IsNoDelta jar old)
delta_not_put (Ok x) jar old cookies lines lists is h = tt
delta_not_put (Err e) jar old cookies lines lists is (inl memory) = inl memory
delta_not_put (Err e) jar old cookies lines lists is (inr bad) =
    inr (cookies, lists, subst (λ (ls : List (List ℕ)). AreLinesRefusal old ls e) is bad)

pub header_put : {A : Type 0} (r : Result A PutError) (rows : List Row) (url : Parts) (now : ℤ) (old new : Fields)
    (header : List ℕ) → IsHeader rows url now header
    → OnOk r (TakesHeader old header × (new ≡ with_header old header)) → OnOk r (PutsHeader rows url now old new)
header_put (Err e) rows url now old new header is h = tt
header_put (Ok x) rows url now old new header is h = record {
  header = header;
  is_header = is;
  takes = h.0;
  put = h.1;
}

pub header_not_put : {A : Type 0} (r : Result A PutError) (rows : List Row) (url : Parts) (now : ℤ) (old : Fields)
    (header : List ℕ) → IsHeader rows url now header
    → IfErr r (λ e. (e ≡ OutOfMemory) ⊎ IsHeaderRefusal old header e) → IfErr r (IsNoHeader rows url now old)
header_not_put (Ok x) rows url now old header is h = tt
header_not_put (Err e) rows url now old header is (inl memory) = inl memory
header_not_put (Err e) rows url now old header is (inr bad) = inr (header, is, bad)

-- The line of a session's cookie becomes its row.
use Rattle.std.proofs.Common.{◌≡◌, ℕ, ℤ, ◌≤ℤ◌, pos, Bool, true, false, cond, ◌&&◌, ◌||◌, List, [], ◌∷◌, sym, refl, ap}
use Rattle.std.proofs.Common.{◌∙◌, subst, ⊎_elim, inl, inr, Some, Result, Ok, Err}
use Rattle.std.specs.Prelude.{not, IsSomeAnd, unwrap_or}
use Rattle.std.specs.List.{list_any}
use Rattle.std.proofs.lemmas.Bool.{cases_Bool, both_ways}
use Rattle.url.specs.Parts.{Parts}
use Rattle.cookie_text.specs.declared.error.ParseError.{ParseError}
use Rattle.cookie_text.specs.ReadingBack.{ReadsBack}
use Rattle.cookie_text.specs.Record.{Record, Seen, unsliced}
use Rattle.publicsuffix.specs.Rules.{Rule}
use Rattle.store_parts.specs.DomainMatch.{Domain, host_only, text_of, Covers}
use Rattle.store_parts.specs.Expiry.{death, is_dead}
use Rattle.cookie_store.specs.Making.{IsMade, IsRefused, IsDomainFor}
use Rattle.cookie_client.specs.Hosts.{secure_host}
use Rattle.cookie_client.proofs.SessionTexts.{ReadingBack, utf8_bytes, not_nil}
use Rattle.cookie_store.specs.Insertion.{End, settled, Fits, Admits, InsertsRead}
use Rattle.store_parts.specs.declared.error.CookieError.{CookieError}
use Rattle.cookie_client.specs.Accept.{text_end}
use Rattle.cookie_store.specs.Rows.{Row, domain_text, has_key_of, is_live_of, ended, put}
use Rattle.cookie_client.specs.Jar.{IsSent}
use Rattle.cookie_client.specs.Sent.{IsRowFor, IsTaken}
use Rattle.cookie_client.specs.Laws.{SentLinesAreTaken}
use Rattle.cookie_store.specs.declared.action.StoreAction.{StoreAction}
use Rattle.cookie_store.specs.declared.action.StoreAction.TheVariants.{Inserted, UpdatedExisting, ExpiredExisting}
use Rattle.cookie_client.proofs.Lines.{https_of, is_http, not_against, not_refused, path_is, domain_is, read_as}
use Rattle.cookie_client.proofs.Lines.{IsClosed}
use Rattle.cookie_client.proofs.Promises.{line_utf8}
use Rattle.cookie_client.proofs.Lines.{at_epoch, epoch_dead}

closed_of : (c : Record) → IsSent c → IsClosed c
closed_of c h = record {
  good = record {
    named = not_nil c.name h.readable.name;
    name = h.name;
    value = h.value;
    name_bytes = utf8_bytes c.name
        h.name;
    value_bytes = utf8_bytes c.value h.value;
  };
  is_sent = record { secure = h.secure; path = h.path; domain = h.domain; age = h.age };
  readable = h.readable;
}

row_for : (host : List ℕ) (url : Parts) (now : ℤ) (c : Record) (s : Seen) (made : Row) → secure_host url ≡ Some host
    → IsSent c → s.cookie ≡ read_as c → IsMade (unsliced s.cookie) url now made → IsRowFor host c now made
row_for host url now c s made secure sent is m = record {
  domain = domain_is host url c made.domain secure sent.domain
      (subst (λ (r : Record). IsSomeAnd (Rattle.cookie_store.specs.Making.asked_domain r)
      (λ asked. IsDomainFor asked url made.domain)) is m.domain);
  path = m.path ∙ (ap (λ (r : Record). Rattle.cookie_store.specs.Making.path_at r url) is ∙ path_is c url sent.path);
  name = ap (λ (x : Seen). x.cookie.name) m.raw ∙ ap (λ (r : Record). r.name) is;
  value = ap (λ (x : Seen). x.cookie.value) m.raw ∙ ap (λ (r : Record). r.value) is;
  death = m.ends ∙ ap (λ (r : Record). death r now) is;
}

-- ---- what is settled is taken

none_ended : (now : ℤ) (row : Row) (rows : List Row) → pos 0 ≤ℤ now
    → list_any (is_live_of now row) (ended now row rows) ≡ false
none_ended now row [] after = refl
none_ended now row (r ∷ rs) after = (λ i. one (is_live_of now row r) refl i || none_ended now row rs after i)
  where
    one : (b : Bool) → is_live_of now row r ≡ b → is_live_of now row (cond b (at_epoch r) r) ≡ false
    one true e = ap (λ d. has_key_of row r && not d) (epoch_dead now after) ∙ no_and (has_key_of row r)
      where
        no_and : (x : Bool) → (x && false) ≡ false
        no_and true = refl
        no_and false = refl
    one false e = e

taken_of : (rows : List Row) (now : ℤ) (row : Row) (end : Result StoreAction CookieError) (new : List Row)
    → pos 0 ≤ℤ now → (end, new) ≡ settled rows now row → IsTaken rows now row (text_end end) new
taken_of rows now row end new after is =
    ⊎_elim
    (λ (d : is_dead now row.death ≡ true).
    ⊎_elim
    (λ (e : list_any (is_live_of now row) rows ≡ true).
    let out : (end, new) ≡ (Ok ExpiredExisting, ended now row rows) = is ∙ rw (d, e) refl in
    inr (
      d,
      inl (ap (λ (p : End). text_end p.0) out),
      ap (λ (p : End). list_any (is_live_of now row) p.1) out
          ∙ none_ended now row rows after,
    ))
    (λ (e : list_any (is_live_of now row) rows ≡ false).
    let out : (end, new) ≡ (Err Rattle.store_parts.specs.declared.error.CookieError.TheVariants.Expired, rows) = is
    ∙ rw (d, e) refl in
    inr (d, inr (ap (λ (p : End). text_end p.0) out), ap (λ (p : End). list_any (is_live_of now row) p.1) out ∙ e))
    (cases_Bool (list_any (is_live_of now row) rows)))
    (λ (d : is_dead now row.death ≡ false).
    ⊎_elim
    (λ (e : list_any (has_key_of row) rows ≡ true).
    let out : (end, new) ≡ (Ok UpdatedExisting, put row rows) = is ∙ rw (d, e) refl in
    inl (d, inr (ap (λ (p : End). text_end p.0) out), ap (λ (p : End). p.1) out))
    (λ (e : list_any (has_key_of row) rows ≡ false).
    let out : (end, new) ≡ (Ok Inserted, put row rows) = is ∙ rw (d, e) refl in
    inl (d, inl (ap (λ (p : End). text_end p.0) out), ap (λ (p : End). p.1) out))
    (cases_Bool (list_any (has_key_of row) rows)))
    (cases_Bool (is_dead now row.death))

-- ---- nothing refuses it

abbrev Taken : List ℕ → Record → List Row → ℤ → Result StoreAction CookieError → List Row → Type 0
Taken host c rows now end new =
    (row : Row) × IsRowFor host c now row × IsTaken rows now row (text_end end) new

fits_taken : (host : List ℕ) (url : Parts) (now : ℤ) (c : Record) (row : Row) (rows : List Row)
    (end : Result StoreAction CookieError) (new : List Row) → secure_host url ≡ Some host → pos 0 ≤ℤ now
    → IsRowFor host c now row → Fits rows url now row (end, new) → Taken host c rows now end new
fits_taken host url now c row rows end new secure after h (inl mismatch) =
    absurd (mismatch.0 (subst (λ o. IsSomeAnd o (Covers row.domain)) (sym (https_of host url secure).1)
    (subst (λ d. Covers d host) (sym h.domain) refl)))
fits_taken host url now c row rows end new secure after h (inr (covers, inl guarded)) = absurd
    (guarded.0.1 (is_http host url secure))
fits_taken host url now c row rows end new secure after h (inr (covers, inr free)) =
    (row, h, taken_of rows now row end new after free.1)

admits_taken : (list : List Rule) (host : List ℕ) (url : Parts) (now : ℤ) (c : Record) (row : Row) (rows : List Row)
    (end : Result StoreAction CookieError) (new : List Row) → secure_host url ≡ Some host → pos 0 ≤ℤ now
    → IsRowFor host c now row → Admits list rows url now row (end, new) → Taken host c rows now end new
admits_taken list host url now c row rows end new secure after h (inl unlisted) = fits_taken host url now c row rows end
    new secure after h unlisted.1
admits_taken list host url now c row rows end new secure after h (inr (inl own)) =
    fits_taken host url now c (record row { domain = host_only (domain_text row) }) rows end new secure after
    (record {
      domain = ap host_only (ap (λ (d : Domain). unwrap_or (text_of d) []) h.domain);
      path = h.path;
      name =
          h.name;
      value = h.value;
      death = h.death;
    }) own.2
admits_taken list host url now c row rows end new secure after h (inr (inr listed)) =
    absurd (listed.1 (subst (λ o. IsSomeAnd o (λ g. text_of row.domain ≡ Some g)) (sym (https_of host url secure).1)
    (ap text_of h.domain)))

read_taken : (list : List Rule) (host : List ℕ) (url : Parts) (now : ℤ) (c : Record) (rows : List Row)
    (end : Result StoreAction CookieError) (new : List Row) (o : Result Seen ParseError) → secure_host url ≡ Some host
    → pos 0 ≤ℤ now → IsSent c → ReadsBack c o → InsertsRead list rows url now o (end, new)
    → Taken host c rows now end new
read_taken list host url now c rows end new (Err e) secure after sent back inserts = absurd
    (both_ways false refl back.accepted)
read_taken list host url now c rows end new (Ok s) secure after sent back (inl refused) =
    absurd (not_refused host url c refused.0 secure sent.domain refused.1
    (subst (λ (r : Record). IsRefused r url refused.0) back.normal refused.2))
read_taken list host url now c rows end new (Ok s) secure after sent back (inr (made, is_made, inl barred)) = absurd
    (barred.0.1 (is_http host url secure))
read_taken list host url now c rows end new (Ok s) secure after sent back (inr (made, is_made, inr allowed)) =
    admits_taken list host url now c made rows end new secure after (row_for host url now c s made secure sent
    back.normal is_made) allowed.1

pub sent_taken : (law : ReadingBack) → SentLinesAreTaken
sent_taken law list host url now c rows end new sent secure after (inl against) =
    let closed = closed_of c sent in absurd (not_against law host url c secure closed.is_sent sent.readable against.0)
sent_taken law list host url now c rows end new sent secure after (inr (free, inl wrong)) = absurd
    (wrong.0 (line_utf8 c (closed_of c sent)))
sent_taken law list host url now c rows end new sent secure after (inr (free, inr right)) =
    let t = read_taken list host url now c rows right.1.2.0 new right.1.0 secure after sent
    (law c sent.readable sent.age right.1.0 right.1.1) right.1.2.1 in
    (t.0, t.1, subst (λ e. IsTaken rows now t.0 e new) (sym right.1.2.2) t.2)

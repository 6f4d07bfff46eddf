-- What becomes of the rows under a host when a line comes: one of its own sessions, or one from elsewhere.
use Rattle.std.proofs.Common.{◌≡◌, ◌≢◌, ◌⊎◌, ℕ, ℤ, ◌≤ℤ◌, pos, ◌*ℤ◌, ◌+ℤ◌, Bool, true, false, cond, List, [], ◌∷◌, sym}
use Rattle.std.proofs.Common.{refl, ap, ◌∙◌, subst, ⊎_elim, inl, inr, Option, Some, None, Result, Ok, Err, arith}
use Rattle.std.specs.Prelude.{option_map, unwrap_or, codes, IfSome, IsSomeAnd, int_lt}
use Rattle.std.specs.Int.{int_min}
use Rattle.std.specs.List.{AllByRecursion}
use Rattle.std.specs.Str.{bytes_eq, IsUtf8}
use Rattle.std.proofs.lemmas.Bool.{cases_Bool, both_ways}
use Rattle.jiff.proofs.SpanFacts.{signed_arith}
use Rattle.jiff.specs.Types.{DateTime}
use Rattle.jiff.specs.Words.{civil_nanos, civil_seconds}
use Rattle.jiff.proofs.Family.{civil_nanos-civil_seconds}
use Rattle.percent_encoding.specs.Percent.{percent_decode}
use Rattle.url.specs.Parts.{Parts}
use Rattle.cookie_text.specs.declared.error.ParseError.{ParseError}
use Rattle.cookie_text.specs.declared.expiration.Expiration.{Expiration}
use Rattle.cookie_text.specs.declared.expiration.Expiration.TheVariants.{DateTime as At, Session}
use Rattle.cookie_text.specs.Normal.{normal, not_below_zero, whole_end, whole_moment}
use Rattle.cookie_text.specs.Printing.{encoded, whole_seconds}
use Rattle.cookie_text.specs.Reading.{ReadsPlain}
use Rattle.cookie_text.specs.ReadingBack.{ReadsBack}
use Rattle.cookie_text.specs.Record.{Record, Seen, unsliced, moment_of}
use Rattle.publicsuffix.specs.Prevailing.{Listed}
use Rattle.publicsuffix.specs.Rules.{Rule}
use Rattle.store_parts.specs.DomainMatch.{Domain, host_only, suffix, text_of, Covers, CoversAt}
use Rattle.store_parts.specs.DomainMatch.{DomainMatches, IsListedIn}
use Rattle.store_parts.specs.DomainText.{attribute_domain, idna_form, suffix_or_empty}
use Rattle.store_parts.specs.Expiry.{death, latest, expiry_after}
use Rattle.store_parts.specs.declared.error.CookieError.{CookieError}
use Rattle.cookie_store.specs.Making.{IsMade, IsRefused, IsDomainFor, asked_domain, path_at}
use Rattle.cookie_client.specs.Hosts.{secure_host}
use Rattle.store_parts.specs.Schemes.{host_of}
use Rattle.cookie_client.proofs.ReadBack.{IsGood}
use Rattle.cookie_client.proofs.SessionTexts.{ReadingBack}
use Rattle.cookie_client.proofs.Texts.{same_text, some_is_not_none}
use Rattle.cookie_store.specs.Rows.{Row, domain_text}
use Rattle.cookie_store.specs.Insertion.{End, Fits, Admits, Inserts, InsertsRead}
use Rattle.cookie_store.specs.declared.action.StoreAction.{StoreAction}
use Rattle.cookie_client.specs.Accept.{Accepts, AcceptsAll}
use Rattle.cookie_client.specs.declared.outcome.LineEnd.{LineEnd}
use Rattle.cookie_run.specs.Headline.{IsApartFrom}
use Rattle.cookie.specs.Prefix.{IsHost}
use Rattle.cookie_client.specs.HostPrefix.{BeginsHost}
use Rattle.cookie_run.proofs.Kepts.{Kept}
use Rattle.cookie_client.proofs.LetIn.{free_conforms}
use Rattle.cookie_client.proofs.CountedRows.{Counts, is_counted, is_own}
use Rattle.cookie_run.proofs.OwnRows.{IsRowOf, IsGoodKept, IsWholeSecond}
use Rattle.cookie_run.proofs.OwnRows.{Agrees, first_and}
use Rattle.cookie_run.proofs.Received.{Writes, sent_writes, settled_keeps, second_and}
use Rattle.cookie_client.proofs.Lines.{https_of, is_http, IsClosed, read_as, not_refused, path_is, some_domain}
use Rattle.cookie_client.proofs.Lines.{domain_is, not_against}

-- what the row of its line holds
abbrev pub kept_of : ℤ → Record → Kept
kept_of now c = record { name = c.name; value = c.value; death = death (normal c) now }

pub good_kept : (now : ℤ) (c : Record) → IsGood c → IsGoodKept (kept_of now c)
good_kept now c g = record {
  named = g.named;
  name = g.name;
  value = g.value;
  name_bytes = g.name_bytes;
  value_bytes =
      g.value_bytes;
}

-- a moment of a play
pub record IsTime (now : ℤ) : Type 0 where
  pub whole : IsWholeSecond now
  pub after : pos 0 ≤ℤ now

-- ---- its death is a whole second

pub sum_whole : (x y : ℤ) → IsWholeSecond x → IsWholeSecond y → IsWholeSecond (x +ℤ y)
sum_whole x y h g = (h.0 +ℤ g.0, omega (arith, signed_arith, h.1, g.1))

pub latest_whole : IsWholeSecond latest
latest_whole = (pos 253_402_300_799, refl)

pub cond_whole : (b : Bool) (x y : ℤ) → IsWholeSecond x → IsWholeSecond y → IsWholeSecond (cond b x y)
cond_whole true x y h g = h
cond_whole false x y h g = g

pub min_whole : (x y : ℤ) → IsWholeSecond x → IsWholeSecond y → IsWholeSecond (int_min x y)
min_whole x y h g = cond_whole _ _ _ g h

pub age_whole : (n now : ℤ) → IsWholeSecond n → IsWholeSecond now → IsWholeSecond (expiry_after n now)
age_whole n now h g = cond_whole (int_lt (pos 0) n) _ _ (min_whole _ _ (sum_whole now n g h) latest_whole) (pos 0, refl)

pub moment_whole : (d : DateTime) → IsWholeSecond (civil_nanos (whole_moment d))
moment_whole d =
    let is = civil_nanos-civil_seconds (whole_moment d) in
    (civil_seconds (whole_moment d), omega (arith, signed_arith, is))

pub end_whole : (o : Option Expiration) → IfSome (option_map civil_nanos (moment_of (whole_end o))) IsWholeSecond
end_whole None = tt
end_whole (Some Session) = tt
end_whole (Some (At d)) = moment_whole d

pub death_whole : (c : Record) (now : ℤ) (age : Option ℤ) → c.max_age ≡ age → IsWholeSecond now
    → IfSome (death (normal c) now) IsWholeSecond
death_whole c now None e h = subst
    (λ o. IfSome (death
    (record (normal c) { max_age = option_map (λ nanos. not_below_zero (whole_seconds nanos) *ℤ pos 1_000_000_000) o })
    now) IsWholeSecond) (sym e) (end_whole c.expires)
death_whole c now (Some n) e h = subst
    (λ o. IfSome (death
    (record (normal c) { max_age = option_map (λ nanos. not_below_zero (whole_seconds nanos) *ℤ pos 1_000_000_000) o })
    now) IsWholeSecond) (sym e)
    (age_whole (not_below_zero (whole_seconds n) *ℤ pos 1_000_000_000) now (not_below_zero (whole_seconds n), refl) h)

pub row_is : (host : List ℕ) (url : Parts) (now : ℤ) (c : Record) (s : Seen) (made : Row) → secure_host url ≡ Some host
    → IsWholeSecond now → IsClosed c → ReadsPlain (encoded c) (Ok s) → s.cookie ≡ read_as c
    → IsMade (unsliced s.cookie) url now made → IsRowOf host (kept_of now c) made
row_is host url now c s made secure time closed reads is m = record {
  domain = domain_is host url c made.domain secure closed.is_sent.domain
      (subst (λ (r : Record). IsSomeAnd (asked_domain r) (λ asked. IsDomainFor asked url made.domain)) is m.domain);
  path = m.path ∙ (ap (λ (r : Record). path_at r url) is ∙ path_is c url closed.is_sent.path);
  name = ap (λ (x : Seen). x.cookie.name) m.raw ∙ ap (λ (r : Record). r.name) is;
  value = ap (λ (x : Seen). x.cookie.value) m.raw ∙ ap (λ (r : Record). r.value) is;
  death = m.ends ∙ ap (λ (r : Record). death r now) is;
  whole = death_whole c now c.max_age refl time;
}

-- ---- A LINE OF A SESSION

pub settles_writes : (counts : Counts) (host : List ℕ) (url : Parts) (now : ℤ) (k : Kept) (row : Row) (rows : List Row)
    (ks : List Kept)
    (end : Result StoreAction CookieError) (new : List Row) → secure_host url ≡ Some host → IsTime now
    → IsRowOf host k row → IsGoodKept k → Agrees counts host rows ks
    → Fits rows url now row (end, new) → Writes counts host now k ks new
settles_writes counts host url now k row rows ks end new secure time h hk a (inl mismatch) =
    absurd (mismatch.0 (subst (λ o. IsSomeAnd o (Covers row.domain)) (sym (https_of host url secure).1)
    (subst (λ d. Covers d host) (sym h.domain) refl)))
settles_writes counts host url now k row rows ks end new secure time h hk a (inr (covers, inl guarded)) = absurd
    (guarded.0.1 (is_http host url secure))
settles_writes counts host url now k row rows ks end new secure time h hk a (inr (covers, inr free)) =
    subst (Writes counts host now k ks) (sym (ap (λ (p : End). p.1) free.1))
    (sent_writes counts host now k row rows ks h hk a
    time.after)

pub admits_writes : (counts : Counts) (list : List Rule) (host : List ℕ) (url : Parts) (now : ℤ) (k : Kept) (row : Row)
    (rows : List Row)
    (ks : List Kept) (end : Result StoreAction CookieError) (new : List Row) → secure_host url ≡ Some host → IsTime now
    → IsRowOf host k row → IsGoodKept k → Agrees counts host rows ks
    → Admits list rows url now row (end, new) → Writes counts host now k ks new
admits_writes counts list host url now k row rows ks end new secure time h hk a (inl unlisted) = settles_writes counts
    host url now k
    row rows ks end new secure time h hk a unlisted.1
admits_writes counts list host url now k row rows ks end new secure time h hk a (inr (inl own)) =
    settles_writes counts host url now k (record row { domain = host_only (domain_text row) }) rows ks end new secure
    time
    (record {
      domain = ap host_only (ap (λ (d : Domain). unwrap_or (text_of d) []) h.domain);
      path = h.path;
      name =
          h.name;
      value = h.value;
      death = h.death;
      whole = h.whole;
    }) hk a own.2
admits_writes counts list host url now k row rows ks end new secure time h hk a (inr (inr listed)) =
    absurd (listed.1 (subst (λ o. IsSomeAnd o (λ g. text_of row.domain ≡ Some g)) (sym (https_of host url secure).1)
    (ap text_of h.domain)))

pub inserts_writes : (counts : Counts) (list : List Rule) (host : List ℕ) (url : Parts) (now : ℤ) (k : Kept) (row : Row)
    (rows : List Row)
    (ks : List Kept) (end : Result StoreAction CookieError) (new : List Row) → secure_host url ≡ Some host → IsTime now
    → IsRowOf host k row → IsGoodKept k → Agrees counts host rows ks
    → Inserts list rows url now row (end, new) → Writes counts host now k ks new
inserts_writes counts list host url now k row rows ks end new secure time h hk a (inl barred) = absurd
    (barred.0.1 (is_http host url secure))
inserts_writes counts list host url now k row rows ks end new secure time h hk a (inr allowed) = admits_writes counts
    list host url
    now k row rows ks end new secure time h hk a allowed.1

pub read_writes : (counts : Counts) (list : List Rule) (host : List ℕ) (url : Parts) (now : ℤ) (c : Record)
    (rows : List Row)
    (ks : List Kept) (end : Result StoreAction CookieError) (new : List Row) (o : Result Seen ParseError)
    → secure_host url ≡ Some host → IsTime now → IsClosed c → Agrees counts host rows ks
    → ReadsPlain (encoded c) o → ReadsBack c o → InsertsRead list rows url now o (end, new)
    → Writes counts host now (kept_of now c) ks new
read_writes counts list host url now c rows ks end new (Err e) secure time closed a reads back inserts = absurd
    (both_ways false refl back.accepted)
read_writes counts list host url now c rows ks end new (Ok s) secure time closed a reads back (inl refused) =
    absurd (not_refused host url c refused.0 secure closed.is_sent.domain refused.1
    (subst (λ (r : Record). IsRefused r url refused.0) back.normal refused.2))
read_writes counts list host url now c rows ks end new (Ok s) secure time closed a reads back (inr made) =
    inserts_writes counts list host url now (kept_of now c) made.0 rows ks end new secure time
    (row_is host url now c s made.0 secure time.whole closed reads back.normal made.1) (good_kept now c closed.good)
    a made.2

-- it writes what it sends
pub own_line : (counts : Counts) (law : ReadingBack) (utf8 : (c : Record) → IsClosed c → IsUtf8 (encoded c))
    (list : List Rule)
    (host : List ℕ) (url : Parts) (now : ℤ) (c : Record) (rows : List Row) (ks : List Kept) (end : LineEnd)
    (new : List Row) → secure_host url ≡ Some host → IsTime now → IsClosed c → Agrees counts host rows ks
    → Accepts list rows url now (encoded c) end new → Writes counts host now (kept_of now c) ks new
own_line counts law utf8 list host url now c rows ks end new secure time closed a (inl against) =
    absurd (not_against law host url c secure closed.is_sent closed.readable against.0)
own_line counts law utf8 list host url now c rows ks end new secure time closed a (inr (free, inl wrong)) = absurd
    (wrong.0 (utf8 c closed))
own_line counts law utf8 list host url now c rows ks end new secure time closed a (inr (free, inr right)) =
    read_writes counts list host url now c rows ks right.1.2.0 new right.1.0 secure time closed a right.1.1
    (law c closed.readable closed.is_sent.age right.1.0 right.1.1) right.1.2.1

-- ---- A LINE FROM ELSEWHERE

pub some_and : {A : Type 0} (P : A → Type 0) (o : Option A) → IsSomeAnd o P → (x : A) × (o ≡ Some x) × P x
some_and P None h = absurd h
some_and P (Some x) h = (x, refl, h)

-- the domain of a row: a suffix that covers the URL's host, or that host alone
abbrev pub Comes : Parts → Domain → Type 0
Comes url d = ((text : List ℕ) × (text ≢ []) × (d ≡ suffix text) × CoversAt d url)
    ⊎ (option_map host_only (host_of url) ≡ Some d)

pub comes_form : (url : Parts) (d : Domain) (form : Option (List ℕ)) → IsSomeAnd (option_map suffix_or_empty form)
    (λ asked. IsDomainFor asked url d) → Comes url d
comes_form url d None h = absurd h
comes_form url d (Some []) h = inr h
comes_form url d (Some (b ∷ bs)) h = inl (b ∷ bs, (λ e. let wrong : b ∷ bs ≡ [] = e in cc), h.0, h.1)

pub comes : (url : Parts) (d : Domain) (o : Option (List ℕ))
    → IsSomeAnd (attribute_domain o) (λ asked. IsDomainFor asked url d) → Comes url d
comes url d None h = inr h
comes url d (Some text) h = comes_form url d (idna_form text) h

-- such a row isn't of this host, nor given to it
abbrev pub IsAlien : List ℕ → Domain → Type 0
IsAlien host d = (unwrap_or (text_of d) [] ≢ host) × (¬ (Covers d host))

pub alone_alien : (host other : List ℕ) → other ≢ host → IsAlien host (host_only other)
alone_alien host other differ = (differ, λ same. differ (sym same))

pub alien_comes : (list : List Rule) (host : List ℕ) (url : Parts) (d : Domain) → host_of url ≢ Some host
    → IsApartFrom list host url → ¬ (IsListedIn d list) → Comes url d → IsAlien host d
alien_comes list host url d other apart unlisted (inr alone) =
    let g = of_map (host_of url) alone in
    subst (IsAlien host) (sym g.2) (alone_alien host g.0 (λ same. other (g.1 ∙ ap Some same)))
  where
    of_map : (o : Option (List ℕ)) → option_map host_only o ≡ Some d → (g : List ℕ) × (o ≡ Some g) × (d ≡ host_only g)
    of_map None e = absurd (some_is_not_none d (sym e))
    of_map (Some g) e = (g, refl, sym (some_domain (host_only g) d e))
alien_comes list host url d other apart unlisted (inl below) =
    let text = below.0 in
    let g = some_and (Covers d) (host_of url) below.3 in
    let match : DomainMatches g.0 text = subst (λ x. Covers x g.0) below.2 g.2 in
    let free : ¬ (Listed list text) = subst (λ x. ¬ (IsListedIn x list)) below.2 unlisted in
    let away : host ≢ g.0 = λ same. other (g.1 ∙ ap Some (sym same)) in
    subst (IsAlien host) (sym below.2) (
      (λ same. free (apart g.0 g.1 away text below.1 (inl (sym same)) match)),
      (λ covers. free (apart g.0 g.1 away text below.1 covers match)),
    )

-- a row whose name counts is such a one
abbrev pub IsForeign : Counts → List ℕ → Row → Type 0
IsForeign counts host row = is_counted counts row ≡ true → IsAlien host row.domain

foreign_own : (counts : Counts) (host : List ℕ) (row : Row) → IsForeign counts host row
    → is_own counts host row ≡ false
foreign_own counts host row foreign =
    ⊎_elim
    (λ (e : is_own counts host row ≡ true). absurd ((foreign (first_and _ _ e)).0
    (same_text (domain_text row) host (second_and _ _ e))))
    (λ (e : is_own counts host row ≡ false). e)
    (cases_Bool (is_own counts host row))

pub fits_keeps : (counts : Counts) (host : List ℕ) (url : Parts) (now : ℤ) (row : Row) (rows : List Row)
    (ks : List Kept) (end : Result StoreAction CookieError) (new : List Row) → IsForeign counts host row
    → Agrees counts host rows ks → Fits rows url now row (end, new) → Agrees counts host new ks
fits_keeps counts host url now row rows ks end new foreign a (inl mismatch) = subst (λ rs. Agrees counts host rs ks)
    (sym (ap (λ (p : End). p.1) mismatch.1)) a
fits_keeps counts host url now row rows ks end new foreign a (inr (covers, inl guarded)) =
    subst (λ rs. Agrees counts host rs ks) (sym (ap (λ (p : End). p.1) guarded.1)) a
fits_keeps counts host url now row rows ks end new foreign a (inr (covers, inr free)) =
    subst (λ rs. Agrees counts host rs ks) (sym (ap (λ (p : End). p.1) free.1))
    (settled_keeps counts host now row rows ks (foreign_own counts host row foreign)
    (λ other c. (foreign c).1) a)

-- A host is away from a URL's lines: they are of another host, and the two are apart; or they aren't of this host at
-- https, and each name that counts begins with `__Host-`.
abbrev pub IsAway : Counts → List Rule → List ℕ → Parts → Type 0
IsAway counts list host url =
    ((host_of url ≢ Some host) × IsApartFrom list host url)
    ⊎ ((secure_host url ≢ Some host) × ((name : List ℕ) → counts (percent_decode name) ≡ true → BeginsHost name))

-- or the row's name doesn't count
abbrev pub IsRowAway : Counts → List Rule → List ℕ → Parts → Row → Type 0
IsRowAway counts list host url row = IsAway counts list host url ⊎ (is_counted counts row ≡ false)

abbrev pub IsReadAway : Counts → List Rule → List ℕ → Parts → Result Seen ParseError → Type 0
IsReadAway counts list host url read =
    IsAway counts list host url ⊎ ((s : Seen) → read ≡ Ok s → counts (percent_decode s.cookie.name) ≡ false)

-- or the line reads as none that does
abbrev pub ReadsUncounted : Counts → List ℕ → Type 0
ReadsUncounted counts line =
    IsUtf8 line → (s : Seen) → ReadsPlain line (Ok s) → counts (percent_decode s.cookie.name) ≡ false

-- where it begins so, it came over https, and the row is of the URL's host alone
abbrev pub IsLetInAlone : Parts → Row → Type 0
IsLetInAlone url row =
    BeginsHost row.raw.cookie.name
    → (url.scheme ≡ codes "https") × (option_map host_only (host_of url) ≡ Some row.domain)

secure_is : (url : Parts) → url.scheme ≡ codes "https" → secure_host url ≡ host_of url
secure_is url e = ap (λ scheme. cond (bytes_eq scheme (codes "https")) (host_of url) None) e

-- where the name counts, it is another host's
elsewhere : (counts : Counts) (list : List Rule) (host : List ℕ) (url : Parts) (row : Row)
    → IsRowAway counts list host url row → IsLetInAlone url row → is_counted counts row ≡ true
    → host_of url ≢ Some host
elsewhere counts list host url row (inr lacks) alone c = absurd (both_ways _ lacks c)
elsewhere counts list host url row (inl (inl apart)) alone c = apart.0
elsewhere counts list host url row (inl (inr begins)) alone c =
    λ here. begins.0 (secure_is url (alone (begins.1 row.raw.cookie.name c)).0 ∙ here)

alone_host : (host : List ℕ) (url : Parts) (d : Domain) → host_of url ≢ Some host
    → option_map host_only (host_of url) ≡ Some d → IsAlien host d
alone_host host url d other alone =
    let g = of_host (host_of url) alone in
    subst (IsAlien host) (sym g.2) (alone_alien host g.0 (λ same. other (g.1 ∙ ap Some same)))
  where
    of_host : (o : Option (List ℕ)) → option_map host_only o ≡ Some d → (g : List ℕ) × (o ≡ Some g)
        × (d ≡ host_only g)
    of_host None e = absurd (some_is_not_none d (sym e))
    of_host (Some g) e = (g, refl, sym (some_domain (host_only g) d e))

foreign_comes : (counts : Counts) (list : List Rule) (host : List ℕ) (url : Parts) (row : Row)
    → IsRowAway counts list host url row → ¬ (IsListedIn row.domain list) → Comes url row.domain
    → IsLetInAlone url row → IsForeign counts host row
foreign_comes counts list host url row (inr lacks) unlisted from alone c = absurd (both_ways _ lacks c)
foreign_comes counts list host url row (inl (inl apart)) unlisted from alone c =
    alien_comes list host url row.domain apart.0 apart.1 unlisted from
foreign_comes counts list host url row (inl (inr begins)) unlisted from alone c =
    alone_host host url row.domain (elsewhere counts list host url row (inl (inr begins)) alone c)
    (alone (begins.1 row.raw.cookie.name c)).1

pub admits_keeps : (counts : Counts) (list : List Rule) (host : List ℕ) (url : Parts) (now : ℤ) (row : Row)
    (rows : List Row) (ks : List Kept) (end : Result StoreAction CookieError) (new : List Row)
    → IsRowAway counts list host url row → Comes url row.domain → IsLetInAlone url row
    → Agrees counts host rows ks → Admits list rows url now row (end, new) → Agrees counts host new ks
admits_keeps counts list host url now row rows ks end new away from alone a (inl unlisted) =
    fits_keeps counts host url now row rows ks end new
    (foreign_comes counts list host url row away unlisted.0 from alone) a unlisted.1
admits_keeps counts list host url now row rows ks end new away from alone a (inr (inl own)) =
    let g = some_and (λ h. text_of row.domain ≡ Some h) (host_of url) own.1 in
    let is : domain_text row ≡ g.0 = ap (λ o. unwrap_or o []) g.2 in
    fits_keeps counts host url now (record row { domain = host_only (domain_text row) }) rows ks end new
    (λ c. alone_alien host (domain_text row)
    (λ same. elsewhere counts list host url row away alone c (g.1 ∙ ap Some (sym is ∙ same)))) a own.2
admits_keeps counts list host url now row rows ks end new away from alone a (inr (inr listed)) =
    subst (λ rs. Agrees counts host rs ks) (sym (ap (λ (p : End). p.1) listed.2)) a

pub inserts_keeps : (counts : Counts) (list : List Rule) (host : List ℕ) (url : Parts) (now : ℤ) (row : Row)
    (rows : List Row) (ks : List Kept) (end : Result StoreAction CookieError) (new : List Row)
    → IsRowAway counts list host url row → Comes url row.domain → IsLetInAlone url row
    → Agrees counts host rows ks → Inserts list rows url now row (end, new) → Agrees counts host new ks
inserts_keeps counts list host url now row rows ks end new away from alone a (inl barred) =
    subst (λ rs. Agrees counts host rs ks) (sym (ap (λ (p : End). p.1) barred.1)) a
inserts_keeps counts list host url now row rows ks end new away from alone a (inr allowed) =
    admits_keeps counts list host url now row rows ks end new away from alone a allowed.1

-- a cookie that conforms to `__Host-` is of its URL's host alone
made_alone : (url : Parts) (now : ℤ) (s : Seen) (made : Row) → IsMade (unsliced s.cookie) url now made
    → (BeginsHost s.cookie.name → IsHost s × (url.scheme ≡ codes "https")) → IsLetInAlone url made
made_alone url now s made m conforms begins =
    let h = conforms (subst (λ (x : Seen). BeginsHost x.cookie.name) m.raw begins) in (
      h.1,
      subst (λ o. IsSomeAnd (attribute_domain o) (λ asked. IsDomainFor asked url made.domain)) h.0.domain m.domain,
    )

pub read_keeps : (counts : Counts) (list : List Rule) (host : List ℕ) (url : Parts) (now : ℤ) (rows : List Row)
    (ks : List Kept) (end : Result StoreAction CookieError) (new : List Row) (o : Result Seen ParseError)
    → IsReadAway counts list host url o
    → ((s : Seen) → o ≡ Ok s → BeginsHost s.cookie.name → IsHost s × (url.scheme ≡ codes "https"))
    → Agrees counts host rows ks → InsertsRead list rows url now o (end, new) → Agrees counts host new ks
read_keeps counts list host url now rows ks end new (Err e) away conforms a refused =
    subst (λ rs. Agrees counts host rs ks) (sym (ap (λ (p : End). p.1) refused)) a
read_keeps counts list host url now rows ks end new (Ok s) away conforms a (inl refused) =
    subst (λ rs. Agrees counts host rs ks) (sym (ap (λ (p : End). p.1) refused.3)) a
read_keeps counts list host url now rows ks end new (Ok s) away conforms a (inr made) =
    inserts_keeps counts list host url now made.0 rows ks end new (row_away away)
    (comes url made.0.domain _ made.1.domain) (made_alone url now s made.0 made.1 (conforms s refl)) a made.2
  where
    row_away : IsReadAway counts list host url (Ok s) → IsRowAway counts list host url made.0
    row_away (inl here) = inl here
    row_away (inr lacks) =
        inr (ap (λ (x : Seen). counts (percent_decode x.cookie.name)) made.1.raw ∙ lacks s refl)

-- it changes nothing of the host's
pub other_line : (counts : Counts) (list : List Rule) (host : List ℕ) (url : Parts) (now : ℤ) (line : List ℕ)
    (rows : List Row) (ks : List Kept) (end : LineEnd) (new : List Row)
    → IsAway counts list host url ⊎ ReadsUncounted counts line → Agrees counts host rows ks
    → Accepts list rows url now line end new → Agrees counts host new ks
other_line counts list host url now line rows ks end new away a (inl against) =
    subst (λ rs. Agrees counts host rs ks) (sym against.2) a
other_line counts list host url now line rows ks end new away a (inr (free, inl wrong)) =
    subst (λ rs. Agrees counts host rs ks) (sym wrong.2) a
other_line counts list host url now line rows ks end new away a (inr (free, inr right)) =
    read_keeps counts list host url now rows ks right.1.2.0 new right.1.0 (read_away away)
    (λ s is. free_conforms url line s free right.0 (subst (ReadsPlain line) is right.1.1)) a right.1.2.1
  where
    read_away : IsAway counts list host url ⊎ ReadsUncounted counts line
        → IsReadAway counts list host url right.1.0
    read_away (inl here) = inl here
    read_away (inr lacks) = inr (λ s is. lacks right.0 s (subst (ReadsPlain line) is right.1.1))

-- a host is away from a URL's lines, or each of them reads as none that counts
abbrev pub AreAway : Counts → List Rule → List ℕ → Parts → List (List ℕ) → Type 0
AreAway counts list host url lines = IsAway counts list host url ⊎ AllByRecursion (ReadsUncounted counts) lines

first_away : (counts : Counts) (list : List Rule) (host : List ℕ) (url : Parts) (line : List ℕ) (lines : List (List ℕ))
    → AreAway counts list host url (line ∷ lines) → (IsAway counts list host url ⊎ ReadsUncounted counts line)
    × AreAway counts list host url lines
first_away counts list host url line lines (inl away) = (inl away, inl away)
first_away counts list host url line lines (inr lack) = (inr lack.0, inr lack.1)

pub other_lines : (counts : Counts) (list : List Rule) (host : List ℕ) (url : Parts) (now : ℤ) (lines : List (List ℕ))
    (rows : List Row) (ks : List Kept) (ends : List LineEnd) (new : List Row)
    → AreAway counts list host url lines → Agrees counts host rows ks → AcceptsAll list rows url now lines ends new
    → Agrees counts host new ks
other_lines counts list host url now [] rows ks ends new away a t = subst (λ rs. Agrees counts host rs ks)
    (sym t.1) a
other_lines counts list host url now (line ∷ lines) rows ks [] new away a t = absurd t
other_lines counts list host url now (line ∷ lines) rows ks (e ∷ ends) new away a t =
    let each = first_away counts list host url line lines away in
    other_lines counts list host url now lines t.0 ks ends new each.1
    (other_line counts list host url now line rows ks e t.0 each.0 a t.1) t.2

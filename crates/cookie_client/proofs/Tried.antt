-- What a line meets before rows are looked at, and the one row that it tries.
use Rattle.std.proofs.Common.{◌≡◌, ◌≢◌, ◌⊎◌, ℕ, ℤ, false, List, sym, refl, ap, ◌∙◌, subst, inl, inr, Option, Some, None}
use Rattle.std.proofs.Common.{Result, Ok, Err}
use Rattle.std.specs.Prelude.{option_map, IsSomeAnd}
use Rattle.std.specs.Str.{IsUtf8}
use Rattle.std.proofs.lemmas.Bool.{both_ways}
use Rattle.cookie_text.specs.Reading.{ReadsPlain}
use Rattle.cookie_text.specs.Record.{Seen, unsliced}
use Rattle.cookie_text.specs.declared.error.ParseError.{ParseError}
use Rattle.publicsuffix.specs.Rules.{Rule}
use Rattle.store_parts.specs.DomainMatch.{Domain, host_only, suffix, not_present, empty, Covers, CoversAt, IsHostOf}
use Rattle.store_parts.specs.DomainMatch.{IsListedIn}
use Rattle.store_parts.specs.Schemes.{host_of}
use Rattle.store_parts.specs.declared.error.CookieError.{CookieError}
use Rattle.store_parts.specs.declared.error.CookieError.TheVariants.{NonHttpScheme, NonRelativeScheme, DomainMismatch}
use Rattle.store_parts.specs.declared.error.CookieError.TheVariants.{Expired, Parse, PublicSuffix, UnspecifiedDomain}
use Rattle.store_parts.specs.declared.error.CookieError.TheVariants.{OutOfMemory}
use Rattle.url.specs.Parts.{Parts}
use Rattle.cookie_store.specs.Insertion.{End, Settles, Fits, Admits, InsertsRead, alone}
use Rattle.cookie_store.specs.Making.{IsBarred, IsMade, IsRefused, IsDomainFor, IsUncovered, AsksForNone, asked_domain}
use Rattle.cookie_store.specs.Rows.{Row}
use Rattle.cookie_store.specs.declared.action.StoreAction.{StoreAction}
use Rattle.cookie_client.specs.Accept.{Accepts}
use Rattle.cookie_client.specs.HostPrefix.{IsAgainstHost}
use Rattle.cookie_client.specs.Once.{Makes}
use Rattle.cookie_client.specs.declared.outcome.LineEnd.{LineEnd}
use Rattle.cookie_client.proofs.ReadOnce.{ReadsOnce, read_once, row_once}
use Rattle.cookie_client.proofs.Texts.{some_is_not_none}

-- ---- the row

-- what is put under a listed text is of its host alone, and what isn't listed is as it was made
abbrev pub IsAdmitted : List Rule → Parts → Row → Row → Type 0
IsAdmitted list url made row =
    ((¬ (IsListedIn made.domain list)) × (row ≡ made))
    ⊎ (IsListedIn made.domain list × IsHostOf made.domain url × (row ≡ alone made))

-- all that a line meets before rows are looked at
pub record IsTried (list : List Rule) (url : Parts) (now : ℤ) (line : List ℕ) (row : Row) : Type 0 where
  pub free : ¬ (IsAgainstHost url line)
  pub utf8 : IsUtf8 line
  pub made : Row
  pub makes : Makes line url now made
  pub allowed : ¬ (IsBarred made.raw.cookie url)
  pub admitted : IsAdmitted list url made row
  pub covers : CoversAt row.domain url

-- what a line does to the rows: nothing, whatever they are, or its row is settled among them
abbrev pub Does : List Rule → List Row → Parts → ℤ → List ℕ → List Row → Type 0
Does list rows url now line new =
    (((row : Row) → ¬ (IsTried list url now line row)) × (new ≡ rows))
    ⊎ ((row : Row) × IsTried list url now line row × ((answer : Result StoreAction CookieError)
    × Settles rows url now row (answer, new)))

-- ---- there is one

admitted_once : (list : List Rule) (url : Parts) (m n a b : Row) → m ≡ n → IsAdmitted list url m a
    → IsAdmitted list url n b → a ≡ b
admitted_once list url m n a b same (inl h) (inl g) = h.1 ∙ (same ∙ sym g.1)
admitted_once list url m n a b same (inr h) (inr g) = h.2 ∙ (ap alone same ∙ sym g.2)
admitted_once list url m n a b same (inl h) (inr g) =
    absurd (h.0 (subst (λ (r : Row). IsListedIn r.domain list) (sym same) g.0))
admitted_once list url m n a b same (inr h) (inl g) =
    absurd (g.0 (subst (λ (r : Row). IsListedIn r.domain list) same h.0))

pub tried_once : (one : ReadsOnce) (list : List Rule) (url : Parts) (now : ℤ) (line : List ℕ) (a b : Row)
    → IsTried list url now line a → IsTried list url now line b → a ≡ b
tried_once one list url now line a b t u =
    admitted_once list url t.made u.made a b (row_once one line url now t.made u.made t.makes u.makes) t.admitted
    u.admitted

-- ---- what is refused isn't tried

uncovered_not : (url : Parts) (d : Domain) (o : Option Domain) → IsSomeAnd o (λ asked. IsUncovered asked url)
    → IsSomeAnd o (λ asked. IsDomainFor asked url d) → ⊥
uncovered_not url d None h g = absurd h
uncovered_not url d (Some (host_only text)) h g = absurd g
uncovered_not url d (Some (suffix text)) h g = h.1 (subst (λ x. CoversAt x url) g.0 g.1)
uncovered_not url d (Some not_present) h g = let wrong : not_present ≡ suffix h.0.0 = h.0.1 in absurd (cc)
uncovered_not url d (Some empty) h g = let wrong : empty ≡ suffix h.0.0 = h.0.1 in absurd (cc)

hostless_not : (url : Parts) (d : Domain) (o : Option Domain) → host_of url ≡ None → IsSomeAnd o AsksForNone
    → IsSomeAnd o (λ asked. IsDomainFor asked url d) → ⊥
hostless_not url d None e h g = absurd h
hostless_not url d (Some (host_only text)) e h g = absurd g
hostless_not url d (Some (suffix text)) e h g = subst (λ o. IsSomeAnd o (Covers d)) e g.1
hostless_not url d (Some not_present) e h g = some_is_not_none d (sym g ∙ ap (option_map host_only) e)
hostless_not url d (Some empty) e h g = some_is_not_none d (sym g ∙ ap (option_map host_only) e)

refused_not : (received : Seen) (url : Parts) (now : ℤ) (made : Row) (cause : CookieError) → cause ≢ OutOfMemory
    → IsRefused received.cookie url cause → IsMade received url now made → ⊥
refused_not received url now made NonHttpScheme mem h m = m.allowed h
refused_not received url now made Parse mem h m =
    subst (λ o. IsSomeAnd o (λ asked. IsDomainFor asked url made.domain)) h.1 m.domain
refused_not received url now made DomainMismatch mem h m =
    uncovered_not url made.domain (asked_domain received.cookie) h.1 m.domain
refused_not received url now made NonRelativeScheme mem h m =
    hostless_not url made.domain (asked_domain received.cookie) h.1.1 h.1.0 m.domain
refused_not received url now made OutOfMemory mem h m = mem refl
refused_not received url now made Expired mem h m = h.1
refused_not received url now made PublicSuffix mem h m = h.1
refused_not received url now made UnspecifiedDomain mem h m = h.1

error_not : (line : List ℕ) (e : ParseError) (s : Seen) → ReadsPlain line (Err e) → ReadsPlain line (Ok s) → ⊥
error_not line e s h g = both_ways false refl (h.accepted.1 (g.accepted.0 refl))

-- ---- what a line does

module _ (one : ReadsOnce) (list : List Rule) (url : Parts) (now : ℤ) (line : List ℕ) (rows new : List Row) where
  abbrev Tried : Row → Type 0
  Tried row = IsTried list url now line row

  -- what was made of a line is one
  made_same : (made : Row) → Makes line url now made → (row : Row) (t : Tried row) → t.made ≡ made
  made_same made is row t = row_once one line url now t.made made t.makes is

  fits_does : (answer : Result StoreAction CookieError) (row : Row) → ((other : Row) → Tried other → other ≡ row)
      → (CoversAt row.domain url → Tried row) → Fits rows url now row (answer, new) → Does list rows url now line new
  fits_does answer row once tried (inl mismatch) = inl (
    (λ other t. mismatch.0 (subst (λ (r : Row). CoversAt r.domain url) (once other t) t.covers)),
    ap (λ (e : End). e.1) mismatch.1,
  )
  fits_does answer row once tried (inr (covers, settles)) = inr (row, tried covers, (answer, settles))

  admits_does : (answer : Result StoreAction CookieError) (made : Row) → ¬ (IsAgainstHost url line) → IsUtf8 line
      → Makes line url now made
      → ¬ (IsBarred made.raw.cookie url) → Admits list rows url now made (answer, new)
      → Does list rows url now line new
  admits_does answer made free utf8 is allowed (inl unlisted) =
      let admitted : IsAdmitted list url made made = inl (unlisted.0, refl) in
      fits_does answer made
      (λ other t. admitted_once list url t.made made other made (made_same made is other t) t.admitted admitted)
      (λ covers. record {
        free = free;
        utf8 = utf8;
        made = made;
        makes = is;
        allowed = allowed;
        admitted = admitted;
        covers = covers;
      })
      unlisted.1
  admits_does answer made free utf8 is allowed (inr (inl own)) =
      let admitted : IsAdmitted list url made (alone made) = inr (own.0, own.1, refl) in
      fits_does answer (alone made)
      (λ other t. admitted_once list url t.made made other (alone made) (made_same made is other t) t.admitted admitted)
      (λ covers. record {
        free = free;
        utf8 = utf8;
        made = made;
        makes = is;
        allowed = allowed;
        admitted = admitted;
        covers = covers;
      })
      own.2
  admits_does answer made free utf8 is allowed (inr (inr listed)) = inl (
    (λ other t. not_admitted other t.made (made_same made is other t) t.admitted),
    ap (λ (e : End). e.1) listed.2,
  )
    where
      not_admitted : (other m : Row) → m ≡ made → IsAdmitted list url m other → ⊥
      not_admitted other m same (inl h) = h.0 (subst (λ (r : Row). IsListedIn r.domain list) (sym same) listed.0)
      not_admitted other m same (inr h) = listed.1 (subst (λ (r : Row). IsHostOf r.domain url) same h.1)

  read_does : (answer : Result StoreAction CookieError) (read : Result Seen ParseError) → ¬ (IsAgainstHost url line)
      → IsUtf8 line → ReadsPlain line read → InsertsRead list rows url now read (answer, new)
      → Does list rows url now line new
  read_does answer (Err e) free utf8 reads refused = inl (
    (λ other t. error_not line e t.makes.0 reads t.makes.1),
    ap (λ (e : End). e.1) refused,
  )
  read_does answer (Ok s) free utf8 reads (inl refused) = inl (
    (λ other t. refused_not (unsliced s.cookie) url now t.made refused.0 refused.1 refused.2
        (as_read t.makes)),
    ap (λ (e : End). e.1) refused.3,
  )
    where
      as_read : {made : Row} → Makes line url now made → IsMade (unsliced s.cookie) url now made
      as_read {made} m = subst (λ (x : Seen). IsMade (unsliced x.cookie) url now made)
          (read_once one line m.0 s m.1 reads) m.2
  read_does answer (Ok s) free utf8 reads (inr (made, is, inl barred)) = inl (
    (λ other t. t.allowed (subst (λ (r : Row). IsBarred r.raw.cookie url) (sym (made_same made (s, reads, is) other t))
        barred.0)),
    ap (λ (e : End). e.1) barred.1,
  )
  read_does answer (Ok s) free utf8 reads (inr (made, is, inr allowed)) =
      admits_does answer made free utf8 (s, reads, is) allowed.0 allowed.1

  pub line_does : (end : LineEnd) → Accepts list rows url now line end new → Does list rows url now line new
  line_does end (inl against) = inl ((λ other t. t.free against.0), against.2)
  line_does end (inr (free, inl wrong)) = inl ((λ other t. wrong.0 t.utf8), wrong.2)
  line_does end (inr (free, inr right)) = read_does right.1.2.0 right.1.0 free right.0 right.1.1 right.1.2.1

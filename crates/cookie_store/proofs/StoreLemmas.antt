-- What calls of a store leave, by what they call.
use Rattle.std.proofs.Common.{◌≡◌, inl, inr, ℕ, ℤ, Bool, false, List, [], ◌∷◌, map, refl, sym, ap, ◌∙◌, true≢false}
use Rattle.std.specs.Prelude.{Option, Some, None, Ok, IsSomeAnd, is_some, option_copied, option_map, unwrap_or}
use Rattle.std.specs.Borrow.{Bor}
use Rattle.std.proofs.lemmas.Option.{none-some}
use Rattle.cookie_text.specs.Printing.{is_set}
use Rattle.cookie_text.specs.Record.{Seen, unsliced}
use Rattle.publicsuffix.specs.Rules.{Rule}
use Rattle.store_parts.specs.DomainMatch.{Domain, host_only, suffix, not_present, empty, text_of, text_or_empty}
use Rattle.store_parts.specs.DomainMatch.{IsHostOf}
use Rattle.store_parts.specs.Schemes.{host_of}
use Rattle.store_parts.specs.declared.error.CookieError.{CookieError}
use Rattle.store_parts.specs.declared.error.CookieError.TheVariants.{NonHttpScheme, NonRelativeScheme, PublicSuffix}
use Rattle.store_parts.specs.declared.error.CookieError.TheVariants.{DomainMismatch, Expired, Parse, UnspecifiedDomain}
use Rattle.store_parts.specs.declared.error.CookieError.TheVariants.{OutOfMemory}
use Rattle.url.specs.Parts.{Parts}
use Rattle.cookie_store.specs.Given.{lent_row}
use Rattle.cookie_store.specs.Insertion.{End, Inserts, Receives, OrLacks, alone, refused}
use Rattle.cookie_store.specs.Making.{IsMade, IsRefused}
use Rattle.cookie_store.specs.Rows.{Row}
use Rattle.cookie_store.specs.Steps.{InsertsOwned, host_alone}
use Rattle.cookie_store.specs.StoredCookie.{owned, stored_of}
use Rattle.cookie_store.specs.declared.stored_cookie.Cookie.{Cookie}
use Rattle.cookie_store.proofs.EndLemmas.{is_lack}

-- a domain that has the host's text, as of that host alone
pub host_alone_is : (d : Domain) (url : Parts) → IsHostOf d url → host_alone d ≡ host_only (text_or_empty d)
host_alone_is d url is = by (host_of url) is
  where
    at_host : (d : Domain) (host : List ℕ) → text_of d ≡ Some host → host_alone d ≡ host_only (text_or_empty d)
    at_host (host_only text) host e = refl
    at_host (suffix text) host e = refl
    at_host not_present host e = absurd (none-some host e)
    at_host empty host e = absurd (none-some host e)

    by : (o : Option (List ℕ)) → IsSomeAnd o (λ host. text_of d ≡ Some host)
        → host_alone d ≡ host_only (text_or_empty d)
    by None e = absurd e
    by (Some host) e = at_host d host e

pub alone_is : (row other : Row) (url : Parts) → IsHostOf row.domain url
    → other ≡ record row { domain = host_alone row.domain }
    → other ≡ alone row
alone_is row other url at_host is = is ∙ ap (λ d. record row { domain = d }) (host_alone_is row.domain url at_host)

-- a look-up shows a row where it gives a cookie
pub shown_there : (o : Option (Bor Cookie)) → is_some (option_map stored_of (option_copied o)) ≡ is_some o
shown_there None = refl
shown_there (Some c) = refl

pub set_is : (o : Option Bool) → unwrap_or o false ≡ is_set o
set_is None = refl
set_is (Some b) = refl

pub shown_all : {A : Type 0} (show : Row → A) (cs : List (Bor Cookie))
    → map (λ c. show (lent_row c)) cs ≡ map show (map lent_row cs)
shown_all show [] = refl
shown_all show (c ∷ cs) = ap (λ l. show (lent_row c) ∷ l) (shown_all show cs)

module _ (list : List Rule) (rows : List Row) (url : Parts) (now : ℤ) (end : End) where
  pub ends_owned : (row : Row) → OrLacks (Inserts list rows url now (owned row)) rows end
      → InsertsOwned list rows url now row end
  ends_owned row (inl x) = inl x
  ends_owned row (inr x) = inr x.4

  made_owned : (received : Seen) (made : Row) → IsMade received url now made
      → IsMade (unsliced received.cookie) url now (owned made)
  made_owned received made is = record {
    allowed = is.allowed;
    raw = ap (λ s. unsliced s.cookie) is.raw;
    path = is.path;
    domain = is.domain;
    ends = is.ends;
  }

  pub receives_made : (received : Seen) (made : Row) → IsMade received url now made
      → InsertsOwned list rows url now made end
      → Receives list rows url now (Ok received) end
  receives_made received made is (inl x) = inl (inr (owned made, made_owned received made is, x))
  receives_made received made is (inr x) = inr (is.allowed, x)

  pub receives_refused : (received : Seen) (cause : CookieError) → IsRefused received.cookie url cause
      → end ≡ refused cause rows
      → Receives list rows url now (Ok received) end
  receives_refused received OutOfMemory why is = inr (why.0, is)
  receives_refused received NonHttpScheme why is = inl
      (inl (NonHttpScheme, (λ e. true≢false (sym (ap is_lack e))), why, is))
  receives_refused received NonRelativeScheme why is = inl
      (inl (NonRelativeScheme, (λ e. true≢false (sym (ap is_lack e))), why, is))
  receives_refused received DomainMismatch why is = inl
      (inl (DomainMismatch, (λ e. true≢false (sym (ap is_lack e))), why, is))
  receives_refused received Expired why is = inl (inl (Expired, (λ e. true≢false (sym (ap is_lack e))), why, is))
  receives_refused received Parse why is = inl (inl (Parse, (λ e. true≢false (sym (ap is_lack e))), why, is))
  receives_refused received PublicSuffix why is = inl
      (inl (PublicSuffix, (λ e. true≢false (sym (ap is_lack e))), why, is))
  receives_refused received UnspecifiedDomain why is = inl
      (inl (UnspecifiedDomain, (λ e. true≢false (sym (ap is_lack e))), why, is))

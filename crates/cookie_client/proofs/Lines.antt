-- The line of a session's cookie, and what stands against it.
use Rattle.std.proofs.Common.{◌≡◌, ◌≢◌, ◌⊎◌, ℕ, ℤ, ◌≤ℤ◌, pos, true, false, cond, List, sym, refl, ap, ◌∙◌, subst}
use Rattle.std.proofs.Common.{⊎_elim, Some, None, Ok, arith, ◌&&◌, ◌||◌}
use Rattle.std.specs.Prelude.{option_map, option_and_then, unwrap_or, codes, IfSome, IsSomeAnd, ◌&&◌, ◌||◌, is_none}
use Rattle.std.specs.Str.{bytes_eq}
use Rattle.std.proofs.lemmas.Bool.{cases_Bool, cond-true, cond-false}
use Rattle.std.proofs.lemmas.Int.{ints}
use Rattle.jiff_core.specs.Timestamp.{IsDurationNanos}
use Rattle.url.specs.Parts.{Parts}
use Rattle.cookie_text.specs.Normal.{normal, kept, IsReadable}
use Rattle.cookie_text.specs.Printing.{encoded, encoded_pair, is_set, is_unrestricted, prints_secure}
use Rattle.cookie_text.specs.Record.{Record, without_dot, domain_of as domain_attribute}
use Rattle.store_parts.specs.DomainMatch.{Domain, host_only, suffix, not_present, CoversAt}
use Rattle.store_parts.specs.DomainText.{attribute_domain}
use Rattle.store_parts.specs.Expiry.{death, epoch, is_dead}
use Rattle.store_parts.specs.PathMatch.{default_path_at, read_path}
use Rattle.store_parts.specs.Schemes.{IsHttpScheme, host_of}
use Rattle.store_parts.specs.declared.error.CookieError.{CookieError}
use Rattle.store_parts.specs.declared.error.CookieError.TheVariants.{NonHttpScheme, NonRelativeScheme, DomainMismatch}
use Rattle.store_parts.specs.declared.error.CookieError.TheVariants.{Expired, Parse, PublicSuffix, UnspecifiedDomain}
use Rattle.store_parts.specs.declared.error.CookieError.TheVariants.{OutOfMemory}
use Rattle.cookie_store.specs.Making.{IsRefused, IsDomainFor, asked_domain, path_at}
use Rattle.cookie_store.specs.Rows.{Row}
use Rattle.cookie_client.specs.Hosts.{secure_host}
use Rattle.cookie_client.proofs.ReadBack.{IsGood}
use Rattle.cookie_client.proofs.SessionTexts.{ReadingBack}
use Rattle.cookie_client.proofs.Texts.{same_text, some_is_not_none}
use Rattle.cookie_client.specs.HostPrefix.{IsAgainstHost}
use Rattle.cookie_client.proofs.CountedRows.{root}

-- ---- https

pub https_of : (host : List ℕ) (url : Parts) → secure_host url ≡ Some host → (url.scheme ≡ codes "https")
    × (host_of url ≡ Some host)
https_of host url e =
    ⊎_elim
    (λ (s : bytes_eq url.scheme (codes "https") ≡ true). (
      same_text url.scheme (codes "https") s,
      sym
          (cond-true _ _ _ s) ∙ e,
    ))
    (λ (s : bytes_eq url.scheme (codes "https") ≡ false). absurd (some_is_not_none host (sym e ∙ cond-false _ _ _ s)))
    (cases_Bool (bytes_eq url.scheme (codes "https")))

pub is_http : (host : List ℕ) (url : Parts) → secure_host url ≡ Some host → IsHttpScheme url
is_http host url e = (codes "s", (https_of host url e).0)

-- ---- a cookie that a session closes with

pub record IsSent (c : Record) : Type 0 where
  pub secure : c.secure ≡ Some true
  pub path : c.path ≡ Some (codes "/")
  pub domain : c.domain ≡ None
  pub age : IfSome c.max_age IsDurationNanos

pub record IsClosed (c : Record) : Type 0 where
  pub good : IsGood c
  pub is_sent : IsSent c
  pub readable : IsReadable c

-- ---- nothing is against its line

abbrev pub read_as : Record → Record
read_as c = normal (encoded_pair c)

pub asks_none : (c : Record) → c.domain ≡ None → asked_domain (read_as c) ≡ Some not_present
asks_none c e = ap (λ o. attribute_domain (option_map without_dot (option_map without_dot o))) e

pub not_refused : (host : List ℕ) (url : Parts) (c : Record) (cause : CookieError) → secure_host url ≡ Some host
    → c.domain ≡ None → cause ≢ OutOfMemory → IsRefused (read_as c) url cause → ⊥
not_refused host url c NonHttpScheme secure none mem h = h.1 (is_http host url secure)
not_refused host url c Parse secure none mem h = some_is_not_none not_present (sym (asks_none c none) ∙ h.1)
not_refused host url c DomainMismatch secure none mem h = let g = subst
    (λ o. IsSomeAnd o (λ asked. ((text : List ℕ) × (asked ≡ suffix text)) × (¬ (CoversAt asked url))))
    (asks_none c none) h.1 in let wrong : not_present ≡ suffix g.0.0 = g.0.1 in absurd (cc)
not_refused host url c NonRelativeScheme secure none mem h = some_is_not_none host (sym (https_of host url secure).1
    ∙ h.1.1)
not_refused host url c OutOfMemory secure none mem h = mem refl
not_refused host url c Expired secure none mem h = h.1
not_refused host url c PublicSuffix secure none mem h = h.1
not_refused host url c UnspecifiedDomain secure none mem h = h.1

pub path_is : (c : Record) (url : Parts) → c.path ≡ Some (codes "/") → path_at (read_as c) url ≡ root
path_is c url e = ap (λ o. unwrap_or (option_and_then read_path o) (default_path_at url)) e

pub some_domain : (d e : Domain) → Some d ≡ Some e → d ≡ e
some_domain d e h = cc

pub domain_is : (host : List ℕ) (url : Parts) (c : Record) (d : Domain) → secure_host url ≡ Some host → c.domain ≡ None
    → IsSomeAnd (asked_domain (read_as c)) (λ asked. IsDomainFor asked url d) → d ≡ host_only host
domain_is host url c d secure none h =
    let g : option_map host_only (host_of url) ≡ Some d = subst (λ o. IsSomeAnd o (λ asked. IsDomainFor asked url d))
    (asks_none c none) h in
    sym (some_domain (host_only host) d (sym (ap (option_map host_only) (https_of host url secure).1) ∙ g))

-- it conforms to the prefix `__Host-`
pub not_against : (law : ReadingBack) (host : List ℕ) (url : Parts) (c : Record) → secure_host url ≡ Some host
    → IsSent c → IsReadable c → ¬ (IsAgainstHost url (encoded c))
not_against law host url c secure sent readable against =
    let (seen, reads, breaks) = against.1 in
    let same : seen.cookie ≡ read_as c = (law c readable sent.age (Ok seen) reads).normal in
    let flag : prints_secure (encoded_pair c) ≡ true =
    ap (λ o. is_set o || is_set c.partitioned || (is_unrestricted c.same_site && is_none o)) sent.secure in
    breaks.1 (
      record {
        secure = ap (λ (r : Record). r.secure) same ∙ ap kept flag;
        path = ap (λ (r : Record). r.path) same ∙ sent.path;
        domain = ap domain_attribute same ∙ ap (λ o. option_map without_dot (option_map without_dot o)) sent.domain;
      },
      (https_of host url secure).0,
    )

abbrev pub at_epoch : Row → Row
at_epoch r = record r { death = Some epoch }

pub epoch_dead : (now : ℤ) → pos 0 ≤ℤ now → is_dead now (Some epoch) ≡ true
epoch_dead now h = grind (arith, ints)

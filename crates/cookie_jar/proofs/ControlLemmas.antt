-- No text of a row that a line leaves has a control character.
use Rattle.std.proofs.Common.{◌≡◌, ◌∙◌, ◌-◌, ◌∷◌, [], ℕ, ℤ, Bool, true, false, zero, suc, List, length, take, sym, refl}
use Rattle.std.proofs.Common.{subst, inl, inr, arith, Option, Some, None}
use Rattle.std.specs.Prelude.{◌==◌, ◌||◌, not, slice_index, IfSome, IsSomeAnd, MatchOption, option_and_then}
use Rattle.std.specs.Prelude.{option_map, unwrap_or, if◌then◌else◌}
use Rattle.std.specs.List.{before_last, suffix_len}
use Rattle.std.proofs.lemmas.Bool.{or_from, or_parts}
use Rattle.std.proofs.lemmas.Bool.Decides.{nat_tests}
use Rattle.std.proofs.lemmas.List.Elements.{All-weaker}
use Rattle.std.proofs.lemmas.List.Folds.{list_any-append, list_any_none}
use Rattle.std.proofs.lemmas.Option.{same_Some}
use Rattle.percent_encoding.specs.Percent.{IsKept as IsUnescaped}
use Rattle.url.specs.Host.{IsHostOf, host_text}
use Rattle.url.specs.Parts.{IsValid, Parts, cannot_be_a_base, has_host, kind_of}
use Rattle.url.specs.Scheme.{is_special}
use Rattle.url.specs.declared.host.Host.{Host}
use Rattle.url.specs.declared.scheme.SchemeType.{SchemeType}
use Rattle.url.specs.declared.sets.TheConstants.{OPAQUE_PATH}
use Rattle.url.proofs.HostRoundTrip.{IsHostByte, host_text_plain}
use Rattle.url.proofs.SetLemmas.{passes_from_kept}
use Rattle.url.proofs.ValidLemmas.{path_kept}
use Rattle.cookie_text.specs.Record.{Seen, unsliced}
use Rattle.store_parts.specs.DomainMatch.{CoversAt, Covers, Domain, empty, host_only, not_present, suffix}
use Rattle.store_parts.specs.DomainMatch.{text_or_empty}
use Rattle.store_parts.specs.PathMatch.{Path, default_path, default_path_at, or_root, read_path, slash}
use Rattle.store_parts.specs.Schemes.{host_of}
use Rattle.cookie_store.specs.Making.{IsDomainFor, IsMade, asked_domain}
use Rattle.cookie_store.specs.Rows.{Row, domain_text}
use Rattle.user_agent.specs.Controls.{IsFreeCookie}
use Rattle.cookie_client.proofs.ReadPairs.{not_so}
use Rattle.cookie_jar.specs.Keeping.{IsClean, has_control, is_control}

abbrev pub IsFree : List ℕ → Type 0
IsFree text = has_control text ≡ false

-- ---- a URL's host and path

host_byte : (b : ℕ) → IsHostByte b → is_control b ≡ false
host_byte b h = grind (arith, nat_tests, h.above, h.below)

host_free : (kind : SchemeType) (host : Host (List ℕ)) → IsHostOf kind host → IsFree (host_text host)
host_free kind host valid =
    list_any_none is_control (host_text host)
    (All-weaker IsHostByte (λ b. is_control b ≡ false) host_byte (host_text host) (host_text_plain kind host valid))

own_host : (kind : SchemeType) (o : Option (Host (List ℕ))) (b : Bool) (host : List ℕ)
    → MatchOption o (is_special kind ≡ false) (IsHostOf kind)
    → option_map host_text (if b then o else None) ≡ Some host → IsFree host
own_host kind None true host valid is = absurd (cc)
own_host kind (Some h) true host valid is = subst IsFree (same_Some (host_text h) host is) (host_free kind h valid)
own_host kind o false host valid is = absurd (cc)

hosts_free : (url : Parts) → IsValid url → (host : List ℕ) → host_of url ≡ Some host → IsFree host
hosts_free url valid host is = own_host (kind_of url) url.host (has_host url) host valid.head.host is

path_byte : (b : ℕ) → IsUnescaped OPAQUE_PATH b → is_control b ≡ false
path_byte b kept = not_so (is_control b) (passes_from_kept OPAQUE_PATH (λ x. not (is_control x)) refl b kept)

path_free : (url : Parts) → IsValid url → IsFree url.path
path_free url valid =
    list_any_none is_control url.path
    (All-weaker (IsUnescaped OPAQUE_PATH) (λ b. is_control b ≡ false) path_byte url.path (path_kept url valid.path))

-- ---- the path of a row

take_free : (n : ℕ) (xs : List ℕ) → IsFree xs → IsFree (take n xs)
take_free zero xs h = refl
take_free (suc n) [] h = refl
take_free (suc n) (x ∷ xs) h =
    let both = or_parts (is_control x) (has_control xs) h in
    or_from (is_control x) (has_control (take n xs)) both.0 (take_free n xs both.1)

root_free : (xs : List ℕ) → IsFree xs → IsFree (or_root xs)
root_free [] h = refl
root_free (x ∷ xs) h = h

front_free : (xs : List ℕ) → IsFree xs → IsFree (before_last (λ b. b == slash) xs)
front_free xs h = take_free (length xs - suffix_len (λ x. not (x == slash)) xs - 1) xs h

default_free : (url : Parts) → IsValid url → IsFree (default_path_at url).text
default_free url valid = by (cannot_be_a_base url)
  where
    by : (b : Bool) → IsFree (default_path (if b then [] else url.path))
    by true = refl
    by false = root_free (before_last (λ b. b == slash) url.path) (front_free url.path (path_free url valid))

given_free : (o : Option (List ℕ)) (other : Path) → IfSome o IsFree → IsFree other.text
    → IsFree (unwrap_or (option_and_then read_path o) other).text
given_free None other h rest = rest
given_free (Some text) other h rest = by (slice_index text 0 == slash)
  where
    by : (b : Bool)
        → IsFree (unwrap_or (if b then Some (record { text = text; from_attribute = true }) else None) other).text
    by true = h
    by false = rest

-- ---- the domain of a row

covered_free : (o : Option (List ℕ)) (text : List ℕ) → ((host : List ℕ) → o ≡ Some host → IsFree host)
    → IsSomeAnd o (Covers (suffix text)) → IsFree text
covered_free None text free covers = absurd covers
covered_free (Some host) text free (inl same) = subst IsFree same (free host refl)
covered_free (Some host) text free (inr (named, (before, is))) =
    (or_parts (has_control before) (has_control (46 ∷ text))
    (sym (list_any-append is_control before (46 ∷ text)) ∙ subst IsFree is (free host refl))).1

alone_free : (o : Option (List ℕ)) (domain : Domain) → ((host : List ℕ) → o ≡ Some host → IsFree host)
    → option_map host_only o ≡ Some domain → IsFree (text_or_empty domain)
alone_free None domain free is = absurd (cc)
alone_free (Some host) domain free is =
    subst (λ d. IsFree (text_or_empty d)) (same_Some (host_only host) domain is) (free host refl)

asked_free : (asked : Option Domain) (url : Parts) (domain : Domain) → IsValid url
    → IsSomeAnd asked (λ d. IsDomainFor d url domain) → IsFree (text_or_empty domain)
asked_free None url domain valid h = absurd h
asked_free (Some (host_only text)) url domain valid h = absurd h
asked_free (Some (suffix text)) url domain valid (is, covers) =
    subst (λ d. IsFree (text_or_empty d)) (sym is)
    (covered_free (host_of url) text (hosts_free url valid) (subst (λ d. CoversAt d url) is covers))
asked_free (Some not_present) url domain valid is = alone_free (host_of url) domain (hosts_free url valid) is
asked_free (Some empty) url domain valid is = alone_free (host_of url) domain (hosts_free url valid) is

-- ---- the row

pub made_clean : (s : Seen) (url : Parts) (now : ℤ) (made : Row) → IsValid url → IsFreeCookie s.cookie
    → IsMade (unsliced s.cookie) url now made → IsClean made
made_clean s url now made valid free h =
    let name : IsFree made.raw.cookie.name = subst (λ (raw : Seen). IsFree raw.cookie.name) (sym h.raw) free.name in
    let value : IsFree made.raw.cookie.value = subst (λ (raw : Seen). IsFree raw.cookie.value) (sym h.raw) free.value in
    let path : IsFree made.path.text =
    subst (λ (p : Path). IsFree p.text) (sym h.path)
    (given_free s.cookie.path (default_path_at url) free.path (default_free url valid)) in
    let domain : IsFree (domain_text made) = asked_free (asked_domain s.cookie) url made.domain valid h.domain in
    or_from (has_control made.raw.cookie.name || has_control made.raw.cookie.value)
    (has_control (domain_text made) || has_control made.path.text)
    (or_from (has_control made.raw.cookie.name) (has_control made.raw.cookie.value) name value)
    (or_from (has_control (domain_text made)) (has_control made.path.text) domain path)

-- The rules of user agents beyond the store (the draft that follows RFC 6265, sections 5.6 and 5.7), in their order,
-- and which lines each refuses.
use Rattle.std.specs.Prelude.{◌≡◌, ◌⊎◌, ◌+◌, ◌<◌, ◌==◌, ◌&&◌, ◌||◌, ◌++◌, ◌∷◌, [], ℕ, ℤ, Bool, true, false, not, nat_lt}
use Rattle.std.specs.Prelude.{List, codes, length, map, Option, Some, option_and_then, IsSomeAnd, IsTrue, Ok}
use Rattle.std.specs.Char.{to_ascii_lowercase}
use Rattle.std.specs.List.{list_any}
use Rattle.std.specs.Str.{IsUtf8}
use Rattle.percent_encoding.specs.Percent.{percent_decode}
use Rattle.url.specs.Parts.{Parts}
use Rattle.cookie.specs.Prefix.{IsHost}
use Rattle.cookie_text.specs.Printing.{is_set, is_unrestricted}
use Rattle.cookie_text.specs.Reading.{ReadsPlain}
use Rattle.cookie_text.specs.Record.{Record, Seen}
use Rattle.store_parts.specs.DomainMatch.{Domain, host_only, suffix, not_present, empty, DomainMatches}
use Rattle.store_parts.specs.Expiry.{is_dead}
use Rattle.store_parts.specs.PathMatch.{PathMatches}
use Rattle.store_parts.specs.Schemes.{IsSecure, host_of}
use Rattle.cookie_store.specs.Making.{asked_domain, path_at}
use Rattle.cookie_store.specs.Rows.{Row, domain_text}
use Rattle.user_agent.specs.declared.rules.Refusal.{Refusal}
use Rattle.user_agent.specs.declared.rules.Refusal.TheVariants.{Control, TooLong, SecurePrefix, HostPrefix}
use Rattle.user_agent.specs.declared.rules.Refusal.TheVariants.{SecureFromHttp, SecureOverlay, LacksSecure}
use Rattle.user_agent.specs.declared.rules.Rules.{Rules}

-- ---- what each rule is against

-- %x00-08 / %x0A-1F / %x7F: a control character, the tab left out (5.6, step 1)
abbrev pub is_control : ℕ → Bool
is_control b = (nat_lt b 32 && not (b == 9)) || b == 127

-- name and value have more than 4,096 bytes together (5.6, step 5)
abbrev pub IsTooLong : Record → Type 0
IsTooLong cookie = 4096 < length cookie.name + length cookie.value

-- the name, decoded, begins with the text, in letters of any case; the text is in small ones
abbrev pub BeginsInAnyCase : List ℕ → List ℕ → Type 0
BeginsInAnyCase name text = (rest : List ℕ) × (map to_ascii_lowercase (percent_decode name) ≡ text ++ rest)

abbrev pub CameByHttps : Parts → Type 0
CameByHttps url = url.scheme ≡ codes "https"

-- `__Secure-`, not Secure or not from https (4.1.3.1; 5.7, step 20)
abbrev pub BreaksSecurePrefix : Parts → Seen → Type 0
BreaksSecurePrefix url seen =
    BeginsInAnyCase seen.cookie.name (codes "__secure-")
    × (¬ ((seen.cookie.secure ≡ Some true) × CameByHttps url))

-- `__Host-`, not as that prefix asks or not from https (4.1.3.2; 5.7, step 21)
abbrev pub BreaksHostPrefix : Parts → Seen → Type 0
BreaksHostPrefix url seen =
    BeginsInAnyCase seen.cookie.name (codes "__host-") × (¬ (IsHost seen × CameByHttps url))

-- Secure, from a URL that isn't secure (5.7, step 13)
abbrev pub IsSecureFromHttp : Parts → Record → Type 0
IsSecureFromHttp url cookie = (cookie.secure ≡ Some true) × (¬ (IsSecure url))

-- the text of the domain that a cookie from the URL asks for: that of its Domain attribute, else the URL's host
abbrev pub domain_at : Parts → Domain → Option (List ℕ)
domain_at url (host_only text) = Some text
domain_at url (suffix text) = Some text
domain_at url not_present = host_of url
domain_at url empty = host_of url

abbrev pub new_domain : Record → Parts → Option (List ℕ)
new_domain cookie url = option_and_then (domain_at url) (asked_domain cookie)

-- one of the texts domain-matches the other
abbrev pub AreNested : List ℕ → List ℕ → Type 0
AreNested a b = DomainMatches a b ⊎ DomainMatches b a

-- a live row that is Secure, of the cookie's name when both are decoded, whose domain the cookie's domain-matches or
-- the other way round, and whose path the cookie's path-matches
pub record IsOverlaid (name domain path : List ℕ) (now : ℤ) (row : Row) : Type 0 where
  pub secure : row.raw.cookie.secure ≡ Some true
  pub live : is_dead now row.death ≡ false
  pub named : percent_decode row.raw.cookie.name ≡ percent_decode name
  pub nested : AreNested domain (domain_text row)
  pub covered : PathMatches row.path.text path

-- one of the rows is so
abbrev pub HasOne : (Row → Type 0) → List Row → Type 0
HasOne Is [] = ⊥
HasOne Is (row ∷ rows) = Is row ⊎ HasOne Is rows

-- not Secure, from a URL that isn't secure, and a row is overlaid by it (5.7, step 16)
pub record IsOverlay (rows : List Row) (url : Parts) (now : ℤ) (cookie : Record) : Type 0 where
  pub plain : ¬ (cookie.secure ≡ Some true)
  pub insecure : ¬ (IsSecure url)
  pub row : IsSomeAnd (new_domain cookie url)
      (λ domain. HasOne (IsOverlaid cookie.name domain (path_at cookie url).text now) rows)

-- Whether a cookie is an overlay is looked for where it isn't Secure and came from a URL that isn't.
abbrev pub MayOverlay : Parts → Record → Type 0
MayOverlay url cookie = (¬ (cookie.secure ≡ Some true)) × (¬ (IsSecure url))

abbrev pub AsksForOverlay : Parts → List ℕ → Type 0
AsksForOverlay url line =
    IsUtf8 line × ((seen : Seen) × ReadsPlain line (Ok seen) × MayOverlay url seen.cookie)

-- `SameSite=None` or `Partitioned`, which ask for Secure: a cookie of either is printed with it
abbrev pub asks_for_secure : Record → Bool
asks_for_secure cookie = is_unrestricted cookie.same_site || is_set cookie.partitioned

-- so, and not Secure, from a URL that isn't secure (5.7, step 19 asks it of `SameSite=None` from any URL)
pub record IsWithoutSecure (url : Parts) (cookie : Record) : Type 0 where
  pub asks : IsTrue (asks_for_secure cookie)
  pub plain : ¬ (cookie.secure ≡ Some true)
  pub insecure : ¬ (IsSecure url)

-- ---- the rules

-- the rule refuses a cookie; that on control characters is none of cookies, but of lines as they came
abbrev pub RefusesCookie : List Row → Parts → ℤ → Seen → Refusal → Type 0
RefusesCookie rows url now seen Control = ⊥
RefusesCookie rows url now seen TooLong = IsTooLong seen.cookie
RefusesCookie rows url now seen SecurePrefix = BreaksSecurePrefix url seen
RefusesCookie rows url now seen HostPrefix = BreaksHostPrefix url seen
RefusesCookie rows url now seen SecureFromHttp = IsSecureFromHttp url seen.cookie
RefusesCookie rows url now seen SecureOverlay = IsOverlay rows url now seen.cookie
RefusesCookie rows url now seen LacksSecure = IsWithoutSecure url seen.cookie

-- the rule refuses what the line reads as
abbrev pub Refuses : List Row → Parts → ℤ → List ℕ → Refusal → Type 0
Refuses rows url now line rule =
    IsUtf8 line × ((seen : Seen) × ReadsPlain line (Ok seen) × RefusesCookie rows url now seen rule)

-- which rules are on
abbrev pub is_on : Rules → Refusal → Bool
is_on rules Control = rules.control
is_on rules TooLong = rules.too_long
is_on rules SecurePrefix = rules.secure_prefix
is_on rules HostPrefix = rules.host_prefix
is_on rules SecureFromHttp = rules.secure_from_http
is_on rules SecureOverlay = rules.secure_overlay
is_on rules LacksSecure = rules.secure_wins

-- those of user agents, which have no `secure_wins`, and of which some have neither `lax_by_default` nor
-- `none_needs_secure`
abbrev pub browser_rules : Rules
browser_rules = record {
  long_attributes = true;
  dates = true;
  long_lives = true;
  control = true;
  too_long = true;
  secure_prefix = true;
  host_prefix = true;
  secure_from_http = true;
  secure_overlay = true;
  secure_wins = false;
  lax_by_default = false;
  none_needs_secure = false;
}

-- those of version 15 of the draft, which has the last two (5.7, steps 18 and 19; 5.8.3)
abbrev pub draft_rules : Rules
draft_rules = record browser_rules { lax_by_default = true; none_needs_secure = true }

abbrev pub no_rules : Rules
no_rules = record {
  long_attributes = false;
  dates = false;
  long_lives = false;
  control = false;
  too_long = false;
  secure_prefix = false;
  host_prefix = false;
  secure_from_http = false;
  secure_overlay = false;
  secure_wins = false;
  lax_by_default = false;
  none_needs_secure = false;
}

-- those where nothing is said of what started a request
abbrev pub of_no_request : Rules → Rules
of_no_request rules = record rules { none_needs_secure = false }

-- the place of a rule in their order
abbrev pub place : Refusal → ℕ
place Control = 0
place TooLong = 1
place SecurePrefix = 2
place HostPrefix = 3
place SecureFromHttp = 4
place SecureOverlay = 5
place LacksSecure = 6

-- the first of the rules that are on and refuse; none of those that are on refuses
pub record IsFirstOf (rules : Rules) (Against : Refusal → Type 0) (rule : Refusal) : Type 0 where
  pub on : IsTrue (is_on rules rule)
  pub against : Against rule
  pub first : (other : Refusal) → place other < place rule → IsTrue (is_on rules other) → ¬ (Against other)

abbrev pub NoneOf : Rules → (Refusal → Type 0) → Type 0
NoneOf rules Against = (rule : Refusal) → IsTrue (is_on rules rule) → ¬ (Against rule)

-- this rule refuses the line, the first that does; none does
abbrev pub IsRefusedBy : Rules → List Row → Parts → ℤ → List ℕ → Refusal → Type 0
IsRefusedBy rules rows url now line rule = IsFirstOf rules (Refuses rows url now line) rule

abbrev pub IsLetIn : Rules → List Row → Parts → ℤ → List ℕ → Type 0
IsLetIn rules rows url now line = NoneOf rules (Refuses rows url now line)

-- the rule on control characters is on, and the line holds one
abbrev pub IsStoppedByControl : Rules → List ℕ → Type 0
IsStoppedByControl rules line = IsTrue rules.control × IsTrue (list_any is_control line)

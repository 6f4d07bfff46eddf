-- A cookie read into its parts, and printed from them (own: docs/DEFINITIONS.md). Its words are those of the cookie's
-- own calls.
use Rattle.std.specs.Prelude.{ℕ, ℤ, pos, ◌≡◌, ◌⊎◌, ◌≤◌, ◌<◌, ◌++◌, ⊤, Bool, true, false, List, length}
use Rattle.std.specs.Prelude.{Option, Some, None, is_some, option_map, Result, Ok, Err}
use Rattle.std.specs.Str.{IsUtf8}
use Rattle.jiff.specs.Types.{DateTime}
use Rattle.jiff.specs.Words.{civil_nanos}
use Rattle.cookie_text.specs.Decoding.{ReadsEncoded}
use Rattle.cookie_text.specs.Printing.{encoded, is_set, printed, whole_seconds}
use Rattle.cookie_text.specs.Reading.{ReadsPlain}
use Rattle.cookie_text.specs.Record.{Record, Seen, domain_of, moment_of}
use Rattle.cookie_text.specs.declared.draft.SameSite.{SameSite}
use Rattle.cookie_text.specs.declared.draft.SameSite.TheVariants as sites
use Rattle.cookie_text.specs.declared.error.ParseError.{ParseError}
use Rattle.cookie_text.specs.declared.error.ParseError.TheVariants as error
use Rattle.cookie_text.specs.declared.expiration.Expiration.{Expiration}
use Rattle.cookie_text.specs.declared.expiration.Expiration.TheVariants.{DateTime as At}
use Rattle.fonnalich_c.specs.Faults.{IsTold}
use Rattle.fonnalich_c.specs.Given.{IsNoMoment, nanos_of}
use Rattle.fonnalich_c.specs.Items.{item, reading_text}
use Rattle.fonnalich_c.specs.Numbers.{refusal_number}
use Rattle.fonnalich_c.specs.Room.{IsWritten}
use Rattle.fonnalich_c.specs.declared.attributes.Attributes.{Attributes}
use Rattle.fonnalich_c.specs.declared.refusal.Refusal.{Refusal}
use Rattle.fonnalich_c.specs.declared.refusal.Refusal.TheVariants as refusal

-- ---- the parts

-- the number of an attribute `SameSite`, and 0 for none
abbrev pub site_number : Option SameSite → ℕ
site_number None = 0
site_number (Some sites.Strict) = 1
site_number (Some sites.Lax) = 2
site_number (Some sites.None) = 3

-- whole seconds of nanoseconds, and 0 for none
abbrev pub seconds_of : Option ℤ → ℤ
seconds_of None = pos 0
seconds_of (Some nanos) = whole_seconds nanos

abbrev pub attributes_of : Record → Attributes
attributes_of c = record {
  max_age = seconds_of c.max_age;
  expires = seconds_of (option_map civil_nanos (moment_of c.expires));
  has_max_age = is_some c.max_age;
  has_expires = is_some (moment_of c.expires);
  has_path = is_some c.path;
  has_domain = is_some (domain_of c);
  http_only = is_set c.http_only;
  secure = is_set c.secure;
  partitioned = is_set c.partitioned;
  same_site = site_number c.same_site;
}

-- the items of name, value, path and domain
abbrev pub texts_of : Record → List ℕ
texts_of c = item c.name ++ item c.value ++ reading_text c.path ++ reading_text (domain_of c)

-- ---- apart

-- what a text reads as (RFC 6265, section 5.2), name and value percent-decoded or as they stand
abbrev pub Reads : Bool → List ℕ → Result Seen ParseError → Type 0
Reads true text outcome = ReadsEncoded text outcome
Reads false text outcome = ReadsPlain text outcome

abbrev pub IsCookie : Bool → List ℕ → Seen → Type 0
IsCookie is_decoded text cookie = IsUtf8 text × Reads is_decoded text (Ok cookie)

-- what a refusal to read is told as
abbrev pub unread_as : ParseError → Refusal
unread_as error.MissingPair = refusal.Pair
unread_as error.EmptyName = refusal.EmptyName
unread_as error.Utf8Error = refusal.Text
unread_as error.OutOfMemory = refusal.Memory

abbrev pub IsUnread : Bool → List ℕ → Refusal → Type 0
IsUnread is_decoded text refused =
    ((refused ≡ refusal.Text) × (¬ IsUtf8 text))
    ⊎ (IsUtf8 text × ((error : ParseError) × Reads is_decoded text (Err error) × (refused ≡ unread_as error)))

abbrev pub IsNoParts : Bool → List ℕ → Refusal → Type 0
IsNoParts is_decoded text refused = (refused ≡ refusal.Memory) ⊎ IsUnread is_decoded text refused

abbrev pub AreParts : Bool → List ℕ → List ℕ → Attributes → Type 0
AreParts is_decoded text answer attributes = (cookie : Seen) × IsCookie is_decoded text cookie
    × (answer ≡ texts_of cookie.cookie) × (attributes ≡ attributes_of cookie.cookie)

-- The texts are written and the attributes given where there is room for the texts; else neither is, as at a refusal.
abbrev pub GivesParts : Bool → List ℕ → Attributes → List ℕ → Attributes → List ℕ → ℤ → Type 0
GivesParts is_decoded text old out new written number =
    ((answer : List ℕ) × (read : Attributes) × AreParts is_decoded text answer read
    × IsWritten answer out written number
    × (((length answer ≤ length out) × (new ≡ read)) ⊎ ((length out < length answer) × (new ≡ old))))
    ⊎ ((refused : Refusal) × IsNoParts is_decoded text refused × (new ≡ old) × (written ≡ out)
    × (number ≡ refusal_number refused))

-- ---- together

pub record Texts : Type 0 where
  pub name : List ℕ
  pub value : List ℕ
  pub path : List ℕ
  pub domain : List ℕ

-- a part that counts where its flag is set
abbrev pub counted : {A : Type 0} → Bool → A → Option A
counted true part = Some part
counted false part = None

abbrev pub IsTextWhere : Bool → List ℕ → Type 0
IsTextWhere true text = IsUtf8 text
IsTextWhere false text = ⊤

abbrev pub AreTexts : Attributes → Texts → Type 0
AreTexts a texts = IsUtf8 texts.name × IsUtf8 texts.value × IsTextWhere a.has_path texts.path
    × IsTextWhere a.has_domain texts.domain

-- it ends at this second, or has no end
abbrev pub HasEnd : Option ℤ → Option Expiration → Type 0
HasEnd None end = end ≡ None
HasEnd (Some second) end = (at : DateTime) × (civil_nanos at ≡ nanos_of second) × (end ≡ Some (At at))

-- a cookie with the attributes that have neither a text nor a moment
abbrev pub with_attributes : Seen → Attributes → Option SameSite → Seen
with_attributes s a site = record s {
  cookie = record s.cookie {
    http_only = counted a.http_only true;
    secure = counted a.secure true;
    partitioned = counted a.partitioned true;
    same_site = site;
    max_age = option_map nanos_of (counted a.has_max_age a.max_age);
  };
}

-- a cookie has these parts
pub record IsMade (a : Attributes) (texts : Texts) (c : Record) : Type 0 where
  pub are_texts : AreTexts a texts
  pub name : c.name ≡ texts.name
  pub value : c.value ≡ texts.value
  pub path : c.path ≡ counted a.has_path texts.path
  pub domain : c.domain ≡ counted a.has_domain texts.domain
  pub http_only : c.http_only ≡ counted a.http_only true
  pub secure : c.secure ≡ counted a.secure true
  pub partitioned : c.partitioned ≡ counted a.partitioned true
  pub same_site : a.same_site ≡ site_number c.same_site
  pub max_age : c.max_age ≡ option_map nanos_of (counted a.has_max_age a.max_age)
  pub expires : HasEnd (counted a.has_expires a.expires) c.expires

-- what a cookie prints (RFC 6265, section 4.1.1), name and value percent-encoded or as they stand
abbrev pub line_of : Bool → Record → List ℕ
line_of true c = encoded c
line_of false c = printed c

abbrev pub IsPrinted : Bool → Attributes → Texts → List ℕ → Type 0
IsPrinted is_encoded a texts line = (cookie : Record) × IsMade a texts cookie × (line ≡ line_of is_encoded cookie)

-- the second counts, and is none of the calendar
abbrev pub EndsAtNoMoment : Attributes → Type 0
EndsAtNoMoment a = (a.has_expires ≡ true) × IsNoMoment a.expires

-- the second is none of the calendar, a text isn't UTF-8, or the number is none of an attribute `SameSite`
abbrev pub IsUnmade : Attributes → Texts → Refusal → Type 0
IsUnmade a texts refused =
    ((refused ≡ refusal.Moment) × EndsAtNoMoment a)
    ⊎ ((refused ≡ refusal.Text) × (¬ AreTexts a texts))
    ⊎ ((refused ≡ refusal.Site) × (3 < a.same_site))

abbrev pub IsUnprinted : Attributes → Texts → Refusal → Type 0
IsUnprinted a texts refused = IsTold (IsUnmade a texts) refused

-- What a cookie prints (RFC 6265, section 4.1.1; dates as in RFC 9110, section 5.6.7).
use Rattle.std.specs.Prelude.{ℕ, ◌+◌, Bool, true, false, ◌&&◌, ◌||◌, List, [], ◌∷◌, ◌++◌, codes, Option, Some, None}
use Rattle.std.specs.Prelude.{option_map, ℤ, pos, int_div, if◌then◌else◌, is_none, nat_lt, nat_le, ◌==◌}
use Rattle.std.specs.List.{flat_map, list_any}
use Rattle.std.specs.Fmt.{signed_decimal}
use Rattle.jiff.specs.Types.{DateTime}
use Rattle.jiff.specs.Words.{weekday_of}
use Rattle.percent_encoding.specs.Percent.{percent_encode_byte}
use Rattle.cookie_text.specs.declared.draft.SameSite.{SameSite}
use Rattle.cookie_text.specs.declared.draft.SameSite.TheVariants.{Strict, Lax, None as Unrestricted}
use Rattle.cookie_text.specs.declared.expiration.Expiration.{Expiration}
use Rattle.cookie_text.specs.declared.expiration.Expiration.TheVariants.{DateTime as At, Session}
use Rattle.cookie_text.specs.Date.{clock_text, dated, with_weekday}
use Rattle.cookie_text.specs.Pieces.{equals}
use Rattle.cookie_text.specs.Record.{Record, domain_of}
use Rattle.cookie_text.specs.Attribute.{Attribute, HttpOnly, Secure, Partitioned, OfSite, MaxAge, Path, Domain, Expires}

-- the name of the variant
abbrev pub site_name : SameSite → List ℕ
site_name Strict = codes "Strict"
site_name Lax = codes "Lax"
site_name Unrestricted = codes "None"

-- `08:49:37`
abbrev pub time_text : DateTime → List ℕ
time_text d = clock_text d.time.hour d.time.minute d.time.second

-- `06 Nov 1994 08:49:37 GMT`
abbrev pub dated_text : DateTime → List ℕ
dated_text d = dated (codes " ") d.date.day d.date.month (signed_decimal d.date.year) (time_text d)

-- the first of the forms that are read, with the weekday that the calendar has: `Sun, 06 Nov 1994 08:49:37 GMT`
unfoldable pub date_text : DateTime → List ℕ
date_text d = with_weekday (weekday_of d.date + 1) (dated_text d)

-- `Path=/`
abbrev pub attribute_text : Attribute → List ℕ
attribute_text HttpOnly = codes "HttpOnly"
attribute_text Secure = codes "Secure"
attribute_text Partitioned = codes "Partitioned"
attribute_text (OfSite s) = codes "SameSite=" ++ site_name s
attribute_text (MaxAge z) = codes "Max-Age=" ++ signed_decimal z
attribute_text (Path text) = codes "Path=" ++ text
attribute_text (Domain text) = codes "Domain=" ++ text
attribute_text (Expires d) = codes "Expires=" ++ date_text d

-- the same behind a semicolon, or nothing
abbrev pub piece_text : Option Attribute → List ℕ
piece_text None = []
piece_text (Some a) = codes "; " ++ attribute_text a

abbrev pub flag : Bool → Attribute → Option Attribute
flag true a = Some a
flag false a = None

abbrev pub is_set : Option Bool → Bool
is_set (Some b) = b
is_set None = false

-- a partitioned cookie is secure, and so is one for all sites unless it says otherwise
abbrev pub is_unrestricted : Option SameSite → Bool
is_unrestricted (Some Unrestricted) = true
is_unrestricted (Some _) = false
is_unrestricted None = false

abbrev pub prints_secure : Record → Bool
prints_secure r =
    is_set r.secure || is_set r.partitioned || (is_unrestricted r.same_site && is_none r.secure)

abbrev pub end_of : Option Expiration → Option Attribute
end_of (Some (At d)) = Some (Expires d)
end_of (Some Session) = None
end_of None = None

-- whole seconds, the fraction dropped: 1 of 1,999,999,999 nanoseconds
abbrev pub whole_seconds : ℤ → ℤ
whole_seconds nanos = int_div nanos (pos 1_000_000_000)

-- what is printed, in this order
abbrev pub attributes_of : Record → List (Option Attribute)
attributes_of r =
    flag (is_set r.http_only) HttpOnly
    ∷ option_map OfSite r.same_site
    ∷ flag (is_set r.partitioned) Partitioned
    ∷ flag (prints_secure r) Secure
    ∷ option_map Path r.path
    ∷ option_map Domain (domain_of r)
    ∷ option_map (λ nanos. MaxAge (whole_seconds nanos)) r.max_age
    ∷ end_of r.expires
    ∷ []

-- `name=value`
abbrev pub stripped : Record → List ℕ
stripped r = r.name ++ equals ∷ r.value

-- each attribute behind a semicolon
abbrev pub printed_attributes : Record → List ℕ
printed_attributes r = flat_map piece_text (attributes_of r)

-- the pair and the attributes: `a=1; Secure; Path=/`
abbrev pub printed : Record → List ℕ
printed r = stripped r ++ printed_attributes r

-- the bytes that are escaped: controls, all past ASCII, the space and the signs of this list
abbrev pub is_escaped : ℕ → Bool
is_escaped b =
    nat_lt b 32 || nat_le 127 b || list_any (λ c. b == c) (codes " \"<>`#?{}/:;=@[\\]^|%(),")

-- a byte as it is written: `%` and its two hexadecimal digits in capitals (RFC 3986, section 2.1), or the byte itself
abbrev pub escaped_byte : ℕ → List ℕ
escaped_byte b = if is_escaped b then percent_encode_byte b else b ∷ []

-- a name or a value as it is written: `a%20b%3D` of `a b=`
unfoldable pub escaped : List ℕ → List ℕ
escaped text = flat_map escaped_byte text

-- the same cookie with its name and value percent-escaped
abbrev pub encoded_pair : Record → Record
encoded_pair r = record r {
  name = escaped r.name;
  value = escaped r.value;
}

-- what is printed with name and value escaped
abbrev pub encoded : Record → List ℕ
encoded r = printed (encoded_pair r)

-- a cookie that is shown, with its name and value escaped or not, and with its attributes or without
pub record Shown : Type 0 where
  pub cookie : Record
  pub encode : Bool
  pub strip : Bool

-- what it prints
abbrev pub shown_text : Shown → List ℕ
shown_text d =
    let r = if d.encode then encoded_pair d.cookie else d.cookie in
    if d.strip then stripped r else printed r

-- The line of a cookie of the path `/` without a domain is a field's value.
use Rattle.std.proofs.Common.{◌≡◌, ℕ, zero, suc, ◌+◌, ◌<◌, ◌/◌, ◌%◌, ◌==◌, Bool, true, false, List, [], ◌∷◌, ◌++◌}
use Rattle.std.proofs.Common.{Option, Some, None, option_map, ℤ, pos, negsuc, refl, sym, ap, subst, ◌∙◌, arith, codes}
use Rattle.std.specs.Prelude.{◌||◌, ◌&&◌, nat_lt, nat_le}
use Rattle.std.specs.Fmt.{decimal, digits, digits_onto, digit_glyph, signed_decimal}
use Rattle.std.specs.Int.{IsInRange}
use Rattle.std.specs.List.{flat_map, list_all}
use Rattle.std.proofs.lemmas.Bool.{agree_below_at, cond_both}
use Rattle.std.proofs.lemmas.Bool.Decides.{nat_tests}
use Rattle.std.proofs.lemmas.List.Folds.{list_all-append}
use Rattle.http_header.proofs.TokenLemmas.{AllPass-from_test}
use Rattle.http_header.specs.FieldValue.{IsFieldValue}
use Rattle.http_header.specs.Token.{is_value_byte}
use Rattle.httpdate.specs.Text.{day_name, month_name, two_digits}
use Rattle.jiff_core.proofs.CalendarLemmas.{weekday_number_bound}
use Rattle.jiff_core.specs.Calendar.{days_in_month}
use Rattle.jiff_core.specs.Date.{epoch_day}
use Rattle.jiff.specs.Types.{DateTime}
use Rattle.jiff.specs.Words.{weekday_of}
use Rattle.percent_encoding.specs.Percent.{percent_encode_byte}
use Rattle.cookie_text.specs.declared.draft.SameSite.{SameSite}
use Rattle.cookie_text.specs.declared.draft.SameSite.TheVariants.{Strict, Lax, None as Unrestricted}
use Rattle.cookie_text.specs.declared.expiration.Expiration.{Expiration}
use Rattle.cookie_text.specs.declared.expiration.Expiration.TheVariants.{DateTime as At, Session}
use Rattle.cookie_text.specs.Attribute.{Attribute, HttpOnly, Secure, Partitioned, OfSite, MaxAge, Path, Domain, Expires}
use Rattle.cookie_text.specs.Pieces.{equals}
use Rattle.cookie_text.specs.Printing.{attribute_text, date_text, encoded, encoded_pair, end_of, escaped, escaped_byte}
use Rattle.cookie_text.specs.Printing.{flag, is_escaped, is_set, piece_text, printed_attributes, prints_secure}
use Rattle.cookie_text.specs.Printing.{site_name, whole_seconds}
use Rattle.cookie_text.specs.Record.{Record, domain_of, without_dot}

-- a text of bytes that a field's value may have
record Fits (text : List ℕ) : Type 0 where
  bytes : list_all is_value_byte text ≡ true

fits : (text : List ℕ) → list_all is_value_byte text ≡ true → Fits text
fits text h = record { bytes = h }

join : (a b : List ℕ) → Fits a → Fits b → Fits (a ++ b)
join a b h k = record {
  bytes = list_all-append is_value_byte a b ∙ (ap (λ x. x && list_all is_value_byte b) h.bytes ∙ k.bytes);
}

-- ---- numbers and dates

glyph_fits : (d : ℕ) → d < 10 → is_value_byte (digit_glyph false d) ≡ true
glyph_fits d h = agree_below_at (λ k. is_value_byte (digit_glyph false k)) (λ _. true) 10 d refl h

onto_fits : (k n : ℕ) (after : List ℕ) → Fits after → Fits (digits_onto k 10 false n after)
onto_fits zero n after h = h
onto_fits (suc k) n after h =
    let more : Fits (digit_glyph false (n % 10) ∷ after) =
    record { bytes = ap (λ x. x && list_all is_value_byte after) (glyph_fits (n % 10) (omega arith)) ∙ h.bytes } in
    cond_both (n / 10 == 0) _ _ Fits (λ e. more) (λ e. onto_fits k (n / 10) _ more)

decimal_fits : (n : ℕ) → Fits (decimal n)
unfolding digits
decimal_fits n = onto_fits 64 n [] (fits [] refl)

signed_fits : (z : ℤ) → Fits (signed_decimal z)
signed_fits (pos n) = decimal_fits n
signed_fits (negsuc n) = join (45 ∷ []) (decimal (suc n)) (fits (45 ∷ []) refl) (decimal_fits (suc n))

two_fit : (n : ℕ) → n < 100 → Fits (two_digits n)
two_fit n h = fits (two_digits n) (agree_below_at (λ k. list_all is_value_byte (two_digits k)) (λ _. true) 100 n refl h)

month_fits : (n : ℕ) → IsInRange 1 12 n → Fits (month_name n)
month_fits n h =
    fits (month_name n)
    (agree_below_at (λ k. list_all is_value_byte (month_name k)) (λ _. true) 13 n refl (omega arith))

day_fits : (n : ℕ) → IsInRange 1 7 n → Fits (day_name n)
day_fits n h =
    fits (day_name n) (agree_below_at (λ k. list_all is_value_byte (day_name k)) (λ _. true) 8 n refl (omega arith))

few_days : (y : ℤ) (m : ℕ) → days_in_month y m < 100
few_days y m = grind (arith, nat_tests)

date_fits : (d : DateTime) → Fits (date_text d)
unfolding date_text
date_fits d =
    let bound = weekday_number_bound (epoch_day d.date) in
    let w = weekday_of d.date + 1 in
    let in_week : IsInRange 1 7 w = (omega arith, omega arith) in
    let day = two_fit d.date.day (omega (arith, d.date.day_in, few_days d.date.year d.date.month)) in
    let hour = two_fit d.time.hour (omega (arith, d.time.hour_in)) in
    let minute = two_fit d.time.minute (omega (arith, d.time.minute_in)) in
    let second = two_fit d.time.second (omega (arith, d.time.second_in)) in
    let space = fits (codes " ") refl in
    let colon = fits (codes ":") refl in
    let month = month_fits d.date.month d.date.month_in in
    let clock = join _ _ (join _ _ (join _ _ (join _ _ hour colon) minute) colon) second in
    let dated = join _ _ (join _ _ (join _ _ (join _ _ (join _ _ day space) month) space)
    (signed_fits d.date.year)) space in
    join _ _ (join _ _ (day_fits w in_week) (fits (codes ", ") refl))
    (join _ _ (join _ _ dated clock) (fits (codes " GMT") refl))

-- ---- name and value

hex_fits : (d : ℕ) → d < 16 → is_value_byte (digit_glyph true d) ≡ true
hex_fits d h = agree_below_at (λ k. is_value_byte (digit_glyph true k)) (λ _. true) 16 d refl h

percent_fits : (b : ℕ) → Fits (percent_encode_byte b)
unfolding percent_encode_byte
percent_fits b = record {
  bytes = ap (λ x. x && (is_value_byte (digit_glyph true (b % 16)) && true)) (hex_fits (b / 16 % 16) (omega arith))
      ∙ ap (λ x. x && true) (hex_fits (b % 16) (omega arith));
}

kept_fits : (b : ℕ) (x : Bool) → ((nat_lt b 32 || nat_le 127 b) || x) ≡ false → is_value_byte b ≡ true
kept_fits b x h = grind (arith, nat_tests)

byte_fits : (b : ℕ) → Fits (escaped_byte b)
byte_fits b =
    cond_both (is_escaped b) _ _ Fits (λ e. percent_fits b)
    (λ e. record { bytes = ap (λ x. x && true) (kept_fits b _ e) })

flat_fits : {A : Type 0} (f : A → List ℕ) → ((x : A) → Fits (f x)) → (xs : List A) → Fits (flat_map f xs)
flat_fits f h [] = fits [] refl
flat_fits f h (x ∷ xs) = join (f x) (flat_map f xs) (h x) (flat_fits f h xs)

escaped_fits : (text : List ℕ) → Fits (escaped text)
unfolding escaped
escaped_fits text = flat_fits escaped_byte byte_fits text

-- ---- attributes

site_fits : (s : SameSite) → Fits (site_name s)
site_fits Strict = fits (codes "Strict") refl
site_fits Lax = fits (codes "Lax") refl
site_fits Unrestricted = fits (codes "None") refl

piece_fits : (a : Attribute) → Fits (attribute_text a) → Fits (piece_text (Some a))
piece_fits a h = join (codes "; ") (attribute_text a) (fits (codes "; ") refl) h

flag_fits : (b : Bool) (a : Attribute) → Fits (attribute_text a) → Fits (piece_text (flag b a))
flag_fits true a h = piece_fits a h
flag_fits false a h = fits [] refl

option_fits : {A : Type 0} (f : A → Attribute) → ((x : A) → Fits (attribute_text (f x))) → (o : Option A)
    → Fits (piece_text (option_map f o))
option_fits f h None = fits [] refl
option_fits f h (Some x) = piece_fits (f x) (h x)

end_fits : (o : Option Expiration) → Fits (piece_text (end_of o))
end_fits None = fits [] refl
end_fits (Some Session) = fits [] refl
end_fits (Some (At d)) =
    piece_fits (Expires d) (join (codes "Expires=") (date_text d) (fits (codes "Expires=") refl) (date_fits d))

attributes_fit : (r : Record) → Fits (piece_text (option_map Path r.path))
    → Fits (piece_text (option_map Domain (domain_of r))) → Fits (printed_attributes r)
attributes_fit r path domain =
    join _ _ (flag_fits (is_set r.http_only) HttpOnly (fits (codes "HttpOnly") refl))
    (join _ _ (option_fits OfSite
    (λ s. join (codes "SameSite=") (site_name s) (fits (codes "SameSite=") refl) (site_fits s)) r.same_site)
    (join _ _ (flag_fits (is_set r.partitioned) Partitioned (fits (codes "Partitioned") refl))
    (join _ _ (flag_fits (prints_secure r) Secure (fits (codes "Secure") refl))
    (join _ _ path (join _ _ domain
    (join _ _ (option_fits (λ nanos. MaxAge (whole_seconds nanos))
    (λ z. join (codes "Max-Age=") (signed_decimal (whole_seconds z)) (fits (codes "Max-Age=") refl)
    (signed_fits (whole_seconds z))) r.max_age)
    (join _ _ (end_fits r.expires) (fits [] refl))))))))

pub line_fits : (c : Record) → c.path ≡ Some (codes "/") → c.domain ≡ None → IsFieldValue (encoded c)
line_fits c path domain =
    let root : Fits (piece_text (option_map Path (encoded_pair c).path)) =
    subst (λ (o : Option (List ℕ)). Fits (piece_text (option_map Path o))) (sym path) (fits (codes "; Path=/") refl) in
    let anywhere : Fits (piece_text (option_map Domain (domain_of (encoded_pair c)))) =
    subst (λ (o : Option (List ℕ)). Fits (piece_text (option_map Domain (option_map without_dot o)))) (sym domain)
    (fits [] refl) in
    AllPass-from_test is_value_byte (encoded c) (join _ _ (join _ _ (escaped_fits c.name)
    (join (equals ∷ []) (escaped c.value) (fits (equals ∷ []) refl) (escaped_fits c.value)))
    (attributes_fit (encoded_pair c) root anywhere)).bytes

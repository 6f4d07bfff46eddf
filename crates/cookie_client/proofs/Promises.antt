-- What the printer promises of what is set: the line of a session's cookie is ASCII.
use Rattle.std.proofs.Common.{◌≡◌, ℕ, suc, ◌<◌, ◌≤◌, ℤ, pos, negsuc, ◌≤ℤ◌, Bool, true, false, List, [], ◌∷◌, IsAscii}
use Rattle.std.proofs.Common.{sym, refl, subst, Option, Some, None, arith, codes}
use Rattle.std.specs.Prelude.{int_lt, IfSome, option_map, nat_lt, neg_ℤ}
use Rattle.std.specs.Fmt.{decimal, signed_decimal}
use Rattle.std.specs.List.{list_all, AllByRecursion}
use Rattle.std.specs.Str.{IsUtf8}
use Rattle.std.proofs.lemmas.Bool.{and_parts, both_ways}
use Rattle.std.proofs.lemmas.Bool.Decides.{nat_tests}
use Rattle.std.proofs.lemmas.Fmt.{IsAscii-decimal}
use Rattle.std.proofs.lemmas.Int.{ints}
use Rattle.std.proofs.lemmas.List.Elements.{All-from_recursion}
use Rattle.std.proofs.lemmas.Str.{IsAscii-append, IsUtf8-from_ascii}
use Rattle.std.proofs.lemmas.Str.Ascii.{IsAscii-from_all, IsAscii-nil}
use Rattle.jiff_core.specs.Timestamp.{IsDurationNanos}
use Rattle.jiff_core.proofs.SignedLemmas.{signed_arith}
use Rattle.cookie_text.specs.declared.draft.SameSite.{SameSite}
use Rattle.cookie_text.specs.declared.draft.SameSite.TheVariants.{Strict, Lax, None as Unrestricted}
use Rattle.cookie_text.specs.declared.expiration.Expiration.{Expiration}
use Rattle.cookie_text.specs.declared.expiration.Expiration.TheVariants.{DateTime as At, Session}
use Rattle.cookie_text.specs.Attribute.{Attribute, HttpOnly, Secure, Partitioned, OfSite, MaxAge, Path, Domain}
use Rattle.cookie_text.specs.Normal.{is_short_year}
use Rattle.cookie_text.specs.Printing.{piece_text, flag, is_set, prints_secure, whole_seconds, end_of, date_text}
use Rattle.cookie_text.specs.Printing.{encoded, encoded_pair, printed_attributes}
use Rattle.cookie_text.specs.Record.{Record, without_dot}
use Rattle.cookie_text.proofs.PrintedAttributes.{whole_seconds_fit}
use Rattle.cookie_text.proofs.PrintedDates.{is_quiet, printed_quiet}
use Rattle.cookie_client.proofs.ReadBack.{ascii, graphic_of}
use Rattle.cookie_client.proofs.Lines.{IsClosed}

-- ---- a line is ASCII

quiet_ascii : (bs : List ℕ) → list_all is_quiet bs ≡ true → AllByRecursion (λ b. b < 128) bs
quiet_ascii [] h = tt
quiet_ascii (b ∷ bs) h =
    let p = and_parts (is_quiet b) (list_all is_quiet bs) h in
    (grind (arith, nat_tests, p.0), quiet_ascii bs p.1)

quiet_text : (bs : List ℕ) → list_all is_quiet bs ≡ true → IsAscii bs
quiet_text bs h = IsAscii-from_all bs (All-from_recursion (λ b. b < 128) bs (quiet_ascii bs h))

small_ascii : (bs : List ℕ) → list_all (λ b. nat_lt b 128) bs ≡ true → AllByRecursion (λ b. b < 128) bs
small_ascii [] h = tt
small_ascii (b ∷ bs) h =
    let p = and_parts (nat_lt b 128) (list_all (λ b. nat_lt b 128) bs) h in
    (grind (arith, nat_tests, p.0), small_ascii bs p.1)

small_text : (bs : List ℕ) → list_all (λ b. nat_lt b 128) bs ≡ true → IsAscii bs
small_text bs h = IsAscii-from_all bs (All-from_recursion (λ b. b < 128) bs (small_ascii bs h))

flag_ascii : (b : Bool) (a : Attribute) → IsAscii (piece_text (Some a)) → IsAscii (piece_text (flag b a))
flag_ascii true a h = h
flag_ascii false a h = IsAscii-nil

site_ascii : (o : Option SameSite) → IsAscii (piece_text (option_map OfSite o))
site_ascii None = IsAscii-nil
site_ascii (Some Strict) = small_text (codes "; SameSite=Strict") refl
site_ascii (Some Lax) = small_text (codes "; SameSite=Lax") refl
site_ascii (Some Unrestricted) = small_text (codes "; SameSite=None") refl

number_ascii : (z : ℤ) → neg_ℤ (pos 9_223_372_036_854_775_808) ≤ℤ z → z ≤ℤ pos 9_223_372_036_854_775_807
    → IsAscii (signed_decimal z)
number_ascii (pos n) low high = IsAscii-decimal n (omega (arith, signed_arith, high))
number_ascii (negsuc n) low high = IsAscii-append (45 ∷ []) (decimal (suc n)) (small_text (45 ∷ []) refl)
    (IsAscii-decimal (suc n) (omega (arith, signed_arith, low)))

age_ascii : (o : Option ℤ) → IfSome o IsDurationNanos
    → IsAscii (piece_text (option_map (λ nanos. MaxAge (whole_seconds nanos)) o))
age_ascii None h = IsAscii-nil
age_ascii (Some n) h =
    let fit = whole_seconds_fit n h in
    IsAscii-append (codes "; Max-Age=") (signed_decimal (whole_seconds n)) (small_text (codes "; Max-Age=") refl)
    (number_ascii (whole_seconds n) fit.0 fit.1)

year_is : (y : ℤ) → int_lt y (pos 100) ≡ false → (n : ℕ) × (y ≡ pos n) × (100 ≤ n)
year_is (pos n) h = (n, refl, grind (arith, ints))
year_is (negsuc n) h = absurd (both_ways _ h refl)

end_ascii : (o : Option Expiration) → is_short_year o ≡ false → IsAscii (piece_text (end_of o))
end_ascii None h = IsAscii-nil
end_ascii (Some Session) h = IsAscii-nil
end_ascii (Some (At d)) h =
    let y = year_is d.date.year h in
    IsAscii-append (codes "; Expires=") (date_text d) (small_text (codes "; Expires=") refl)
    (quiet_text (date_text d) (printed_quiet d y.0 y.1 y.2))

pub line_utf8 : (c : Record) → IsClosed c → IsUtf8 (encoded c)
line_utf8 c h =
    IsUtf8-from_ascii (encoded c) (IsAscii-append _ (printed_attributes (encoded_pair c)) (ascii _ (graphic_of c)) all)
  where
    path : IsAscii (piece_text (option_map Path c.path))
    path = subst (λ o. IsAscii (piece_text (option_map Path o))) (sym h.is_sent.path)
        (small_text (codes "; Path=/") refl)

    alone : IsAscii (piece_text (option_map Domain (option_map without_dot c.domain)))
    alone = subst (λ o. IsAscii (piece_text (option_map Domain (option_map without_dot o)))) (sym h.is_sent.domain)
        IsAscii-nil

    all : IsAscii (printed_attributes (encoded_pair c))
    all =
        IsAscii-append (piece_text (flag (is_set c.http_only) HttpOnly)) _ (flag_ascii (is_set c.http_only) HttpOnly
        (small_text (codes "; HttpOnly") refl))
        (IsAscii-append (piece_text (option_map OfSite c.same_site)) _ (site_ascii c.same_site)
        (IsAscii-append (piece_text (flag (is_set c.partitioned) Partitioned)) _
        (flag_ascii (is_set c.partitioned) Partitioned (small_text (codes "; Partitioned") refl))
        (IsAscii-append (piece_text (flag (prints_secure (encoded_pair c)) Secure)) _
        (flag_ascii (prints_secure (encoded_pair c)) Secure (small_text (codes "; Secure") refl))
        (IsAscii-append (piece_text (option_map Path c.path)) _ path
        (IsAscii-append (piece_text (option_map Domain (option_map without_dot c.domain))) _ alone
        (IsAscii-append (piece_text (option_map (λ nanos. MaxAge (whole_seconds nanos)) c.max_age)) _
        (age_ascii c.max_age h.is_sent.age)
        (IsAscii-append (piece_text (end_of c.expires)) [] (end_ascii c.expires h.readable.expires) IsAscii-nil)))))))

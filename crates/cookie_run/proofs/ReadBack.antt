-- An escaped pair is read back from a header.
use Rattle.std.proofs.Common.{◌≡◌, ◌≢◌, ℕ, ◌<◌, Bool, true, false, ltb, List, [], ◌∷◌, ◌++◌, length, drop, IsAscii}
use Rattle.std.proofs.Common.{All, sym, refl, ap, ◌∙◌, arith, Some, suc, add-one, length-append, ⊎_elim}
use Rattle.std.proofs.Common.{subst, true≢false}
use Rattle.std.specs.Prelude.{◌==◌, ◌&&◌, ◌||◌, not}
use Rattle.std.specs.List.{AllByRecursion, position_or_len, starts_with}
use Rattle.std.specs.Str.{trim, trim_start, trim_end, is_utf8}
use Rattle.std.specs.Str.{IsUtf8}
use Rattle.std.proofs.lemmas.Bool.{cases_Bool, cond-true, cond-false}
use Rattle.std.proofs.lemmas.Bool.Decides.{nat_tests}
use Rattle.std.proofs.lemmas.Str.{chars-IsAscii, IsUtf8-from_ascii, is_utf8-from_IsUtf8}
use Rattle.std.proofs.lemmas.Str.Ascii.{encodes-IsAscii, IsAscii-from_all}
use Rattle.std.proofs.lemmas.List.Elements.{All-from_recursion}
use Rattle.percent_encoding.specs.Percent.{percent_decode}
use Rattle.percent_encoding.proofs.PercentLemmas.{IsByte, percent_decode-nil}
use Rattle.cookie_text.specs.Pieces.{name_of, text_after, value_of}
use Rattle.cookie.specs.Prefix.{host_text, secure_text}
use Rattle.cookie_text.specs.Printing.{encoded_pair, escaped, is_escaped, stripped}
use Rattle.cookie_text.specs.Record.{Record, bare}
use Rattle.cookie_text.specs.Again.{Lacks, IsReadPair}
use Rattle.cookie_client.specs.Reading.{behind_blanks, is_hidden, is_hidden_prefix}
use Rattle.cookie_client.proofs.HeaderCookies.{pair_in, decoded, cookie_by, shown_by}
use Rattle.cookie_client.proofs.Escaped.{IsPlain, escaped_plain, decoded_escaped}
use Rattle.cookie_client.proofs.ReadBack.{IsGraphic, skip_graphic, graphic_ascii, ascii, end_trimmed, trim_graphic}
use Rattle.cookie_client.proofs.ReadBack.{is_semicolon, is_equals, plain_graphic, first_equals, led, led_whole}
use Rattle.cookie_client.proofs.ReadBack.{led_uncut, led_pair, name_before, IsGood, graphic_of}

ascii_spaced : (bs : List ℕ) → AllByRecursion IsGraphic bs → IsAscii (32 ∷ bs)
ascii_spaced bs h = IsAscii-from_all (32 ∷ bs) (All-from_recursion (λ b. b < 128) (32 ∷ bs)
    (omega arith, graphic_ascii bs h))

pub trim_spaced : (bs : List ℕ) → AllByRecursion IsGraphic bs → trim (32 ∷ bs) ≡ bs
unfolding trim_start
trim_spaced bs h =
    let start : trim_start (32 ∷ bs) ≡ bs = rw (chars-IsAscii (32 ∷ bs) (ascii_spaced bs h))
    (rw (skip_graphic bs h) (encodes-IsAscii bs (ascii bs h))) in
    ap trim_end start ∙ end_trimmed bs h

pair_whole : (n v : List ℕ) → AllByRecursion IsPlain n → AllByRecursion IsPlain v
    → AllByRecursion (λ b. is_semicolon b ≡ false) (n ++ 61 ∷ v)
pair_whole [] [] hn hv = (refl, tt)
pair_whole [] (b ∷ bs) hn hv = let rest = pair_whole [] bs hn hv.1 in
    (refl, (grind (arith, nat_tests, hv.0.no_semicolon), rest.1))
pair_whole (b ∷ bs) v hn hv = (grind (arith, nat_tests, hn.0.no_semicolon), pair_whole bs v hn.1 hv)

plain_uncut : (bs : List ℕ) → AllByRecursion IsPlain bs → AllByRecursion (λ b. is_equals b ≡ false) bs
plain_uncut [] h = tt
plain_uncut (b ∷ bs) h = (grind (arith, nat_tests, h.0.no_equals), plain_uncut bs h.1)

drop_past : (n v : List ℕ) → drop (suc (length n)) (n ++ 61 ∷ v) ≡ v
drop_past [] v = refl
drop_past (b ∷ bs) v = drop_past bs v

has_equals : (n v : List ℕ) → AllByRecursion (λ b. is_equals b ≡ false) n
    → ltb (position_or_len is_equals (n ++ 61 ∷ v)) (length (n ++ 61 ∷ v)) ≡ true
has_equals n v h = grind (arith, nat_tests, first_equals n v h, length-append n (61 ∷ v))

trim_led : (spaced : Bool) (bs : List ℕ) → AllByRecursion IsGraphic bs → trim (led spaced bs) ≡ bs
trim_led false bs h = trim_graphic bs h
trim_led true bs h = trim_spaced bs h

led_ascii : (spaced : Bool) (bs : List ℕ) → AllByRecursion IsGraphic bs → IsAscii (led spaced bs)
led_ascii false bs h = ascii bs h
led_ascii true bs h = ascii_spaced bs h

value_behind : (n v : List ℕ) → AllByRecursion (λ b. is_equals b ≡ false) n → AllByRecursion IsGraphic v
    → value_of (n ++ 61 ∷ v) ≡ Some v
unfolding value_of text_after
value_behind n v h g =
    cond-true _ _ _ (has_equals n v h) ∙ ap Some (rw (first_equals n v h, add-one, drop_past n v) (trim_graphic v g))

-- a cookie of the same name and value, with no attribute
abbrev pub bare_of : Record → Record
bare_of c = bare c.name c.value

escaped_nonempty : (n : List ℕ) → n ≢ [] → All IsByte n → escaped n ≢ []
escaped_nonempty n named bytes e = named (sym (decoded_escaped n bytes) ∙ (ap percent_decode e ∙ percent_decode-nil))

pair_named : (n v : List ℕ) → n ≢ [] → pair_in n (Some v) ≡ decoded n v
pair_named [] v h = absurd (h refl)
pair_named (b ∷ bs) v h = refl

-- ---- it reads as itself where it is read undecoded

plain_no_equals : (bs : List ℕ) → AllByRecursion IsPlain bs → Lacks 61 bs
plain_no_equals [] h = tt
plain_no_equals (b ∷ bs) h = (h.0.no_equals, plain_no_equals bs h.1)

plain_no_semicolon : (bs : List ℕ) → AllByRecursion IsPlain bs → Lacks 59 bs
plain_no_semicolon [] h = tt
plain_no_semicolon (b ∷ bs) h = (h.0.no_semicolon, plain_no_semicolon bs h.1)

some_bytes : (bs : List ℕ) → bs ≢ [] → 0 < length bs
some_bytes [] h = absurd (h refl)
some_bytes (b ∷ bs) h = omega arith

pub escaped_pair : (n v : List ℕ) → n ≢ [] → All IsByte n → IsReadPair (escaped n) (escaped v)
escaped_pair n v named bytes = record {
  named = some_bytes (escaped n) (escaped_nonempty n named bytes);
  name_uncut = plain_no_equals (escaped n) (escaped_plain n);
  name_whole = plain_no_semicolon (escaped n) (escaped_plain n);
  name_trimmed = trim_graphic (escaped n) (plain_graphic (escaped n) (escaped_plain n));
  value_whole = plain_no_semicolon (escaped v) (escaped_plain v);
  value_trimmed = trim_graphic (escaped v) (plain_graphic (escaped v) (escaped_plain v));
}

-- ---- it reads back where it is decoded

pub ascii_is_utf8 : (bs : List ℕ) → IsAscii bs → is_utf8 bs ≡ true
ascii_is_utf8 bs h = is_utf8-from_IsUtf8 bs (IsUtf8-from_ascii bs h)

pub whole_of : (c : Record) → AllByRecursion (λ b. is_semicolon b ≡ false) (stripped (encoded_pair c))
whole_of c = pair_whole (escaped c.name) (escaped c.value) (escaped_plain c.name) (escaped_plain c.value)

-- ---- it hides no prefix

-- bytes that stay where a text is escaped
abbrev AreKept : List ℕ → Type 0
AreKept text = AllByRecursion (λ b. is_escaped b ≡ false) text

escaped_kept : (b : ℕ) (bs : List ℕ) → is_escaped b ≡ false → escaped (b ∷ bs) ≡ b ∷ escaped bs
unfolding escaped
escaped_kept b bs kept = rw kept refl

and_first : (a b : Bool) → (a && b) ≡ true → a ≡ true
and_first true b h = refl
and_first false b h = h

and_second : (a b : Bool) → (a && b) ≡ true → b ≡ true
and_second true b h = h
and_second false true h = refl
and_second false false h = h

and_both : (a b : Bool) → a ≡ true → b ≡ true → (a && b) ≡ true
and_both true b h g = g
and_both false b h g = h

-- where a text begins so, it does escaped
front_kept : (prefix text rest : List ℕ) → AreKept prefix → starts_with ◌==◌ text prefix ≡ true
    → starts_with ◌==◌ (escaped text ++ rest) prefix ≡ true
front_kept [] text rest kept h = refl
front_kept (p ∷ ps) [] rest kept h = absurd (true≢false (sym h))
front_kept (p ∷ ps) (b ∷ bs) rest kept h =
    let same : (p == b) ≡ true = and_first (p == b) (starts_with ◌==◌ bs ps) h in
    let later : starts_with ◌==◌ bs ps ≡ true = and_second (p == b) (starts_with ◌==◌ bs ps) h in
    let is : b ≡ p = grind (arith, nat_tests, same) in
    subst (λ text. starts_with ◌==◌ (text ++ rest) (p ∷ ps) ≡ true)
    (sym (escaped_kept b bs (ap is_escaped is ∙ kept.0)))
    (and_both (p == b) (starts_with ◌==◌ (escaped bs ++ rest) ps) same (front_kept ps bs rest kept.1 later))

is_no_blank : (b : ℕ) → IsGraphic b → not (b == 32 || b == 9) ≡ true
is_no_blank b h = grind (arith, nat_tests, h.low)

-- no blank but the space stands before it
unled : (spaced : Bool) (b : ℕ) (bs : List ℕ) → IsGraphic b → behind_blanks (led spaced (b ∷ bs)) ≡ b ∷ bs
unled false b bs h = rw (is_no_blank b h) refl
unled true b bs h = rw (is_no_blank b h) refl

unled_pair : (spaced : Bool) (n v : List ℕ) → AllByRecursion IsPlain n
    → behind_blanks (led spaced (n ++ 61 ∷ v)) ≡ n ++ 61 ∷ v
unled_pair spaced [] v h = unled spaced 61 v (record { low = omega arith; high = omega arith })
unled_pair spaced (b ∷ bs) v h = unled spaced b (bs ++ 61 ∷ v) (record { low = h.0.low; high = h.0.high })

shows_one : (prefix name : List ℕ) (spaced : Bool) (v : List ℕ) → AreKept prefix
    → is_hidden prefix (led spaced (escaped name ++ 61 ∷ v)) name ≡ false
shows_one prefix name spaced v kept =
    ⊎_elim
    (λ (begins : starts_with ◌==◌ name prefix ≡ true).
    rw (begins, unled_pair spaced (escaped name) v (escaped_plain name))
    (rw (front_kept prefix name (61 ∷ v) kept begins) refl))
    (λ (other : starts_with ◌==◌ name prefix ≡ false). rw other refl)
    (cases_Bool (starts_with ◌==◌ name prefix))

shows_prefix : (name : List ℕ) (spaced : Bool) (v : List ℕ)
    → is_hidden_prefix (led spaced (escaped name ++ 61 ∷ v)) name ≡ false
shows_prefix name spaced v =
    rw (shows_one host_text name spaced v host_kept, shows_one secure_text name spaced v secure_kept) refl
  where
    host_kept : AreKept host_text
    host_kept = (refl, (refl, (refl, (refl, (refl, (refl, (refl, tt)))))))

    secure_kept : AreKept secure_text
    secure_kept = (refl, (refl, (refl, (refl, (refl, (refl, (refl, (refl, (refl, tt)))))))))

-- so no reading passes over it
unhidden : (b hides : Bool) → hides ≡ false → (b && hides) ≡ false
unhidden true hides none = none
unhidden false hides none = refl

-- the pair decoded
decodes_pair : (c : Record) → IsGood c → decoded (escaped c.name) (escaped c.value) ≡ Some (bare_of c)
decodes_pair c good =
    rw (decoded_escaped c.name good.name_bytes, decoded_escaped c.value good.value_bytes)
    (rw (is_utf8-from_IsUtf8 c.name good.name, is_utf8-from_IsUtf8 c.value good.value) refl)

-- THE PAIR: what is escaped reads back
pub cookie_by_led : (b spaced : Bool) (c : Record) → IsGood c
    → cookie_by b (led spaced (stripped (encoded_pair c))) ≡ Some (bare_of c)
cookie_by_led b spaced c good =
    let n = escaped c.name in
    let v = escaped c.value in
    let uncut = led_uncut spaced n (plain_uncut n (escaped_plain c.name)) in
    let name : name_of (led spaced (n ++ 61 ∷ v)) ≡ n =
    ap name_of (led_pair spaced n v) ∙ (name_before (led spaced n) v uncut
    ∙ trim_led spaced n (plain_graphic n (escaped_plain c.name))) in
    let value : value_of (led spaced (n ++ 61 ∷ v)) ≡ Some v =
    ap value_of (led_pair spaced n v) ∙ value_behind (led spaced n) v uncut (plain_graphic v (escaped_plain c.value)) in
    cond-true _ _ _ (ascii_is_utf8 _ (led_ascii spaced _ (graphic_of c)))
    ∙ (ap (shown_by b (led spaced (n ++ 61 ∷ v)))
    ((λ i. pair_in (name i) (value i)) ∙ (pair_named n v (escaped_nonempty c.name good.named good.name_bytes)
    ∙ decodes_pair c good)) ∙ cond-false _ _ _ (unhidden b _ (shows_prefix c.name spaced v)))

-- The parts of a pair's text, and what of a cookie is a text.
use Rattle.std.proofs.Common.{◌≡◌, ◌≢◌, ℕ, ◌<◌, ◌≤◌, Bool, true, false, List, [], ◌∷◌, ◌++◌, length, IsAscii, All, refl}
use Rattle.std.proofs.Common.{ap, ◌∙◌, arith}
use Rattle.std.specs.Prelude.{◌==◌}
use Rattle.std.specs.List.{AllByRecursion, position_or_len}
use Rattle.std.specs.Str.{trim, trim_start, trim_end, skip_leading_whitespace, drop_trailing_whitespace, IsUtf8}
use Rattle.std.specs.Char.{is_whitespace}
use Rattle.std.proofs.Math.Seq.{take-append_seam}
use Rattle.std.proofs.lemmas.Bool.{cond-false}
use Rattle.std.proofs.lemmas.Bool.Decides.{nat_tests}
use Rattle.std.proofs.lemmas.Str.{chars-IsAscii}
use Rattle.std.proofs.lemmas.Str.Ascii.{encodes-IsAscii, IsAscii-from_all}
use Rattle.std.proofs.lemmas.List.Elements.{All-from_recursion}
use Rattle.percent_encoding.proofs.PercentLemmas.{IsByte}
use Rattle.cookie_text.specs.Pieces.{name_of}
use Rattle.cookie_text.specs.Printing.{encoded_pair, escaped, stripped}
use Rattle.cookie_text.specs.Record.{Record}
use Rattle.cookie_client.proofs.Escaped.{IsPlain, escaped_plain}

-- ---- trimming what has no white space

pub record IsGraphic (b : ℕ) : Type 0 where
  pub low : 33 ≤ b
  pub high : b < 127

is_no_space : (b : ℕ) → IsGraphic b → is_whitespace b ≡ false
is_no_space b h = grind (arith, nat_tests)

pub skip_graphic : (bs : List ℕ) → AllByRecursion IsGraphic bs → skip_leading_whitespace bs ≡ bs
skip_graphic [] h = refl
skip_graphic (b ∷ bs) h = cond-false _ _ _ (is_no_space b h.0)

drop_graphic : (bs : List ℕ) → AllByRecursion IsGraphic bs → drop_trailing_whitespace bs ≡ bs
drop_graphic [] h = refl
drop_graphic (b ∷ bs) h = rw (is_no_space b h.0) (ap (λ x. b ∷ x) (drop_graphic bs h.1))

pub graphic_ascii : (bs : List ℕ) → AllByRecursion IsGraphic bs → AllByRecursion (λ b. b < 128) bs
graphic_ascii [] h = tt
graphic_ascii (b ∷ bs) h = (omega (arith, h.0.high), graphic_ascii bs h.1)

pub ascii : (bs : List ℕ) → AllByRecursion IsGraphic bs → IsAscii bs
ascii bs h = IsAscii-from_all bs (All-from_recursion (λ b. b < 128) bs (graphic_ascii bs h))

pub end_trimmed : (bs : List ℕ) → AllByRecursion IsGraphic bs → trim_end bs ≡ bs
unfolding trim_end
end_trimmed bs h = rw (chars-IsAscii bs (ascii bs h)) (rw (drop_graphic bs h) (encodes-IsAscii bs (ascii bs h)))

pub trim_graphic : (bs : List ℕ) → AllByRecursion IsGraphic bs → trim bs ≡ bs
unfolding trim_start
trim_graphic bs h =
    let start : trim_start bs ≡ bs = rw (chars-IsAscii bs (ascii bs h))
    (rw (skip_graphic bs h) (encodes-IsAscii bs (ascii bs h))) in
    ap trim_end start ∙ end_trimmed bs h

-- ---- the parts of `name=value`

abbrev pub is_semicolon : ℕ → Bool
is_semicolon b = b == 59

abbrev pub is_equals : ℕ → Bool
is_equals b = b == 61

pub plain_graphic : (bs : List ℕ) → AllByRecursion IsPlain bs → AllByRecursion IsGraphic bs
plain_graphic [] h = tt
plain_graphic (b ∷ bs) h = (record { low = h.0.low; high = h.0.high }, plain_graphic bs h.1)

pair_graphic : (n v : List ℕ) → AllByRecursion IsPlain n → AllByRecursion IsPlain v
    → AllByRecursion IsGraphic (n ++ 61 ∷ v)
pair_graphic [] v hn hv = (record { low = omega arith; high = omega arith }, plain_graphic v hv)
pair_graphic (b ∷ bs) v hn hv = (record { low = hn.0.low; high = hn.0.high }, pair_graphic bs v hn.1 hv)

pub first_equals : (n v : List ℕ) → AllByRecursion (λ b. is_equals b ≡ false) n
    → position_or_len is_equals (n ++ 61 ∷ v) ≡ length n
first_equals [] v h = refl
first_equals (b ∷ bs) v h = grind (arith, nat_tests, h.0, first_equals bs v h.1)

-- a text, where nothing or one space stands before it
abbrev pub led : Bool → List ℕ → List ℕ
led false text = text
led true text = 32 ∷ text

pub led_whole : (spaced : Bool) (bs : List ℕ) → AllByRecursion (λ b. is_semicolon b ≡ false) bs
    → AllByRecursion (λ b. is_semicolon b ≡ false) (led spaced bs)
led_whole false bs h = h
led_whole true bs h = (refl, h)

pub led_uncut : (spaced : Bool) (bs : List ℕ) → AllByRecursion (λ b. is_equals b ≡ false) bs
    → AllByRecursion (λ b. is_equals b ≡ false) (led spaced bs)
led_uncut false bs h = h
led_uncut true bs h = (refl, h)

pub led_pair : (spaced : Bool) (n v : List ℕ) → led spaced (n ++ 61 ∷ v) ≡ led spaced n ++ 61 ∷ v
led_pair false n v = refl
led_pair true n v = refl

pub name_before : (n v : List ℕ) → AllByRecursion (λ b. is_equals b ≡ false) n → name_of (n ++ 61 ∷ v) ≡ trim n
unfolding name_of
name_before n v h = rw (first_equals n v h) (rw take-append_seam refl)

-- ---- what is set, and what it reads back as

-- a name and a value that are texts, the name not empty
pub record IsGood (c : Record) : Type 0 where
  pub named : c.name ≢ []
  pub name : IsUtf8 c.name
  pub value : IsUtf8 c.value
  pub name_bytes : All IsByte c.name
  pub value_bytes : All IsByte c.value

pub graphic_of : (c : Record) → AllByRecursion IsGraphic (stripped (encoded_pair c))
graphic_of c = pair_graphic (escaped c.name) (escaped c.value) (escaped_plain c.name) (escaped_plain c.value)

-- A whole header is read back, whatever the pairs of it are.
use Rattle.std.proofs.Common.{◌≡◌, ℕ, Bool, true, false, cond, List, [], ◌∷◌, ◌++◌, All, refl, ap, ◌∙◌, subst}
use Rattle.std.proofs.Common.{arith, Option, Some, None}
use Rattle.std.specs.Prelude.{◌&&◌, IfSome}
use Rattle.std.specs.List.{AllByRecursion, filter_map, cons_option}
use Rattle.std.specs.Option.{option_or}
use Rattle.std.specs.Str.{bytes_eq, trim, trim_start, trim_end, chars, is_utf8}
use Rattle.std.proofs.lemmas.Bool.Decides.{nat_tests}
use Rattle.std.proofs.lemmas.List.Elements.{All-from_recursion}
use Rattle.std.proofs.lemmas.List.Splits.{slice_split_none, slice_split_at}
use Rattle.percent_encoding.specs.Percent.{percent_decode}
use Rattle.cookie_text.specs.Again.{Lacks, IsReadPair}
use Rattle.cookie_text.specs.Pieces.{pieces, name_of}
use Rattle.cookie_text.specs.Printing.{escaped}
use Rattle.cookie_text.specs.Record.{Record, bare}
use Rattle.cookie_client.specs.Header.{header_of, pair_text}
use Rattle.cookie_client.specs.Jar.{last_in}
use Rattle.cookie_client.specs.Reading.{passes_over}
use Rattle.cookie_client.proofs.HeaderCookies.{cookie_by, cookies_by, pair_in, shown_by}
use Rattle.cookie_client.proofs.ReadBack.{is_semicolon, is_equals, led, led_whole, led_uncut, led_pair, name_before}
use Rattle.cookie_client.proofs.SessionTexts.{or_none}

-- the pair of a cookie, as a client holds it
abbrev pub pair_at : Record → List ℕ × List ℕ
pair_at c = (escaped c.name, escaped c.value)

-- ---- a space in front

pub chars_spaced : (bs : List ℕ) → chars (32 ∷ bs) ≡ 32 ∷ chars bs
unfolding chars
chars_spaced [] = refl
chars_spaced (b ∷ bs) = refl

trim_spaced : (bs : List ℕ) → trim (32 ∷ bs) ≡ trim bs
unfolding trim_start
trim_spaced bs = ap trim_end (rw (chars_spaced bs) refl)

pub trim_led : (spaced : Bool) (bs : List ℕ) → trim (led spaced bs) ≡ trim bs
trim_led false bs = refl
trim_led true bs = trim_spaced bs

-- ---- the pieces of a header

-- as a text gives them
abbrev pub IsRead : List ℕ × List ℕ → Type 0
IsRead pair = IsReadPair pair.0 pair.1

whole : (n v : List ℕ) → Lacks 59 n → Lacks 59 v → AllByRecursion (λ b. is_semicolon b ≡ false) (n ++ 61 ∷ v)
whole [] [] hn hv = (refl, tt)
whole [] (b ∷ bs) hn hv = let rest = whole [] bs hn hv.1 in (refl, (grind (arith, nat_tests, hv.0), rest.1))
whole (b ∷ bs) v hn hv = (grind (arith, nat_tests, hn.0), whole bs v hn.1 hv)

pub uncut : (n : List ℕ) → Lacks 61 n → AllByRecursion (λ b. is_equals b ≡ false) n
uncut [] h = tt
uncut (b ∷ bs) h = (grind (arith, nat_tests, h.0), uncut bs h.1)

clean : (spaced : Bool) (p : List ℕ × List ℕ) → IsRead p → All (λ b. is_semicolon b ≡ false)
    (led spaced (pair_text p))
clean spaced p h = All-from_recursion (λ b. is_semicolon b ≡ false) _
    (led_whole spaced _ (whole p.0 p.1 h.name_whole h.value_whole))

-- the text of each pair, the first behind a space or not, any other behind one
abbrev pub texts_of : Bool → List (List ℕ × List ℕ) → List (List ℕ)
texts_of spaced [] = []
texts_of spaced (p ∷ ps) = led spaced (pair_text p) ∷ texts_of true ps

led_front : (spaced : Bool) (text rest : List ℕ) → led spaced (text ++ 59 ∷ rest) ≡ led spaced text ++ 59 ∷ rest
led_front false text rest = refl
led_front true text rest = refl

cut : (spaced : Bool) (p : List ℕ × List ℕ) (ps : List (List ℕ × List ℕ)) → AllByRecursion IsRead (p ∷ ps)
    → pieces (led spaced (header_of (p ∷ ps))) ≡ texts_of spaced (p ∷ ps)
cut spaced p [] h = slice_split_none is_semicolon _ (clean spaced p h.0)
cut spaced p (q ∷ ps) h =
    ap pieces (led_front spaced (pair_text p) (32 ∷ header_of (q ∷ ps)))
    ∙ (slice_split_at is_semicolon (led spaced (pair_text p)) 59 (32 ∷ header_of (q ∷ ps)) (clean spaced p h.0) refl
    ∙ ap (λ x. led spaced (pair_text p) ∷ x) (cut true q ps h.1))

-- the cookies of an empty header are none
no_header : (b : Bool) → cookies_by b [] ≡ []
unfolding is_utf8 chars trim_start Rattle.std.specs.Str.trim_end Rattle.cookie_text.specs.Pieces.name_of
    Rattle.cookie_text.specs.Pieces.value_of
no_header b = refl

-- the cookies of a header are those of the texts of its pairs
pub header_back : (b : Bool) (ps : List (List ℕ × List ℕ)) → AllByRecursion IsRead ps
    → cookies_by b (header_of ps) ≡ filter_map (cookie_by b) (texts_of false ps)
header_back b [] h = no_header b
header_back b (p ∷ ps) h = ap (filter_map (cookie_by b)) (cut false p ps h)

-- ---- the cookie of a pair, if there is one, is of its decoded name

decoded_named : (a b : Bool) (n v : List ℕ) → IfSome (cond (a && b) (Some (bare n v)) None) (λ c. c.name ≡ n)
decoded_named true true n v = refl
decoded_named true false n v = tt
decoded_named false b n v = tt

pair_named : (n : List ℕ) (value : Option (List ℕ)) → IfSome (pair_in n value) (λ c. c.name ≡ percent_decode n)
pair_named n None = tt
pair_named [] (Some v) = tt
pair_named (b ∷ bs) (Some v) = decoded_named (is_utf8 (percent_decode (b ∷ bs))) (is_utf8 (percent_decode v)) _ _

if_named : (b : Bool) (o : Option Record) (n : List ℕ) → IfSome o (λ c. c.name ≡ n)
    → IfSome (cond b o None) (λ c. c.name ≡ n)
if_named true o n h = h
if_named false o n h = tt

-- what holds of the cookie of a pair holds where it is passed over for a prefix
pub if_shown : (b : Bool) (piece : List ℕ) (o : Option Record) (P : Record → Type 0) → IfSome o P
    → IfSome (shown_by b piece o) P
if_shown b piece None P h = tt
if_shown b piece (Some c) P h = at (passes_over b piece c.name)
  where
    at : (b : Bool) → IfSome (cond b None (Some c)) P
    at true = tt
    at false = h

pub cookie_named : (b spaced : Bool) (p : List ℕ × List ℕ) → IsRead p
    → IfSome (cookie_by b (led spaced (pair_text p))) (λ c. c.name ≡ percent_decode p.0)
cookie_named b spaced p h =
    let name : name_of (led spaced (pair_text p)) ≡ p.0 =
    ap name_of (led_pair spaced p.0 p.1)
    ∙ (name_before (led spaced p.0) p.1 (led_uncut spaced p.0 (uncut p.0 h.name_uncut))
    ∙ (trim_led spaced p.0 ∙ h.name_trimmed)) in
    if_named (is_utf8 (led spaced (pair_text p))) _ _
    (if_shown b (led spaced (pair_text p)) _ (λ c. c.name ≡ percent_decode p.0)
    (subst (λ n. IfSome (pair_in (name_of (led spaced (pair_text p)))
    (Rattle.cookie_text.specs.Pieces.value_of (led spaced (pair_text p)))) (λ c. c.name ≡ percent_decode n)) name
    (pair_named (name_of (led spaced (pair_text p))) _)))

-- a cookie of another name is passed over
pub passed_over : (q : List ℕ) (o : Option Record) (cs : List Record) → IfSome o (λ c. bytes_eq q c.name ≡ false)
    → last_in (cons_option o cs) q ≡ last_in cs q
passed_over q None cs h = refl
passed_over q (Some c) cs h = ap (λ b. option_or (last_in cs q) (cond b (Some c) None)) h ∙ or_none (last_in cs q)

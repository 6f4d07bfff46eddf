-- The lines of a text, and the fields of a line.
use Rattle.std.proofs.Common.{◌≡◌, ℕ, zero, suc, ◌-◌, ◌<◌, ◌≤◌, Bool, true, false, ◌&&◌, List, [], ◌∷◌}
use Rattle.std.proofs.Common.{length, take, drop, get_or, Option, Some, None, ℤ, Ok, Err, sym, refl, ap, ◌∙◌, subst}
use Rattle.std.proofs.Common.{⊎_elim}
use Rattle.std.proofs.Common.{arith, All, drop_of_length-le}
use Rattle.std.specs.Prelude.{map, ◌==◌, nat_lt, position, if◌then◌else◌}
use Rattle.std.specs.List.{position_or_len, list_all}
use Rattle.std.specs.Str.{is_utf8, IsUtf8}
use Rattle.std.specs.Str.Lines.{lines, lines_of_parts, strip_carriage_return}
use Rattle.std.proofs.lemmas.Bool.{cases_Bool}
use Rattle.std.proofs.lemmas.Bool.Decides.{nat_tests}
use Rattle.std.proofs.lemmas.Str.{IsUtf8-from_is_utf8}
use Rattle.std.proofs.lemmas.List.{take_rest}
use Rattle.std.proofs.lemmas.List.Elements.{All-from_get_or}
use Rattle.std.proofs.lemmas.List.Sums.{fails_before_first}
use Rattle.std.proofs.lemmas.List.Splits.{slice_split_none}
use Rattle.percent_encoding.specs.Percent.{percent_decode}
use denote.Ref.{Bor}
use Rattle.url.specs.Parts.{Parts}
use Rattle.jiff.specs.Types.{DateTime}
use Rattle.text_lines.proofs.LineLemmas.{cut_some, is_line_feed, missed}
use Rattle.cookie_client.specs.Moment.{date_of, moment_of}
use Rattle.cookie_client.specs.Hosts.{url_of}
use Rattle.cookie_run.specs.ScriptLine.{placed, read_header, Heads, read_set, for_way, way_of, with_end, cookie_line}
use Rattle.cookie_run.specs.ScriptLine.{unless_dash, age_of}
use Rattle.cookie_client.specs.declared.way.Way.{Way}
use Rattle.cookie_run.specs.declared.script.cause.Cause.TheVariants.{Fields}

pub not_utf8 : (bs : List ℕ) → ¬ (IsUtf8 bs) → is_utf8 bs ≡ false
not_utf8 bs wrong = ⊎_elim (λ (e : is_utf8 bs ≡ true). absurd (wrong (IsUtf8-from_is_utf8 bs e)))
    (λ (e : is_utf8 bs ≡ false). e) (cases_Bool (is_utf8 bs))

last_line : (text : List ℕ) → 0 < length text → lines_of_parts (text ∷ []) ≡ text ∷ []
last_line text h = let e : (length text == 0) ≡ false = grind (arith, nat_tests) in ap
    (λ t. if t then [] else text ∷ []) e

pub cut_none : (text : List ℕ) → position is_line_feed text ≡ None → 0 < length text
    → lines text ≡ text ∷ lines (take (length text - length text) (drop (length text) text))
cut_none text e some =
    let m = missed (nat_lt (position_or_len is_line_feed text) (length text)) (position_or_len is_line_feed text) e in
    let none : All (λ x. is_line_feed x ≡ false) text = All-from_get_or (λ x. is_line_feed x ≡ false) text 0
    (λ k h. fails_before_first is_line_feed text k 0 (grind (arith, nat_tests))) in
    ap lines_of_parts (slice_split_none is_line_feed text none) ∙ last_line text some
    ∙ ap (λ rest. text ∷ lines rest) (sym (take_rest text (length text)
    ∙ drop_of_length-le text {i = length text} (omega arith)))

pub decoded_parts : (parts : List (Bor (List ℕ))) (all : List (List ℕ)) → map (λ x. x.now) parts ≡ all
    → map (λ part. percent_decode part.now) parts ≡ map percent_decode all
decoded_parts parts all e = composed parts ∙ ap (map percent_decode) e
  where
    composed : (xs : List (Bor (List ℕ))) → map (λ part. percent_decode part.now) xs ≡ map percent_decode
        (map (λ x. x.now) xs)
    composed [] = refl
    composed (x ∷ xs) = ap (λ ys. percent_decode x.now ∷ ys) (composed xs)

-- one field that isn't a text is enough
pub one_not_text : {A : Type 0} (view : A → List ℕ) (fields : List A) (i : ℕ) (field : A) → i < length fields
    → field ≡ get_or fields i field → is_utf8 (view field) ≡ false → list_all is_utf8 (map view fields) ≡ false
one_not_text view [] i field h is e = absurd (omega (arith, h))
one_not_text view (x ∷ xs) zero field h is e = ap (λ t. t && list_all is_utf8 (map view xs))
    (subst (λ y. is_utf8 (view y) ≡ false) is e)
one_not_text view (x ∷ xs) (suc i) field h is e =
    let rest = one_not_text view xs i field (omega (arith, h)) is e in
    ap (λ t. is_utf8 (view x) && t) rest ∙ and_false (is_utf8 (view x))
  where
    and_false : (b : Bool) → (b && false) ≡ false
    and_false true = refl
    and_false false = refl

by_position : (text : List ℕ) (o : Option ℕ) → position is_line_feed text ≡ o → 0 < length text → (line : List ℕ)
    × (after : List (List ℕ)) × (lines text ≡ line ∷ after)
by_position text None e some = (text, _, cut_none text e some)
by_position text (Some i) e some = (
  strip_carriage_return (take i text),
  _,
  (cut_some text (strip_carriage_return (take i text)) i e refl).0,
)

-- a text that isn't empty has a line
pub lines_some : (text : List ℕ) → 0 < length text → (line : List ℕ) × (after : List (List ℕ))
    × (lines text ≡ line ∷ after)
lines_some text some = by_position text (position is_line_feed text) refl some

-- a loop over a list has come to its end
pub take_done : {A : Type 0} (items all : List A) (i : ℕ) → items ≡ all → length items ≤ i → take i items ≡ all
take_done items all i e h = whole items i h ∙ e
  where
    whole : {A : Type 0} (xs : List A) (i : ℕ) → length xs ≤ i → take i xs ≡ xs
    whole [] zero h = refl
    whole [] (suc i) h = refl
    whole (x ∷ xs) zero h = absurd (omega (arith, h))
    whole (x ∷ xs) (suc i) h = ap (λ ys. x ∷ ys) (whole xs i (omega (arith, h)))

-- `header` with its two fields
pub header_read : (fields : List (Bor (List ℕ))) (d e : Bor (List ℕ)) (url : Parts) (at : ℤ) → 2 ≤ length fields
    → length fields < 3
    → url_of (get_or fields 0 d).now ≡ Some url → moment_of (get_or fields 1 e).now ≡ Some at
    → read_header (map (λ field. field.now) fields) ≡ Ok (Heads url at)
header_read [] d e url at low high u m = absurd (omega (arith, low))
header_read (a ∷ []) d e url at low high u m = absurd (omega (arith, low))
header_read (a ∷ b ∷ []) d e url at low high u m = λ i. placed Heads (u i) (m i)
header_read (a ∷ b ∷ x ∷ more) d e url at low high u m = absurd (omega (arith, high))

-- `set` with its five fields, and with another number of them
pub set_read : (fields : List (Bor (List ℕ))) (d e f g h : Bor (List ℕ)) (way : Way) (age : Option ℤ)
    (end : Option DateTime) → 5 ≤ length fields → length fields < 6
    → way_of (get_or fields 0 d).now ≡ Some way → unless_dash age_of (get_or fields 3 g).now ≡ Some age
    → unless_dash date_of (get_or fields 4 h).now ≡ Some end
    → read_set (map (λ field. field.now) fields)
    ≡ Ok (cookie_line way (get_or fields 1 e).now (get_or fields 2 f).now age end)
set_read [] d e f g h way age end low high w a x = absurd (omega (arith, low))
set_read (p ∷ []) d e f g h way age end low high w a x = absurd (omega (arith, low))
set_read (p ∷ q ∷ []) d e f g h way age end low high w a x = absurd (omega (arith, low))
set_read (p ∷ q ∷ r ∷ []) d e f g h way age end low high w a x = absurd (omega (arith, low))
set_read (p ∷ q ∷ r ∷ s ∷ []) d e f g h way age end low high w a x = absurd (omega (arith, low))
set_read (p ∷ q ∷ r ∷ s ∷ t ∷ []) d e f g h way age end low high w a x =
    λ i. for_way (w i) (λ v. with_end (cookie_line v q.now r.now) (a i) (x i))
set_read (p ∷ q ∷ r ∷ s ∷ t ∷ u ∷ more) d e f g h way age end low high w a x = absurd (omega (arith, high))

pub set_few : (fields : List (Bor (List ℕ))) → length fields < 5 → read_set (map (λ field. field.now) fields) ≡ Err
    Fields
set_few [] few = refl
set_few (p ∷ []) few = refl
set_few (p ∷ q ∷ []) few = refl
set_few (p ∷ q ∷ r ∷ []) few = refl
set_few (p ∷ q ∷ r ∷ s ∷ []) few = refl
set_few (p ∷ q ∷ r ∷ s ∷ t ∷ more) few = absurd (omega (arith, few))

pub set_many : (fields : List (Bor (List ℕ))) → 6 ≤ length fields → read_set (map (λ field. field.now) fields) ≡ Err
    Fields
set_many [] many = absurd (omega (arith, many))
set_many (p ∷ []) many = absurd (omega (arith, many))
set_many (p ∷ q ∷ []) many = absurd (omega (arith, many))
set_many (p ∷ q ∷ r ∷ []) many = absurd (omega (arith, many))
set_many (p ∷ q ∷ r ∷ s ∷ []) many = absurd (omega (arith, many))
set_many (p ∷ q ∷ r ∷ s ∷ t ∷ []) many = absurd (omega (arith, many))
set_many (p ∷ q ∷ r ∷ s ∷ t ∷ u ∷ more) many = refl

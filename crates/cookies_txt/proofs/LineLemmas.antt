-- What was written is read: a line, and the lines of a text.
use Rattle.std.proofs.Common.{◌≡◌, ◌≢◌, ◌<◌, ◌≤◌, ◌-◌, ℕ, Bool, true, false, List, [], ◌∷◌, ◌++◌, length, get_or, map}
use Rattle.std.proofs.Common.{min, Some, None, Ok, refl, sym, ap, subst, ◌∙◌, arith, append_assoc, suc, rules}
use Rattle.std.specs.Prelude.{◌==◌, ◌||◌, ◌&&◌, codes, not, IsOk}
use Rattle.std.specs.Char.{is_ascii_digit, is_ascii_whitespace}
use Rattle.std.specs.Fmt.{decimal}
use Rattle.std.specs.List.{AllByRecursion, flat_map, join_with_byte, list_all, slice_split}
use Rattle.std.specs.Str.Lines.{lines, lines_of_parts, strip_carriage_return}
use Rattle.std.specs.Str.Parse.{digits_value}
use Rattle.std.proofs.lemmas.Bool.Decides.{nat_tests}
use Rattle.std.proofs.lemmas.Fmt.{decimal_nonempty, digits_decimal, digits_value-decimal}
use Rattle.std.proofs.lemmas.List.Elements.{All-from_recursion}
use Rattle.std.proofs.lemmas.List.Splits.{slice_split_at, slice_split_none}
use Rattle.cookie_text.specs.Record.{without_dot}
use Rattle.cookies_txt.specs.Layout.{CookieLine, expiry_field, flag_text, heading_text, http_only_mark, kept_for}
use Rattle.cookies_txt.specs.Layout.{knows_mark, knows_zero, line_text, tab, text_for, when}
use Rattle.cookies_txt.specs.Reading.{FieldTexts, fault_of, field_texts, is_expiry, is_flag, is_marked, is_passed_over}
use Rattle.cookies_txt.specs.Reading.{is_true, parts, read_line, said, said_by_fields, second_of, unindented, unmarked}
use Rattle.cookies_txt.specs.Reading.{IsFine, SaysLines}
use Rattle.cookies_txt.specs.Writing.{begins_with_slash, ends_in_return, has_separator, latest_second}
use Rattle.cookies_txt.specs.declared.readers.Reader.{Reader}
use Rattle.cookies_txt.proofs.FieldLemmas.{HasFirst, first_part, is_tab}
use Rattle.cookies_txt.proofs.ExpiryLemmas.{number_parts, own}

-- ---- bytes that a text lacks

abbrev pub is_feed : ℕ → Bool
is_feed b = b == 10

-- no byte of the text passes the test
abbrev pub Lacks : (ℕ → Bool) → List ℕ → Type 0
Lacks p text = AllByRecursion (λ b. p b ≡ false) text

or_false : (a b : Bool) → (a || b) ≡ false → (a ≡ false) × (b ≡ false)
or_false true b h = cc
or_false false b h = (refl, h)

pub lacks_separators : (text : List ℕ) → has_separator text ≡ false → Lacks is_tab text × Lacks is_feed text
lacks_separators [] h = (tt, tt)
lacks_separators (b ∷ bs) h =
    let here = or_false (b == 9 || b == 10) (has_separator bs) h in
    let both = or_false (b == 9) (b == 10) here.0 in
    let rest = lacks_separators bs here.1 in
    ((both.0, rest.0), (both.1, rest.1))

digits_lack : (text : List ℕ) → list_all is_ascii_digit text ≡ true → Lacks is_tab text × Lacks is_feed text
digits_lack [] h = (tt, tt)
digits_lack (b ∷ bs) h =
    let here = both (is_ascii_digit b) (list_all is_ascii_digit bs) h in
    let rest = digits_lack bs here.1 in
    ((no_nine b here.0, rest.0), (no_ten b here.0, rest.1))
  where
    both : (x y : Bool) → (x && y) ≡ true → (x ≡ true) × (y ≡ true)
    both true y h = (refl, h)
    both false y h = cc

    no_nine : (b : ℕ) → is_ascii_digit b ≡ true → is_tab b ≡ false
    no_nine b h = grind (arith, nat_tests)

    no_ten : (b : ℕ) → is_ascii_digit b ≡ true → is_feed b ≡ false
    no_ten b h = grind (arith, nat_tests)

both_true : (x y : Bool) → (x && y) ≡ true → (x ≡ true) × (y ≡ true)
both_true true y h = (refl, h)
both_true false y h = cc

no_minus : (b : ℕ) → is_ascii_digit b ≡ true → (b == 45) ≡ false
no_minus b h = grind (arith, nat_tests)

lacks_append : (p : ℕ → Bool) (xs ys : List ℕ) → Lacks p xs → Lacks p ys → Lacks p (xs ++ ys)
lacks_append p [] ys hx hy = hy
lacks_append p (x ∷ xs) ys hx hy = (hx.0, lacks_append p xs ys hx.1 hy)

flag_lacks : (b : Bool) → Lacks is_tab (flag_text b) × Lacks is_feed (flag_text b)
flag_lacks true = ((refl, (refl, (refl, (refl, tt)))), (refl, (refl, (refl, (refl, tt)))))
flag_lacks false = ((refl, (refl, (refl, (refl, (refl, tt))))), (refl, (refl, (refl, (refl, (refl, tt))))))

-- ---- joined parts

pub parts_joined : (x : List ℕ) (xs : List (List ℕ)) → AllByRecursion (Lacks is_tab) (x ∷ xs)
    → parts (join_with_byte tab (x ∷ xs)) ≡ x ∷ xs
unfolding parts
parts_joined x [] h = slice_split_none is_tab x (All-from_recursion _ x h.0)
parts_joined x (y ∷ ys) h =
    slice_split_at is_tab x tab (join_with_byte tab (y ∷ ys)) (All-from_recursion _ x h.0) refl
    ∙ ap (λ ps. x ∷ ps) (parts_joined y ys h.1)

joined_lacks : (x : List ℕ) (xs : List (List ℕ)) → AllByRecursion (Lacks is_feed) (x ∷ xs)
    → Lacks is_feed (join_with_byte tab (x ∷ xs))
joined_lacks x [] h = h.0
joined_lacks x (y ∷ ys) h = lacks_append is_feed x _ h.0 (refl, joined_lacks y ys h.1)

-- ---- the last byte

return_behind : (x : ℕ) (t : List ℕ) → 0 < length t → ends_in_return (x ∷ t) ≡ ends_in_return t
return_behind x t some =
    let e : length (x ∷ t) - 1 ≡ suc (length t - 1) = omega arith in
    ap (λ n. get_or (x ∷ t) n 0 == 13) e

return_after : (front t : List ℕ) → 0 < length t → ends_in_return (front ++ t) ≡ ends_in_return t
return_after [] t some = refl
return_after (x ∷ xs) t some = return_behind x (xs ++ t) (longer xs t some) ∙ return_after xs t some
  where
    longer : (xs t : List ℕ) → 0 < length t → 0 < length (xs ++ t)
    longer [] t some = some
    longer (y ∷ ys) t some = omega arith

-- behind a tab, a value that doesn't end in a carriage return
behind_tab : (value : List ℕ) → ends_in_return value ≡ false → ends_in_return (tab ∷ value) ≡ false
behind_tab [] h = refl
behind_tab (b ∷ bs) h = return_behind tab (b ∷ bs) (omega arith) ∙ h

joined_return : (x y : List ℕ) (ys : List (List ℕ))
    → ends_in_return (tab ∷ join_with_byte tab (y ∷ ys)) ≡ false
    → ends_in_return (tab ∷ join_with_byte tab (x ∷ y ∷ ys)) ≡ false
joined_return x y ys h =
    return_after (tab ∷ x) (tab ∷ join_with_byte tab (y ∷ ys)) (omega arith) ∙ h

pub not_stripped : (text : List ℕ) → ends_in_return text ≡ false → strip_carriage_return text ≡ text
not_stripped text h = rw h refl

-- ---- a line that holds

-- a byte that a host may begin with
pub record IsHostSign (b : ℕ) : Type 0 where
  pub no_comment : b ≢ 35
  pub no_dot : b ≢ 46
  pub no_white : is_ascii_whitespace b ≡ false

pub record IsWhole (l : CookieLine) : Type 0 where
  pub domain : 0 < length l.domain
  pub sign : l.below ≡ false → IsHostSign (get_or l.domain 0 0)
  pub path : begins_with_slash l.path ≡ true
  pub name : 0 < length l.name
  pub domain_clean : has_separator l.domain ≡ false
  pub path_clean : has_separator l.path ≡ false
  pub name_clean : has_separator l.name ≡ false
  pub value_clean : has_separator l.value ≡ false
  pub last : ends_in_return l.value ≡ false
  pub expires : l.expires ≤ latest_second

-- the domain's field without the mark, and the fields with it
abbrev pub dotted : CookieLine → List ℕ
dotted l = when l.below (46 ∷ []) ++ l.domain

abbrev pub others : Reader → CookieLine → List (List ℕ)
others r l =
    flag_text l.below ∷ l.path ∷ flag_text l.secure ∷ expiry_field r l.expires ∷ l.name ∷ l.value ∷ []

abbrev pub bare_text : Reader → CookieLine → List ℕ
bare_text r l = join_with_byte tab (dotted l ∷ others r l)

abbrev pub mark_of : Reader → CookieLine → List ℕ
mark_of r l = when (knows_mark r && l.http_only) http_only_mark

marked_text : (r : Reader) (l : CookieLine) → line_text r l ≡ mark_of r l ++ bare_text r l
unfolding line_text
marked_text r l = append_assoc (mark_of r l) (dotted l) (tab ∷ join_with_byte tab (others r l))

-- the domain's field begins with neither a number sign nor white space
pub record Begins (text : List ℕ) : Type 0 where
  pub first : ℕ
  pub rest : List ℕ
  pub is : text ≡ first ∷ rest
  pub no_comment : first ≢ 35
  pub no_white : is_ascii_whitespace first ≡ false

dotted_first : (l : CookieLine) → IsWhole l → Begins (dotted l)
dotted_first l h = by l.below l.domain h.domain h.sign
  where
    by : (below : Bool) (domain : List ℕ) → 0 < length domain
        → (below ≡ false → IsHostSign (get_or domain 0 0)) → Begins (when below (46 ∷ []) ++ domain)
    by true domain some sign = record {
      first = 46;
      rest = domain;
      is = refl;
      no_comment = λ e. absurd (omega (arith, e));
      no_white = refl;
    }
    by false [] some sign = absurd (omega arith)
    by false (b ∷ bs) some sign = record {
      first = b;
      rest = bs;
      is = refl;
      no_comment = (sign refl).no_comment;
      no_white = (sign refl).no_white;
    }

without_first_dot : (l : CookieLine) → IsWhole l → without_dot (dotted l) ≡ l.domain
without_first_dot l h = by l.below l.domain h.domain h.sign
  where
    by : (below : Bool) (domain : List ℕ) → 0 < length domain
        → (below ≡ false → IsHostSign (get_or domain 0 0)) → without_dot (when below (46 ∷ []) ++ domain) ≡ domain
    by true domain some sign = refl
    by false [] some sign = refl
    by false (b ∷ bs) some sign =
        let other : b ≢ 46 = (sign refl).no_dot in
        let apart : (b == 46) ≡ false = grind (arith, nat_tests) in
        rw apart refl

other_sign : (b : ℕ) → b ≢ 35 → ((35 == b) ≡ false) × ((b == 35) ≡ false)
other_sign b h = (grind (arith, nat_tests), grind (arith, nat_tests))

-- a text that begins with no white space stays
stays : (b : ℕ) (bs : List ℕ) → is_ascii_whitespace b ≡ false → unindented (b ∷ bs) ≡ b ∷ bs
unfolding unindented
stays b bs h = rw h refl

marked_stays : (text : List ℕ) → unindented (http_only_mark ++ text) ≡ http_only_mark ++ text
marked_stays text = stays 35 (codes "HttpOnly_" ++ text) refl

-- a text that begins with another byte isn't marked, and isn't passed over
unmarked_first : (b : ℕ) (bs : List ℕ) → b ≢ 35 → is_ascii_whitespace b ≡ false → is_marked (b ∷ bs) ≡ false
unmarked_first b bs h white =
    let e = (other_sign b h).0 in
    let same = stays b bs white in
    rw (same, e) refl

kept_first : (b : ℕ) (bs : List ℕ) → b ≢ 35 → is_ascii_whitespace b ≡ false → is_passed_over (b ∷ bs) ≡ false
kept_first b bs h white =
    let e = (other_sign b h).1 in
    let same = stays b bs white in
    let some : (length (b ∷ bs) == 0) ≡ false = grind (arith, nat_tests) in
    rw (same, some, e) refl

marked_mark : (text : List ℕ) → is_marked (http_only_mark ++ text) ≡ true
marked_mark text = rw (marked_stays text) refl

marked_kept : (text : List ℕ) → is_passed_over (http_only_mark ++ text) ≡ false
marked_kept text =
    let same = marked_stays text in
    let some : (length (http_only_mark ++ text) == 0) ≡ false = grind (arith, nat_tests) in
    rw (same, some) refl

marked_rest : (text : List ℕ) → unmarked (http_only_mark ++ text) ≡ text
marked_rest text = rw (marked_stays text) refl

-- the mark, and what is behind it
pub record IsMarked (marked : Bool) (text whole : List ℕ) : Type 0 where
  pub mark : is_marked whole ≡ marked
  pub kept : is_passed_over whole ≡ false
  pub rest : unmarked whole ≡ text

mark_read : (marked : Bool) (first more : List ℕ) → Begins first
    → IsMarked marked (first ++ tab ∷ more) (when marked http_only_mark ++ (first ++ tab ∷ more))
mark_read true first more begins = record {
  mark = marked_mark (first ++ tab ∷ more);
  kept = marked_kept (first ++ tab ∷ more);
  rest = marked_rest (first ++ tab ∷ more);
}
mark_read false first more begins =
    subst (λ text. IsMarked false (text ++ tab ∷ more) (text ++ tab ∷ more)) (sym begins.is)
    (let none = unmarked_first begins.first (begins.rest ++ tab ∷ more) begins.no_comment begins.no_white in
    record {
      mark = none;
      kept = kept_first begins.first (begins.rest ++ tab ∷ more) begins.no_comment begins.no_white;
      rest = rw none refl;
    })

line_mark : (r : Reader) (l : CookieLine) → IsWhole l
    → IsMarked (knows_mark r && l.http_only) (bare_text r l) (line_text r l)
line_mark r l h =
    subst (IsMarked (knows_mark r && l.http_only) (bare_text r l)) (sym (marked_text r l))
    (mark_read (knows_mark r && l.http_only) (dotted l) (join_with_byte tab (others r l)) (dotted_first l h))

-- ---- what the fields of a line say

line_clean : (r : Reader) (l : CookieLine) → IsWhole l
    → AllByRecursion (Lacks is_tab) (dotted l ∷ others r l) × AllByRecursion (Lacks is_feed) (dotted l ∷ others r l)
line_clean r l h =
    let domain = lacks_separators l.domain h.domain_clean in
    let below = flag_lacks l.below in
    let path = lacks_separators l.path h.path_clean in
    let secure = flag_lacks l.secure in
    let expires = when_lacks (not (l.expires == 0) || knows_zero r) (decimal l.expires)
    (digits_lack (decimal l.expires) (digits_decimal own l.expires (omega (arith, h.expires)))) in
    let name = lacks_separators l.name h.name_clean in
    let value = lacks_separators l.value h.value_clean in (
      (
        lacks_append is_tab _ l.domain (dot_lacks l.below).0 domain.0,
        (below.0, (path.0, (secure.0, (expires.0, (name.0, (value.0, tt)))))),
      ),
      (
        lacks_append is_feed _ l.domain (dot_lacks l.below).1 domain.1,
        (below.1, (path.1, (secure.1, (expires.1, (name.1, (value.1, tt)))))),
      ),
    )
  where
    dot_lacks : (below : Bool) → Lacks is_tab (when below (46 ∷ [])) × Lacks is_feed (when below (46 ∷ []))
    dot_lacks true = ((refl, tt), (refl, tt))
    dot_lacks false = (tt, tt)

    when_lacks : (b : Bool) (text : List ℕ) → Lacks is_tab text × Lacks is_feed text
        → Lacks is_tab (when b text) × Lacks is_feed (when b text)
    when_lacks true text h = h
    when_lacks false text h = (tt, tt)

-- the fields as they stand
abbrev pub written_texts : Reader → CookieLine → FieldTexts
written_texts r l = record {
  domain = dotted l;
  below = flag_text l.below;
  path = l.path;
  secure = flag_text l.secure;
  expires = expiry_field r l.expires;
  name = l.name;
  value = l.value;
}

line_fields : (r : Reader) (l : CookieLine) → IsWhole l
    → field_texts (parts (unmarked (line_text r l))) ≡ Some (written_texts r l)
line_fields r l h =
    ap (λ t. field_texts (parts t)) (line_mark r l h).rest
    ∙ ap field_texts (parts_joined (dotted l) (others r l) (line_clean r l h).0)

flag_is : (b : Bool) → (is_flag (flag_text b) ≡ true) × (is_true (flag_text b) ≡ b)
flag_is true = (refl, refl)
flag_is false = (refl, refl)

number_is : (n : ℕ) → n ≤ latest_second → (is_expiry (decimal n) ≡ true) × (second_of (decimal n) ≡ n)
number_is n h =
    let digits : list_all is_ascii_digit (decimal n) ≡ true = digits_decimal own n (omega (arith, h)) in
    let some : (length (decimal n) == 0) ≡ false = grind (arith, nat_tests, decimal_nonempty n (omega (arith, h))) in
    let value : digits_value 10 (decimal n) ≡ n = digits_value-decimal own n (omega (arith, h)) in
    let (is, second) = by (decimal n) some digits in
    (is, second ∙ rw value (omega (arith, h)))
  where
    -- digits are an expiry of their value
    by : (text : List ℕ) → (length text == 0) ≡ false → list_all is_ascii_digit text ≡ true
        → (is_expiry text ≡ true) × (second_of text ≡ min (digits_value 10 text) latest_second)
    by [] some digits = cc
    by (b ∷ bs) some digits =
        let plus : (b == 45) ≡ false = no_minus b (both_true (is_ascii_digit b) _ digits).0 in
        let single = number_parts (b ∷ bs) digits in
        (rw (plus, single, some, digits) refl, rw (plus, single) refl)

-- so is none where it is left empty
expiry_is : (r : Reader) (n : ℕ) → n ≤ latest_second
    → (is_expiry (expiry_field r n) ≡ true) × (second_of (expiry_field r n) ≡ n)
expiry_is r n h = by (n == 0) refl (knows_zero r)
  where
    none : (n : ℕ) → (n == 0) ≡ true → 0 ≡ n
    none n e = grind (arith, nat_tests)

    by : (zero : Bool) → (n == 0) ≡ zero → (known : Bool)
        → (is_expiry (when (not zero || known) (decimal n)) ≡ true)
        × (second_of (when (not zero || known) (decimal n)) ≡ n)
    by true e true = number_is n h
    by true e false = (refl, none n e)
    by false e known = number_is n h

no_fault : (r : Reader) (l : CookieLine) → IsWhole l → fault_of (written_texts r l) ≡ None
unfolding fault_of
no_fault r l h =
    let domain : (length (without_dot (dotted l)) == 0) ≡ false =
    ap (λ d. length d == 0) (without_first_dot l h) ∙ grind (arith, nat_tests, h.domain) in
    let below = (flag_is l.below).0 in
    let path = h.path in
    let secure = (flag_is l.secure).0 in
    let number = (expiry_is r l.expires h.expires).0 in
    let name : (length l.name == 0) ≡ false = grind (arith, nat_tests, h.name) in
    rw (domain, below, path, secure, number, name) refl

line_said : (r : Reader) (l : CookieLine) → IsWhole l
    → said_by_fields (knows_mark r && l.http_only) (written_texts r l) ≡ kept_for r l
unfolding said_by_fields
line_said r l h =
    let domain = without_first_dot l h in
    let below = (flag_is l.below).1 in
    let secure = (flag_is l.secure).1 in
    let second = (expiry_is r l.expires h.expires).1 in
    rw (domain, below, secure, second) refl

-- the line is read as what is written of it
pub line_reads : (r : Reader) (l : CookieLine) → IsWhole l → read_line (line_text r l) ≡ Ok (Some (kept_for r l))
unfolding read_line
line_reads r l h =
    let kept = (line_mark r l h).kept in
    let marked = (line_mark r l h).mark in
    let texts = line_fields r l h in
    let fine = no_fault r l h in
    let said = line_said r l h in
    rw (kept, texts, marked, fine, said) refl

-- ---- the lines of a text

-- a line that ends
first_line : (line after : List ℕ) → Lacks is_feed line → ends_in_return line ≡ false
    → lines (line ++ 10 ∷ after) ≡ line ∷ lines after
first_line line after unended whole =
    ap lines_of_parts (slice_split_at is_feed line 10 after (All-from_recursion _ line unended) refl)
    ∙ (behind (slice_split is_feed after) (first_part is_feed after)
    ∙ ap (λ l. l ∷ lines after) (not_stripped line whole))
  where
    behind : (ps : List (List ℕ)) → HasFirst ps
        → lines_of_parts (line ∷ ps) ≡ strip_carriage_return line ∷ lines_of_parts ps
    behind ps (part, more, e) =
        subst (λ ps. lines_of_parts (line ∷ ps) ≡ strip_carriage_return line ∷ lines_of_parts ps) (sym e) refl

line_ends : (r : Reader) (l : CookieLine) → IsWhole l
    → Lacks is_feed (line_text r l) × (ends_in_return (line_text r l) ≡ false)
line_ends r l h =
    let clean = line_clean r l h in
    let end = expiry_field r l.expires in
    let bare = joined_lacks (dotted l) (others r l) clean.1 in
    let value = behind_tab l.value h.last in
    let name = joined_return l.name l.value [] value in
    let expires = joined_return end l.name (l.value ∷ []) name in
    let secure = joined_return (flag_text l.secure) end (l.name ∷ l.value ∷ []) expires in
    let path = joined_return l.path (flag_text l.secure) (end ∷ l.name ∷ l.value ∷ []) secure in
    let below = joined_return (flag_text l.below) l.path
    (flag_text l.secure ∷ end ∷ l.name ∷ l.value ∷ []) path in (
      subst (Lacks is_feed) (sym (marked_text r l))
          (lacks_append is_feed (mark_of r l) (bare_text r l) (mark_lacks (knows_mark r && l.http_only)) bare),
      ap ends_in_return (marked_text r l ∙ sym (append_assoc (mark_of r l) (dotted l)
          (tab ∷ join_with_byte tab (others r l))))
          ∙ (return_after (mark_of r l ++ dotted l) (tab ∷ join_with_byte tab (others r l))
          (omega arith)
          ∙ below),
    )
  where
    mark_lacks : (marked : Bool) → Lacks is_feed (when marked http_only_mark)
    mark_lacks true =
        (refl, (refl, (refl, (refl, (refl, (refl, (refl, (refl, (refl, (refl, tt))))))))))
    mark_lacks false = tt

abbrev pub written : Reader → List CookieLine → List ℕ
written r all = flat_map (λ l. line_text r l ++ 10 ∷ []) all

written_lines : (r : Reader) (all : List CookieLine) → AllByRecursion IsWhole all
    → lines (written r all) ≡ map (line_text r) all
written_lines r [] h = refl
written_lines r (l ∷ more) h =
    let ends = line_ends r l h.0 in
    ap lines (append_assoc (line_text r l) (10 ∷ []) (written r more))
    ∙ (first_line (line_text r l) (written r more) ends.0 ends.1
    ∙ ap (λ ls. line_text r l ∷ ls) (written_lines r more h.1))

headed_lines : (text : List ℕ) → lines (heading_text ++ text) ≡ codes "# Netscape HTTP Cookie File" ∷ [] ∷ lines text
headed_lines text =
    first_line (codes "# Netscape HTTP Cookie File") (10 ∷ text) comment refl
    ∙ ap (λ ls. codes "# Netscape HTTP Cookie File" ∷ ls) (first_line [] text tt refl)
  where
    comment : Lacks is_feed (codes "# Netscape HTTP Cookie File")
    comment = search rules

heading_reads : (read_line (codes "# Netscape HTTP Cookie File") ≡ Ok None) × (read_line [] ≡ Ok None)
unfolding read_line unindented
heading_reads = (refl, refl)

fine_lines : (r : Reader) (all : List CookieLine) → AllByRecursion IsWhole all
    → AllByRecursion IsFine (map (line_text r) all)
fine_lines r [] h = tt
fine_lines r (l ∷ more) h = (subst IsOk (sym (line_reads r l h.0)) refl, fine_lines r more h.1)

-- what the lines say that are written for a reader
abbrev pub said_for : Reader → List CookieLine → List CookieLine
said_for r all = flat_map (λ line. said (read_line line)) (map (line_text r) all)

said_lines : (r : Reader) (all : List CookieLine) → AllByRecursion IsWhole all → said_for r all ≡ map (kept_for r) all
said_lines r [] h = refl
said_lines r (l ∷ more) h =
    ap (λ it. said it ++ said_for r more) (line_reads r l h.0)
    ∙ ap (λ ls. kept_for r l ∷ ls) (said_lines r more h.1)

-- a text of lines that hold says what is written of these
pub written_says : (r : Reader) (all : List CookieLine) → AllByRecursion IsWhole all
    → SaysLines (text_for r all) (map (kept_for r) all)
written_says r all h =
    let all_lines : lines (text_for r all) ≡ codes "# Netscape HTTP Cookie File" ∷ [] ∷ map (line_text r) all =
    headed_lines (written r all)
    ∙ ap (λ ls. codes "# Netscape HTTP Cookie File" ∷ [] ∷ ls) (written_lines r all h) in
    record {
      fine = subst (AllByRecursion IsFine) (sym all_lines)
          (subst IsOk (sym heading_reads.0) refl, (subst IsOk (sym heading_reads.1) refl, fine_lines r all h));
      says = sym (ap (flat_map (λ line. said (read_line line))) all_lines
          ∙ (ap (λ it. said it ++ (said (read_line []) ++ said_for r all)) heading_reads.0
          ∙ (ap (λ it. said it ++ said_for r all) heading_reads.1 ∙ said_lines r all h)));
    }

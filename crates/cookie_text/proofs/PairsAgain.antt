-- Name and value of any text that was read read back from its printed text.
use Rattle.std.proofs.Common.{◌≡◌, ◌≢◌, ℕ, suc, ◌<◌, ◌==◌, ltb, true, false, cond, List, [], ◌∷◌, ◌++◌, length, take}
use Rattle.std.proofs.Common.{drop, get_or, zero, sym, refl, ap, ◌∙◌, subst, ⊎_elim, arith, Result, Ok, Err, Option}
use Rattle.std.proofs.Common.{Some, None, add-one, length-append}
use Rattle.std.proofs.Math.Seq.{take-append_seam}
use lib.Utf8.{scalar, scalars, encode, encodes}
use Rattle.std.specs.Char.{is_whitespace}
use Rattle.std.specs.List.{AllByRecursion, flat_map, before_first, after_first, position_or_len}
use Rattle.std.specs.Str.{IsUtf8, trim, trim_start, trim_end, chars, skip_leading_whitespace, drop_trailing_whitespace}
use Rattle.std.proofs.lemmas.Bool.{cases_Bool, cond-true, cond-false, cond_both, ltb-true}
use Rattle.std.specs.Cmp.{first_so, second_so}
use Rattle.std.proofs.lemmas.Bool.Decides.{nat_tests}
use Rattle.std.proofs.lemmas.Str.{chars-encodes, encodes-chars, scalars-chars, IsUtf8-take, IsUtf8-drop}
use Rattle.std.proofs.lemmas.Str.{IsCharBoundary-before_ascii, IsCharBoundary-after_ascii}
use Rattle.std.specs.Prelude.{◌&&◌, IfOk}
use Rattle.std.proofs.lemmas.List.{take_all}
use Rattle.std.proofs.lemmas.List.Sums.{passes_at_first}
use Rattle.cookie_text.specs.declared.error.ParseError.{ParseError}
use Rattle.cookie_text.specs.Pieces.{name_of, text_after}
use Rattle.cookie_text.specs.Attribute.{Attribute}
use Rattle.cookie_text.specs.Printing.{printed, printed_attributes, attributes_of, piece_text}
use Rattle.cookie_text.specs.Reading.{ReadsPlain, IsPair, first_piece}
use Rattle.cookie_text.specs.Record.{Record, Seen}
use Rattle.cookie_text.specs.Again.{Lacks, IsReadPair, TextsGivePairs, PairsReadAgain}

-- ---- no byte of the list is this one

front_lacks : (k : ℕ) (xs ys : List ℕ) → Lacks k (xs ++ ys) → Lacks k xs × Lacks k ys
front_lacks k [] ys h = (tt, h)
front_lacks k (x ∷ xs) ys h = let rest = front_lacks k xs ys h.1 in ((h.0, rest.0), rest.1)

join_lacks : (k : ℕ) (xs ys : List ℕ) → Lacks k xs → Lacks k ys → Lacks k (xs ++ ys)
join_lacks k [] ys h g = g
join_lacks k (x ∷ xs) ys h g = (h.0, join_lacks k xs ys h.1 g)

pub encode_lacks : (k c : ℕ) → k < 128 → c ≢ k → Lacks k (encode c)
unfolding encode
encode_lacks k c small other =
    cond_both (ltb c 128) _ _ (Lacks k) (λ e. (other, tt)) (λ e.
    cond_both (ltb c 2048) _ _ (Lacks k) (λ e. ((λ s. omega (arith, s, small)), ((λ s. omega (arith, s, small)), tt)))
    (λ e.
    cond_both (ltb c 65536) _ _ (Lacks k)
    (λ e. ((λ s. omega (arith, s, small)), ((λ s. omega (arith, s, small)), ((λ s. omega (arith, s, small)), tt))))
    (λ e. (
      (λ s. omega (arith, s, small)),
      ((λ s. omega (arith, s, small)), ((λ s. omega (arith, s, small)), ((λ s. omega (arith, s, small)), tt))),
    ))))

pub encode-byte : (k : ℕ) → k < 128 → encode k ≡ k ∷ []
unfolding encode
encode-byte k small = let e : ltb k 128 ≡ true = grind (arith, nat_tests, small) in cond-true _ _ _ e

chars_lacks : (k : ℕ) (cs : List ℕ) → k < 128 → Lacks k (encodes cs) → Lacks k cs
chars_lacks k [] small h = tt
chars_lacks k (c ∷ cs) small h =
    let parts = front_lacks k (encode c) (encodes cs) h in
    ((λ e. (subst (Lacks k) (ap encode e ∙ encode-byte k small) parts.0).0 refl), chars_lacks k cs small parts.1)

encodes_lacks : (k : ℕ) (cs : List ℕ) → k < 128 → Lacks k cs → Lacks k (encodes cs)
encodes_lacks k [] small h = tt
encodes_lacks k (c ∷ cs) small h = join_lacks k (encode c) (encodes cs) (encode_lacks k c small h.0)
    (encodes_lacks k cs small h.1)

-- ---- trimming characters

abbrev strip : List ℕ → List ℕ
strip cs = drop_trailing_whitespace (skip_leading_whitespace cs)

pub skip_all : (P : ℕ → Type 0) (cs : List ℕ) → AllByRecursion P cs → AllByRecursion P (skip_leading_whitespace cs)
skip_all P [] h = tt
skip_all P (c ∷ cs) h =
    ⊎_elim
    (λ (e : is_whitespace c ≡ true). subst (AllByRecursion P) (sym (cond-true _ _ _ e)) (skip_all P cs h.1))
    (λ (e : is_whitespace c ≡ false). subst (AllByRecursion P) (sym (cond-false _ _ _ e)) h)
    (cases_Bool (is_whitespace c))

pub drop_all : (P : ℕ → Type 0) (cs : List ℕ) → AllByRecursion P cs → AllByRecursion P (drop_trailing_whitespace cs)
drop_all P [] h = tt
drop_all P (c ∷ cs) h =
    ⊎_elim
    (λ (e : (is_whitespace c && length (drop_trailing_whitespace cs) == 0) ≡ true). subst (AllByRecursion P)
    (sym (cond-true _ _ _ e)) tt)
    (λ (e : (is_whitespace c && length (drop_trailing_whitespace cs) == 0) ≡ false). subst (AllByRecursion P)
    (sym (cond-false _ _ _ e)) (h.0, drop_all P cs h.1))
    (cases_Bool (is_whitespace c && length (drop_trailing_whitespace cs) == 0))

drop_twice : (cs : List ℕ) → drop_trailing_whitespace (drop_trailing_whitespace cs) ≡ drop_trailing_whitespace cs
drop_twice [] = refl
drop_twice (c ∷ cs) =
    ⊎_elim
    (λ (e : (is_whitespace c && length (drop_trailing_whitespace cs) == 0) ≡ true). ap drop_trailing_whitespace
    (cond-true _ _ _ e) ∙ sym (cond-true _ _ _ e))
    (λ (e : (is_whitespace c && length (drop_trailing_whitespace cs) == 0) ≡ false).
    let same : cond (is_whitespace c && length (drop_trailing_whitespace (drop_trailing_whitespace cs)) == 0) []
    (c ∷ drop_trailing_whitespace (drop_trailing_whitespace cs)) ≡ cond
    (is_whitespace c && length (drop_trailing_whitespace cs) == 0) [] (c ∷ drop_trailing_whitespace cs) =
    ap (λ ds. cond (is_whitespace c && length ds == 0) [] (c ∷ ds)) (drop_twice cs) in
    ap drop_trailing_whitespace (cond-false _ _ _ e) ∙ same)
    (cases_Bool (is_whitespace c && length (drop_trailing_whitespace cs) == 0))

skip_strip : (cs : List ℕ) → skip_leading_whitespace (strip cs) ≡ strip cs
skip_strip [] = refl
skip_strip (c ∷ cs) =
    ⊎_elim
    (λ (e : is_whitespace c ≡ true).
    let same : strip (c ∷ cs) ≡ strip cs = ap drop_trailing_whitespace (cond-true _ _ _ e) in
    ap skip_leading_whitespace same ∙ (skip_strip cs ∙ sym same))
    (λ (e : is_whitespace c ≡ false).
    let kept : (is_whitespace c && length (drop_trailing_whitespace cs) == 0) ≡ false = ap
    (λ b. b && length (drop_trailing_whitespace cs) == 0) e in
    let same : strip (c ∷ cs) ≡ c ∷ drop_trailing_whitespace cs = ap drop_trailing_whitespace (cond-false _ _ _ e)
    ∙ cond-false _ _ _ kept in
    ap skip_leading_whitespace same ∙ (cond-false _ _ _ e ∙ sym same))
    (cases_Bool (is_whitespace c))

strip_twice : (cs : List ℕ) → strip (strip cs) ≡ strip cs
strip_twice cs = ap drop_trailing_whitespace (skip_strip cs) ∙ drop_twice (skip_leading_whitespace cs)

-- ---- trimming a text

all_scalars : (cs : List ℕ) → scalars cs ≡ true → AllByRecursion (λ c. scalar c ≡ true) cs
all_scalars [] h = tt
all_scalars (c ∷ cs) h = (first_so (scalar c) (scalars cs) h, all_scalars cs (second_so (scalar c) (scalars cs) h))

scalars_all : (cs : List ℕ) → AllByRecursion (λ c. scalar c ≡ true) cs → scalars cs ≡ true
scalars_all [] h = refl
scalars_all (c ∷ cs) h = λ i. h.0 i && scalars_all cs h.1 i

skip_scalars : (cs : List ℕ) → scalars cs ≡ true → scalars (skip_leading_whitespace cs) ≡ true
skip_scalars cs h = scalars_all _ (skip_all (λ c. scalar c ≡ true) cs (all_scalars cs h))

strip_scalars : (cs : List ℕ) → scalars cs ≡ true → scalars (strip cs) ≡ true
strip_scalars cs h = scalars_all _
    (drop_all (λ c. scalar c ≡ true) _ (skip_all (λ c. scalar c ≡ true) cs (all_scalars cs h)))

trim_is : (x : List ℕ) → IsUtf8 x → trim x ≡ encodes (strip (chars x))
unfolding trim_start trim_end
trim_is x h = ap (λ cs. encodes (drop_trailing_whitespace cs)) (chars-encodes (skip_leading_whitespace (chars x))
    (skip_scalars (chars x) (scalars-chars x h)))

trim_utf8 : (x : List ℕ) → IsUtf8 x → IsUtf8 (trim x)
trim_utf8 x h = (strip (chars x), (strip_scalars (chars x) (scalars-chars x h), sym (trim_is x h)))

trim_twice : (x : List ℕ) → IsUtf8 x → trim (trim x) ≡ trim x
trim_twice x h =
    let again : chars (trim x) ≡ strip (chars x) = ap chars (trim_is x h)
    ∙ chars-encodes (strip (chars x)) (strip_scalars (chars x) (scalars-chars x h)) in
    trim_is (trim x) (trim_utf8 x h)
    ∙ (ap (λ cs. encodes (strip cs)) again ∙ (ap encodes (strip_twice (chars x)) ∙ sym (trim_is x h)))

trim_lacks : (k : ℕ) (x : List ℕ) → k < 128 → IsUtf8 x → Lacks k x → Lacks k (trim x)
trim_lacks k x small h free =
    subst (Lacks k) (sym (trim_is x h))
    (encodes_lacks k (strip (chars x)) small
    (drop_all (λ b. b ≢ k) _ (skip_all (λ b. b ≢ k) (chars x)
    (chars_lacks k (chars x) small (subst (Lacks k) (sym (encodes-chars x h)) free)))))

-- ---- cutting a text

take_lacks : (k n : ℕ) (xs : List ℕ) → Lacks k xs → Lacks k (take n xs)
take_lacks k zero xs h = tt
take_lacks k (suc n) [] h = tt
take_lacks k (suc n) (x ∷ xs) h = (h.0, take_lacks k n xs h.1)

rest_lacks : (k n : ℕ) (xs : List ℕ) → Lacks k xs → Lacks k (drop n xs)
rest_lacks k zero xs h = h
rest_lacks k (suc n) [] h = tt
rest_lacks k (suc n) (x ∷ xs) h = rest_lacks k n xs h.1

not_byte : (c b : ℕ) → (b == c) ≡ false → b ≢ c
not_byte c b e same = grind (arith, nat_tests, e, same)

cut_lacks : (c : ℕ) (xs : List ℕ) → Lacks c (before_first (λ b. b == c) xs)
cut_lacks c [] = tt
cut_lacks c (x ∷ xs) =
    ⊎_elim
    (λ (e : (x == c) ≡ true).
    let here : position_or_len (λ b. b == c) (x ∷ xs) ≡ 0 = grind (arith, nat_tests, e) in
    subst (λ n. Lacks c (take n (x ∷ xs))) (sym here) tt)
    (λ (e : (x == c) ≡ false).
    let later : position_or_len (λ b. b == c) (x ∷ xs) ≡ suc (position_or_len (λ b. b == c) xs) = grind
    (arith, nat_tests, e) in
    subst (λ n. Lacks c (take n (x ∷ xs))) (sym later) (not_byte c x e, cut_lacks c xs))
    (cases_Bool (x == c))

cut_utf8 : (c : ℕ) (xs : List ℕ) → c < 128 → IsUtf8 xs → IsUtf8 (before_first (λ b. b == c) xs)
cut_utf8 c xs small h =
    ⊎_elim
    (λ (e : ltb (position_or_len (λ b. b == c) xs) (length xs) ≡ true).
    let lt = ltb-true _ _ e in
    let at : (get_or xs (position_or_len (λ b. b == c) xs) 0 == c) ≡ true = passes_at_first (λ b. b == c) xs 0 lt in
    IsUtf8-take xs _ h (IsCharBoundary-before_ascii xs _ lt (grind (arith, nat_tests, at, small))))
    (λ (e : ltb (position_or_len (λ b. b == c) xs) (length xs) ≡ false).
    subst IsUtf8 (sym (take_all (position_or_len (λ b. b == c) xs) xs (grind (arith, nat_tests, e)))) h)
    (cases_Bool (ltb (position_or_len (λ b. b == c) xs) (length xs)))

behind_utf8 : (c : ℕ) (xs : List ℕ) → c < 128 → IsUtf8 xs → position_or_len (λ b. b == c) xs < length xs
    → IsUtf8 (after_first (λ b. b == c) xs)
behind_utf8 c xs small h lt =
    let at : (get_or xs (position_or_len (λ b. b == c) xs) 0 == c) ≡ true = passes_at_first (λ b. b == c) xs 0 lt in
    IsUtf8-drop xs _ h (IsCharBoundary-after_ascii xs _ h lt (grind (arith, nat_tests, at, small)))

-- ---- the pair before its attributes

first_equals : (n v : List ℕ) → AllByRecursion (λ b. (b == 61) ≡ false) n
    → position_or_len (λ b. b == 61) (n ++ 61 ∷ v) ≡ length n
first_equals [] v h = refl
first_equals (b ∷ bs) v h = grind (arith, nat_tests, h.0, first_equals bs v h.1)

drop_past : (n v : List ℕ) → drop (suc (length n)) (n ++ 61 ∷ v) ≡ v
drop_past [] v = refl
drop_past (b ∷ bs) v = drop_past bs v

has_equals : (n v : List ℕ) → AllByRecursion (λ b. (b == 61) ≡ false) n
    → ltb (position_or_len (λ b. b == 61) (n ++ 61 ∷ v)) (length (n ++ 61 ∷ v)) ≡ true
has_equals n v h = grind (arith, nat_tests, first_equals n v h, length-append n (61 ∷ v))

name_before : (n v : List ℕ) → AllByRecursion (λ b. (b == 61) ≡ false) n → name_of (n ++ 61 ∷ v) ≡ trim n
unfolding name_of
name_before n v h = rw (first_equals n v h) (rw take-append_seam refl)

value_after : (n v : List ℕ) → AllByRecursion (λ b. (b == 61) ≡ false) n → text_after (n ++ 61 ∷ v) ≡ trim v
unfolding text_after
value_after n v h = rw (first_equals n v h, add-one, drop_past n v) refl

-- nothing, or a semicolon first
abbrev Behind : List ℕ → Type 0
Behind [] = Unit {0}
Behind (b ∷ bs) = b ≡ 59

attributes_behind : (o : List (Option Attribute)) → Behind (flat_map piece_text o)
attributes_behind [] = tt
attributes_behind (None ∷ os) = attributes_behind os
attributes_behind (Some a ∷ os) = refl

front_len : (xs ys : List ℕ) → AllByRecursion (λ b. (b == 59) ≡ false) xs → Behind ys
    → position_or_len (λ b. b == 59) (xs ++ ys) ≡ length xs
front_len [] [] h g = refl
front_len [] (y ∷ ys) h g = rw g refl
front_len (x ∷ xs) ys h g = grind (arith, nat_tests, h.0, front_len xs ys h.1 g)

front_is : (xs ys : List ℕ) → AllByRecursion (λ b. (b == 59) ≡ false) xs → Behind ys
    → before_first (λ b. b == 59) (xs ++ ys) ≡ xs
front_is xs ys h g = rw (front_len xs ys h g) (rw take-append_seam refl)

-- ---- THE PAIR

tests_lacks : (c : ℕ) (xs : List ℕ) → Lacks c xs → AllByRecursion (λ b. (b == c) ≡ false) xs
tests_lacks c [] h = tt
tests_lacks c (x ∷ xs) h = (test, tests_lacks c xs h.1)
  where
    test : (x == c) ≡ false
    test = grind (arith, nat_tests, h.0)

clean_pair : (n v : List ℕ) → Lacks 59 n → Lacks 59 v → Lacks 59 (n ++ 61 ∷ v)
clean_pair n v hn hv = join_lacks 59 n (61 ∷ v) hn ((λ e. omega (arith, e)), hv)

pub pair_of : TextsGivePairs
unfolding name_of text_after
pair_of text s h reads =
    let piece : List ℕ = first_piece text in
    let p_utf8 : IsUtf8 piece = cut_utf8 59 text (omega arith) h in
    let p_clean : Lacks 59 piece = cut_lacks 59 text in
    let before : List ℕ = before_first (λ b. b == 61) piece in
    let after : List ℕ = after_first (λ b. b == 61) piece in
    let b_utf8 : IsUtf8 before = cut_utf8 61 piece (omega arith) p_utf8 in
    let a_utf8 : IsUtf8 after = behind_utf8 61 piece (omega arith) p_utf8 reads.name.0 in
    let name : s.cookie.name ≡ trim before = reads.name.1 in
    let value : s.cookie.value ≡ trim after = reads.value in
    record {
      named = reads.name.2;
      name_uncut = subst (Lacks 61) (sym name) (trim_lacks 61 before (omega arith) b_utf8 (cut_lacks 61 piece));
      name_whole = subst (Lacks 59) (sym name) (trim_lacks 59 before (omega arith) b_utf8
          (take_lacks 59 _ piece p_clean));
      name_trimmed = ap trim name ∙ (trim_twice before b_utf8 ∙ sym name);
      value_whole = subst (Lacks 59) (sym value) (trim_lacks 59 after (omega arith) a_utf8
          (rest_lacks 59 _ piece p_clean));
      value_trimmed = ap trim value ∙ (trim_twice after a_utf8 ∙ sym value);
    }

front_again : (c : Record) → IsReadPair c.name c.value → first_piece (printed c) ≡ c.name ++ 61 ∷ c.value
front_again c h = front_is (c.name ++ 61 ∷ c.value) (printed_attributes c)
    (tests_lacks 59 _ (clean_pair c.name c.value h.name_whole h.value_whole)) (attributes_behind (attributes_of c))

ok_again : (c : Record) (o : Result Seen ParseError) → IsReadPair c.name c.value → ReadsPlain (printed c) o
    → IfOk o (λ t. (t.cookie.name ≡ c.name) × (t.cookie.value ≡ c.value))
ok_again c (Err e) h reads = tt
ok_again c (Ok t) h reads =
    let front = front_again c h in
    let uncut = tests_lacks 61 c.name h.name_uncut in (
      reads.name.1 ∙ (ap name_of front ∙ (name_before c.name c.value uncut ∙ h.name_trimmed)),
      reads.value ∙ (ap text_after front ∙ (value_after c.name c.value uncut ∙ h.value_trimmed)),
    )

pub prints_pair : (c : Record) → IsReadPair c.name c.value → IsPair (first_piece (printed c))
prints_pair c h =
    let uncut = tests_lacks 61 c.name h.name_uncut in
    let is_pair : IsPair (c.name ++ 61 ∷ c.value) = (
      ltb-true _ _ (has_equals c.name c.value uncut),
      subst (λ n. 0 < length n) (sym (name_before c.name c.value uncut ∙ h.name_trimmed)) h.named,
    ) in
    subst IsPair (sym (front_again c h)) is_pair

pub pair_reads_again : PairsReadAgain
pair_reads_again c o h reads =
    record { accepted = reads.accepted.1 (prints_pair c h); pair = ok_again c o h reads }

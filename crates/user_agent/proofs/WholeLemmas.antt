-- Texts without a semicolon: the pieces of a line, and what is cut and trimmed of them.
use Rattle.std.proofs.Common.{◌≡◌, ◌≢◌, ℕ, suc, ◌+◌, ◌==◌, true, false, Bool, List, [], ◌∷◌, ◌++◌}
use Rattle.std.proofs.Common.{length, drop, sym, refl, ap, ◌∙◌, subst, arith, add-one}
use lib.Utf8.{scalar, scalars, encode, encodes}
use Rattle.std.specs.Prelude.{◌&&◌}
use Rattle.std.specs.Cmp.{first_so, second_so}
use Rattle.std.specs.List.{AllByRecursion, after_first, onto_first, position_or_len}
use Rattle.std.specs.Str.{IsUtf8, trim, trim_start, trim_end, chars, skip_leading_whitespace, drop_trailing_whitespace}
use Rattle.std.proofs.lemmas.Bool.Decides.{nat_tests}
use Rattle.std.proofs.lemmas.List.Elements.{All-nil, All-cons}
use Rattle.std.proofs.lemmas.List.Splits.{slice_split-cons_yes, slice_split-cons_no}
use Rattle.std.proofs.lemmas.Str.{chars-encodes, char_from_byte}
use Rattle.cookie_text.specs.Pieces.{equals, full_stop, semicolon, pieces}
use Rattle.cookie_text.specs.Again.{Lacks}
pub use Rattle.cookie_text.proofs.PairsAgain.{drop_all, skip_all}
use Rattle.cookie_text.proofs.PairsAgain.{encode-byte, encode_lacks}
use Rattle.user_agent.proofs.PieceLemmas.{IsClean}

-- a character other than a semicolon
abbrev pub IsOther : ℕ → Type 0
IsOther c = (scalar c ≡ true) × (c ≢ semicolon)

-- a text of such characters
abbrev pub IsWhole : List ℕ → Type 0
IsWhole text = (cs : List ℕ) × AllByRecursion IsOther cs × (encodes cs ≡ text)

pub are_scalars : (cs : List ℕ) → AllByRecursion IsOther cs → scalars cs ≡ true
are_scalars [] h = refl
are_scalars (c ∷ cs) h = λ i. h.0.0 i && are_scalars cs h.1 i

differs : (k b : ℕ) → b ≢ k → (b == k) ≡ false
differs k b other = grind (arith, nat_tests, other)

-- ---- a text that is whole is clean

clean_ahead : (p xs : List ℕ) → Lacks semicolon p → IsClean xs → IsClean (p ++ xs)
clean_ahead [] xs h g = g
clean_ahead (b ∷ p) xs h g =
    All-cons (λ c. (c == semicolon) ≡ false) b (p ++ xs) (differs semicolon b h.0) (clean_ahead p xs h.1 g)

clean_encodes : (cs : List ℕ) → AllByRecursion IsOther cs → IsClean (encodes cs)
clean_encodes [] h = All-nil (λ c. (c == semicolon) ≡ false)
clean_encodes (c ∷ cs) h =
    clean_ahead (encode c) (encodes cs) (encode_lacks semicolon c (omega arith) h.0.1) (clean_encodes cs h.1)

pub whole_clean : (text : List ℕ) → IsWhole text → IsClean text
whole_clean text (cs, all, e) = subst IsClean e (clean_encodes cs all)

-- ---- the pieces of a text

-- bytes at the front of the first of these
abbrev ahead : List ℕ → List (List ℕ) → List (List ℕ)
ahead [] ps = ps
ahead (b ∷ p) ps = onto_first b (ahead p ps)

pieces_ahead : (p xs : List ℕ) → Lacks semicolon p → pieces (p ++ xs) ≡ ahead p (pieces xs)
pieces_ahead [] xs h = refl
pieces_ahead (b ∷ p) xs h =
    slice_split-cons_no (λ c. c == semicolon) b (p ++ xs) (differs semicolon b h.0)
    ∙ ap (onto_first b) (pieces_ahead p xs h.1)

ahead_first : (p q : List ℕ) (qs : List (List ℕ)) → ahead p (q ∷ qs) ≡ (p ++ q) ∷ qs
ahead_first [] q qs = refl
ahead_first (b ∷ p) q qs = ap (onto_first b) (ahead_first p q qs)

-- a list of texts that isn't empty
abbrev HasFirst : List (List ℕ) → Type 0
HasFirst [] = ⊥
HasFirst (p ∷ ps) = Unit {0}

first_onto : (b : ℕ) (ps : List (List ℕ)) → HasFirst (onto_first b ps)
first_onto b [] = tt
first_onto b (p ∷ ps) = tt

has_first : (xs : List ℕ) → HasFirst (pieces xs)
has_first [] = tt
has_first (b ∷ bs) = by (b == semicolon) refl
  where
    by : (x : Bool) → (b == semicolon) ≡ x → HasFirst (pieces (b ∷ bs))
    by true e = subst HasFirst (sym (slice_split-cons_yes (λ c. c == semicolon) b bs e)) tt
    by false e =
        subst HasFirst (sym (slice_split-cons_no (λ c. c == semicolon) b bs e)) (first_onto b (pieces bs))

first_whole : (c : ℕ) (ps : List (List ℕ)) → IsOther c → HasFirst ps → AllByRecursion IsWhole ps
    → AllByRecursion IsWhole (ahead (encode c) ps)
first_whole c [] other some h = absurd some
first_whole c (p ∷ ps) other some ((cs, all, e), h) =
    subst (AllByRecursion IsWhole) (sym (ahead_first (encode c) p ps))
    ((c ∷ cs, (other, all), ap (λ t. encode c ++ t) e), h)

whole_pieces : (cs : List ℕ) → scalars cs ≡ true → AllByRecursion IsWhole (pieces (encodes cs))
whole_pieces [] h = (([], tt, refl), tt)
whole_pieces (c ∷ cs) h =
    by (c == semicolon) refl (whole_pieces cs (second_so (scalar c) (scalars cs) h))
  where
    by : (x : Bool) → (c == semicolon) ≡ x → AllByRecursion IsWhole (pieces (encodes cs))
        → AllByRecursion IsWhole (pieces (encode c ++ encodes cs))
    by true e later =
        let is : c ≡ semicolon = grind (arith, nat_tests, e) in
        subst (λ bs. AllByRecursion IsWhole (pieces (bs ++ encodes cs)))
        (sym (ap encode is ∙ encode-byte semicolon (omega arith)))
        (subst (AllByRecursion IsWhole)
        (sym (slice_split-cons_yes (λ b. b == semicolon) semicolon (encodes cs) refl)) (([], tt, refl), later))
    by false e later =
        let other : c ≢ semicolon = λ is. grind (arith, nat_tests, e, is) in
        subst (AllByRecursion IsWhole)
        (sym (pieces_ahead (encode c) (encodes cs) (encode_lacks semicolon c (omega arith) other)))
        (first_whole c (pieces (encodes cs)) (first_so (scalar c) (scalars cs) h, other) (has_first (encodes cs)) later)

pub pieces_whole : (text : List ℕ) → IsUtf8 text → AllByRecursion IsWhole (pieces text)
pieces_whole text (cs, (are, e)) = subst (λ t. AllByRecursion IsWhole (pieces t)) e (whole_pieces cs are)

-- ---- what stands behind an equals sign

after_here : (xs : List ℕ) → after_first (λ b. b == equals) (equals ∷ xs) ≡ xs
after_here xs = refl

after_later : (b : ℕ) (xs : List ℕ) → (b == equals) ≡ false
    → after_first (λ c. c == equals) (b ∷ xs) ≡ after_first (λ c. c == equals) xs
after_later b xs e =
    let later : position_or_len (λ c. c == equals) (b ∷ xs) ≡ suc (position_or_len (λ c. c == equals) xs) = grind
    (arith, nat_tests, e) in
    let rest : drop (suc (position_or_len (λ c. c == equals) xs) + 1) (b ∷ xs)
    ≡ drop (position_or_len (λ c. c == equals) xs + 1) xs = rw (add-one, add-one) refl in
    ap (λ n. drop (n + 1) (b ∷ xs)) later ∙ rest

after_ahead : (p xs : List ℕ) → Lacks equals p
    → after_first (λ b. b == equals) (p ++ xs) ≡ after_first (λ b. b == equals) xs
after_ahead [] xs h = refl
after_ahead (b ∷ p) xs h = after_later b (p ++ xs) (differs equals b h.0) ∙ after_ahead p xs h.1

whole_after : (cs : List ℕ) → AllByRecursion IsOther cs → IsWhole (after_first (λ b. b == equals) (encodes cs))
whole_after [] h = ([], tt, refl)
whole_after (c ∷ cs) h = by (c == equals) refl (whole_after cs h.1)
  where
    by : (x : Bool) → (c == equals) ≡ x → IsWhole (after_first (λ b. b == equals) (encodes cs))
        → IsWhole (after_first (λ b. b == equals) (encode c ++ encodes cs))
    by true e later =
        let is : c ≡ equals = grind (arith, nat_tests, e) in
        subst (λ bs. IsWhole (after_first (λ b. b == equals) (bs ++ encodes cs)))
        (sym (ap encode is ∙ encode-byte equals (omega arith)))
        (subst IsWhole (sym (after_here (encodes cs))) (cs, h.1, refl))
    by false e later =
        let other : c ≢ equals = λ is. grind (arith, nat_tests, e, is) in
        subst IsWhole (sym (after_ahead (encode c) (encodes cs) (encode_lacks equals c (omega arith) other)))
        later

pub after_whole : (text : List ℕ) → IsWhole text → IsWhole (after_first (λ b. b == equals) text)
after_whole text (cs, all, e) = subst (λ t. IsWhole (after_first (λ b. b == equals) t)) e (whole_after cs all)

-- ---- what is trimmed

pub trim_whole : (text : List ℕ) → IsWhole text → IsWhole (trim text)
unfolding trim_start trim_end
trim_whole text (cs, all, e) =
    let skipped = skip_all IsOther cs all in
    let front : chars text ≡ cs = ap chars (sym e) ∙ chars-encodes cs (are_scalars cs all) in
    let left : chars (trim_start text) ≡ skip_leading_whitespace cs =
    ap (λ ds. chars (encodes (skip_leading_whitespace ds))) front
    ∙ chars-encodes (skip_leading_whitespace cs) (are_scalars _ skipped) in (
      drop_trailing_whitespace (skip_leading_whitespace cs),
      drop_all IsOther _ skipped,
      ap (λ ds. encodes (drop_trailing_whitespace ds)) (sym left),
    )

-- ---- what stands behind a dot

same_rest : (b c : ℕ) (xs ys : List ℕ) → b ∷ xs ≡ c ∷ ys → xs ≡ ys
same_rest b c xs ys e = cc

pub behind_dot : (bs : List ℕ) → IsWhole (full_stop ∷ bs) → IsWhole bs
behind_dot bs ([], all, e) = absurd (omega (arith, ap length e))
behind_dot bs (c ∷ cs, all, e) =
    let is : c ≡ full_stop = char_from_byte (full_stop ∷ bs) (encodes cs) c (sym e) (omega arith) (omega arith) in (
      cs,
      all.1,
      same_rest full_stop full_stop (encodes cs) bs
          (ap (λ k. k ++ encodes cs) (sym (ap encode is ∙ encode-byte full_stop (omega arith))) ∙ e),
    )

-- An escaped pair reads back, and so do several that are joined.
use Rattle.std.proofs.Common.{◌≡◌, ℕ, ◌+◌, ◌/◌, ◌<◌, ◌==◌, true, false, nat_lt, List, [], ◌∷◌, ◌++◌, map, IfOk, Result}
use Rattle.std.proofs.Common.{Ok, Err, refl, sym, ap, subst, ◌∙◌, inl, inr, arith, codes}
use lib.Utf8.{encode, encodes, next, scalar, scalars}
use Rattle.std.proofs.lemmas.Bool.{and_parts, cases_lt}
use Rattle.std.proofs.lemmas.Bool.Decides.{nat_tests}
use Rattle.std.proofs.lemmas.List.{append-nil, length-append}
use Rattle.std.proofs.lemmas.List.Elements.{All-nil, All-cons, All-head, All-tail, All-append, All-weaker}
use Rattle.std.specs.List.{All, flat_map, list_all, filter}
use Rattle.std.specs.Str.{trim, trim_start, trim_end, chars, IsUtf8, skip_leading_whitespace}
use Rattle.percent_encoding.specs.Percent.{percent_decode}
use Rattle.cookie_text.specs.Printing.{escaped}
use Rattle.percent_encoding.proofs.PercentLemmas.{IsByte}
use Rattle.cookie_text.proofs.EscapeLemmas.{escaped_nonempty, percent_decode-escaped}
use Rattle.cookie_text.specs.declared.error.ParseError.{ParseError}
use Rattle.cookie_text.specs.Decoding.{ReadsEncoded, AreUtf8}
use Rattle.cookie_text.specs.Pieces.{semicolon, equals, pieces, name_of, text_after}
use Rattle.cookie_text.specs.Reading.{HasAttributes, IsPair, first_piece}
use Rattle.cookie_text.specs.ReadingBack.{IsNamed, GivesPair, pair_text, joined, Pairwise}
use Rattle.cookie_text.specs.Record.{Seen, bare}
use Rattle.cookie_text.specs.Splitting.{Splitting, Way, Encoded, GivesAll, IsOutcome, cookie_texts, is_some_text}
use Rattle.cookie_text.proofs.PrintedDates.{is_quiet, chars-quiet}
use Rattle.cookie_text.proofs.PrintedPieces.{IsClean, AreClean, split-joined, IsGraphic, IsPlain, All-IsPlain-escaped}
use Rattle.cookie_text.proofs.PrintedPieces.{trim-graphic}
use Rattle.cookie_text.proofs.ReadsBack.{bare_has_none, first_joined, same_tail, text_after-pair, is_pair}
use Rattle.cookie_text.proofs.PrintedCookies.{name_of-pair, IsClean-plain, IsClean-pair}
use Rattle.cookie_text.proofs.UniqueLemmas.{same_record}

one_byte : (b : ℕ) → b < 256 → All IsByte (b ∷ [])
one_byte b h = All-cons IsByte b [] h (All-nil IsByte)

two_next : (b c : ℕ) → All IsByte (next b ∷ next c ∷ [])
two_next b c = All-cons IsByte (next b) (next c ∷ []) (omega arith) (one_byte (next c) (omega arith))

-- a character's bytes are bytes
byte_encode : (c : ℕ) → scalar c ≡ true → All IsByte (encode c)
unfolding encode
byte_encode c e =
    elim (cases_lt c 128) [
      | inl one ↦
          let t : nat_lt c 128 ≡ true = grind (arith, nat_tests) in
          rw t (one_byte c (omega arith))
      | inr more ↦ elim (cases_lt c 2048) [
        | inl two ↦
            let t : nat_lt c 128 ≡ false = grind (arith, nat_tests) in
            let u : nat_lt c 2048 ≡ true = grind (arith, nat_tests) in
            rw (t, u) (All-cons IsByte (192 + c / 64) (next c ∷ []) (omega arith) (one_byte (next c) (omega arith)))
        | inr most ↦ elim (cases_lt c 65536) [
          | inl three ↦
              let t : nat_lt c 128 ≡ false = grind (arith, nat_tests) in
              let u : nat_lt c 2048 ≡ false = grind (arith, nat_tests) in
              let v : nat_lt c 65536 ≡ true = grind (arith, nat_tests) in
              rw (t, u, v) (All-cons IsByte (224 + c / 4096) (next (c / 64) ∷ next c ∷ []) (omega arith)
              (two_next (c / 64) c))
          | inr four ↦
              let t : nat_lt c 128 ≡ false = grind (arith, nat_tests) in
              let u : nat_lt c 2048 ≡ false = grind (arith, nat_tests) in
              let v : nat_lt c 65536 ≡ false = grind (arith, nat_tests) in
              let small : c < 1114112 = grind (arith, nat_tests, e) in
              rw (t, u, v) (All-cons IsByte (240 + c / 262144) (next (c / 4096) ∷ next (c / 64) ∷ next c ∷ [])
              (omega arith) (All-cons IsByte (next (c / 4096)) (next (c / 64) ∷ next c ∷ []) (omega arith)
              (two_next (c / 64) c)))
        ]
      ]
    ]

byte_encodes : (cs : List ℕ) → scalars cs ≡ true → All IsByte (encodes cs)
byte_encodes [] e = All-nil IsByte
byte_encodes (c ∷ cs) e =
    let p = and_parts (scalar c) (scalars cs) e in
    All-append IsByte (encode c) (encodes cs) (byte_encode c p.0) (byte_encodes cs p.1)

back : (text : List ℕ) → IsUtf8 text → percent_decode (escaped text) ≡ text
back text h = percent_decode-escaped text (subst (All IsByte) h.1.1 (byte_encodes h.0 h.1.0))

module _ (name value : List ℕ) (h : IsNamed name value) where
  n_plain : All IsPlain (escaped name)
  n_plain = All-IsPlain-escaped name

  v_plain : All IsPlain (escaped value)
  v_plain = All-IsPlain-escaped value

  clean : IsClean (pair_text name value)
  clean = IsClean-pair _ _ (IsClean-plain _ n_plain) (IsClean-plain _ v_plain)

  first : first_piece (pair_text name value) ≡ pair_text name value
  first = ap first_piece (sym (append-nil (pair_text name value))) ∙ first_joined (pair_text name value) [] clean

  whole : pieces (pair_text name value) ≡ pair_text name value ∷ []
  whole = ap pieces (sym (append-nil (pair_text name value))) ∙ split-joined (pair_text name value) [] clean tt

  name_is : percent_decode (name_of (first_piece (pair_text name value))) ≡ name
  name_is = ap (λ t. percent_decode (name_of t)) first ∙ ap percent_decode (name_of-pair _ _ n_plain) ∙ back name h.text

  value_is : percent_decode (text_after (first_piece (pair_text name value))) ≡ value
  value_is = ap (λ t. percent_decode (text_after t)) first ∙ ap percent_decode (text_after-pair _ _ n_plain v_plain)
      ∙ back value h.value_text

  are_utf8 : AreUtf8 (name_of (first_piece (pair_text name value))) (text_after (first_piece (pair_text name value)))
  are_utf8 = (subst IsUtf8 (sym name_is) h.text, subst IsUtf8 (sym value_is) h.value_text)

  a_pair : IsPair (first_piece (pair_text name value))
  a_pair = subst IsPair (sym first) (is_pair _ _ n_plain (escaped_nonempty name h.some))

  the_pair : (o : Result Seen ParseError) → ReadsEncoded (pair_text name value) o
      → IfOk o (λ s. s.cookie ≡ bare name value)
  the_pair (Err e) k = tt
  the_pair (Ok s) k =
      let rest = k.attributes in
      let none = same_tail _ _ rest.0 [] (sym rest.1 ∙ whole) in
      same_record [] s.cookie (bare name value) (k.decoded.name ∙ name_is) (k.decoded.value ∙ value_is)
      (subst (λ ps. HasAttributes ps s.cookie) none rest.2) (bare_has_none name value)

  pub pair_back : (o : Result Seen ParseError) → ReadsEncoded (pair_text name value) o → GivesPair name value o
  pair_back o k = record { owed = k.owed a_pair are_utf8; cookie = the_pair o k }

  graphic : All IsGraphic (pair_text name value)
  graphic =
      All-append IsGraphic _ _ (All-weaker IsPlain IsGraphic (λ b p. p.0) _ n_plain)
      (All-cons IsGraphic equals _ (omega arith, omega arith) (All-weaker IsPlain IsGraphic (λ b p. p.0) _ v_plain))

  there : is_some_text (pair_text name value) ≡ true
  there = grind (arith, nat_tests, length-append (escaped name) (equals ∷ escaped value))

quiet_plain : (bs : List ℕ) → All IsGraphic bs → IsClean bs → list_all is_quiet bs ≡ true
quiet_plain [] g c = refl
quiet_plain (b ∷ bs) g c =
    let first : is_quiet b ≡ true = grind (
      arith,
      nat_tests,
      All-head IsGraphic b bs g,
      All-head
          (λ k. (k == semicolon) ≡ false) b bs c,
    ) in
    rw (first, quiet_plain bs (All-tail IsGraphic b bs g) (All-tail (λ k. (k == semicolon) ≡ false) b bs c)) refl

-- one blank in front goes
trim-blank : (text : List ℕ) → All IsGraphic text → IsClean text → trim (32 ∷ text) ≡ text
unfolding trim_start
trim-blank text g c =
    let quiet = quiet_plain text g c in
    let start : trim_start (32 ∷ text) ≡ trim_start text =
    ap (λ cs. encodes (skip_leading_whitespace cs)) (chars-quiet (32 ∷ text) quiet)
    ∙ ap (λ cs. encodes (skip_leading_whitespace cs)) (sym (chars-quiet text quiet)) in
    ap trim_end start ∙ trim-graphic text g

abbrev after_first : List (List ℕ × List ℕ) → List (List ℕ)
after_first ps = map (λ q. 32 ∷ pair_text q.0 q.1) ps

abbrev texts_of : List (List ℕ × List ℕ) → List (List ℕ)
texts_of ps = map (λ q. pair_text q.0 q.1) ps

abbrev pub AreNamed : List (List ℕ × List ℕ) → Type 0
AreNamed ps = All (λ p. IsNamed p.0 p.1) ps

-- the joined texts are those that a splitting reads
joined_rest : (ps : List (List ℕ × List ℕ))
    → flat_map (λ q. codes "; " ++ pair_text q.0 q.1) ps ≡ flat_map (λ q. semicolon ∷ q) (after_first ps)
joined_rest [] = refl
joined_rest (p ∷ ps) = ap (λ t. codes "; " ++ pair_text p.0 p.1 ++ t) (joined_rest ps)

rest_clean : (ps : List (List ℕ × List ℕ)) → AreNamed ps → AreClean (after_first ps)
rest_clean [] h = tt
rest_clean (p ∷ ps) h =
    let named = All-head (λ p. IsNamed p.0 p.1) p ps h in (
      All-cons (λ b. (b == semicolon) ≡ false) 32 _ refl (clean p.0 p.1 named),
      rest_clean ps
          (All-tail (λ p. IsNamed p.0 p.1) p ps h),
    )

trimmed_rest : (ps : List (List ℕ × List ℕ)) → AreNamed ps → filter is_some_text
    (map trim (after_first ps)) ≡ texts_of ps
trimmed_rest [] h = refl
trimmed_rest (p ∷ ps) h =
    let named = All-head (λ p. IsNamed p.0 p.1) p ps h in
    let text = trim-blank (pair_text p.0 p.1) (graphic p.0 p.1 named) (clean p.0 p.1 named) in
    rw (text, there p.0 p.1 named, trimmed_rest ps (All-tail (λ p. IsNamed p.0 p.1) p ps h)) refl

kept_first : (p : List ℕ × List ℕ) (ps : List (List ℕ × List ℕ)) → IsNamed p.0 p.1 → AreNamed ps
    → filter is_some_text (map trim (pair_text p.0 p.1 ∷ after_first ps)) ≡ texts_of (p ∷ ps)
kept_first p ps named others =
    rw (trim-graphic (pair_text p.0 p.1) (graphic p.0 p.1 named), there p.0 p.1 named, trimmed_rest ps others) refl

none_joined : cookie_texts [] ≡ []
unfolding trim_start trim_end chars
none_joined = refl

cookie_texts-joined : (ps : List (List ℕ × List ℕ)) → AreNamed ps → cookie_texts (joined ps) ≡ texts_of ps
cookie_texts-joined [] h = none_joined
cookie_texts-joined (p ∷ ps) h =
    let named = All-head (λ p. IsNamed p.0 p.1) p ps h in
    let others = All-tail (λ p. IsNamed p.0 p.1) p ps h in
    let cut : pieces (joined (p ∷ ps)) ≡ pair_text p.0 p.1 ∷ after_first ps =
    ap (λ t. pieces (pair_text p.0 p.1 ++ t)) (joined_rest ps)
    ∙ split-joined (pair_text p.0 p.1) (after_first ps) (clean p.0 p.1 named) (rest_clean ps others) in
    ap (λ ts. filter is_some_text (map trim ts)) cut ∙ kept_first p ps named others

each_back : (ps : List (List ℕ × List ℕ)) (os : List (Result Seen ParseError)) → AreNamed ps
    → Pairwise ReadsEncoded (texts_of ps) os → Pairwise (λ p o. GivesPair p.0 p.1 o) ps os
each_back [] [] h k = tt
each_back [] (o ∷ os) h k = k
each_back (p ∷ ps) [] h k = k
each_back (p ∷ ps) (o ∷ os) h k = (
  pair_back p.0 p.1 (All-head (λ p. IsNamed p.0 p.1) p ps h) o k.0,
  each_back ps os
      (All-tail (λ p. IsNamed p.0 p.1) p ps h) k.1,
)

pub pairs_back : (ps : List (List ℕ × List ℕ)) → AreNamed ps → (os : List (Result Seen ParseError))
    → Pairwise ReadsEncoded (cookie_texts (joined ps)) os → Pairwise (λ p o. GivesPair p.0 p.1 o) ps os
pairs_back ps h os k = each_back ps os h (subst (λ ts. Pairwise ReadsEncoded ts os) (cookie_texts-joined ps h) k)

-- all that a splitting by `Encoded` gives is read from what it has left
all_read : (s : Splitting) (os : List (Result Seen ParseError)) → s.way ≡ Encoded → GivesAll s os
    → Pairwise ReadsEncoded s.left os
all_read s [] way all = subst (λ ts. Pairwise ReadsEncoded ts []) (sym all.0) tt
all_read s (o ∷ os) way all =
    let read : ReadsEncoded all.1.piece o = subst (λ (w : Way). IsOutcome w all.1.piece o) way all.1.outcome in
    subst (λ ts. Pairwise ReadsEncoded ts (o ∷ os)) (sym all.1.split) (read, all_read all.0 os (all.1.way ∙ way) all.2)

pub pairs_iterate : (ps : List (List ℕ × List ℕ)) → AreNamed ps → (os : List (Result Seen ParseError))
    → GivesAll (record { way = Encoded; left = cookie_texts (joined ps) }) os
    → Pairwise (λ p o. GivesPair p.0 p.1 o) ps os
pairs_iterate ps h os all = pairs_back ps h os (all_read (record { way = Encoded; left = cookie_texts (joined ps) }) os
    refl all)

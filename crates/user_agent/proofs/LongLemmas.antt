-- What a line without its long attributes reads as.
use Rattle.std.proofs.Common.{◌≡◌, ℕ, ◌<◌, ◌==◌, Bool, true, false, List, [], ◌∷◌, ◌++◌, length, Result, Ok, Err}
use Rattle.std.proofs.Common.{refl, sym, ap, subst, ◌∙◌, append_assoc, arith}
use Rattle.std.specs.Prelude.{filter}
use Rattle.std.specs.List.{after_first, flat_map, position_or_len}
use Rattle.std.specs.Str.{trim_start, trim_end, chars}
use Rattle.std.proofs.Math.ListN.{drop_of_length-le}
use Rattle.std.proofs.lemmas.Bool.{cond-true, cond-false}
use Rattle.std.proofs.lemmas.List.{append-nil, take_all}
use Rattle.std.proofs.lemmas.List.Concat.{flat_map-append}
use Rattle.std.proofs.lemmas.List.Elements.{All-from_get_or, filter-append}
use Rattle.std.proofs.lemmas.List.Splits.{slice_split_first, slice_split_none}
use Rattle.std.proofs.lemmas.List.Sums.{fails_before_first}
use Rattle.cookie_text.specs.declared.error.ParseError.{ParseError}
use Rattle.cookie_text.specs.Pieces.{equals, semicolon, pieces, text_after}
use Rattle.cookie_text.specs.Reading.{HasAttributes, HasRest, ReadsPlain, ReadsWith, first_piece}
use Rattle.cookie_text.specs.Record.{Record, Seen}
use Rattle.user_agent.specs.KnownDates.{joined_behind}
use Rattle.user_agent.specs.LongAttributes.{HasShortRest, IsShortLine, PutsShort, ShortLinesRead, is_short}
use Rattle.user_agent.proofs.KnownLemmas.{first_is}
use Rattle.user_agent.proofs.PieceLemmas.{AreClean, pieces-joined, pieces_clean}

-- ---- the pieces that are left

some_clean : (ps : List (List ℕ)) → AreClean ps → AreClean (filter is_short ps)
some_clean [] h = h
some_clean (p ∷ ps) h = by (is_short p) refl (some_clean ps h.1)
  where
    by : (b : Bool) → is_short p ≡ b → AreClean (filter is_short ps) → AreClean (filter is_short (p ∷ ps))
    by true e rest =
        subst AreClean (sym (cond-true (is_short p) (p ∷ filter is_short ps) (filter is_short ps) e)) (h.0, rest)
    by false e rest =
        subst AreClean (sym (cond-false (is_short p) (p ∷ filter is_short ps) (filter is_short ps) e)) rest

tails : (a b : List ℕ) (xs ys : List (List ℕ)) → a ∷ xs ≡ b ∷ ys → xs ≡ ys
tails a b xs ys h = cc

module _ (line short : List ℕ) (k : IsShortLine line short) where
  left : pieces short ≡ first_piece line ∷ filter is_short k.rest
  left =
      let clean : AreClean (first_piece line ∷ k.rest) = subst AreClean k.cut (pieces_clean line) in
      ap pieces k.joined ∙ pieces-joined (first_piece line) (filter is_short k.rest) clean.0
      (some_clean k.rest clean.1)

  pub same_first : first_piece short ≡ first_piece line
  same_first = first_is short (first_piece line) (filter is_short k.rest) left

  rest_moves : (r : Record) → HasRest short r → HasShortRest line r
  rest_moves r (rest, cut, attributes) =
      (k.rest, k.cut, subst (λ ps. HasAttributes ps r) (tails _ _ _ _ (sym cut ∙ left)) attributes)

  reads_short : (outcome : Result Seen ParseError) → ReadsPlain short outcome
      → ReadsWith (HasShortRest line) (first_piece line) outcome
  reads_short (Ok s) plain =
      let h = subst (λ f. ReadsWith (HasRest short) f (Ok s)) same_first plain in
      record {
        accepted = h.accepted;
        name = h.name;
        value = h.value;
        attributes = rest_moves s.cookie h.attributes;
        raw = h.raw;
        missing_pair = h.missing_pair;
        empty_name = h.empty_name;
      }
  reads_short (Err e) plain =
      let h = subst (λ f. ReadsWith (HasRest short) f (Err e)) same_first plain in
      record {
        accepted = h.accepted;
        name = tt;
        value = tt;
        attributes = tt;
        raw = tt;
        missing_pair = h.missing_pair;
        empty_name = h.empty_name;
      }

pub short_lines : ShortLinesRead
short_lines line short outcome k h = reads_short line short k outcome h

-- without an `=` there is no value
pub valueless : (piece : List ℕ) → position_or_len (λ b. b == equals) piece ≡ length piece → is_short piece ≡ true
unfolding text_after trim_start trim_end chars
valueless piece none =
    let empty : after_first (λ b. b == equals) piece ≡ [] = drop_of_length-le piece (omega (arith, none)) in
    rw empty refl

-- ---- piece by piece

joined-append : (old : List ℕ) (ps qs : List (List ℕ))
    → joined_behind old (ps ++ qs) ≡ joined_behind (joined_behind old ps) qs
joined-append old ps qs =
    let f : List ℕ → List ℕ = λ piece. semicolon ∷ piece in
    ap (λ t. old ++ t) (flat_map-append f ps qs) ∙ sym (append_assoc old (flat_map f ps) (flat_map f qs))

pub short_push : (start old new : List ℕ) (ps : List (List ℕ)) (p : List ℕ)
    → old ≡ joined_behind start (filter is_short ps) → new ≡ joined_behind old (filter is_short (p ∷ []))
    → new ≡ joined_behind start (filter is_short (ps ++ p ∷ []))
short_push start old new ps p was is =
    is ∙ ap (λ t. joined_behind t (filter is_short (p ∷ []))) was
    ∙ sym (joined-append start (filter is_short ps) (filter is_short (p ∷ [])))
    ∙ ap (joined_behind start) (sym (filter-append is_short ps (p ∷ [])))

pub short_put : (old new piece : List ℕ) → is_short piece ≡ true → new ≡ (old ++ semicolon ∷ []) ++ piece
    → new ≡ joined_behind old (filter is_short (piece ∷ []))
short_put old new piece short is =
    is ∙ append_assoc old (semicolon ∷ []) piece
    ∙ ap (λ t. old ++ t) (sym (append-nil (semicolon ∷ piece)))
    ∙ ap (joined_behind old) (sym (cond-true (is_short piece) (piece ∷ []) [] short))

pub short_left : (old piece : List ℕ) → is_short piece ≡ false
    → old ≡ joined_behind old (filter is_short (piece ∷ []))
short_left old piece long =
    sym (append-nil old) ∙ ap (joined_behind old) (sym (cond-false (is_short piece) (piece ∷ []) [] long))

pub short_line_of : (line first rest short : List ℕ) → position_or_len (λ b. b == semicolon) line < length line
    → first ≡ first_piece line → rest ≡ after_first (λ b. b == semicolon) line → PutsShort rest first short
    → IsShortLine line short
short_line_of line first rest short holds is_first is_rest puts = record {
  rest = pieces rest;
  cut = slice_split_first (λ b. b == semicolon) line 0 holds ∙ ap (λ q. first_piece line ∷ pieces q) (sym is_rest);
  joined = puts ∙ ap (λ f. joined_behind f (filter is_short (pieces rest))) is_first;
}

pub short_line_alone : (line : List ℕ) → position_or_len (λ b. b == semicolon) line ≡ length line
    → IsShortLine line line
short_line_alone line none =
    let is_cut : ℕ → Bool = λ b. b == semicolon in
    let fails = All-from_get_or (λ b. is_cut b ≡ false) line 0
    (λ i within. fails_before_first is_cut line i 0 (omega arith)) in
    let whole : first_piece line ≡ line = take_all (position_or_len is_cut line) line (omega arith) in
    record {
      rest = [];
      cut = slice_split_none is_cut line fails ∙ ap (λ p. p ∷ []) (sym whole);
      joined = sym whole ∙ sym (append-nil (first_piece line));
    }

-- No control character comes of a line without one.
use Rattle.std.proofs.Common.{◌≡◌, ◌∙◌, ℕ, ℤ, pos, negsuc, zero, suc}
use Rattle.std.proofs.Common.{◌+◌, ◌<◌, ◌≤ℤ◌, ◌==◌, ◌||◌, ltb, Bool, true, false}
use Rattle.std.proofs.Common.{cond, List, [], ◌∷◌, ◌++◌, length, take, drop}
use Rattle.std.proofs.Common.{Option, Some, None, Ok, sym, refl, ap, subst}
use Rattle.std.proofs.Common.{inl, inr, arith, codes, get_or, ⊎_elim}
use Rattle.std.specs.Prelude.{◌&&◌, filter, nat_lt, IfSome}
use lib.Utf8.{scalar, scalars, encode, encodes}
use Rattle.std.specs.Cmp.{first_so, second_so}
use Rattle.std.specs.List.{AllByRecursion, after_first, before_first, flat_map, list_any, onto_first, position_or_len}
use Rattle.std.specs.Str.{IsUtf8, trim, trim_start, trim_end, chars, skip_leading_whitespace, drop_trailing_whitespace}
use Rattle.std.proofs.lemmas.Bool.{cases_Bool, cond-true, cond_both, ltb-true, or_from, or_parts}
use Rattle.std.proofs.lemmas.Bool.Decides.{nat_tests}
use Rattle.std.proofs.lemmas.List.Folds.{list_any-append}
use Rattle.std.proofs.lemmas.List.Splits.{slice_split-cons_yes, slice_split-cons_no}
use Rattle.std.proofs.lemmas.List.{take_all}
use Rattle.std.proofs.lemmas.List.Sums.{passes_at_first}
use Rattle.std.proofs.lemmas.Option.{same_Some}
use Rattle.std.proofs.lemmas.Str.{IsCharBoundary-before_ascii, IsUtf8-take, chars-encodes}
use Rattle.jiff_core.proofs.SignedLemmas.{signed_arith}
use Rattle.jiff.specs.Types.{DateTime}
use Rattle.cookie_text.specs.Pieces.{equals, name_of, pieces, semicolon, text_after, value_of}
use Rattle.cookie_text.specs.Printing.{date_text}
use Rattle.cookie_text.specs.Reading.{GivesPath, HasLast, IsLast, ReadsPlain, first_piece}
use Rattle.cookie_text.specs.ReadingBack.{Pairwise}
use Rattle.cookie_text.specs.Record.{Seen}
use Rattle.user_agent.specs.Agent.{IsDoneIf, IsHandedOn}
use Rattle.user_agent.specs.Controls.{FreeLinesRead, FreeLinesStay, IsFree, IsFreeCookie}
use Rattle.user_agent.specs.CutLives.{IsCut, IsCutLine}
use Rattle.user_agent.specs.KnownDates.{IsKnown, IsKnownLine, dated_piece, joined_behind}
use Rattle.user_agent.specs.LongAttributes.{IsShortLine, is_short}
use Rattle.user_agent.specs.Refusals.{is_control}
use Rattle.user_agent.specs.declared.rules.Rules.{Rules}
use Rattle.user_agent.proofs.SessionLemmas.{date_free, free_join}
use Rattle.user_agent.proofs.WholeLemmas.{IsWhole, after_whole, are_scalars, drop_all, pieces_whole, skip_all}

-- ---- parts of a text

free_parts : (a b : List ℕ) → IsFree (a ++ b) → IsFree a × IsFree b
free_parts a b h = or_parts (list_any is_control a) (list_any is_control b) (sym (list_any-append is_control a b) ∙ h)

free_take : (n : ℕ) (xs : List ℕ) → IsFree xs → IsFree (take n xs)
free_take zero xs h = refl
free_take (suc n) [] h = refl
free_take (suc n) (x ∷ xs) h =
    let both = or_parts (is_control x) (list_any is_control xs) h in
    or_from (is_control x) (list_any is_control (take n xs)) both.0 (free_take n xs both.1)

free_drop : (n : ℕ) (xs : List ℕ) → IsFree xs → IsFree (drop n xs)
free_drop zero xs h = h
free_drop (suc n) [] h = refl
free_drop (suc n) (x ∷ xs) h = free_drop n xs (or_parts (is_control x) (list_any is_control xs) h).1

free_onto : (b : ℕ) (ps : List (List ℕ)) → is_control b ≡ false → AllByRecursion IsFree ps
    → AllByRecursion IsFree (onto_first b ps)
free_onto b [] first h = (or_from (is_control b) false first refl, tt)
free_onto b (p ∷ ps) first h = (or_from (is_control b) (list_any is_control p) first h.0, h.1)

free_pieces : (text : List ℕ) → IsFree text → AllByRecursion IsFree (pieces text)
free_pieces [] h = (refl, tt)
free_pieces (b ∷ bs) h =
    let both = or_parts (is_control b) (list_any is_control bs) h in
    by (b == semicolon) refl both.0 (free_pieces bs both.1)
  where
    by : (x : Bool) → (b == semicolon) ≡ x → is_control b ≡ false → AllByRecursion IsFree (pieces bs)
        → AllByRecursion IsFree (pieces (b ∷ bs))
    by true e first later =
        subst (AllByRecursion IsFree) (sym (slice_split-cons_yes (λ c. c == semicolon) b bs e)) (refl, later)
    by false e first later =
        subst (AllByRecursion IsFree) (sym (slice_split-cons_no (λ c. c == semicolon) b bs e))
        (free_onto b (pieces bs) first later)

-- ---- a line that is handed on

free_behind : (first : List ℕ) (ps : List (List ℕ)) → IsFree first → AllByRecursion IsFree ps
    → IsFree (joined_behind first ps)
free_behind first ps free all = free_join first (flat_map (λ p. semicolon ∷ p) ps) free (each ps all)
  where
    each : (qs : List (List ℕ)) → AllByRecursion IsFree qs → IsFree (flat_map (λ p. semicolon ∷ p) qs)
    each [] h = refl
    each (q ∷ qs) h = free_join (semicolon ∷ q) (flat_map (λ p. semicolon ∷ p) qs) h.0 (each qs h.1)

-- the pieces of a line, which are cut so
free_cut : (line : List ℕ) (rest : List (List ℕ)) → pieces line ≡ first_piece line ∷ rest → IsFree line
    → AllByRecursion IsFree (first_piece line ∷ rest)
free_cut line rest cut h = subst (AllByRecursion IsFree) cut (free_pieces line h)

free_short : (ps : List (List ℕ)) → AllByRecursion IsFree ps → AllByRecursion IsFree (filter is_short ps)
free_short [] h = tt
free_short (p ∷ ps) h = by (is_short p) (free_short ps h.1)
  where
    by : (b : Bool) → AllByRecursion IsFree (filter is_short ps)
        → AllByRecursion IsFree (cond b (p ∷ filter is_short ps) (filter is_short ps))
    by true rest = (h.0, rest)
    by false rest = rest

free_dated : (m : DateTime) (y : ℕ) → m.date.year ≡ pos y → IsFree (dated_piece m)
free_dated m y year = free_join (codes " Expires=") (date_text m) refl (date_free m y year)

free_known : (ps ks : List (List ℕ)) → Pairwise IsKnown ps ks → AllByRecursion IsFree ps → AllByRecursion IsFree ks
free_known [] [] r h = tt
free_known [] (k ∷ ks) r h = absurd r
free_known (p ∷ ps) [] r h = absurd r
free_known (p ∷ ps) (k ∷ ks) (inl (m, loose, is), rs) h =
    (subst IsFree (sym is) (free_dated m loose.date.year loose.moment.year), free_known ps ks rs h.1)
free_known (p ∷ ps) (k ∷ ks) (inr (none, same), rs) h = (subst IsFree (sym same) h.0, free_known ps ks rs h.1)

written_year : (z : ℤ) → pos 100 ≤ℤ z → (y : ℕ) × (z ≡ pos y)
written_year (pos y) h = (y, refl)
written_year (negsuc n) h = absurd (omega (arith, signed_arith, h))

free_briefer : (now : ℤ) (ps ks : List (List ℕ)) → Pairwise (IsCut now) ps ks → AllByRecursion IsFree ps
    → AllByRecursion IsFree ks
free_briefer now [] [] r h = tt
free_briefer now [] (k ∷ ks) r h = absurd r
free_briefer now (p ∷ ps) [] r h = absurd r
free_briefer now (p ∷ ps) (k ∷ ks) (inl (long, is), rs) h =
    (subst IsFree (sym is) refl, free_briefer now ps ks rs h.1)
free_briefer now (p ∷ ps) (k ∷ ks) (inr (inl (m, ends, is)), rs) h =
    let (y, year) = written_year m.date.year ends.limit.written in
    (subst IsFree (sym is) (free_dated m y year), free_briefer now ps ks rs h.1)
free_briefer now (p ∷ ps) (k ∷ ks) (inr (inr (brief, near, same)), rs) h =
    (subst IsFree (sym same) h.0, free_briefer now ps ks rs h.1)

short_free : (line short : List ℕ) → IsFree line → IsShortLine line short → IsFree short
short_free line short free is =
    let all = free_cut line is.rest is.cut free in
    subst IsFree (sym is.joined)
    (free_behind (first_piece line) (filter is_short is.rest) all.0 (free_short is.rest all.1))

known_free : (line known : List ℕ) → IsFree line → IsKnownLine line known → IsFree known
known_free line known free is =
    let all = free_cut line is.rest is.cut free in
    subst IsFree (sym is.joined)
    (free_behind (first_piece line) is.others all.0 (free_known is.rest is.others is.each all.1))

cut_free : (now : ℤ) (line cut : List ℕ) → IsFree line → IsCutLine now line cut → IsFree cut
cut_free now line cut free is =
    let all = free_cut line is.rest is.parts free in
    subst IsFree (sym is.joined)
    (free_behind (first_piece line) is.others all.0 (free_briefer now is.rest is.others is.each all.1))

done_free : (on : Bool) (Step : List ℕ → List ℕ → Type 0) (line new : List ℕ) → (Step line new → IsFree new)
    → IsFree line → IsDoneIf on Step line new → IsFree new
done_free true Step line new keeps free done = keeps done
done_free false Step line new keeps free done = subst IsFree (sym done) free

pub free_lines_stay : FreeLinesStay
free_lines_stay rules now line handed free (inl (text, h)) =
    let short = done_free rules.long_attributes IsShortLine line h.short (short_free line h.short free) free h.shortened
    in
    let known = done_free rules.dates IsKnownLine h.short h.known (known_free h.short h.known short) short h.dated in
    done_free rules.long_lives (IsCutLine now) h.known handed (cut_free now h.known handed known) known h.cut
free_lines_stay rules now line handed free (inr (other, same)) = subst IsFree (sym same) free

-- ---- a text that is trimmed

abbrev IsMild : ℕ → Type 0
IsMild c = is_control c ≡ false

abbrev IsScalar : ℕ → Type 0
IsScalar c = scalar c ≡ true

all_free : (bs : List ℕ) → AllByRecursion IsMild bs → IsFree bs
all_free [] h = refl
all_free (b ∷ bs) h = or_from (is_control b) (list_any is_control bs) h.0 (all_free bs h.1)

encode_milds : (c : ℕ) → IsMild c → AllByRecursion IsMild (encode c)
unfolding encode
encode_milds c mild =
    cond_both (ltb c 128) _ _ (AllByRecursion IsMild) (λ e. (mild, tt)) (λ e.
    cond_both (ltb c 2048) _ _ (AllByRecursion IsMild) (λ e. (grind (arith, nat_tests), (grind (arith, nat_tests), tt)))
    (λ e.
    cond_both (ltb c 65536) _ _ (AllByRecursion IsMild)
    (λ e. (grind (arith, nat_tests), (grind (arith, nat_tests), (grind (arith, nat_tests), tt))))
    (λ e. (
      grind (arith, nat_tests),
      (grind (arith, nat_tests), (grind (arith, nat_tests), (grind (arith, nat_tests), tt))),
    ))))

encode_mild : (c : ℕ) → IsFree (encode c) → IsMild c
unfolding encode
encode_mild c free = by (ltb c 128) refl free
  where
    by : (b : Bool) → ltb c 128 ≡ b → IsFree (encode c) → IsMild c
    by true e h =
        let same : encode c ≡ c ∷ [] = cond-true _ _ _ e in
        (or_parts (is_control c) false (subst IsFree same h)).0
    by false e h = grind (arith, nat_tests, e)

chars_mild : (cs : List ℕ) → IsFree (encodes cs) → AllByRecursion IsMild cs
chars_mild [] h = tt
chars_mild (c ∷ cs) h =
    let both = free_parts (encode c) (encodes cs) h in
    (encode_mild c both.0, chars_mild cs both.1)

mild_free : (cs : List ℕ) → AllByRecursion IsMild cs → IsFree (encodes cs)
mild_free [] h = refl
mild_free (c ∷ cs) h =
    free_join (encode c) (encodes cs) (all_free (encode c) (encode_milds c h.0)) (mild_free cs h.1)

all_scalars : (cs : List ℕ) → scalars cs ≡ true → AllByRecursion IsScalar cs
all_scalars [] h = tt
all_scalars (c ∷ cs) h = (first_so (scalar c) (scalars cs) h, all_scalars cs (second_so (scalar c) (scalars cs) h))

scalars_all : (cs : List ℕ) → AllByRecursion IsScalar cs → scalars cs ≡ true
scalars_all [] h = refl
scalars_all (c ∷ cs) h = λ i. h.0 i && scalars_all cs h.1 i

trim_is : (text : List ℕ) (utf8 : IsUtf8 text)
    → trim text ≡ encodes (drop_trailing_whitespace (skip_leading_whitespace utf8.0))
unfolding trim_start trim_end
trim_is text (cs, (are, e)) =
    let front : chars text ≡ cs = ap chars (sym e) ∙ chars-encodes cs are in
    let left : chars (trim_start text) ≡ skip_leading_whitespace cs =
    ap (λ ds. chars (encodes (skip_leading_whitespace ds))) front
    ∙ chars-encodes (skip_leading_whitespace cs) (scalars_all _ (skip_all IsScalar cs (all_scalars cs are))) in
    ap (λ ds. encodes (drop_trailing_whitespace ds)) left

trim_free : (text : List ℕ) → IsUtf8 text → IsFree text → IsFree (trim text)
trim_free text (cs, (are, e)) free =
    let mild = chars_mild cs (subst IsFree (sym e) free) in
    subst IsFree (sym (trim_is text (cs, (are, e)))) (mild_free _ (drop_all IsMild _ (skip_all IsMild cs mild)))

-- ---- name, value and path of a piece

whole_utf8 : (text : List ℕ) → IsWhole text → IsUtf8 text
whole_utf8 text (cs, all, e) = (cs, (are_scalars cs all, e))

front_utf8 : (text : List ℕ) → IsUtf8 text → IsUtf8 (before_first (λ b. b == equals) text)
front_utf8 text h =
    ⊎_elim
    (λ (e : ltb (position_or_len (λ b. b == equals) text) (length text) ≡ true).
    let within = ltb-true _ _ e in
    let at : (get_or text (position_or_len (λ b. b == equals) text) 0 == equals) ≡ true =
    passes_at_first (λ b. b == equals) text 0 within in
    IsUtf8-take text _ h (IsCharBoundary-before_ascii text _ within (grind (arith, nat_tests, at))))
    (λ (e : ltb (position_or_len (λ b. b == equals) text) (length text) ≡ false).
    subst IsUtf8 (sym (take_all (position_or_len (λ b. b == equals) text) text (grind (arith, nat_tests, e)))) h)
    (cases_Bool (ltb (position_or_len (λ b. b == equals) text) (length text)))

name_free : (piece : List ℕ) → IsWhole piece → IsFree piece → IsFree (name_of piece)
unfolding name_of
name_free piece whole free =
    trim_free (before_first (λ b. b == equals) piece) (front_utf8 piece (whole_utf8 piece whole))
    (free_take _ piece free)

after_free : (piece : List ℕ) → IsWhole piece → IsFree piece → IsFree (text_after piece)
unfolding text_after
after_free piece whole free =
    trim_free (after_first (λ b. b == equals) piece) (whole_utf8 _ (after_whole piece whole)) (free_drop _ piece free)

value_free : (piece x : List ℕ) → IsWhole piece → IsFree piece → value_of piece ≡ Some x → IsFree x
unfolding value_of
value_free piece x whole free e = by (nat_lt _ _) e
  where
    by : (b : Bool) → cond b (Some (text_after piece)) None ≡ Some x → IsFree x
    by true e = subst IsFree (same_Some (text_after piece) x e) (after_free piece whole free)
    by false e = absurd (cc)

-- ---- the cookie of a line

at_piece : (P : List ℕ → Type 0) (before : List (List ℕ)) (piece : List ℕ) (after : List (List ℕ))
    → AllByRecursion P (before ++ piece ∷ after) → P piece
at_piece P [] piece after all = all.0
at_piece P (p ∷ before) piece after all = at_piece P before piece after all.1

path_free : (rest : List (List ℕ)) (o : Option (List ℕ)) → AllByRecursion IsWhole rest → AllByRecursion IsFree rest
    → HasLast GivesPath rest o → IfSome o IsFree
path_free rest None whole free last = tt
path_free rest (Some path) whole free last =
    value_free last.piece path
    (at_piece IsWhole last.before last.piece last.after (subst (AllByRecursion IsWhole) last.split whole))
    (at_piece IsFree last.before last.piece last.after (subst (AllByRecursion IsFree) last.split free)) last.given.says

pub free_lines_read : FreeLinesRead
free_lines_read line seen free utf8 reads =
    let (rest, cut, has) = reads.attributes in
    let whole = subst (AllByRecursion IsWhole) cut (pieces_whole line utf8) in
    let all = free_cut line rest cut free in
    record {
      name = subst IsFree (sym reads.name.1) (name_free (first_piece line) whole.0 all.0);
      value = subst IsFree (sym reads.value) (after_free (first_piece line) whole.0 all.0);
      path = path_free rest seen.cookie.path whole.1 all.1 has.path;
    }

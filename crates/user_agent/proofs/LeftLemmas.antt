-- Lines that no rule changes.
use Rattle.std.proofs.Common.{◌≡◌, ◌⊎◌, ◌<◌, ◌==◌, ◌++◌, ◌∷◌, [], ◌∙◌, ℕ, ℤ, Bool, true, false, List, Option, Some}
use Rattle.std.proofs.Common.{None}
use Rattle.std.proofs.Common.{refl, sym, ap, subst, inl, inr, ⊎_elim, length, get_or, arith, IsSome, IsTrue, codes}
use Rattle.std.specs.Prelude.{◌↔◌, ◌&&◌, filter, nat_le, nat_lt, IfOk, IfSome, Result, Ok, Err}
use Rattle.std.specs.List.{AllByRecursion, after_first, before_first, flat_map, onto_first, position_or_len}
use Rattle.std.specs.Str.{IsUtf8, trim}
use Rattle.std.proofs.lemmas.Bool.{cases_Bool, cond-true, cond-false, both_ways}
use Rattle.std.proofs.lemmas.Bool.Decides.{nat_tests}
use Rattle.std.proofs.lemmas.List.{take_all}
use Rattle.std.proofs.lemmas.List.Elements.{All-from_get_or}
use Rattle.std.proofs.lemmas.List.Splits.{slice_split_first, slice_split_none}
use Rattle.std.proofs.lemmas.List.Splits.{slice_split-cons_yes, slice_split-cons_no}
use Rattle.std.proofs.lemmas.List.Sums.{fails_before_first}
use Rattle.jiff.specs.Types.{DateTime}
use Rattle.cookie_text.specs.Attribute.{Expires, Gives, MaxAge, kind_name}
use Rattle.cookie_text.specs.declared.attribute.Kind.TheVariants as kinds
use Rattle.cookie_text.specs.declared.error.ParseError.{ParseError}
use Rattle.cookie_text.specs.Pieces.{equals, name_of, pieces, semicolon, text_after, value_of}
use Rattle.cookie_text.specs.Reading.{GivesAge, HasAttributes, HasLast, ReadsPlain, first_piece}
use Rattle.cookie_text.specs.ReadingBack.{Pairwise}
use Rattle.cookie_text.specs.Record.{Seen}
use Rattle.user_agent.specs.Agent.{IsDoneIf}
use Rattle.user_agent.specs.CutLives.{IsBrief, IsBriefCookie, IsCut, IsCutLine}
use Rattle.user_agent.specs.KnownDates.{HasLooseDate, IsExpires, IsKnown, IsKnownLine, joined_behind}
use Rattle.user_agent.specs.LeftAlone.{AreLeftAlone, IsLeftAlone, IsLifeLeftAlone, IsNameOfLife, SaysNoLife}
use Rattle.user_agent.specs.LongAttributes.{IsShortLine, is_short}
use Rattle.user_agent.proofs.CutLemmas.{brief_piece, last_given}
use Rattle.user_agent.proofs.KnownLemmas.{lone_piece, strict_of}
use Rattle.user_agent.proofs.PieceLemmas.{IsClean}

-- ---- a text, cut at its semicolons and put together again

abbrev Split : List ℕ → Type 0
Split text = (p : List ℕ) × (qs : List (List ℕ)) × (pieces text ≡ p ∷ qs) × (joined_behind p qs ≡ text)

is_semicolon : (b : ℕ) → (b == semicolon) ≡ true → b ≡ semicolon
is_semicolon b e = grind (arith, nat_tests)

split : (text : List ℕ) → Split text
split [] = ([], [], refl, refl)
split (b ∷ bs) = by (b == semicolon) refl (split bs)
  where
    by : (x : Bool) → (b == semicolon) ≡ x → Split bs → Split (b ∷ bs)
    by true e (p, qs, cut, joined) =
        let same : b ≡ semicolon = is_semicolon b e in (
          [],
          p ∷ qs,
          slice_split-cons_yes (λ c. c == semicolon) b bs e ∙ ap (λ ps. [] ∷ ps) cut,
          (λ i. sym same i ∷ joined i),
        )
    by false e (p, qs, cut, joined) = (
      b ∷ p,
      qs,
      slice_split-cons_no (λ c. c == semicolon) b bs e ∙ ap (onto_first b) cut,
      ap (λ t. b ∷ t) joined,
    )

heads : (a b : List ℕ) (xs ys : List (List ℕ)) → a ∷ xs ≡ b ∷ ys → a ≡ b
heads a b xs ys h = cc

tails : (a b : List ℕ) (xs ys : List (List ℕ)) → a ∷ xs ≡ b ∷ ys → xs ≡ ys
tails a b xs ys h = cc

joined_again : (line p : List ℕ) (qs : List (List ℕ)) → pieces line ≡ p ∷ qs → joined_behind p qs ≡ line
joined_again line p qs is = by (split line)
  where
    by : Split line → joined_behind p qs ≡ line
    by (a, more, cut, joined) =
        subst (λ xs. joined_behind p xs ≡ line) (tails a p more qs (sym cut ∙ is))
        (subst (λ x. joined_behind x more ≡ line) (heads a p more qs (sym cut ∙ is)) joined)

-- ---- no rule changes it, but that on long lives

module _ (now : ℤ) (brief : Bool) where
  all_short : (ps : List (List ℕ)) → AllByRecursion (IsLeftAlone now brief) ps → filter is_short ps ≡ ps
  all_short [] h = refl
  all_short (p ∷ ps) h =
      cond-true (is_short p) (p ∷ filter is_short ps) (filter is_short ps) h.0.0
      ∙ ap (λ qs. p ∷ qs) (all_short ps h.1)

  all_known : (ps : List (List ℕ)) → AllByRecursion (IsLeftAlone now brief) ps → Pairwise IsKnown ps ps
  all_known [] h = tt
  all_known (p ∷ ps) h = (inr (h.0.1.known, refl), all_known ps h.1)

  all_cut : IsTrue brief → (ps : List (List ℕ)) → AllByRecursion (IsLeftAlone now brief) ps → Pairwise (IsCut now) ps ps
  all_cut holds [] h = tt
  all_cut holds (p ∷ ps) h =
      let is = h.0.1.brief holds in (inr (inr (is.0, is.1, refl)), all_cut holds ps h.1)

done : (on : Bool) (Step : List ℕ → List ℕ → Type 0) (line : List ℕ) → Step line line → IsDoneIf on Step line line
done true Step line h = h
done false Step line h = refl

pub left_long : (on : Bool) (now : ℤ) (brief : Bool) (line : List ℕ) → AreLeftAlone now brief line
    → IsDoneIf on IsShortLine line line
left_long on now brief line k =
    let joined = joined_again line (first_piece line) k.rest k.cut in
    done on IsShortLine line (record {
      rest = k.rest;
      cut = k.cut;
      joined = sym (ap (joined_behind (first_piece line)) (all_short now brief k.rest k.each) ∙ joined);
    })

pub left_dated : (on : Bool) (now : ℤ) (brief : Bool) (line : List ℕ) → AreLeftAlone now brief line
    → IsDoneIf on IsKnownLine line line
left_dated on now brief line k =
    done on IsKnownLine line (record {
      rest = k.rest;
      others = k.rest;
      cut = k.cut;
      each = all_known now brief k.rest k.each;
      joined = sym (joined_again line (first_piece line) k.rest k.cut);
    })

pub left_brief : (on : Bool) (now : ℤ) (line : List ℕ) → AreLeftAlone now true line
    → IsDoneIf on (IsCutLine now) line line
left_brief on now line k =
    done on (IsCutLine now) line (record {
      rest = k.rest;
      others = k.rest;
      parts = k.cut;
      each = all_cut now true refl k.rest k.each;
      joined = sym (joined_again line (first_piece line) k.rest k.cut);
    })

-- ---- its pieces

left_line_of : (now : ℤ) (brief : Bool) (line rest : List ℕ)
    → position_or_len (λ b. b == semicolon) line < length line → rest ≡ after_first (λ b. b == semicolon) line
    → AllByRecursion (IsLeftAlone now brief) (pieces rest) → AreLeftAlone now brief line
left_line_of now brief line rest holds is_rest each = record {
  rest = pieces rest;
  cut = slice_split_first (λ b. b == semicolon) line 0 holds ∙ ap (λ q. first_piece line ∷ pieces q) (sym is_rest);
  each = each;
}

pub left_line_alone : (now : ℤ) (line : List ℕ) → position_or_len (λ b. b == semicolon) line ≡ length line
    → AreLeftAlone now true line
left_line_alone now line none =
    let is_cut : ℕ → Bool = λ b. b == semicolon in
    let fails = All-from_get_or (λ b. is_cut b ≡ false) line 0
    (λ i within. fails_before_first is_cut line i 0 (omega arith)) in
    let whole : first_piece line ≡ line = take_all (position_or_len is_cut line) line (omega arith) in
    record { rest = []; cut = slice_split_none is_cut line fails ∙ ap (λ p. p ∷ []) (sym whole); each = tt }

both_true : (a b : Bool) → (a && b) ≡ true → (a ≡ true) × (b ≡ true)
both_true true b e = (refl, e)
both_true false b e = absurd (both_ways false refl e)

weaker : (now : ℤ) (old new : Bool) (p : List ℕ) → (IsTrue new → IsTrue old) → IsLeftAlone now old p
    → IsLeftAlone now new p
weaker now old new p then (short, life) = (short, record { known = life.known; brief = λ h. life.brief (then h) })

all_weaker : (now : ℤ) (old new : Bool) (ps : List (List ℕ)) → (IsTrue new → IsTrue old)
    → AllByRecursion (IsLeftAlone now old) ps → AllByRecursion (IsLeftAlone now new) ps
all_weaker now old new [] then h = tt
all_weaker now old new (p ∷ ps) then h = (weaker now old new p then h.0, all_weaker now old new ps then h.1)

one_behind : (now : ℤ) (brief : Bool) (ps : List (List ℕ)) (p : List ℕ) → AllByRecursion (IsLeftAlone now brief) ps
    → IsLeftAlone now brief p → AllByRecursion (IsLeftAlone now brief) (ps ++ p ∷ [])
one_behind now brief [] p h one = (one, tt)
one_behind now brief (q ∷ ps) p h one = (h.0, one_behind now brief ps p h.1 one)

pub all_push : (now : ℤ) (old here new : Bool) (ps : List (List ℕ)) (p : List ℕ) → new ≡ (old && here)
    → AllByRecursion (IsLeftAlone now old) ps → IsLeftAlone now here p
    → AllByRecursion (IsLeftAlone now new) (ps ++ p ∷ [])
all_push now old here new ps p is h one =
    one_behind now new ps p (all_weaker now old new ps (λ e. (both_true old here (sym is ∙ e)).0) h)
    (weaker now here new p (λ e. (both_true old here (sym is ∙ e)).1) one)

-- ---- a piece that says nothing of a life

pub no_life : (now : ℤ) (piece : List ℕ) → SaysNoLife piece → IsBrief now piece
no_life now piece h = (λ (z, given, more). h.age z given, λ m past. h.end past.date past.given)

pub life_left_by_none : (now : ℤ) (piece : List ℕ) → SaysNoLife piece → IsLifeLeftAlone now true piece
life_left_by_none now piece h = record {
  known = λ m loose. h.date loose.text loose.is;
  brief = λ _. no_life now piece h;
}

-- its name isn't one of those
pub unnamed : (piece : List ℕ) → ¬ (IsNameOfLife (name_of piece)) → SaysNoLife piece
unnamed piece h = record {
  date = λ text is. h (inl is.named);
  end = λ d given. h (inl given.named);
  age = λ z given. h (inr given.named);
}

-- or it has no value
pub no_value : (piece : List ℕ) → position_or_len (λ b. b == equals) piece ≡ length piece → value_of piece ≡ None
unfolding value_of
no_value piece none =
    let no : nat_lt (position_or_len (λ b. b == equals) piece) (length piece) ≡ false =
    grind (arith, nat_tests, none) in
    cond-false _ _ None no

none_some : (text : List ℕ) (o : Option (List ℕ)) → o ≡ None → o ≡ Some text → ⊥
none_some text None e f = absurd (cc f)
none_some text (Some t) e f = absurd (cc e)

pub valueless : (piece : List ℕ) → value_of piece ≡ None → SaysNoLife piece
valueless piece none = record {
  date = λ text is. none_some text (value_of piece) none is.value;
  end = λ d given. none_some given.says.0 (value_of piece) none given.says.1;
  age = λ z given. none_some given.says.0 (value_of piece) none given.says.1;
}

-- ---- a piece that says one that is neither to be known nor to be cut

other_letter : ¬ (◌≡◌ {A = ℕ} 109 101)
other_letter e = omega (arith, e)

some_age : (piece : List ℕ) (o : Option ℤ) → HasLast GivesAge (piece ∷ []) o → IsSome o
    → (z : ℤ) × Gives piece (MaxAge z)
some_age piece None l some = absurd (cc some)
some_age piece (Some nanos) l some =
    let (z, given, e) = last_given GivesAge piece nanos l in (z, given)

module _ (now : ℤ) (piece text : List ℕ) (clean : IsClean piece) (is : text ≡ codes "a=;" ++ piece) (s : Seen)
    (reads : ReadsPlain text (Ok s)) where
  lone : HasAttributes (piece ∷ []) s.cookie
  lone = lone_piece piece text clean is s reads

  pub life_left : (r : Option Bool)
      → IfSome r (λ brief. (IsSome s.cookie.expires ⊎ IsSome s.cookie.max_age)
      × (IsTrue brief → IsBriefCookie now s.cookie))
      → IfSome r (λ brief. IsLifeLeftAlone now brief piece)
  life_left None h = tt
  life_left (Some brief) (some, lives) = record {
    known = λ m loose. ⊎_elim
        (λ (end : IsSome s.cookie.expires).
        let (d, given) = (strict_of piece text clean is (Ok s) reads).0 end in loose.strict d given)
        (λ (age : IsSome s.cookie.max_age).
        let (z, given) = some_age piece s.cookie.max_age lone.max_age age in
        other_letter (ap (λ t. get_or t 0 0) (sym given.named ∙ loose.is.named)))
        some;
    brief = λ holds. brief_piece now piece s.cookie lone.max_age lone.expires (lives holds);
  }

-- ---- as the code finds it

pub short_value : (piece value : List ℕ) (b : Bool) → value ≡ after_first (λ b. b == equals) piece
    → b ≡ nat_le (length (trim value)) 1024 → b ≡ true → is_short piece ≡ true
unfolding text_after
short_value piece value b is e holds = ap (λ v. nat_le (length (trim v)) 1024) (sym is) ∙ (sym e ∙ holds)

pub named_or : (piece name text : List ℕ) (b : Bool) → name ≡ before_first (λ b. b == equals) piece
    → text ≡ trim name → (IsTrue b ↔ IsNameOfLife text) → IsTrue b ⊎ SaysNoLife piece
unfolding name_of
named_or piece name text b is_name is_text law =
    ⊎_elim
    (λ (holds : b ≡ true). inl holds)
    (λ (fails : b ≡ false).
    inr (unnamed piece
    (λ h. both_ways b fails (law.1 (subst IsNameOfLife (sym (is_text ∙ ap trim is_name)) h)))))
    (cases_Bool b)

pub piece_left : {E : Type 0} (now : ℤ) (piece : List ℕ) (r : Result (Option Bool) E) → is_short piece ≡ true
    → IfOk r (λ found. IfSome found (λ brief. IsLifeLeftAlone now brief piece))
    → IfOk r (λ found. IfSome found (λ brief. IsLeftAlone now brief piece))
piece_left now piece (Ok (Some brief)) short h = (short, h)
piece_left now piece (Ok None) short h = tt
piece_left now piece (Err e) short h = tt

pub line_left : {E : Type 0} (now : ℤ) (line rest : List ℕ) (r : Result (Option Bool) E)
    → position_or_len (λ b. b == semicolon) line < length line → rest ≡ after_first (λ b. b == semicolon) line
    → IfOk r (λ found. IfSome found (λ brief. AllByRecursion (IsLeftAlone now brief) (pieces rest)))
    → IfOk r (λ found. IfSome found (λ brief. AreLeftAlone now brief line))
line_left now line rest (Ok (Some brief)) holds is_rest h = left_line_of now brief line rest holds is_rest h
line_left now line rest (Ok None) holds is_rest h = tt
line_left now line rest (Err e) holds is_rest h = tt

-- What a line with its dates known reads as.
use Rattle.std.proofs.Common.{◌≡◌, ◌≢◌, ◌≤◌, ◌<◌, ℕ, List, [], ◌∷◌, ◌++◌, length, ◌==◌, Bool, false, Option}
use Rattle.std.proofs.Common.{Some, None, Result, Ok, Err, refl, sym, ap, subst, ◌∙◌, inl, inr, arith, ⊎_elim}
use Rattle.std.proofs.Common.{codes, append_assoc, get_or, IsSome, lit<}
use Rattle.std.specs.Prelude.{MatchOption}
use Rattle.std.specs.Str.{trim_start, trim_end, chars}
use lib.Utf8.{encode}
use Rattle.std.specs.List.{flat_map, after_first}
use Rattle.std.proofs.lemmas.List.Concat.{flat_map-append}
use Rattle.std.specs.List.{All, position_or_len}
use Rattle.std.proofs.lemmas.Bool.{both_ways, cases_lt}
use Rattle.std.proofs.lemmas.List.Elements.{All-nil, All-cons, All-head, All-tail, All-from_get_or}
use Rattle.std.proofs.lemmas.List.Splits.{slice_split_first, slice_split_none}
use Rattle.std.proofs.lemmas.List.Sums.{fails_before_first, prefix_len-le-length}
use Rattle.std.proofs.lemmas.List.{append-nil, take_all}
use Rattle.std.proofs.lemmas.Option.{same_Some}
use Rattle.jiff.specs.Types.{DateTime}
use Rattle.jiff.proofs.Family.{same_datetime}
use Rattle.jiff_core.specs.DateTime.{civil_nanos}
use Rattle.cookie_text.specs.Attribute.{Attribute, HttpOnly, Secure, Partitioned, OfSite, MaxAge, Path, Domain, Expires}
use Rattle.cookie_text.specs.Attribute.{Gives, kind, kind_name}
use Rattle.cookie_text.specs.Date.{IsDateText, IsMoment}
use Rattle.cookie_text.specs.declared.attribute.Kind.TheVariants as kinds
use Rattle.cookie_text.specs.declared.error.ParseError.{ParseError}
use Rattle.cookie_text.specs.declared.expiration.Expiration.{Expiration}
use Rattle.cookie_text.specs.declared.expiration.Expiration.TheVariants.{DateTime as At}
use Rattle.cookie_text.specs.Pieces.{semicolon, pieces, name_of}
use Rattle.cookie_text.specs.Reading.{HasAttributes, HasLast, IsLast, GivesFlag, GivesSite, GivesAge, GivesPath}
use Rattle.cookie_text.specs.Reading.{GivesDomain, GivesEnd, HasRest, IsPair, ReadsPlain, ReadsWith, first_piece}
use Rattle.cookie_text.specs.ReadingBack.{Pairwise}
use Rattle.cookie_text.specs.Record.{Seen}
use Rattle.user_agent.specs.Dates.{Date, IsMomentOf, Shows}
use Rattle.user_agent.specs.KnownDates.{HasLooseDate, IsKnown, IsKnownLine, GivesKnownEnd, ReadsKnown, dated_piece}
use Rattle.user_agent.specs.KnownDates.{joined_behind, HasEnd, IsExpires, KnownLinesRead, PutsKnown}
use Rattle.user_agent.proofs.DatedLemmas.{dated_gives, dated_clean}
use Rattle.user_agent.proofs.PieceLemmas.{IsClean, AreClean, pieces-joined, pieces_clean}

-- ---- the last piece that gives a value, of pieces that stand side by side

abbrev pub Silent : {A : Type 0} → (List ℕ → A → Type 0) → List ℕ → Type 0
Silent {A} gives p = (a : A) → ¬ (gives p a)

module _ {A : Type 0} (gives other : List ℕ → A → Type 0) (Beside : List ℕ → List ℕ → Type 0)
    (given : (p k : List ℕ) → Beside p k → (a : A) → gives p a → other k a)
    (silent : (p k : List ℕ) → Beside p k → Silent gives p → Silent other k) where
  none_moves : (ps ks : List (List ℕ)) → Pairwise Beside ps ks → All (Silent gives) ps → All (Silent other) ks
  none_moves [] [] r h = All-nil (Silent other)
  none_moves [] (k ∷ ks) r h = absurd r
  none_moves (p ∷ ps) [] r h = absurd r
  none_moves (p ∷ ps) (k ∷ ks) r h =
      All-cons (Silent other) k ks (silent p k r.0 (All-head (Silent gives) p ps h))
      (none_moves ps ks r.1 (All-tail (Silent gives) p ps h))

  some_moves : (ps ks before : List (List ℕ)) (piece : List ℕ) (after : List (List ℕ)) (a : A) → Pairwise Beside ps ks
      → ps ≡ before ++ piece ∷ after → gives piece a → All (Silent gives) after → IsLast other ks a
  some_moves [] ks [] piece after a r e g h = absurd (cc e)
  some_moves [] ks (b ∷ bs) piece after a r e g h = absurd (cc e)
  some_moves (p ∷ ps) [] before piece after a r e g h = absurd r
  some_moves (p ∷ ps) (k ∷ ks) [] piece after a r e g h =
      let head : piece ≡ p = cc in
      let tail : after ≡ ps = cc in
      record {
        before = [];
        piece = k;
        after = ks;
        split = refl;
        given = given p k r.0 a (subst (λ q. gives q a) head g);
        later = none_moves ps ks r.1 (subst (All (Silent gives)) tail h);
      }
  some_moves (p ∷ ps) (k ∷ ks) (b ∷ bs) piece after a r e g h =
      let tail : ps ≡ bs ++ piece ∷ after = cc in
      let l = some_moves ps ks bs piece after a r.1 tail g h in
      record {
        before = k ∷ l.before;
        piece = l.piece;
        after = l.after;
        split = ap (λ qs. k ∷ qs) l.split;
        given = l.given;
        later = l.later;
      }

  pub last_moves : (ps ks : List (List ℕ)) → Pairwise Beside ps ks → (o : Option A) → HasLast gives ps o
      → HasLast other ks o
  last_moves ps ks r None h = none_moves ps ks r h
  last_moves ps ks r (Some a) h = some_moves ps ks h.before h.piece h.after a r h.split h.given h.later

pub flipped : (ps ks : List (List ℕ)) → Pairwise IsKnown ps ks → Pairwise (λ k p. IsKnown p k) ks ps
flipped [] [] r = tt
flipped [] (k ∷ ks) r = absurd r
flipped (p ∷ ps) [] r = absurd r
flipped (p ∷ ps) (k ∷ ks) r = (r.0, flipped ps ks r.1)

-- ---- a piece and the piece as it is known

dated_facts : (m : DateTime) (d : Date) (text : List ℕ) → Shows text d → IsMomentOf d m → Gives (dated_piece m)
    (Expires m) × IsClean (dated_piece m)
dated_facts m d text s is =
    let low : 1000 ≤ d.year = omega (arith, s.late) in
    (dated_gives d m is low, dated_clean d m is low)

loose_facts : (p : List ℕ) (m : DateTime) → HasLooseDate p m → Gives (dated_piece m) (Expires m)
    × IsClean (dated_piece m)
loose_facts p m h = dated_facts m h.date h.text h.shown h.moment

-- an attribute that is no Expires
abbrev IsOther : Attribute → Type 0
IsOther (Expires d) = ⊥
IsOther a = Unit {0}

other_letter : ¬ (◌≡◌ {A = ℕ} 109 101)
other_letter e = omega (arith, e)

other_name : (a : Attribute) → IsOther a → kind_name (kind a) ≢ kind_name kinds.Expires
other_name HttpOnly o e = cc e
other_name Secure o e = cc e
other_name Partitioned o e = cc e
other_name (OfSite s) o e = cc e
other_name (MaxAge z) o e = other_letter (ap (λ t. get_or t 0 0) e)
other_name (Path t) o e = cc e
other_name (Domain t) o e = cc e
other_name (Expires d) o e = o

forth : (p k : List ℕ) → IsKnown p k → (a : Attribute) → IsOther a → Gives p a → Gives k a
forth p k (inl (m, loose, is)) a o g = absurd (other_name a o (sym g.named ∙ loose.is.named))
forth p k (inr (none, same)) a o g = subst (λ q. Gives q a) (sym same) g

back : (p k : List ℕ) → IsKnown p k → (a : Attribute) → IsOther a → Gives k a → Gives p a
back p k (inl (m, loose, is)) a o g =
    let h = loose_facts p m loose in
    absurd (other_name a o (sym (subst (λ q. Gives q a) is g).named ∙ h.0.named))
back p k (inr (none, same)) a o g = subst (λ q. Gives q a) same g

-- the end that the known piece gives is one that the piece gives
same_nanos : (s : _) (d e : DateTime) → IsMoment s d → IsMoment s e → civil_nanos d ≡ civil_nanos e
unfolding civil_nanos
same_nanos s d e h k =
    let year : d.date.year ≡ e.date.year = h.year ∙ sym k.year in
    let month : d.date.month ≡ e.date.month = h.month ∙ sym k.month in
    let day : d.date.day ≡ e.date.day = h.day ∙ sym k.day in
    let hour : d.time.hour ≡ e.time.hour = h.hour ∙ sym k.hour in
    let minute : d.time.minute ≡ e.time.minute = h.minute ∙ sym k.minute in
    let second : d.time.second ≡ e.time.second = h.second ∙ sym k.second in
    let whole : d.time.subsec_nanosecond ≡ e.time.subsec_nanosecond = h.whole ∙ sym k.whole in
    rw (year, month, day, hour, minute, second, whole) refl

abbrev pub OneDate : Type 0
OneDate = (text : List ℕ) (s t : _) → IsDateText text s → IsDateText text t → s ≡ t

one_moment : OneDate → (p : List ℕ) (d e : DateTime) → Gives p (Expires d) → Gives p (Expires e) → d ≡ e
one_moment one p d e g h =
    let texts = same_Some _ _ (sym g.says.1 ∙ h.says.1) in
    let shown : IsDateText h.says.0 g.says.2.0 = subst (λ t. IsDateText t g.says.2.0) texts g.says.2.1 in
    let stamps = one h.says.0 g.says.2.0 h.says.2.0 shown h.says.2.1 in
    let moments = same_nanos h.says.2.0 d e (subst (λ s. IsMoment s d) stamps g.says.2.2) h.says.2.2 in
    same_datetime d e moments

end_back : OneDate → (k p : List ℕ) → IsKnown p k → (e : Expiration) → GivesEnd k e → GivesKnownEnd p e
end_back one k p (inl (m, loose, is)) e (d, g, at) =
    let h = loose_facts p m loose in
    let same : d ≡ m = one_moment one (dated_piece m) d m (subst (λ q. Gives q (Expires d)) is g) h.0 in
    (m, inr loose, at ∙ ap At same)
end_back one k p (inr (none, same)) e (d, g, at) = (d, inl (subst (λ q. Gives q (Expires d)) same g), at)

end_silent : (k p : List ℕ) → IsKnown p k → Silent GivesEnd k → Silent GivesKnownEnd p
end_silent k p (inl (m, loose, is)) quiet e g =
    let h = loose_facts p m loose in
    quiet (At m) (m, subst (λ q. Gives q (Expires m)) (sym is) h.0, refl)
end_silent k p (inr (none, same)) quiet e (d, inl g, at) = quiet e
    (d, subst (λ q. Gives q (Expires d)) (sym same) g, at)
end_silent k p (inr (none, same)) quiet e (d, inr loose, at) = none d loose

-- ---- the pieces of the known line

known_clean : (ps ks : List (List ℕ)) → Pairwise IsKnown ps ks → AreClean ps → AreClean ks
known_clean [] [] r h = tt
known_clean [] (k ∷ ks) r h = absurd r
known_clean (p ∷ ps) [] r h = absurd r
known_clean (p ∷ ps) (k ∷ ks) (inl (m, loose, is), rs) h =
    (subst IsClean (sym is) (loose_facts p m loose).1, known_clean ps ks rs h.1)
known_clean (p ∷ ps) (k ∷ ks) (inr (none, same), rs) h = (subst IsClean (sym same) h.0, known_clean ps ks rs h.1)

pub first_is : (text p : List ℕ) (ps : List (List ℕ)) → pieces text ≡ p ∷ ps → first_piece text ≡ p
first_is text p ps e =
    let is_cut : ℕ → Bool = λ b. b == semicolon in
    let within = prefix_len-le-length (λ b. Rattle.std.specs.Prelude.not (b == semicolon)) text in
    ⊎_elim
    (λ (cut : position_or_len is_cut text < length text).
    let h = sym (slice_split_first is_cut text 0 cut) ∙ e in
    heads _ _ _ _ h)
    (λ (most : length text ≤ position_or_len is_cut text).
    let fails = All-from_get_or (λ b. is_cut b ≡ false) text 0
    (λ i less. fails_before_first is_cut text i 0 (omega (arith, less, most))) in
    let whole : first_piece text ≡ text = take_all (position_or_len is_cut text) text most in
    whole ∙ heads _ _ _ _ (sym (slice_split_none is_cut text fails) ∙ e))
    (cases_lt (position_or_len is_cut text) (length text))
  where
    heads : (a b : List ℕ) (xs ys : List (List ℕ)) → a ∷ xs ≡ b ∷ ys → a ≡ b
    heads a b xs ys h = cc

tails : (a b : List ℕ) (xs ys : List (List ℕ)) → a ∷ xs ≡ b ∷ ys → xs ≡ ys
tails a b xs ys h = cc

known_pieces : (line known : List ℕ) (k : IsKnownLine line known) → pieces known ≡ first_piece line ∷ k.others
known_pieces line known k =
    let clean : AreClean (first_piece line ∷ k.rest) = subst AreClean k.cut (pieces_clean line) in
    ap pieces k.joined ∙ pieces-joined (first_piece line) k.others clean.0 (known_clean k.rest k.others k.each clean.1)

pub same_first : (line known : List ℕ) → IsKnownLine line known → first_piece known ≡ first_piece line
same_first line known k = first_is known (first_piece line) k.others (known_pieces line known k)

-- ---- what is read

-- no name is both empty and not
not_empty : (name : List ℕ) → 0 < length name → name ≢ []
not_empty name some none = let size : length name ≡ 0 = ap length none in omega (arith, some)

same_ok : (s t : Seen) → ◌≡◌ {A = Result Seen ParseError} (Ok s) (Ok t) → s ≡ t
same_ok s t e = cc

abbrev pub OneOutcome : Type 0
OneOutcome = (text : List ℕ) (o p : Result Seen ParseError) → ReadsPlain text o → ReadsPlain text p → o ≡ p

module _ (line known : List ℕ) (k : IsKnownLine line known) where
  attributes_move : (s : Seen) (e : Option Expiration) → HasRest line s.cookie → HasLast GivesEnd k.others e
      → HasRest known (record s.cookie { expires = e })
  attributes_move s e (rest, cut, h) end =
      let same : rest ≡ k.rest = tails _ _ _ _ (sym cut ∙ k.cut) in
      let pairs : Pairwise IsKnown rest k.others = subst (λ ps. Pairwise IsKnown ps k.others) (sym same) k.each in
      let flag : (a : Attribute) → IsOther a → (o : Option Bool) → HasLast (GivesFlag a) rest o → HasLast (GivesFlag a)
      k.others o = λ a other o l. last_moves (GivesFlag a) (GivesFlag a) IsKnown
      (λ p q r b g. (forth p q r a other g.0, g.1)) (λ p q r quiet b g. quiet b (back p q r a other g.0, g.1)) rest
      k.others pairs o l in (
        k.others,
        known_pieces line known k ∙ ap (λ f. f ∷ k.others) (sym (same_first line known k)),
        record {
          http_only = flag HttpOnly tt s.cookie.http_only h.http_only;
          secure = flag Secure tt s.cookie.secure h.secure;
          partitioned = flag Partitioned tt s.cookie.partitioned h.partitioned;
          same_site = last_moves GivesSite GivesSite IsKnown (λ p q r b g. forth p q r (OfSite b) tt g)
              (λ p q r quiet b g. quiet b (back p q r (OfSite b) tt g)) rest k.others pairs s.cookie.same_site
              h.same_site;
          max_age = last_moves GivesAge GivesAge IsKnown
              (λ p q r b g. (g.0, forth p q r (MaxAge g.0) tt g.1, g.2))
              (λ p q r quiet b g. quiet b (g.0, back p q r (MaxAge g.0) tt g.1, g.2)) rest k.others pairs
              s.cookie.max_age h.max_age;
          path = last_moves GivesPath GivesPath IsKnown (λ p q r b g. forth p q r (Path b) tt g)
              (λ p q r quiet b g. quiet b (back p q r (Path b) tt g)) rest k.others pairs s.cookie.path h.path;
          domain = last_moves GivesDomain GivesDomain IsKnown (λ p q r b g. forth p q r (Domain b) tt g)
              (λ p q r quiet b g. quiet b (back p q r (Domain b) tt g)) rest k.others pairs s.cookie.domain h.domain;
          expires = end;
        },
      )

  known_reads : (s : Seen) (e : Option Expiration) → ReadsPlain line (Ok s) → HasLast GivesEnd k.others e
      → ReadsPlain known (Ok (record s { cookie = record s.cookie { expires = e } }))
  known_reads s e plain end =
      let h = subst (λ f. ReadsWith (HasRest line) f (Ok s)) (sym (same_first line known k)) plain in
      let pair = h.accepted.0 refl in
      record {
        accepted = (λ _. pair, λ _. refl);
        name = h.name;
        value = h.value;
        attributes = attributes_move s e h.attributes end;
        raw = record { name = h.raw.name; value = h.raw.value; path = h.raw.path; domain = h.raw.domain };
        missing_pair = (λ is. cc, λ no. absurd (no pair.0));
        empty_name = (λ is. cc, λ both. absurd (not_empty _ pair.1 both.1));
      }

  known_refused : (error : ParseError) → ReadsPlain line (Err error) → ReadsPlain known (Err error)
  known_refused error plain =
      let h = subst (λ f. ReadsWith (HasRest line) f (Err error)) (sym (same_first line known k)) plain in
      record {
        accepted = h.accepted;
        name = tt;
        value = tt;
        attributes = tt;
        raw = tt;
        missing_pair = h.missing_pair;
        empty_name = h.empty_name;
      }

  module _ (once : OneOutcome) (one : OneDate) where
    pub known_outcome : (read outcome : Result Seen ParseError) → ReadsPlain line read → ReadsPlain known outcome
        → ReadsKnown line read outcome
    known_outcome (Err error) outcome h g = once known outcome (Err error) g (known_refused error h)
    known_outcome (Ok s) (Err error) h g =
        let pair = subst IsPair (sym (same_first line known k)) (h.accepted.0 refl) in
        both_ways false refl (g.accepted.1 pair)
    known_outcome (Ok s) (Ok t) h g =
        let (rest, cut, attributes) = g.attributes in
        let same : rest ≡ k.others = tails _ _ _ _ (sym cut ∙ known_pieces line known k) in
        let end : HasLast GivesEnd k.others t.cookie.expires = subst (λ ps. HasLast GivesEnd ps t.cookie.expires) same
        attributes.expires in
        record {
          end = t.cookie.expires;
          rest = k.rest;
          cut = k.cut;
          last = last_moves GivesEnd GivesKnownEnd (λ q p. IsKnown p q) (end_back one) end_silent k.others k.rest
              (flipped k.rest k.others k.each) t.cookie.expires end;
          same = same_ok _ _ (once known (Ok t) _ g (known_reads s t.cookie.expires h end));
        }

pub known_lines : OneOutcome → OneDate → KnownLinesRead
known_lines once one line known read outcome k h g = known_outcome line known k once one read outcome h g

-- ---- one piece behind a pair

nothing_is : (bs : List (List ℕ)) (p : List ℕ) (after : List (List ℕ)) → ¬ ([] ≡ bs ++ p ∷ after)
nothing_is [] p after e = cc
nothing_is (b ∷ bs) p after e = cc

in_one : (piece : List ℕ) (before : List (List ℕ)) (p : List ℕ) (after : List (List ℕ))
    → piece ∷ [] ≡ before ++ p ∷ after → p ≡ piece
in_one piece [] p after e = cc
in_one piece (b ∷ bs) p after e = absurd (nothing_is bs p after (tails _ _ _ _ e))

the_pair : IsPair (codes "a=")
unfolding name_of trim_start trim_end chars encode
the_pair = (lit< tt, lit< tt)

one_end : (piece : List ℕ) (o : Option Expiration) → HasLast GivesEnd (piece ∷ []) o
    → (IsSome o → (d : DateTime) × Gives piece (Expires d)) × (((d : DateTime) × Gives piece (Expires d)) → IsSome o)
one_end piece None h =
    (λ some. absurd (cc some), λ g. absurd (All-head (Silent GivesEnd) piece [] h (At g.0) (g.0, g.1, refl)))
one_end piece (Some e) h =
    let (d, g, at) = subst (λ p. GivesEnd p e) (in_one piece h.before h.piece h.after h.split) h.given in
    (λ some. (d, g), λ any. refl)

module _ (piece text : List ℕ) (clean : IsClean piece) (is : text ≡ codes "a=;" ++ piece) where
  pair_clean : IsClean (codes "a=")
  pair_clean =
      All-cons (λ b. (b == semicolon) ≡ false) 97 (61 ∷ []) refl
      (All-cons (λ b. (b == semicolon) ≡ false) 61 [] refl (All-nil (λ b. (b == semicolon) ≡ false)))

  cut : pieces text ≡ codes "a=" ∷ piece ∷ []
  cut =
      ap pieces (is ∙ ap (λ t. codes "a=;" ++ t) (sym (append-nil piece)))
      ∙ pieces-joined (codes "a=") (piece ∷ []) pair_clean (clean, tt)

  -- it reads, and has the attributes of the piece alone
  pub lone_reads : (e : ParseError) → ¬ (ReadsPlain text (Err e))
  lone_reads e h =
      both_ways false refl (h.accepted.1 (subst IsPair (sym (first_is text (codes "a=") (piece ∷ []) cut)) the_pair))

  pub lone_piece : (s : Seen) → ReadsPlain text (Ok s) → HasAttributes (piece ∷ []) s.cookie
  lone_piece s h =
      let (rest, parts, attributes) = h.attributes in
      let same : rest ≡ piece ∷ [] = tails _ _ _ _ (sym parts ∙ cut) in
      subst (λ ps. HasAttributes ps s.cookie) same attributes

  pub strict_of : (r : Result Seen ParseError) → ReadsPlain text r
      → (HasEnd r → (d : DateTime) × Gives piece (Expires d)) × (((d : DateTime) × Gives piece (Expires d)) → HasEnd r)
  strict_of (Ok s) h = one_end piece s.cookie.expires (lone_piece s h).expires
  strict_of (Err e) h = absurd (lone_reads e h)

-- ---- a piece that is an Expires

pub loose_of : (r : Option DateTime) (piece text : List ℕ) → IsExpires piece text
    → ¬ ((d : DateTime) × Gives piece (Expires d))
    → MatchOption r ((d : Date) → ¬ (Shows text d)) (λ m. (d : Date) × Shows text d × IsMomentOf d m)
    → MatchOption r ((m : DateTime) → ¬ (HasLooseDate piece m)) (HasLooseDate piece)
loose_of None piece text is strict none = λ m h.
    none h.date (subst (λ t. Shows t h.date) (same_Some _ _ (sym h.is.value ∙ is.value)) h.shown)
loose_of (Some m) piece text is strict (d, shown, moment) = record {
  text = text;
  date = d;
  is = is;
  strict = λ e g. strict (e, g);
  shown = shown;
  moment = moment;
}

-- ---- piece by piece

pub joined_push : (old : List ℕ) (others : List (List ℕ)) (put : List ℕ)
    → joined_behind old (others ++ put ∷ []) ≡ (joined_behind old others ++ codes ";") ++ put
joined_push old others put =
    let f : List ℕ → List ℕ = λ piece. semicolon ∷ piece in
    ap (λ t. old ++ t) (flat_map-append f others (put ∷ []) ∙ ap (λ t. flat_map f others ++ t) (append-nil (f put)))
    ∙ sym (append_assoc old (flat_map f others) (f put))
    ∙ sym (append_assoc (old ++ flat_map f others) (codes ";") put)

pub known_push : (ps ks : List (List ℕ)) (p k : List ℕ) → Pairwise IsKnown ps ks → IsKnown p k
    → Pairwise IsKnown (ps ++ p ∷ []) (ks ++ k ∷ [])
known_push [] [] p k r one = (one, tt)
known_push [] (x ∷ ks) p k r one = absurd r
known_push (x ∷ ps) [] p k r one = absurd r
known_push (x ∷ ps) (y ∷ ks) p k r one = (r.0, known_push ps ks p k r.1 one)

pub line_of : (line first rest known : List ℕ) → position_or_len (λ b. b == semicolon) line < length line
    → first ≡ first_piece line → rest ≡ after_first (λ b. b == semicolon) line → PutsKnown rest first known
    → IsKnownLine line known
line_of line first rest known holds is_first is_rest (others, each, joined) = record {
  rest = pieces rest;
  others = others;
  cut = slice_split_first (λ b. b == semicolon) line 0 holds ∙ ap (λ q. first_piece line ∷ pieces q) (sym is_rest);
  each = each;
  joined = joined ∙ ap (λ f. joined_behind f others) is_first;
}

pub line_alone : (line : List ℕ) → position_or_len (λ b. b == semicolon) line ≡ length line → IsKnownLine line line
line_alone line none =
    let is_cut : ℕ → Bool = λ b. b == semicolon in
    let fails = All-from_get_or (λ b. is_cut b ≡ false) line 0
    (λ i within. fails_before_first is_cut line i 0 (omega arith)) in
    let whole : first_piece line ≡ line = take_all (position_or_len is_cut line) line (omega arith) in
    record {
      rest = [];
      others = [];
      cut = slice_split_none is_cut line fails ∙ ap (λ p. p ∷ []) (sym whole);
      each = tt;
      joined = sym whole ∙ sym (append-nil (first_piece line));
    }

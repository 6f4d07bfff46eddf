-- What a line whose life is cut reads as.
use Rattle.std.proofs.Common.{◌≡◌, ◌≢◌, ℕ, ℤ, pos, ◌<◌, ◌+ℤ◌, ◌*ℤ◌, ◌≤ℤ◌, ◌<ℤ◌, ◌==◌, Bool, false, List, []}
use Rattle.std.proofs.Common.{◌∷◌, ◌++◌, length, get_or, Option, Some, None, option_map, Result, Ok, Err, refl, sym, ap}
use Rattle.std.proofs.Common.{subst, ◌∙◌, inl, inr, arith, codes, lit<}
use Rattle.std.specs.Prelude.{int_lt, IfOk, IsOk, IsSomeAnd, MatchOption}
use Rattle.std.specs.Int.{int_min}
use Rattle.std.specs.List.{after_first, position_or_len}
use Rattle.std.specs.Str.{trim_start, trim_end, chars}
use lib.Utf8.{encode}
use Rattle.std.proofs.lemmas.Bool.{both_ways}
use Rattle.std.proofs.lemmas.Int.{by_lt_z, ints}
use Rattle.std.proofs.lemmas.List.{append-nil, take_all}
use Rattle.std.proofs.lemmas.List.Elements.{All-cons, All-from_get_or, All-head}
use Rattle.std.proofs.lemmas.List.Splits.{slice_split_first, slice_split_none}
use Rattle.std.proofs.lemmas.List.Sums.{fails_before_first}
use Rattle.jiff.specs.Types.{DateTime}
use Rattle.jiff_core.proofs.SignedLemmas.{signed_arith}
use Rattle.jiff_core.specs.DateTime.{IsCivilNanos, civil_nanos}
use Rattle.jiff.proofs.Family.{civil_nanos_range, same_datetime}
use Rattle.cookie_text.specs.Attribute.{Attribute, HttpOnly, Secure, Partitioned, OfSite, MaxAge, Path, Domain, Expires}
use Rattle.cookie_text.specs.Attribute.{Gives, kind, kind_name}
use Rattle.cookie_text.specs.declared.attribute.Kind.TheVariants as kinds
use Rattle.cookie_text.specs.declared.error.ParseError.{ParseError}
use Rattle.cookie_text.specs.declared.expiration.Expiration.{Expiration}
use Rattle.cookie_text.specs.declared.expiration.Expiration.TheVariants.{DateTime as At, Session}
use Rattle.cookie_text.specs.Normal.{whole_moment}
use Rattle.cookie_text.specs.Pieces.{semicolon, name_of, pieces, text_after, value_of}
use Rattle.cookie_text.specs.Printing.{attribute_text}
use Rattle.cookie_text.specs.Reading.{GivesAge, GivesDomain, GivesEnd, GivesFlag, GivesPath, GivesSite}
use Rattle.cookie_text.specs.Reading.{HasLast, HasRest, IsPair, ReadsPlain, ReadsWith, first_piece}
use Rattle.cookie_text.specs.ReadingBack.{Pairwise}
use Rattle.cookie_text.specs.Record.{Record, Seen, moment_of}
use Rattle.cookie_text.proofs.PrintedAttributes.{ReadsAs, clean_of, reads-Expires}
use Rattle.cookie_text.proofs.UniqueLemmas.{one_age, one_end}
use Rattle.store_parts.specs.Expiry.{seconds}
use Rattle.user_agent.specs.CutLives.{CutLinesRead, EndsPast, HasLongAge, IsBrief, IsBriefCookie, IsBriefer}
use Rattle.user_agent.specs.CutLives.{IsBrieferFor, IsCut, IsCutEnd, IsCutLine, IsLimit, IsLong, IsPast, PutsCut}
use Rattle.user_agent.specs.CutLives.{ReadsAsCut, longest}
use Rattle.user_agent.specs.KnownDates.{dated_piece, joined_behind}
use Rattle.user_agent.proofs.KnownLemmas.{OneOutcome, first_is, last_moves}
use Rattle.user_agent.proofs.PieceLemmas.{AreClean, IsClean, pieces-joined, pieces_clean}
use Rattle.user_agent.proofs.RelateLemmas.{Both, Silent, last_relates}

-- ---- the two pieces that are put

abbrev pub age_piece : List ℕ
age_piece = codes " Max-Age=34560000"

age_gives : Gives age_piece (MaxAge (pos longest))
unfolding name_of value_of text_after trim_start trim_end chars encode
age_gives = record { named = refl; says = (codes "34560000", refl, inl ((lit< tt, refl), refl)) }

space_clean : (text : List ℕ) → IsClean text → IsClean (32 ∷ text)
space_clean text h = All-cons (λ b. (b == semicolon) ≡ false) 32 text refl h

age_clean : IsClean age_piece
age_clean = clean_of age_piece refl

from_hundred : (z : ℤ) → pos 100 ≤ℤ z → int_lt z (pos 100) ≡ false
from_hundred z h = grind (arith, ints)

module _ (now : ℤ) (m : DateTime) (limit : IsLimit now m) where
  limit_reads : ReadsAs (Expires m)
  limit_reads = reads-Expires m (from_hundred m.date.year limit.written)

  pub limit_gives : Gives (dated_piece m) (Expires (whole_moment m))
  limit_gives = limit_reads.gives

  pub limit_clean : IsClean (dated_piece m)
  limit_clean = space_clean (attribute_text (Expires m)) limit_reads.clean

-- ---- a piece gives one attribute

pub one_kind : (p : List ℕ) (a b : Attribute) → Gives p a → Gives p b → kind_name (kind a) ≡ kind_name (kind b)
one_kind p a b g h = sym g.named ∙ h.named

letters : (n m : ℕ) → n ≢ m → (xs ys : List ℕ) → get_or xs 0 0 ≡ n → get_or ys 0 0 ≡ m → xs ≢ ys
letters n m apart xs ys x y e = apart (sym x ∙ ap (λ t. get_or t 0 0) e ∙ y)

pub age_end_apart : kind_name kinds.MaxAge ≢ kind_name kinds.Expires
age_end_apart e = letters 109 101 (λ h. omega (arith, h)) _ _ refl refl e

pub age_or_end : (z : ℤ) (d : DateTime) (p : List ℕ) → Gives p (MaxAge z) → ¬ (Gives p (Expires d))
age_or_end z d p g h = age_end_apart (one_kind p (MaxAge z) (Expires d) g h)

-- an attribute that says nothing of its life
abbrev pub IsOther : Attribute → Type 0
IsOther (MaxAge z) = ⊥
IsOther (Expires d) = ⊥
IsOther a = Unit {0}

pub other_age : (a : Attribute) → IsOther a → kind_name (kind a) ≢ kind_name kinds.MaxAge
other_age HttpOnly o e = letters 104 109 (λ h. omega (arith, h)) _ _ refl refl e
other_age Secure o e = letters 115 109 (λ h. omega (arith, h)) _ _ refl refl e
other_age Partitioned o e = letters 112 109 (λ h. omega (arith, h)) _ _ refl refl e
other_age (OfSite s) o e = letters 115 109 (λ h. omega (arith, h)) _ _ refl refl e
other_age (MaxAge z) o e = o
other_age (Path t) o e = letters 112 109 (λ h. omega (arith, h)) _ _ refl refl e
other_age (Domain t) o e = letters 100 109 (λ h. omega (arith, h)) _ _ refl refl e
other_age (Expires d) o e = o

pub other_end : (a : Attribute) → IsOther a → kind_name (kind a) ≢ kind_name kinds.Expires
other_end HttpOnly o e = letters 104 101 (λ h. omega (arith, h)) _ _ refl refl e
other_end Secure o e = letters 115 101 (λ h. omega (arith, h)) _ _ refl refl e
other_end Partitioned o e = letters 112 101 (λ h. omega (arith, h)) _ _ refl refl e
other_end (OfSite s) o e = letters 115 101 (λ h. omega (arith, h)) _ _ refl refl e
other_end (MaxAge z) o e = o
other_end (Path t) o e = letters 112 101 (λ h. omega (arith, h)) _ _ refl refl e
other_end (Domain t) o e = letters 100 101 (λ h. omega (arith, h)) _ _ refl refl e
other_end (Expires d) o e = o

not_age : (p : List ℕ) (a : Attribute) (z : ℤ) → IsOther a → Gives p (MaxAge z) → ¬ (Gives p a)
not_age p a z o g h = other_age a o (one_kind p a (MaxAge z) h g)

not_end : (p : List ℕ) (a : Attribute) (d : DateTime) → IsOther a → Gives p (Expires d) → ¬ (Gives p a)
not_end p a d o g h = other_end a o (one_kind p a (Expires d) h g)

-- ---- a piece and the piece in its place

module _ (now : ℤ) where
  forth : (p k : List ℕ) → IsCut now p k → (a : Attribute) → IsOther a → Gives p a → Gives k a
  forth p k (inl (long, is)) a o g = absurd (not_age p a long.0 o long.1 g)
  forth p k (inr (inl (m, ends, is))) a o g = absurd (not_end p a ends.date o ends.given g)
  forth p k (inr (inr (brief, near, same))) a o g = subst (λ q. Gives q a) (sym same) g

  back : (p k : List ℕ) → IsCut now p k → (a : Attribute) → IsOther a → Gives k a → Gives p a
  back p k (inl (long, is)) a o g =
      absurd (not_age age_piece a (pos longest) o age_gives (subst (λ q. Gives q a) is g))
  back p k (inr (inl (m, ends, is))) a o g =
      absurd (not_end (dated_piece m) a (whole_moment m) o (limit_gives now m ends.limit) (subst (λ q. Gives q a) is g))
  back p k (inr (inr (brief, near, same))) a o g = subst (λ q. Gives q a) same g

  -- the shorter age
  abbrev IsShorter : ℤ → ℤ → Type 0
  IsShorter nanos age = age ≡ int_min nanos (seconds longest)

  one_number : (p : List ℕ) (y z : ℤ) → Gives p (MaxAge y) → Gives p (MaxAge z)
      → y *ℤ pos 1_000_000_000 ≡ z *ℤ pos 1_000_000_000
  one_number p y z g h = one_age p _ _ (y, g, refl) (z, h, refl)

  over : (z : ℤ) (nanos : ℤ) → pos longest <ℤ z → nanos ≡ z *ℤ pos 1_000_000_000
      → seconds longest ≡ int_min nanos (seconds longest)
  over z nanos h e =
      let more : seconds longest <ℤ nanos = omega (arith, signed_arith, h, e) in
      grind (arith, ints, more)

  under : (z : ℤ) (nanos : ℤ) → ¬ (pos longest <ℤ z) → nanos ≡ z *ℤ pos 1_000_000_000
      → nanos ≡ int_min nanos (seconds longest)
  under z nanos h e =
      by_lt_z (pos longest) z (λ more. absurd (h more))
      (λ least. let less : nanos ≤ℤ seconds longest = omega (arith, signed_arith, least, e) in
      grind (arith, ints, less))

  age_given : (p k : List ℕ) → IsCut now p k → (nanos : ℤ) → GivesAge p nanos
      → (age : ℤ) × IsShorter nanos age × GivesAge k age
  age_given p k (inl (long, is)) nanos (z, g, e) =
      let same : nanos ≡ long.0 *ℤ pos 1_000_000_000 = e ∙ one_number p z long.0 g long.1 in (
        seconds longest,
        over long.0 nanos long.2 same,
        (pos longest, subst (λ q. Gives q (MaxAge (pos longest))) (sym is) age_gives, refl),
      )
  age_given p k (inr (inl (m, ends, is))) nanos (z, g, e) = absurd (age_or_end z ends.date p g ends.given)
  age_given p k (inr (inr (brief, near, same))) nanos (z, g, e) =
      (nanos, under z nanos (λ h. brief (z, g, h)) e, (z, subst (λ q. Gives q (MaxAge z)) (sym same) g, e))

  age_silent : (p k : List ℕ) → IsCut now p k → Silent GivesAge p → Silent GivesAge k
  age_silent p k (inl (long, is)) quiet nanos g = quiet _ (long.0, long.1, refl)
  age_silent p k (inr (inl (m, ends, is))) quiet nanos (z, g, e) =
      age_or_end z (whole_moment m) (dated_piece m) (subst (λ q. Gives q (MaxAge z)) is g)
      (limit_gives now m ends.limit)
  age_silent p k (inr (inr (brief, near, same))) quiet nanos (z, g, e) =
      quiet nanos (z, subst (λ q. Gives q (MaxAge z)) same g, e)

  -- the earlier end
  abbrev IsEarlier : Expiration → Expiration → Type 0
  IsEarlier e end = IsCutEnd now (Some e) (Some end)

  ends_at : (d e : DateTime) → ◌≡◌ {A = Expiration} (At d) (At e) → d ≡ e
  ends_at d e h = cc

  end_given : (p k : List ℕ) → IsCut now p k → (e : Expiration) → GivesEnd p e
      → (end : Expiration) × IsEarlier e end × GivesEnd k end
  end_given p k (inl (long, is)) e (d, g, at) = absurd (age_or_end long.0 d p long.1 g)
  end_given p k (inr (inl (m, ends, is))) e (d, g, at) =
      let same : ends.date ≡ d = ends_at _ _ (one_end p _ _ (ends.date, ends.given, refl) (d, g, refl)) in
      let late = subst (λ t. civil_nanos m <ℤ civil_nanos t) same ends.late in (
        At (whole_moment m),
        subst (λ x. IsEarlier x (At (whole_moment m))) (sym at) (inl (m, ends.limit, late, refl)),
        (
          whole_moment m,
          subst (λ q. Gives q (Expires (whole_moment m))) (sym is) (limit_gives now m ends.limit),
          refl,
        ),
      )
  end_given p k (inr (inr (brief, near, same))) e (d, g, at) = (
    At d,
    subst (λ x. IsEarlier x (At d)) (sym at)
        (inr (λ m limit late. near m (record { date = d; given = g; limit = limit; late = late }), refl)),
    (d, subst (λ q. Gives q (Expires d)) (sym same) g, refl),
  )

  end_silent : (p k : List ℕ) → IsCut now p k → Silent GivesEnd p → Silent GivesEnd k
  end_silent p k (inl (long, is)) quiet e (d, g, at) =
      age_or_end (pos longest) d age_piece age_gives (subst (λ q. Gives q (Expires d)) is g)
  end_silent p k (inr (inl (m, ends, is))) quiet e g = quiet (At ends.date) (ends.date, ends.given, refl)
  end_silent p k (inr (inr (brief, near, same))) quiet e (d, g, at) =
      quiet e (d, subst (λ q. Gives q (Expires d)) same g, at)

  -- ---- the pieces of the cut line

  cut_clean : (ps ks : List (List ℕ)) → Pairwise (IsCut now) ps ks → AreClean ps → AreClean ks
  cut_clean [] [] r h = tt
  cut_clean [] (k ∷ ks) r h = absurd r
  cut_clean (p ∷ ps) [] r h = absurd r
  cut_clean (p ∷ ps) (k ∷ ks) (inl (long, is), rs) h = (subst IsClean (sym is) age_clean, cut_clean ps ks rs h.1)
  cut_clean (p ∷ ps) (k ∷ ks) (inr (inl (m, ends, is)), rs) h =
      (subst IsClean (sym is) (limit_clean now m ends.limit), cut_clean ps ks rs h.1)
  cut_clean (p ∷ ps) (k ∷ ks) (inr (inr (brief, near, same)), rs) h =
      (subst IsClean (sym same) h.0, cut_clean ps ks rs h.1)

  tails : (a b : List ℕ) (xs ys : List (List ℕ)) → a ∷ xs ≡ b ∷ ys → xs ≡ ys
  tails a b xs ys h = cc

  shorter_age : (o q : Option ℤ) → Both IsShorter o q → q ≡ option_map (λ age. int_min age (seconds longest)) o
  shorter_age None None h = refl
  shorter_age None (Some b) h = absurd h
  shorter_age (Some a) None h = absurd h
  shorter_age (Some a) (Some b) h = ap Some h

  earlier_end : (o q : Option Expiration) → Both IsEarlier o q → IsCutEnd now o q
  earlier_end None None h = refl
  earlier_end None (Some b) h = absurd h
  earlier_end (Some a) None h = absurd h
  earlier_end (Some a) (Some b) h = h

  module _ (line cut : List ℕ) (k : IsCutLine now line cut) where
    cut_pieces : pieces cut ≡ first_piece line ∷ k.others
    cut_pieces =
        let clean : AreClean (first_piece line ∷ k.rest) = subst AreClean k.parts (pieces_clean line) in
        ap pieces k.joined ∙ pieces-joined (first_piece line) k.others clean.0
        (cut_clean k.rest k.others k.each clean.1)

    pub same_first : first_piece cut ≡ first_piece line
    same_first = first_is cut (first_piece line) k.others cut_pieces

    -- what it reads as, by the age and the end of the pieces in their places
    abbrev as_cut : Seen → Option ℤ → Option Expiration → Seen
    as_cut s age end = record s { cookie = record s.cookie { max_age = age; expires = end } }

    attributes_move : (s : Seen) (age : Option ℤ) (end : Option Expiration) → HasRest line s.cookie
        → HasLast GivesAge k.others age → HasLast GivesEnd k.others end → HasRest cut (as_cut s age end).cookie
    attributes_move s age end (rest, parts, h) is_age is_end =
        let same : rest ≡ k.rest = tails _ _ _ _ (sym parts ∙ k.parts) in
        let pairs : Pairwise (IsCut now) rest k.others =
        subst (λ ps. Pairwise (IsCut now) ps k.others) (sym same) k.each in
        let flag : (a : Attribute) → IsOther a → (o : Option Bool) → HasLast (GivesFlag a) rest o
        → HasLast (GivesFlag a) k.others o = λ a other o l. last_moves (GivesFlag a) (GivesFlag a) (IsCut now)
        (λ p q r b g. (forth p q r a other g.0, g.1)) (λ p q r quiet b g. quiet b (back p q r a other g.0, g.1)) rest
        k.others pairs o l in (
          k.others,
          cut_pieces ∙ ap (λ f. f ∷ k.others) (sym same_first),
          record {
            http_only = flag HttpOnly tt s.cookie.http_only h.http_only;
            secure = flag Secure tt s.cookie.secure h.secure;
            partitioned = flag Partitioned tt s.cookie.partitioned h.partitioned;
            same_site = last_moves GivesSite GivesSite (IsCut now) (λ p q r b g. forth p q r (OfSite b) tt g)
                (λ p q r quiet b g. quiet b (back p q r (OfSite b) tt g)) rest k.others pairs s.cookie.same_site
                h.same_site;
            max_age = is_age;
            path = last_moves GivesPath GivesPath (IsCut now) (λ p q r b g. forth p q r (Path b) tt g)
                (λ p q r quiet b g. quiet b (back p q r (Path b) tt g)) rest k.others pairs s.cookie.path h.path;
            domain = last_moves GivesDomain GivesDomain (IsCut now) (λ p q r b g. forth p q r (Domain b) tt g)
                (λ p q r quiet b g. quiet b (back p q r (Domain b) tt g)) rest k.others pairs s.cookie.domain h.domain;
            expires = is_end;
          },
        )

    not_empty : (name : List ℕ) → 0 < length name → name ≢ []
    not_empty name some none = let size : length name ≡ 0 = ap length none in omega (arith, some)

    cut_reads : (s : Seen) (age : Option ℤ) (end : Option Expiration) → ReadsPlain line (Ok s)
        → HasLast GivesAge k.others age → HasLast GivesEnd k.others end → ReadsPlain cut (Ok (as_cut s age end))
    cut_reads s age end plain is_age is_end =
        let h = subst (λ f. ReadsWith (HasRest line) f (Ok s)) (sym same_first) plain in
        let pair = h.accepted.0 refl in
        record {
          accepted = (λ _. pair, λ _. refl);
          name = h.name;
          value = h.value;
          attributes = attributes_move s age end h.attributes is_age is_end;
          raw = record { name = h.raw.name; value = h.raw.value; path = h.raw.path; domain = h.raw.domain };
          missing_pair = (λ is. cc, λ no. absurd (no pair.0));
          empty_name = (λ is. cc, λ both. absurd (not_empty _ pair.1 both.1));
        }

    cut_refused : (error : ParseError) → ReadsPlain line (Err error) → ReadsPlain cut (Err error)
    cut_refused error plain =
        let h = subst (λ f. ReadsWith (HasRest line) f (Err error)) (sym same_first) plain in
        record {
          accepted = h.accepted;
          name = tt;
          value = tt;
          attributes = tt;
          raw = tt;
          missing_pair = h.missing_pair;
          empty_name = h.empty_name;
        }

    same_ok : (s t : Seen) → ◌≡◌ {A = Result Seen ParseError} (Ok s) (Ok t) → s ≡ t
    same_ok s t e = cc

    pub cut_outcome : OneOutcome → (read outcome : Result Seen ParseError) → ReadsPlain line read
        → ReadsPlain cut outcome → ReadsAsCut now read outcome
    cut_outcome once (Err error) outcome h g = once cut outcome (Err error) g (cut_refused error h)
    cut_outcome once (Ok s) (Err error) h g =
        let pair = subst IsPair (sym same_first) (h.accepted.0 refl) in
        both_ways false refl (g.accepted.1 pair)
    cut_outcome once (Ok s) (Ok t) h g =
        let (rest, parts, attributes) = h.attributes in
        let same : rest ≡ k.rest = tails _ _ _ _ (sym parts ∙ k.parts) in
        let pairs : Pairwise (IsCut now) rest k.others =
        subst (λ ps. Pairwise (IsCut now) ps k.others) (sym same) k.each in
        let (age, is_age, last_age) = last_relates GivesAge GivesAge IsShorter (IsCut now) age_given age_silent rest
        k.others pairs s.cookie.max_age attributes.max_age in
        let (end, is_end, last_end) = last_relates GivesEnd GivesEnd IsEarlier (IsCut now) end_given end_silent rest
        k.others pairs s.cookie.expires attributes.expires in
        let read = same_ok _ _ (once cut (Ok t) (Ok (as_cut s age end)) g (cut_reads s age end h last_age last_end)) in
        record {
          end = end;
          is_end = earlier_end s.cookie.expires end is_end;
          same = read ∙ ap (λ o. as_cut s o end) (shorter_age s.cookie.max_age age is_age);
        }

pub cut_lines : OneOutcome → CutLinesRead
cut_lines once now line cut read outcome k h g = cut_outcome now line cut k once read outcome h g

-- ---- one piece behind a pair

nothing_is : (bs : List (List ℕ)) (p : List ℕ) (after : List (List ℕ)) → ¬ ([] ≡ bs ++ p ∷ after)
nothing_is [] p after e = cc
nothing_is (b ∷ bs) p after e = cc

in_one : (piece : List ℕ) (before : List (List ℕ)) (p : List ℕ) (after : List (List ℕ))
    → piece ∷ [] ≡ before ++ p ∷ after → p ≡ piece
in_one piece [] p after e = cc
in_one piece (b ∷ bs) p after e = absurd (nothing_is bs p after (tails (pos 0) _ _ _ _ e))

-- what a lone piece gives is the last
pub last_given : {A : Type 0} (gives : List ℕ → A → Type 0) (piece : List ℕ) (a : A)
    → HasLast gives (piece ∷ []) (Some a) → gives piece a
last_given gives piece a h = subst (λ p. gives p a) (in_one piece h.before h.piece h.after h.split) h.given

last_there : {A : Type 0} (gives : List ℕ → A → Type 0) (piece : List ℕ) (a : A) (o : Option A)
    → HasLast gives (piece ∷ []) o → gives piece a → (b : A) × (o ≡ Some b) × gives piece b
last_there gives piece a None h g = absurd (All-head (Silent gives) piece [] h a g)
last_there gives piece a (Some b) h g = (b, refl, last_given gives piece b h)

module _ (now : ℤ) (piece : List ℕ) (c : Record) (ages : HasLast GivesAge (piece ∷ []) c.max_age)
    (ends : HasLast GivesEnd (piece ∷ []) c.expires) where
  long_age : IsLong c → HasLongAge piece
  long_age h = by c.max_age ages h
    where
      by : (o : Option ℤ) → HasLast GivesAge (piece ∷ []) o → IsSomeAnd o (λ age. seconds longest <ℤ age)
          → HasLongAge piece
      by None l is = absurd is
      by (Some nanos) l is =
          let (z, g, e) = last_given GivesAge piece nanos l in (z, g, omega (arith, signed_arith, is, e))

  is_long : HasLongAge piece → IsLong c
  is_long (z, g, more) =
      let (nanos, is, (y, h, e)) = last_there GivesAge piece (z *ℤ pos 1_000_000_000) c.max_age ages (z, g, refl) in
      let same : nanos ≡ z *ℤ pos 1_000_000_000 = one_age piece _ _ (y, h, e) (z, g, refl) in
      let late : seconds longest <ℤ nanos = omega (arith, signed_arith, more, same) in
      subst (λ o. IsSomeAnd o (λ age. seconds longest <ℤ age)) (sym is) late

  ends_past : (m : DateTime) → IsPast now c m → EndsPast now piece m
  ends_past m (limit, late) = by c.expires ends late
    where
      by : (o : Option Expiration) → HasLast GivesEnd (piece ∷ []) o
          → IsSomeAnd (moment_of o) (λ end. civil_nanos m <ℤ civil_nanos end) → EndsPast now piece m
      by None l past = absurd past
      by (Some Session) l past = absurd past
      by (Some (At d)) l past =
          let (e, g, at) = last_given GivesEnd piece (At d) l in
          let same : d ≡ e = ends_at now d e at in
          record { date = e; given = g; limit = limit; late = subst (λ t. civil_nanos m <ℤ civil_nanos t) same past }

  is_past : (m : DateTime) → EndsPast now piece m → IsPast now c m
  is_past m h =
      let (e, is, (d, g, at)) = last_there GivesEnd piece (At h.date) c.expires ends (h.date, h.given, refl) in
      let same : d ≡ h.date = ends_at now d h.date (one_end piece _ _ (d, g, refl) (h.date, h.given, refl)) in
      let found : c.expires ≡ Some (At h.date) = is ∙ ap Some (at ∙ ap At same) in
      (h.limit, subst (λ o. IsSomeAnd (moment_of o) (λ end. civil_nanos m <ℤ civil_nanos end)) (sym found) h.late)

  pub briefer_piece : (cut : List ℕ) → IsBrieferFor now c cut → IsBriefer now piece cut
  briefer_piece cut (inl (long, is)) = inl (long_age long, is)
  briefer_piece cut (inr (m, past, is)) = inr (m, ends_past m past, is)

  pub brief_piece : IsBriefCookie now c → IsBrief now piece
  brief_piece (short, near) = (λ long. short (is_long long), λ m past. near m (is_past m past))

  pub briefed : {S E : Type 0} (bytes : S → List ℕ) (r : Result (Option S) E)
      → IfOk r (λ found. MatchOption found (IsBriefCookie now c) (λ brief. IsBrieferFor now c (bytes brief)))
      → IfOk r (λ found. MatchOption found (IsBrief now piece) (λ brief. IsBriefer now piece (bytes brief)))
  briefed bytes (Err e) h = tt
  briefed bytes (Ok None) h = brief_piece h
  briefed bytes (Ok (Some brief)) h = briefer_piece (bytes brief) h

-- ---- the limit

not_ok : {A E : Type 0} (r : Result A E) → ((x : A) → ¬ (r ≡ Ok x)) → ¬ (IsOk r)
not_ok (Ok x) h is = h x refl
not_ok (Err e) h is = absurd (cc is)

-- no moment of the calendar is the limit that isn't one
pub no_limit : {A E : Type 0} (now n : ℤ) (r : Result A E) → n ≡ seconds longest → ((x : A) → ¬ (r ≡ Ok x))
    → (IsCivilNanos (now +ℤ n) → IsOk r) → (m : DateTime) → ¬ (IsLimit now m)
no_limit now n r is failed fits m h =
    not_ok r failed (fits (subst IsCivilNanos (h.moment ∙ ap (λ k. now +ℤ k) (sym is)) (civil_nanos_range m)))

pub early_limit : (now : ℤ) (limit : DateTime) → civil_nanos limit ≡ now +ℤ seconds longest
    → limit.date.year <ℤ pos 100 → (m : DateTime) → ¬ (IsLimit now m)
early_limit now limit is early m h =
    let late : pos 100 ≤ℤ limit.date.year =
    subst (λ d. pos 100 ≤ℤ d.date.year) (same_datetime m limit (h.moment ∙ sym is)) h.written in
    omega (arith, signed_arith, early, late)

-- ---- piece by piece

pub cut_of : (now : ℤ) (piece cut : List ℕ) → IsBriefer now piece cut → IsCut now piece cut
cut_of now piece cut (inl long) = inl long
cut_of now piece cut (inr past) = inr (inl past)

pub cut_push : (now : ℤ) (ps ks : List (List ℕ)) (p k : List ℕ) → Pairwise (IsCut now) ps ks → IsCut now p k
    → Pairwise (IsCut now) (ps ++ p ∷ []) (ks ++ k ∷ [])
cut_push now [] [] p k r one = (one, tt)
cut_push now [] (x ∷ ks) p k r one = absurd r
cut_push now (x ∷ ps) [] p k r one = absurd r
cut_push now (x ∷ ps) (y ∷ ks) p k r one = (r.0, cut_push now ps ks p k r.1 one)

pub cut_line_of : (now : ℤ) (line first rest cut : List ℕ)
    → position_or_len (λ b. b == semicolon) line < length line → first ≡ first_piece line
    → rest ≡ after_first (λ b. b == semicolon) line → PutsCut now rest first cut → IsCutLine now line cut
cut_line_of now line first rest cut holds is_first is_rest (others, each, joined) = record {
  rest = pieces rest;
  others = others;
  parts = slice_split_first (λ b. b == semicolon) line 0 holds ∙ ap (λ q. first_piece line ∷ pieces q) (sym is_rest);
  each = each;
  joined = joined ∙ ap (λ f. joined_behind f others) is_first;
}

pub cut_line_alone : (now : ℤ) (line : List ℕ) → position_or_len (λ b. b == semicolon) line ≡ length line
    → IsCutLine now line line
cut_line_alone now line none =
    let is_cut : ℕ → Bool = λ b. b == semicolon in
    let fails = All-from_get_or (λ b. is_cut b ≡ false) line 0
    (λ i within. fails_before_first is_cut line i 0 (omega arith)) in
    let whole : first_piece line ≡ line = take_all (position_or_len is_cut line) line (omega arith) in
    record {
      rest = [];
      others = [];
      parts = slice_split_none is_cut line fails ∙ ap (λ p. p ∷ []) (sym whole);
      each = tt;
      joined = sym whole ∙ sym (append-nil (first_piece line));
    }

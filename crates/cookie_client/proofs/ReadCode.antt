-- What the code reads of a piece of a header.
use Rattle.std.proofs.Common.{◌≡◌, ◌≢◌, ℕ, ◌<◌, Bool, true, false, ltb, List, [], ◌∷◌, ◌++◌, length, take, get_or, suc}
use Rattle.std.proofs.Common.{sym, refl, ap, ◌∙◌, subst, ⊎_elim, arith, All, Option, Some, None, Ok, Err, append-nil}
use Rattle.std.proofs.Common.{append_assoc}
use Rattle.std.specs.Prelude.{◌==◌, ◌+◌, map, IsOkUnless, IsTrue}
use Rattle.std.specs.Borrow.{Bor}
use Rattle.std.specs.List.{AllByRecursion, filter_map, slice_split, onto_first, before_first, position_or_len}
use Rattle.std.specs.Option.{option_to_list}
use Rattle.std.specs.Str.{is_utf8, IsUtf8}
use Rattle.std.proofs.lemmas.Bool.{cases_Bool, cond-true, cond-false, ltb-true}
use Rattle.std.proofs.lemmas.Bool.Decides.{nat_tests}
use Rattle.std.proofs.lemmas.List.{map_more}
use Rattle.std.proofs.lemmas.List.Elements.{All-from_recursion}
use Rattle.std.proofs.lemmas.List.Splits.{slice_split_none}
use Rattle.std.proofs.lemmas.Str.{is_utf8-from_IsUtf8, IsUtf8-from_is_utf8}
use Rattle.percent_encoding.specs.Percent.{percent_decode}
use Rattle.cookie_text.specs.declared.error.ParseError.{ParseError}
use Rattle.cookie_text.specs.declared.error.ParseError.TheVariants.{OutOfMemory}
use Rattle.cookie_text.specs.Decoding.{ReadsEncoded, AreUtf8}
use Rattle.cookie_text.specs.Pieces.{semicolon, equals, pieces, HasEquals, name_of, text_after, value_of}
use Rattle.cookie_text.specs.Reading.{HasAttributes, HasLast, IsPair, first_piece}
use Rattle.cookie_text.specs.Record.{Record, Seen, bare}
use Rattle.cookie_client.specs.Reading.{GivesBy, GiveBy, AreCookiesBy, Reads, passes_over}
use Rattle.cookie_client.proofs.HeaderCookies.{cookie_by, cookies_by, decoded, pair_in, shown_by}

-- ---- a text without a semicolon

abbrev pub IsClean : List ℕ → Type 0
IsClean text = All (λ b. (b == semicolon) ≡ false) text

first_split : (p : ℕ → Bool) (xs : List ℕ) → (rest : List (List ℕ)) × (slice_split p xs ≡ before_first p xs ∷ rest)
first_split p [] = ([], refl)
first_split p (x ∷ xs) =
    let more = first_split p xs in
    ⊎_elim
    (λ (yes : p x ≡ true). (slice_split p xs, rw yes refl))
    (λ (no : p x ≡ false).
    let next : 1 + position_or_len p xs ≡ suc (position_or_len p xs) = omega arith in
    (more.0, rw (no, next) (ap (onto_first x) more.1)))
    (cases_Bool (p x))

first_of : (x y : List ℕ) (xs ys : List (List ℕ)) → x ∷ xs ≡ y ∷ ys → x ≡ y
first_of x y xs ys e = cc

rest_of : (x y : List ℕ) (xs ys : List (List ℕ)) → x ∷ xs ≡ y ∷ ys → xs ≡ ys
rest_of x y xs ys e = cc

whole : (text : List ℕ) → IsClean text → pieces text ≡ text ∷ []
whole text clean = slice_split_none (λ b. b == semicolon) text clean

first_is : (text : List ℕ) → IsClean text → first_piece text ≡ text
first_is text clean = let f = first_split (λ b. b == semicolon) text in first_of _ _ f.0 [] (sym f.1 ∙ whole text clean)

-- ---- no attribute of no piece

not_in_none : (before after : List (List ℕ)) (piece : List ℕ) → [] ≡ before ++ piece ∷ after → ⊥
not_in_none [] after piece e = cc
not_in_none (b ∷ before) after piece e = cc

none_last : {A : Type 0} (gives : List ℕ → A → Type 0) (o : Option A) → HasLast gives [] o → o ≡ None
none_last gives None h = refl
none_last gives (Some a) h = absurd (not_in_none h.before h.after h.piece h.split)

bare_is : (r : Record) → HasAttributes [] r → r ≡ bare r.name r.value
bare_is r h = λ i. record {
  name = r.name;
  value = r.value;
  http_only = none_last _ r.http_only h.http_only i;
  secure = none_last _ r.secure h.secure i;
  partitioned = none_last _ r.partitioned h.partitioned i;
  same_site = none_last _ r.same_site h.same_site i;
  max_age = none_last _ r.max_age h.max_age i;
  path = none_last _ r.path h.path i;
  domain = none_last _ r.domain h.domain i;
  expires = none_last _ r.expires h.expires i;
}

-- ---- what is read of a piece

value_there : (text : List ℕ) → HasEquals text → value_of text ≡ Some (text_after text)
unfolding value_of
value_there text h =
    let t : ltb (position_or_len (λ b. b == equals) text) (length text) ≡ true = grind (arith, nat_tests, h) in
    cond-true _ _ _ t

value_missing : (text : List ℕ) → ltb (position_or_len (λ b. b == equals) text) (length text) ≡ false
    → value_of text ≡ None
unfolding value_of
value_missing text h = cond-false _ _ _ h

pair_some : (n v : List ℕ) → 0 < length n → pair_in n (Some v) ≡ decoded n v
pair_some [] v h = absurd (omega (arith, h))
pair_some (b ∷ bs) v h = refl

decoded_some : (n v : List ℕ) → AreUtf8 n v → decoded n v ≡ Some (bare (percent_decode n) (percent_decode v))
decoded_some n v u = rw (is_utf8-from_IsUtf8 (percent_decode n) u.0, is_utf8-from_IsUtf8 (percent_decode v) u.1) refl

piece_read : (text : List ℕ) (s : Seen) → IsClean text → ReadsEncoded text (Ok s)
    → pair_in (name_of text) (value_of text) ≡ Some s.cookie
piece_read text s clean reads =
    let first = first_is text clean in
    let fit = reads.accepted refl in
    let pair = subst IsPair first fit.0 in
    let texts : AreUtf8 (name_of text) (text_after text) = subst
    (λ t. AreUtf8 (name_of t) (text_after t)) first fit.1 in
    let rest = reads.attributes in
    let none : rest.0 ≡ [] = rest_of _ _ rest.0 [] (sym rest.1 ∙ whole text clean) in
    let attributes : HasAttributes [] s.cookie = subst (λ ps. HasAttributes ps s.cookie) none rest.2 in
    let name : s.cookie.name ≡ percent_decode (name_of text) = reads.decoded.name
    ∙ ap (λ t. percent_decode (name_of t)) first in
    let value : s.cookie.value ≡ percent_decode (text_after text) = reads.decoded.value
    ∙ ap (λ t. percent_decode (text_after t)) first in
    ap (pair_in (name_of text)) (value_there text pair.0)
    ∙ (pair_some (name_of text) (text_after text) pair.1 ∙ decoded_some (name_of text) (text_after text) texts)
    ∙ sym (ap Some (bare_is s.cookie attributes ∙ λ i. bare (name i) (value i)))

-- a piece that doesn't
pair_none : (text : List ℕ) → ¬ (IsPair text × AreUtf8 (name_of text) (text_after text))
    → pair_in (name_of text) (value_of text) ≡ None
pair_none text h =
    ⊎_elim
    (λ (there : ltb (position_or_len (λ b. b == equals) text) (length text) ≡ true).
    let has : HasEquals text = ltb-true _ _ there in
    ap (pair_in (name_of text)) (value_there text has) ∙ unread (name_of text) (text_after text)
    (λ some texts. h ((has, some), texts)))
    (λ (none : ltb (position_or_len (λ b. b == equals) text) (length text) ≡ false). ap (pair_in (name_of text))
    (value_missing text none))
    (cases_Bool _)
  where
    undecoded : (n v : List ℕ) → ¬ (AreUtf8 n v) → decoded n v ≡ None
    undecoded n v h =
        ⊎_elim
        (λ (en : is_utf8 (percent_decode n) ≡ true).
        ⊎_elim
        (λ (ev : is_utf8 (percent_decode v) ≡ true). absurd (h (IsUtf8-from_is_utf8 _ en, IsUtf8-from_is_utf8 _ ev)))
        (λ (ev : is_utf8 (percent_decode v) ≡ false). rw (en, ev) refl)
        (cases_Bool (is_utf8 (percent_decode v))))
        (λ (en : is_utf8 (percent_decode n) ≡ false). rw en refl)
        (cases_Bool (is_utf8 (percent_decode n)))

    unread : (n v : List ℕ) → (0 < length n → AreUtf8 n v → ⊥) → pair_in n (Some v) ≡ None
    unread [] v h = refl
    unread (b ∷ bs) v h = undecoded (b ∷ bs) v (h (omega arith))

piece_unread : (b : Bool) (text : List ℕ) (e : ParseError) → e ≢ OutOfMemory → IsClean text → IsUtf8 text
    → ReadsEncoded text (Err e) → None ≡ cookie_by b text
piece_unread b text e other clean utf8 reads =
    let first = first_is text clean in
    let unfit : ¬ (IsPair text × AreUtf8 (name_of text) (text_after text)) = λ p.
    other (error_is e (reads.owed (subst IsPair (sym first) p.0)
    (subst (λ t. AreUtf8 (name_of t) (text_after t)) (sym first) p.1))) in
    sym (cond-true _ _ _ (is_utf8-from_IsUtf8 text utf8) ∙ ap (shown_by b text) (pair_none text unfit))
  where
    error_is : (e : ParseError) → IsOkUnless {T = Seen} (Err e) OutOfMemory → e ≡ OutOfMemory
    error_is e h = h

-- ---- the pieces of a header

clean_front : (p : ℕ → Bool) (x : ℕ) (parts : List (List ℕ)) → p x ≡ false
    → AllByRecursion (λ t. AllByRecursion (λ b. p b ≡ false) t) parts
    → AllByRecursion (λ t. AllByRecursion (λ b. p b ≡ false) t) (onto_first x parts)
clean_front p x [] e h = ((e, tt), tt)
clean_front p x (t ∷ ts) e h = ((e, h.0), h.1)

parts_clean : (p : ℕ → Bool) (xs : List ℕ) → AllByRecursion (λ t. AllByRecursion (λ b. p b ≡ false) t)
    (slice_split p xs)
parts_clean p [] = (tt, tt)
parts_clean p (x ∷ xs) =
    ⊎_elim
    (λ (yes : p x ≡ true). rw yes (tt, parts_clean p xs))
    (λ (no : p x ≡ false). rw no (clean_front p x (slice_split p xs) no (parts_clean p xs)))
    (cases_Bool (p x))

all_clean : (parts : List (List ℕ)) → AllByRecursion (λ t. AllByRecursion (λ b. (b == semicolon) ≡ false) t) parts
    → AllByRecursion IsClean parts
all_clean [] h = tt
all_clean (t ∷ ts) h = (All-from_recursion (λ b. (b == semicolon) ≡ false) t h.0, all_clean ts h.1)

-- what is computed of a piece that reads
piece_shown : (b : Bool) (piece : List ℕ) (c : Record) → IsClean piece → IsUtf8 piece → Reads piece c
    → cookie_by b piece ≡ shown_by b piece (Some c)
piece_shown b piece c clean utf8 r =
    cond-true _ _ _ (is_utf8-from_IsUtf8 piece utf8)
    ∙ ap (shown_by b piece) (piece_read piece r.0 clean r.1 ∙ ap Some r.2)

-- a piece that gives something gives what is computed
gives_is : (b : Bool) (piece : List ℕ) (o : Option Record) → IsClean piece → GivesBy b piece o → o ≡ cookie_by b piece
gives_is b piece (Some c) clean g = sym (piece_shown b piece c clean g.0 g.1 ∙ cond-false _ _ _ g.2)
gives_is b piece None clean g =
    ⊎_elim
    (λ (yes : is_utf8 piece ≡ true).
    let utf8 = IsUtf8-from_is_utf8 piece yes in
    ⊎_elim
    (λ (refused : (e : ParseError) × (e ≢ OutOfMemory) × ReadsEncoded piece (Err e)).
    piece_unread b piece refused.0 refused.1 clean utf8 refused.2)
    (λ (hidden : (c : Record) × Reads piece c × IsTrue (passes_over b piece c.name)).
    sym (piece_shown b piece hidden.0 clean utf8 hidden.1 ∙ cond-true _ _ _ hidden.2))
    (g utf8))
    (λ (no : is_utf8 piece ≡ false). sym (cond-false _ _ _ no))
    (cases_Bool (is_utf8 piece))

first_given : (b : Bool) (o : Option Record) (piece : List ℕ) (rest : List (List ℕ)) → o ≡ cookie_by b piece
    → option_to_list o ++ filter_map (cookie_by b) rest ≡ filter_map (cookie_by b) (piece ∷ rest)
first_given b None piece rest e = rw (sym e) refl
first_given b (Some c) piece rest e = rw (sym e) refl

give_are : (b : Bool) (ps : List (List ℕ)) (cs : List Record) → AllByRecursion IsClean ps → GiveBy b ps cs
    → cs ≡ filter_map (cookie_by b) ps
give_are b [] cs clean g = g
give_are b (p ∷ ps) cs clean g =
    g.4 ∙ (ap (λ x. option_to_list g.0 ++ x) (give_are b ps g.1 clean.1 g.3)
    ∙ first_given b g.0 p ps (gives_is b p g.0 clean.0 g.2))

-- the cookies of a header are those that are computed
pub cookies_are : (b : Bool) (header : List ℕ) (cs : List Record) → AreCookiesBy b header cs
    → cs ≡ cookies_by b header
cookies_are b header cs g = give_are b (pieces header) cs (all_clean (pieces header)
    (parts_clean (λ b. b == semicolon) header)) g

-- ---- the pieces in turn

pub give_none : (b : Bool) → GiveBy b [] []
give_none b = refl

give_push : (b : Bool) (ps : List (List ℕ)) (p : List ℕ) (cs : List Record) (o : Option Record) → GiveBy b ps cs
    → GivesBy b p o → GiveBy b (ps ++ p ∷ []) (cs ++ option_to_list o)
give_push b [] p cs o g h = (o, [], h, refl, ap (λ x. x ++ option_to_list o) g ∙ sym (append-nil (option_to_list o)))
give_push b (q ∷ qs) p cs o g h = (
  g.0,
  g.1 ++ option_to_list o,
  g.2,
  give_push b qs p g.1 o g.3 h,
  ap (λ x. x ++ option_to_list o) g.4
      ∙ append_assoc (option_to_list g.0) g.1 (option_to_list o),
)

pub give_more : (b : Bool) (xs : List (Bor (List ℕ))) (i : ℕ) (d : Bor (List ℕ)) (cs : List Record)
    (o : Option Record) → i < length xs → GiveBy b (map (λ x. x.now) (take i xs)) cs → GivesBy b (get_or xs i d).now o
    → GiveBy b (map (λ x. x.now) (take (i + 1) xs)) (cs ++ option_to_list o)
give_more b xs i d cs o h g one =
    subst (λ ps. GiveBy b ps (cs ++ option_to_list o)) (sym (map_more (λ x. x.now) xs i d h))
    (give_push b (map (λ x. x.now) (take i xs)) (get_or xs i d).now cs o g one)

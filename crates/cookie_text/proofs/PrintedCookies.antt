-- The pieces of a whole printed cookie, and the attributes that they give.
use Rattle.std.proofs.Common.{◌≡◌, ℕ, ◌==◌, Bool, true, false, List, [], ◌∷◌, ◌++◌, length, Option, Some, None}
use Rattle.std.proofs.Common.{option_map, IfSome, refl, ap, subst, ◌∙◌, arith, take_at}
use Rattle.std.specs.List.{All, position_or_len}
use Rattle.std.specs.Str.{trim}
use Rattle.std.proofs.lemmas.Bool.Decides.{nat_tests}
use Rattle.std.proofs.lemmas.List.Elements.{All-cons, All-head, All-tail, All-append, All-weaker}
use Rattle.jiff.specs.Types.{DateTime}
use Rattle.cookie_text.specs.declared.expiration.Expiration.{Expiration}
use Rattle.cookie_text.specs.declared.expiration.Expiration.TheVariants.{DateTime as At, Session}
use Rattle.cookie_text.specs.Pieces.{semicolon, equals, pieces, name_of}
use Rattle.cookie_text.specs.Record.{Record, bare}
use Rattle.cookie_text.specs.Attribute.{Attribute, Expires, Gives}
use Rattle.cookie_text.specs.Reading.{HasAttributes}
use Rattle.cookie_text.specs.Printing.{attribute_text, flag, end_of, attributes_of, printed, stripped}
use Rattle.cookie_text.specs.Normal.{normal}
use Rattle.cookie_text.proofs.PrintedPieces.{IsClean, AreClean, split-joined, IsPlain, trim-graphic, IsGraphic}
use Rattle.cookie_text.proofs.NormalLemmas.{pieces_of, printed_pieces, AllRead, settled, HasAttributes-options}
use Rattle.cookie_text.proofs.NormalLemmas.{with_options-attributes_of}

-- P holds of each attribute that is there
abbrev pub AllThere : (Attribute → Type 0) → List (Option Attribute) → Type 0
AllThere P [] = Unit {0}
AllThere P (None ∷ os) = AllThere P os
AllThere P (Some a ∷ os) = P a × AllThere P os

pub there_flag : (P : Attribute → Type 0) (b : Bool) (a : Attribute) (os : List (Option Attribute)) → P a
    → AllThere P os → AllThere P (flag b a ∷ os)
there_flag P true a os h all = (h, all)
there_flag P false a os h all = all

pub there_option : {A : Type 0} (P : Attribute → Type 0) (f : A → Attribute) (o : Option A)
    (os : List (Option Attribute)) → IfSome o (λ x. P (f x)) → AllThere P os → AllThere P (option_map f o ∷ os)
there_option P f None os h all = all
there_option P f (Some x) os h all = (h, all)

pub there_end : (P : Attribute → Type 0) (o : Option Expiration) (os : List (Option Attribute))
    → ((d : DateTime) → o ≡ Some (At d) → P (Expires d)) → AllThere P os → AllThere P (end_of o ∷ os)
there_end P None os h all = all
there_end P (Some Session) os h all = all
there_end P (Some (At d)) os h all = (h d refl, all)

all_read : (os : List (Option Attribute)) → AllThere (λ a. Gives (32 ∷ attribute_text a) (settled a)) os → AllRead os
all_read [] h = tt
all_read (None ∷ os) h = all_read os h
all_read (Some a ∷ os) h = (h.0, all_read os h.1)

pub all_clean : (os : List (Option Attribute)) → AllThere (λ a. IsClean (attribute_text a)) os → AreClean (pieces_of os)
all_clean [] h = tt
all_clean (None ∷ os) h = all_clean os h
all_clean (Some a ∷ os) h =
    (All-cons (λ b. (b == semicolon) ≡ false) 32 (attribute_text a) refl h.0, all_clean os h.1)

-- the cut of a pair whose name has no `=`
pub cut_at_equals : (n v : List ℕ) → All IsPlain n → position_or_len (λ b. b == equals) (n ++ equals ∷ v) ≡ length n
cut_at_equals [] v h = refl
cut_at_equals (b ∷ n) v h =
    let other : (b == equals) ≡ false = let p = All-head IsPlain b n h in grind (arith, nat_tests, p.2) in
    rw (other, cut_at_equals n v (All-tail IsPlain b n h)) (omega arith)

pub trim_plain : (n : List ℕ) → All IsPlain n → trim n ≡ n
trim_plain n h = trim-graphic n (All-weaker IsPlain IsGraphic (λ b p. p.0) n h)

pub name_of-pair : (n v : List ℕ) → All IsPlain n → name_of (n ++ equals ∷ v) ≡ n
unfolding name_of
name_of-pair n v h = rw (cut_at_equals n v h, take_at n (equals ∷ v) (length n) refl) (trim_plain n h)

pub IsClean-plain : (n : List ℕ) → All IsPlain n → IsClean n
IsClean-plain n h = All-weaker IsPlain (λ b. (b == semicolon) ≡ false) (λ b p. grind (arith, nat_tests, p.1)) n h

pub IsClean-pair : (n v : List ℕ) → IsClean n → IsClean v → IsClean (n ++ equals ∷ v)
IsClean-pair n v hn hv =
    All-append (λ b. (b == semicolon) ≡ false) n (equals ∷ v) hn
    (All-cons (λ b. (b == semicolon) ≡ false) equals v refl hv)

-- The pieces of the printed text of a cookie with an escaped pair, and what they give, where each attribute
-- that is printed reads back and holds no semicolon.
pub printed-pieces : (r : Record) → All IsPlain r.name → All IsPlain r.value
    → AllThere (λ a. IsClean (attribute_text a)) (attributes_of r)
    → pieces (printed r) ≡ stripped r ∷ pieces_of (attributes_of r)
printed-pieces r name value clean =
    ap (λ t. pieces (stripped r ++ t)) (printed_pieces (attributes_of r))
    ∙ split-joined (stripped r) (pieces_of (attributes_of r))
    (IsClean-pair r.name r.value (IsClean-plain r.name name) (IsClean-plain r.value value))
    (all_clean (attributes_of r) clean)

pub printed-attributes : (r : Record) → HasAttributes [] (bare r.name r.value)
    → AllThere (λ a. Gives (32 ∷ attribute_text a) (settled a)) (attributes_of r)
    → HasAttributes (pieces_of (attributes_of r)) (normal r)
printed-attributes r none reads =
    subst (HasAttributes (pieces_of (attributes_of r))) (with_options-attributes_of r)
    (HasAttributes-options (attributes_of r) [] (bare r.name r.value) (all_read (attributes_of r) reads) none)

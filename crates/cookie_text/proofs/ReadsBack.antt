-- The escaped text of a cookie reads back.
use Rattle.std.proofs.Common.{◌≡◌, ℕ, ◌+◌, ◌<◌, ◌==◌, Bool, false, List, [], ◌∷◌, ◌++◌, length, drop, Option, Some}
use Rattle.std.proofs.Common.{None, option_map, ℤ, IfSome, IfOk, Result, Ok, Err, refl, sym, ap, subst, ◌∙◌, arith}
use Rattle.std.proofs.Common.{take_at, drop_at, append_assoc}
use Rattle.std.proofs.lemmas.List.{length-append}
use Rattle.std.proofs.lemmas.List.Elements.{All-nil, All-head, All-tail}
use Rattle.std.specs.List.{All, flat_map, position_or_len}
use Rattle.jiff_core.specs.Timestamp.{IsDurationNanos}
use Rattle.jiff.specs.Types.{DateTime}
use Rattle.cookie_text.proofs.EscapeLemmas.{escaped_nonempty}
use Rattle.cookie_text.specs.declared.error.ParseError.{ParseError}
use Rattle.cookie_text.specs.declared.expiration.Expiration.{Expiration}
use Rattle.cookie_text.specs.declared.expiration.Expiration.TheVariants.{DateTime as At}
use Rattle.cookie_text.specs.declared.draft.SameSite.{SameSite}
use Rattle.cookie_text.specs.Attribute.{Attribute, HttpOnly, Secure, Partitioned, OfSite, MaxAge, Path, Domain, Expires}
use Rattle.cookie_text.specs.Normal.{normal, IsReadable, IsPiece, is_short_year}
use Rattle.cookie_text.specs.Pieces.{semicolon, equals, pieces, name_of, text_after}
use Rattle.cookie_text.specs.Printing.{attributes_of, encoded, encoded_pair, escaped, stripped, is_set, prints_secure}
use Rattle.cookie_text.specs.Printing.{whole_seconds}
use Rattle.cookie_text.specs.Reading.{GivesFlag, GivesSite, GivesAge, GivesPath, GivesDomain, GivesEnd, HasAttributes}
use Rattle.cookie_text.specs.Reading.{IsPair, ReadsPlain, first_piece}
use Rattle.cookie_text.specs.ReadingBack.{ReadsBack}
use Rattle.cookie_text.specs.Record.{Record, Seen, bare, domain_of}
use Rattle.cookie_text.proofs.NormalLemmas.{pieces_of, printed_pieces}
use Rattle.cookie_text.proofs.PrintedAttributes.{ReadsAs, reads-HttpOnly, reads-Secure, reads-Partitioned}
use Rattle.cookie_text.proofs.PrintedAttributes.{reads-SameSite, reads-Path, reads-Domain, reads-MaxAge, reads-Expires}
use Rattle.cookie_text.proofs.PrintedAttributes.{whole_seconds_fit}
use Rattle.cookie_text.proofs.PrintedPieces.{IsClean, IsPlain, All-IsPlain-escaped}
use Rattle.cookie_text.proofs.PrintedCookies.{AllThere, there_flag, there_option, there_end, name_of-pair}
use Rattle.cookie_text.proofs.PrintedCookies.{cut_at_equals, trim_plain, IsClean-plain, IsClean-pair, printed-pieces}
use Rattle.cookie_text.proofs.PrintedCookies.{printed-attributes}
use Rattle.cookie_text.proofs.UniqueLemmas.{same_record}

IfSome_map : {A : Type 0} (P Q : A → Type 0) → ((x : A) → P x → Q x) → (o : Option A) → IfSome o P → IfSome o Q
IfSome_map P Q f None h = h
IfSome_map P Q f (Some x) h = f x h

every : {A : Type 0} (P : A → Type 0) → ((x : A) → P x) → (o : Option A) → IfSome o P
every P f None = tt
every P f (Some x) = f x

there_map : (P Q : Attribute → Type 0) → ((a : Attribute) → P a → Q a) → (os : List (Option Attribute)) → AllThere P os
    → AllThere Q os
there_map P Q f [] h = tt
there_map P Q f (None ∷ os) h = there_map P Q f os h
there_map P Q f (Some a ∷ os) h = (f a h.0, there_map P Q f os h.1)

-- each attribute that a cookie prints reads as what it settles to
module _ (r : Record) (readable : IsReadable r) (lasting : IfSome r.max_age IsDurationNanos) where
  ends : (d : DateTime) → r.expires ≡ Some (At d) → ReadsAs (Expires d)
  ends d e = reads-Expires d (subst (λ o. is_short_year o ≡ false) e readable.expires)

  attributes_read : AllThere ReadsAs (attributes_of r)
  attributes_read =
      there_flag ReadsAs (is_set r.http_only) HttpOnly _ reads-HttpOnly
      (there_option ReadsAs OfSite r.same_site _ (every (λ s. ReadsAs (OfSite s)) reads-SameSite r.same_site)
      (there_flag ReadsAs (is_set r.partitioned) Partitioned _ reads-Partitioned
      (there_flag ReadsAs (prints_secure r) Secure _ reads-Secure
      (there_option ReadsAs Path r.path _ (IfSome_map IsPiece (λ t. ReadsAs (Path t)) reads-Path r.path readable.path)
      (there_option ReadsAs Domain (domain_of r) _ (IfSome_map _ (λ t. ReadsAs (Domain t))
      (λ t h. reads-Domain t h.0 h.1) (domain_of r) readable.domain)
      (there_option ReadsAs (λ nanos. MaxAge (whole_seconds nanos)) r.max_age _
      (IfSome_map IsDurationNanos (λ nanos. ReadsAs (MaxAge (whole_seconds nanos)))
      (λ nanos h. reads-MaxAge (whole_seconds nanos) (whole_seconds_fit nanos h)) r.max_age lasting)
      (there_end ReadsAs r.expires [] ends tt)))))))

-- a cookie without attributes has those of no piece
pub bare_has_none : (name value : List ℕ) → HasAttributes [] (bare name value)
bare_has_none name value = record {
  http_only = All-nil (λ p. (b : Bool) → ¬ (GivesFlag HttpOnly p b));
  secure = All-nil (λ p. (b : Bool) → ¬ (GivesFlag Secure p b));
  partitioned = All-nil (λ p. (b : Bool) → ¬ (GivesFlag Partitioned p b));
  same_site = All-nil (λ p. (s : SameSite) → ¬ (GivesSite p s));
  max_age = All-nil (λ p. (z : ℤ) → ¬ (GivesAge p z));
  path = All-nil (λ p. (t : List ℕ) → ¬ (GivesPath p t));
  domain = All-nil (λ p. (t : List ℕ) → ¬ (GivesDomain p t));
  expires = All-nil (λ p. (e : Expiration) → ¬ (GivesEnd p e));
}

-- the piece before the first semicolon
first_of : (p rest : List ℕ) → IsClean p → position_or_len (λ b. b == semicolon) rest ≡ 0
    → position_or_len (λ b. b == semicolon) (p ++ rest) ≡ length p
first_of [] rest clean none = none
first_of (b ∷ bs) rest clean none =
    let other = All-head (λ b. (b == semicolon) ≡ false) b bs clean in
    rw (other, first_of bs rest (All-tail (λ b. (b == semicolon) ≡ false) b bs clean) none) (omega arith)

none_before : (qs : List (List ℕ)) → position_or_len (λ b. b == semicolon) (flat_map (λ q. semicolon ∷ q) qs) ≡ 0
none_before [] = refl
none_before (q ∷ qs) = refl

pub first_joined : (p : List ℕ) (qs : List (List ℕ)) → IsClean p
    → first_piece (p ++ flat_map (λ q. semicolon ∷ q) qs) ≡ p
first_joined p qs clean =
    let rest = flat_map (λ q. semicolon ∷ q) qs in
    rw (first_of p rest clean (none_before qs)) (take_at p rest (length p) refl)

pub same_tail : (p q : List ℕ) (ps qs : List (List ℕ)) → p ∷ ps ≡ q ∷ qs → ps ≡ qs
same_tail p q ps qs e = cc

pub text_after-pair : (n v : List ℕ) → All IsPlain n → All IsPlain v → text_after (n ++ equals ∷ v) ≡ v
unfolding text_after
text_after-pair n v hn hv =
    let size : length n + 1 ≡ length (n ++ equals ∷ []) = simp length-append in
    let rest : drop (length n + 1) (n ++ equals ∷ v) ≡ v =
    ap (drop (length n + 1)) (sym (append_assoc n (equals ∷ []) v))
    ∙ drop_at (n ++ equals ∷ []) v (length n + 1) (sym size) in
    rw (cut_at_equals n v hn, rest) (trim_plain v hv)

pub is_pair : (n v : List ℕ) → All IsPlain n → 0 < length n → IsPair (n ++ equals ∷ v)
is_pair n v h some =
    let cut = cut_at_equals n v h in
    (omega (arith, cut, length-append n (equals ∷ v)), subst (λ t. 0 < length t) (sym (name_of-pair n v h)) some)

module _ (r : Record) (readable : IsReadable r) (lasting : IfSome r.max_age IsDurationNanos) where
  name_plain : All IsPlain (escaped r.name)
  name_plain = All-IsPlain-escaped r.name

  value_plain : All IsPlain (escaped r.value)
  value_plain = All-IsPlain-escaped r.value

  reads : AllThere ReadsAs (attributes_of (encoded_pair r))
  reads = attributes_read r readable lasting

  cut : pieces (encoded r) ≡ stripped (encoded_pair r) ∷ pieces_of (attributes_of r)
  cut = printed-pieces (encoded_pair r) name_plain value_plain
      (there_map ReadsAs _ (λ a h. h.clean) (attributes_of r) reads)

  has : HasAttributes (pieces_of (attributes_of r)) (normal (encoded_pair r))
  has = printed-attributes (encoded_pair r) (bare_has_none _ _)
      (there_map ReadsAs _ (λ a h. h.gives) (attributes_of r) reads)

  pair_clean : IsClean (stripped (encoded_pair r))
  pair_clean = IsClean-pair _ _ (IsClean-plain _ name_plain) (IsClean-plain _ value_plain)

  first : first_piece (encoded r) ≡ stripped (encoded_pair r)
  first =
      ap (λ t. first_piece (stripped (encoded_pair r) ++ t)) (printed_pieces (attributes_of r))
      ∙ first_joined (stripped (encoded_pair r)) (pieces_of (attributes_of r)) pair_clean

  name_there : 0 < length (escaped r.name)
  name_there = escaped_nonempty r.name readable.name

  the_cookie : (o : Result Seen ParseError) → ReadsPlain (encoded r) o
      → IfOk o (λ s. s.cookie ≡ normal (encoded_pair r))
  the_cookie (Err e) h = tt
  the_cookie (Ok s) h =
      let rest = h.attributes in
      let tails = same_tail _ _ rest.0 (pieces_of (attributes_of r)) (sym rest.1 ∙ cut) in
      let name = h.name.1 ∙ ap name_of first ∙ name_of-pair _ _ name_plain in
      let value = h.value ∙ ap text_after first ∙ text_after-pair _ _ name_plain value_plain in
      same_record (pieces_of (attributes_of r)) s.cookie (normal (encoded_pair r)) name value
      (subst (λ ps. HasAttributes ps s.cookie) tails rest.2) has

  pub reads_back : (o : Result Seen ParseError) → ReadsPlain (encoded r) o → ReadsBack r o
  reads_back o h = record {
    accepted = h.accepted.1 (subst IsPair (sym first) (is_pair _ _ name_plain name_there));
    normal = the_cookie o h;
  }

-- a length that the library has is within its bounds
pub lasting_of : {D : Type 0} (nanos : D → ℤ) → ((d : D) → IsDurationNanos (nanos d)) → (o : Option D) (m : Option ℤ)
    → option_map nanos o ≡ m → IfSome m IsDurationNanos
lasting_of nanos within None m e = subst (λ n. IfSome n IsDurationNanos) e tt
lasting_of nanos within (Some d) m e = subst (λ n. IfSome n IsDurationNanos) e (within d)

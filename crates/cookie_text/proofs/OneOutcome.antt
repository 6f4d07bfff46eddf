-- A text reads as one outcome.
use Rattle.std.proofs.Common.{◌≡◌, ℕ, ◌<◌, ◌≤◌, ◌==◌, ◌⊎◌, List, [], ◌∷◌, length, Option, Some, Result, Ok, Err, IsOk}
use Rattle.std.proofs.Common.{refl, sym, ap, subst, ◌∙◌, ⊎_elim, inl, inr, arith}
use Rattle.std.proofs.lemmas.Bool.{cases_lt}
use Rattle.std.proofs.lemmas.Bool.Decides.{nat_tests}
use Rattle.std.specs.List.{position_or_len}
use Rattle.cookie_text.specs.declared.error.ParseError.{ParseError}
use Rattle.cookie_text.specs.Decoding.{ReadsEncoded}
use Rattle.cookie_text.specs.Pieces.{HasEquals, equals, name_of}
use Rattle.cookie_text.specs.Reading.{HasAttributes, HasRest, IsPair, ReadsPlain, first_piece}
use Rattle.cookie_text.specs.Record.{Record, Seen, domain_of}
use Rattle.cookie_text.proofs.ReadsBack.{same_tail}
use Rattle.cookie_text.proofs.UniqueLemmas.{same_record}

-- the text and the pair determine a cookie
same_rest : (text : List ℕ) (a b : Record) → a.name ≡ b.name → a.value ≡ b.value → HasRest text a → HasRest text b
    → a ≡ b
same_rest text a b name value h k =
    let tails = same_tail _ _ h.0 k.0 (sym h.1 ∙ k.1) in
    same_record k.0 a b name value (subst (λ ps. HasAttributes ps a) tails h.2) k.2

same_cookies : (text : List ℕ) (s t : Seen) → ReadsPlain text (Ok s) → ReadsPlain text (Ok t) → s.cookie ≡ t.cookie
same_cookies text s t h k =
    same_rest text s.cookie t.cookie (h.name.1 ∙ sym k.name.1) (h.value ∙ sym k.value) h.attributes k.attributes

same_seen : (text : List ℕ) (s t : Seen) → ReadsPlain text (Ok s) → ReadsPlain text (Ok t) → s ≡ t
same_seen text s t h k =
    let same = same_cookies text s t h k in
    let name = h.raw.name ∙ ap (λ c. Some c.name) same ∙ sym k.raw.name in
    let value = h.raw.value ∙ ap (λ c. Some c.value) same ∙ sym k.raw.value in
    let path = h.raw.path ∙ ap (λ c. c.path) same ∙ sym k.raw.path in
    let domain = h.raw.domain ∙ ap domain_of same ∙ sym k.raw.domain in
    λ i. record { cookie = same i; raw = record { name = name i; value = value i; path = path i; domain = domain i } }

-- a refusal's cause
named_or_not : (piece name : List ℕ) → name_of piece ≡ name → HasEquals piece → IsPair piece ⊎ (name_of piece ≡ [])
named_or_not piece [] e has = inr e
named_or_not piece (b ∷ bs) e has = inl (has, subst (λ n. 0 < length n) (sym e) (omega arith))

same_refusal : (text : List ℕ) (o p : Result Seen ParseError) → ¬ (IsOk o) → ReadsPlain text o → ReadsPlain text p
    → o ≡ p
same_refusal text o p refused h k =
    ⊎_elim
    (λ (has : HasEquals (first_piece text)).
    ⊎_elim
    (λ (pair : IsPair (first_piece text)). absurd (refused (h.accepted.1 pair)))
    (λ (nameless : name_of (first_piece text) ≡ []).
    h.empty_name.1 (has, nameless) ∙ sym (k.empty_name.1 (has, nameless)))
    (named_or_not (first_piece text) (name_of (first_piece text)) refl has))
    (λ (most : length (first_piece text) ≤ position_or_len (λ b. b == equals) (first_piece text)).
    let lacks : ¬ (HasEquals (first_piece text)) = λ has. omega (arith, has, most) in
    h.missing_pair.1 lacks ∙ sym (k.missing_pair.1 lacks))
    (cases_lt (position_or_len (λ b. b == equals) (first_piece text)) (length (first_piece text)))

pub one_outcome : (text : List ℕ) (o p : Result Seen ParseError) → ReadsPlain text o → ReadsPlain text p → o ≡ p
one_outcome text (Ok s) (Ok t) h k = ap Ok (same_seen text s t h k)
one_outcome text (Ok s) (Err e) h k = let is = k.accepted.1 (h.accepted.0 refl) in cc
one_outcome text (Err e) (Ok t) h k = let is = h.accepted.1 (k.accepted.0 refl) in cc
one_outcome text (Err e) (Err f) h k = same_refusal text (Err e) (Err f) (λ i. cc) h k

-- with decoding a cookie is one, where there is memory for it
pub one_decoded : (text : List ℕ) (s t : Seen) → ReadsEncoded text (Ok s) → ReadsEncoded text (Ok t)
    → s.cookie ≡ t.cookie
one_decoded text s t h k =
    same_rest text s.cookie t.cookie (h.decoded.name ∙ sym k.decoded.name) (h.decoded.value ∙ sym k.decoded.value)
    h.attributes k.attributes

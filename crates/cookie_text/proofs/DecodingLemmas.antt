-- Reading with percent-decoding goes on after the first piece.
use Rattle.std.proofs.Common.{◌≡◌, ◌≢◌, ℕ, ◌<◌, ◌==◌, length, Result, Ok, List, [], ◌∷◌, refl, sym, ap, subst, ◌∙◌}
use Rattle.std.proofs.Common.{true, false, true≢false, eq-eqb}
use Rattle.std.proofs.lemmas.Bool.{or_parts}
use Rattle.std.proofs.lemmas.List.Elements.{All-head, All-tail, All-nil, All-cons}
use Rattle.percent_encoding.specs.Percent.{percent_decode}
use Rattle.percent_encoding.proofs.PercentLemmas.{percent_decode-nil, percent_decode_not_percent}
use Rattle.std.specs.List.{after_first, list_any, position_or_len}
use Rattle.std.proofs.lemmas.Result.{IfOk-weaker}
use Rattle.cookie_text.specs.declared.error.ParseError.{ParseError}
use Rattle.cookie_text.specs.Pieces.{pieces, semicolon, HasNoPercent}
use Rattle.cookie_text.specs.Record.{Seen}
use Rattle.cookie_text.specs.Reading.{first_piece}
use Rattle.cookie_text.specs.Decoding.{IsDecoded, ReadsEncoded}
use Rattle.cookie_text.specs.Steps.{ReadsFurther, ReadsFirstEncoded}
use Rattle.cookie_text.proofs.ReadingLemmas.{rest_of, no_rest, one_piece, not_empty}

-- a text without `%` decodes to itself
pub percent_decode_none : (text : List ℕ) → HasNoPercent text → percent_decode text ≡ text
percent_decode_none [] h = percent_decode-nil
percent_decode_none (b ∷ bs) h =
    percent_decode_not_percent b bs (All-head (λ c. c ≢ 37) b bs h)
    ∙ ap (λ t. b ∷ t) (percent_decode_none bs (All-tail (λ c. c ≢ 37) b bs h))

-- a text in which no `%` is found has none
pub none_found : (text : List ℕ) → list_any (λ b. b == 37) text ≡ false → HasNoPercent text
none_found [] h = All-nil (λ b. b ≢ 37)
none_found (b ∷ bs) h =
    let parts = or_parts (b == 37) (list_any (λ c. c == 37) bs) h in
    All-cons (λ c. c ≢ 37) b bs (λ e. true≢false (sym (eq-eqb b 37 e) ∙ parts.0)) (none_found bs parts.1)

-- attributes change nothing of what was decoded
IsDecoded-further : (before after : List ℕ) (ps : List (List ℕ)) (s t : Seen) → IsDecoded before after s
    → ReadsFurther ps s t → IsDecoded before after t
IsDecoded-further before after ps s t h f = record {
  name = f.name ∙ h.name;
  value = f.value ∙ h.value;
  kept = λ same. let k = h.kept same in (f.name_raw ∙ k.0, f.value_raw ∙ k.1);
  changed = λ other. let k = h.changed other in (f.name_raw ∙ k.0, f.value_raw ∙ k.1);
}

pub ReadsEncoded-further : (text first rest : List ℕ) (s t : Seen)
    → position_or_len (λ b. b == semicolon) text < length text → first ≡ first_piece text
    → rest ≡ after_first (λ b. b == semicolon) text → ReadsFirstEncoded first (Ok s) → ReadsFurther (pieces rest) s t
    → ReadsEncoded text (Ok t)
ReadsEncoded-further text first rest s t holds is_first is_rest h f =
    let k = subst (λ p. ReadsFirstEncoded p (Ok s)) is_first h in
    let pair = k.accepted refl in
    record {
      accepted = λ _. pair;
      owed = λ p u. tt;
      decoded = IsDecoded-further _ _ (pieces rest) s t k.decoded f;
      attributes = rest_of text first rest t.cookie holds is_rest f.attributes;
      sliced = f.sliced;
      missing_pair = (λ e. cc, λ no. absurd (no pair.0.0));
      empty_name = (λ e. cc, λ both. absurd (not_empty _ pair.0.1 both.1));
      utf8_error = λ e. cc;
      no_memory = λ n v e. cc;
    }

pub ReadsEncoded-whole : (text : List ℕ) (r : Result Seen ParseError)
    → position_or_len (λ b. b == semicolon) text ≡ length text → ReadsFirstEncoded text r → ReadsEncoded text r
ReadsEncoded-whole text r none h =
    let k = subst (λ p. ReadsFirstEncoded p r) (sym (one_piece text none)) h in
    record {
      accepted = k.accepted;
      owed = k.owed;
      decoded = k.decoded;
      attributes = IfOk-weaker r _ _ (λ s a. no_rest text s.cookie none a) k.attributes;
      sliced = k.sliced;
      missing_pair = k.missing_pair;
      empty_name = k.empty_name;
      utf8_error = k.utf8_error;
      no_memory = k.no_memory;
    }

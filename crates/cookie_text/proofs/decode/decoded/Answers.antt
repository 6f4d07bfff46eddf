use Rattle.std.proofs.Common.{◌≡◌, ◌==◌, ◌∙◌, false, ap, inr, refl, subst, sym}
use Rattle.std.specs.List.{list_any}
use Rattle.std.specs.Str.{IsUtf8}
use Rattle.percent_encoding.specs.Percent.{percent_decode}
use Rattle.std.proofs.lemmas.Bool.{false≢true}
use Rattle.std.proofs.lemmas.Slice.Eq.{bytes_eq-Decides}
use Rattle.cookie_text.proofs.DecodingLemmas.{none_found, percent_decode_none}
use Rattle.cookie_text.proofs.decode.decoded.Goals as goal

pub returns-then-not-contains : goal.returns-then-not-contains
returns-then-not-contains c =
    let text = c.args.text.now in
    let bytes = c.as_bytes-bytes.ensures.value in
    let none : list_any (λ b. b == 37) text ≡ false = ap (list_any (λ b. b == 37)) (sym bytes)
    ∙ (sym c.contains.ensures.value ∙ c.if-not-contains.true) in
    let same : percent_decode text ≡ text = percent_decode_none text (none_found text none) in
    record {
      decoded = same;
      utf8 = subst IsUtf8 (sym same) c.utf8.text;
      refused = tt;
      no_memory = λ h e. cc;
    }

pub returns-in-Err : goal.returns-in-Err
returns-in-Err c = record {
  decoded = tt;
  utf8 = tt;
  refused = inr refl;
  no_memory = λ none e.
      let text = c.args.text.now in
      let decoded : c.as_str.result.now ≡ percent_decode text =
      c.as_str.ensures.value ∙ c.in-Ok.ensures.value ∙ c.percent_decode.ensures.bytes
      ∙ ap percent_decode c.as_bytes-bytes.ensures.value in
      let same : c.as_str.result.now ≡ text = decoded ∙ percent_decode_none text none in
      let yes = (bytes_eq-Decides c.as_str.result.now text).1 same in
      false≢true (c.if-eq.ensures ∙ yes);
}

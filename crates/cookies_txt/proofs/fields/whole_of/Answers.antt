use Rattle.std.proofs.Common.{◌∙◌, sym, refl}
use Rattle.cookies_txt.proofs.ExpiryLemmas.{decimal_cut, decimal_whole}
use Rattle.cookies_txt.proofs.fields.whole_of.Goals as goal

pub returns-then-are_numbers : goal.returns-then-are_numbers
returns-then-are_numbers c = record {
  whole = decimal_whole c.args.text.now c.in-Some.whole.now c.in-Some.fraction.now c.in-Some.ensures
      (sym c.are_numbers.ensures ∙ c.if-are_numbers.true);
}

pub returns-else-are_numbers : goal.returns-else-are_numbers
returns-else-are_numbers c = record {
  whole = (
    decimal_cut c.args.text.now c.in-Some.whole.now c.in-Some.fraction.now c.in-Some.ensures
        ∙ (sym c.are_numbers.ensures ∙ c.if-are_numbers.false),
    refl,
  );
}

use Rattle.std.proofs.Common.{◌≡◌, ◌+◌, ◌==◌, All, map, length, drop, sym, subst, ◌∙◌, lit<, arith}
use Rattle.std.specs.List.{slice_split}
use Rattle.std.proofs.lemmas.Iterator.Consumers.{YieldsList-end, YieldsList-so_far, YieldsList-turn}
use Rattle.std.proofs.lemmas.Iterator.Splits.{YieldsList-from_str_split}
use Rattle.std.proofs.lemmas.List.{length-map}
use Rattle.publicsuffix.specs.Looks.{IsPassedOver}
use Rattle.publicsuffix.specs.Rules.{without_mark}
use Rattle.publicsuffix.proofs.TextLemmas.{part_splits}
use Rattle.publicsuffix.proofs.look.first_line.Goals as goal

pub returns-then-not-is_passed_over : goal.returns-then-not-is_passed_over
returns-then-not-is_passed_over c =
    let text = without_mark c.args.text.now in
    let read : c.without_mark.result.now ≡ text = c.without_mark.ensures in
    let split = YieldsList-from_str_split {s = c.into_iter-line-iterator.result} 10 text (lit< tt) (cc) (cc) (cc) in
    let so_far = YieldsList-so_far split c.loop-line.yielded _ c.loop-line.yielded_by in
    let turn = YieldsList-turn split c.loop-line.yielded _ c.loop-line.yielded_by _ _ _ c.in-Some.is
    c.next.ensures.steps in record {
      before = map (λ q. q.now) c.loop-line.yielded;
      after = drop (length c.loop-line.yielded + 1) (slice_split (λ b. b == 10) text);
      split = part_splits (slice_split (λ b. b == 10) text) (map (λ q. q.now) c.loop-line.yielded)
          (length c.loop-line.yielded) c.in-Some.line.now so_far turn.0 turn.1;
      passed = c.loop-line.invariant.0;
      shown = sym c.is_passed_over.ensures ∙ c.if-not-is_passed_over.true;
      counted = omega (arith, c.loop-line.invariant.1, length-map c.loop-line.yielded (λ q. q.now));
    }

pub returns : goal.returns
returns c =
    let text = without_mark c.args.text.now in
    let read : c.without_mark.result.now ≡ text = c.without_mark.ensures in
    let split = YieldsList-from_str_split {s = c.into_iter-line-iterator.result} 10 text (lit< tt) (cc) (cc) (cc) in
    let end = YieldsList-end split c.loop-line.yielded _ c.loop-line.yielded_by _ _ c.in-None.is c.next.ensures.steps in
    subst (All IsPassedOver) end.0 c.loop-line.invariant.0

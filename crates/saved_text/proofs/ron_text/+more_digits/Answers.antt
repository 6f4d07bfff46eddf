use Rattle.std.proofs.Common.{arith, inl, inr, encode_utf8}
use Rattle.saved_text.specs.Grammar.{letters}
use Rattle.saved_text.proofs.RonLemmas.{
  result_step,
  Goes-digit,
  Stops-last_digit,
  none_scalar,
  some_scalar,
  limit_bound,
}
use Rattle.saved_text.proofs.ron_text.+more_digits.Goals as goal
use Rattle.saved_text.proofs.ron_text.+more_digits.Goals.{
  else-left-eq1-via-then-left-eq1+else-is_none,
  else-left-eq1-via-else-left-eq1,
}

pub overflow_mul-more : goal.overflow_mul-more
overflow_mul-more t c = let b = limit_bound c.args.left in omega (arith, b, c.requires)

pub overflow_add-more : goal.overflow_add-more
overflow_add-more t c = let b = limit_bound c.args.left in omega (arith, b, c.requires, c.in-Some.ensures.some.4)

pub returns-then-is_none : goal.returns-then-is_none
returns-then-is_none t c = Stops-last_digit c.args.left c.args.value c.args.text.now c.in-Some.rest.now
    c.in-Some.digit c.if-left-eq1.true c.in-Some.ensures.some
    (none_scalar c.from_u32.result _ _ c.from_u32.ensures.value c.if-is_none.ensures)

pub returns : goal.returns
returns t c = result_step (λ k. letters (encode_utf8 k)) _ _ c.args.text.now c.in-Some.rest.now c.more_digits.result
    (Goes-digit c.args.left c.args.value c.args.text.now c.in-Some.rest.now c.in-Some.digit c.if-left-eq0.false
    c.in-Some.ensures.some (elim c.else-left-eq1.branch [
      | else-left-eq1-via-then-left-eq1+else-is_none w ↦ inr
          (some_scalar w.from_u32.result _ _ w.from_u32.ensures.value w.if-is_none.ensures)
      | else-left-eq1-via-else-left-eq1 w ↦ inl (omega (arith, w.if-left-eq1.false, c.if-left-eq0.false))
    ])) c.more_digits.ensures

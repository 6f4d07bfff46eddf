use Rattle.std.proofs.Common.{rules, map, refl, inl, inr, ap}
use Rattle.std.specs.Prelude.{string_bytes}
use Rattle.http_cookies.proofs.Putting.{is_value, making_next, making_refused, value_exits}
use Rattle.http_cookies.proofs.fields.values_of.Goals as goal

pub loop-line-preserved : goal.loop-line-preserved
loop-line-preserved c = (
  tt,
  tt,
  making_next (map string_bytes c.args.lines.items) (string_bytes c.in-Some.line) c.loop-line.values.items
      c.push.new.self.items c.in_ok-from_string.field-0 _ _ _ _ c.loop-line.invariant.2
      (ap (map string_bytes) c.in-Some.ensures.steps.0, c.in-Some.ensures.steps.1) c.in_ok-from_string.ensures.ok
      (is_value c.from_string.result c.in_ok-from_string.field-0 _ (search rules) c.from_string.ensures.invalid)
      c.in_ok-push.ensures.items,
)

pub returns-in_err-from_string-clause-err : goal.returns-in_err-from_string-clause-err
returns-in_err-from_string-clause-err c =
    value_exits c.from_residual.result _ c.from_string.result c.in_err-from_string.field-0.0 _
    c.from_residual.ensures (search rules) c.from_string.ensures.invalid (inl refl)
    (λ bad. inr (
      refl,
      making_refused (map string_bytes c.args.lines.items) (string_bytes c.in-Some.line)
          c.loop-line.values.items _ _ _ c.loop-line.invariant.2 (ap (map string_bytes) c.in-Some.ensures.steps.0) bad,
    ))

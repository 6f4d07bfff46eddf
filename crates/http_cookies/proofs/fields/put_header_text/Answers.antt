use Rattle.std.proofs.Common.{rules, refl, inl, inr}
use Rattle.std.specs.Prelude.{string_bytes}
use Rattle.http_header.specs.HeaderMap.{RefusesInsert}
use Rattle.http_cookies.specs.Fields.{cookie_name}
use Rattle.http_cookies.proofs.Putting.{is_value, map_exits}
use Rattle.http_cookies.proofs.fields.put_header_text.Goals as goal

pub returns-in_err-insert-clause-err : goal.returns-in_err-insert-clause-err
returns-in_err-insert-clause-err c =
    map_exits c.from_residual-in_err-insert.result _ c.insert.result c.in_err-insert.field-0.0
    (RefusesInsert c.args.fields.now cookie_name) c.from_residual-in_err-insert.ensures (search rules)
    c.insert.ensures.full (inl refl) (λ r. inr (inr (
      refl,
      (
        is_value c.from_string.result c.in_ok-from_string.field-0 (string_bytes c.args.header) (search rules)
            c.from_string.ensures.invalid,
        (search rules, r),
      ),
    )))

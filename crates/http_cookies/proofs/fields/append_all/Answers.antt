use Rattle.std.proofs.Common.{rules, refl, inl, inr, ◌≡◌}
use Rattle.http_header.specs.HeaderMap.{RefusesAppend}
use Rattle.http_cookies.specs.Fields.{set_cookie_name}
use Rattle.http_cookies.proofs.Putting.{appending_none, appending_next, appending_refused, appending_all, map_exits}
use Rattle.http_cookies.proofs.fields.append_all.Goals as goal

pub loop-value-init : goal.loop-value-init
loop-value-init c = appending_none c.args.fields.now c.args.values.items _ _ (search rules) (search rules)

pub loop-value-preserved : goal.loop-value-preserved
loop-value-preserved c =
    appending_next c.args.fields.now c.args.values.items c.in-Some.value c.loop-value.fields c.append.new.self _ _ _ _
    c.loop-value.invariant c.in-Some.ensures.steps (search rules) c.in_ok-append.ensures.ok

pub returns-in_err-append-clause-err : goal.returns-in_err-append-clause-err
returns-in_err-append-clause-err c =
    map_exits c.from_residual.result _ c.append.result c.in_err-append.field-0.0
    (RefusesAppend c.loop-value.fields set_cookie_name) c.from_residual.ensures (search rules) c.append.ensures.full
    (inl refl) (λ r. inr (
      refl,
      appending_refused c.args.fields.now c.args.values.items c.in-Some.value
          c.loop-value.fields _ _ _ c.loop-value.invariant c.in-Some.ensures.steps.0 r,
    ))

pub returns-clause-ok : goal.returns-clause-ok
returns-clause-ok c =
    appending_all c.args.fields.now c.args.values.items c.loop-value.fields _ _ c.loop-value.invariant
    c.in-None.ensures.steps.0

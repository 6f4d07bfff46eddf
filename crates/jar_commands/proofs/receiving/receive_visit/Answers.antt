use Rattle.std.proofs.Common.{rules, ◌∙◌, ap, false, map, refl, subst, sym}
use Rattle.std.proofs.Math.Bool.{or-false}
use Rattle.jiff.specs.Words.{civil_nanos}
use Rattle.jar_commands.specs.Receiving.{is_any_refused}
use Rattle.jar_commands.specs.Started.{TakesFrom}
use Rattle.jar_commands.proofs.receiving.receive_visit.Goals as goal

pub returns-clause-ok : goal.returns-clause-ok
returns-clause-ok c =
    let ends = c.in_ok-ends.ends.items in (
      is_any_refused ends,
      (
        ends,
        c.take_answer.new.jar.rows,
        false,
        subst (λ lines. TakesFrom c.args.start.now c.args.plan.now.form c.args.plan.now.rules c.args.jar.now.suffixes
            c.args.jar.now.rows c.args.visit.now.url (civil_nanos c.args.plan.now.at) lines ends
            c.take_answer.new.jar.rows)
            (ap (λ slices. map (λ slice. slice.now) slices) c.deref-2.ensures.value
            ∙ (c.in_ok-lines.ensures ∙ (ap (λ lines. map (λ line. line.items) lines) c.deref.ensures.value
            ∙ c.in_ok-read.ensures)))
            c.in_ok-ends.ensures.ok,
        (refl, refl),
        sym (or-false (is_any_refused ends)),
      ),
      search rules,
    )

use Rattle.std.proofs.Common.{inr, refl, subst}
use Rattle.response_heads.specs.Visits.{IsVisitRefusal}
use Rattle.jar_commands.proofs.receiving.visits_of.Goals as goal

pub returns-in-Err-Line-clause-err : goal.returns-in-Err-Line-clause-err
returns-in-Err-Line-clause-err c = inr (
  c.in-Err-Line.line,
  c.in-Err-Line.field-0-1,
  refl,
  subst (IsVisitRefusal c.args.text.now) c.in-Err-Line.field-0-is c.in-Err-Line.ensures.err,
)

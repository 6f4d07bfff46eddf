use Rattle.std.proofs.Common.{◌∙◌, ◌+ℤ◌, ◌<ℤ◌, ap, pos, rules}
use Rattle.jiff.specs.Words.{civil_nanos, signed_nanos}
use Rattle.user_agent.proofs.CutLemmas.{early_limit, no_limit}
use Rattle.user_agent.proofs.cut_life.limit_at.Goals as goal

pub returns-in_default : goal.returns-in_default
returns-in_default c =
    no_limit (civil_nanos c.args.now) (signed_nanos c.longest.result) c.checked_add.result c.longest.ensures
    c.in_default.not-Ok c.checked_add.ensures.succeeds.1

pub returns-else-year-ge100 : goal.returns-else-year-ge100
returns-else-year-ge100 c =
    let early : c.in-Ok.limit.date.year <ℤ pos 100 = search rules in
    early_limit (civil_nanos c.args.now) c.in-Ok.limit
    (c.in-Ok.ensures.value ∙ ap (λ n. civil_nanos c.args.now +ℤ n) c.longest.ensures) early

use Rattle.std.proofs.Common.{ap, ◌∙◌}
use Rattle.std.specs.List.{list_all}
use Rattle.jiff.specs.Words.{civil_nanos}
use Rattle.cookie_store.specs.Rows.{is_live}
use Rattle.cookie_jar.proofs.RowLemmas.{all_live}
use Rattle.cookie_jar.proofs.jar.are_live.Goals as goal

pub returns-clause-rows : goal.returns-clause-rows
returns-clause-rows c =
    let now = civil_nanos c.args.now in
    λ t. all_live now c.args.store.now.rows
    (c.loop-cookie.invariant ∙ ap (list_all (is_live now)) c.in-None.ensures.steps.0)

use Rattle.std.proofs.Common.{refl, sym, ◌∙◌}
use Rattle.std.specs.Prelude.{codes}
use Rattle.saved_text.proofs.DateLemmas.{digits_at}
use Rattle.saved_text.proofs.date.minutes_of.Goals as goal

pub clock_minutes-requires-clause-minutes : goal.clock_minutes-requires-clause-minutes
clock_minutes-requires-clause-minutes c = digits_at c.args.zone.now (codes "+00:00") 4 6 (sym c.shows-2.ensures
    ∙ c.if-shows-2.true) (refl, (refl, tt))

pub clock_minutes-requires-then-shows-3-clause-minutes :
    goal.clock_minutes-requires-then-shows-3-clause-minutes
clock_minutes-requires-then-shows-3-clause-minutes c = digits_at c.args.zone.now (codes "-00:00") 4 6
    (sym c.shows-3.ensures ∙ c.if-shows-3.true) (refl, (refl, tt))

use Rattle.place_index.proofs.TakingLemmas.{takes_before_others, takes_at_end}
use Rattle.place_index.proofs.taking.take.Goals as goal

pub returns-then-at-domain : goal.returns-then-at-domain
returns-then-at-domain c =
    takes_before_others c.args.path.now c.args.at c.args.domain.now c.shorten.new.paths c.shorten.ensures
    c.move_back.new.self c.move_back.ensures

pub returns-else-at-domain : goal.returns-else-at-domain
returns-else-at-domain c =
    takes_at_end c.args.path.now c.args.at c.args.domain.now c.shorten.new.paths c.shorten.ensures c.requires.inside
    c.if-at-domain.false

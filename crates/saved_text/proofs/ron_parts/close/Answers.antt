use Rattle.saved_text.proofs.RowLemmas.{Takes-closing_comma, Stops-closing_comma, Takes-closing, Stops-closing}
use Rattle.saved_text.proofs.ron_parts.close.Goals as goal

pub returns-in-Some-cut : goal.returns-in-Some-cut
returns-in-Some-cut c = Takes-closing_comma c.args.text.now c.in-Some.rest.now c.gap-rest.result.now
    c.in-Some-cut.rest.now c.in-Some.ensures.some c.gap-rest.ensures c.in-Some-cut.ensures.some

pub returns-in-None : goal.returns-in-None
returns-in-None c = Stops-closing_comma c.args.text.now c.in-Some.rest.now c.gap-rest.result.now
    c.in-Some.ensures.some c.gap-rest.ensures c.in-None.ensures.none

pub returns-in-Some-cut-2 : goal.returns-in-Some-cut-2
returns-in-Some-cut-2 c = Takes-closing c.args.text.now c.in-Some-cut-2.rest.now c.in_default.ensures.none
    c.in-Some-cut-2.ensures.some

pub returns-in-None-cut : goal.returns-in-None-cut
returns-in-None-cut c = Stops-closing c.args.text.now c.in_default.ensures.none c.in-None-cut.ensures.none

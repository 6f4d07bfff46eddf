use Rattle.saved_text.proofs.RonLemmas.{Takes-closed, Stops-brace, Stops-surrogate}
use Rattle.saved_text.proofs.ron_text.closed.Goals as goal

pub returns-in-Some-cut : goal.returns-in-Some-cut
returns-in-Some-cut c = Takes-closed c.args.left c.args.value c.in-Some.c c.args.text.now c.in-Some-cut.rest.now
    c.in-Some.ensures.value c.requires c.in-Some-cut.ensures.some

pub returns-in-None-cut : goal.returns-in-None-cut
returns-in-None-cut c = Stops-brace c.args.left c.args.value c.args.text.now c.in-Some.ensures.value.0 c.requires
    c.in-None-cut.ensures.none

pub returns-in-None : goal.returns-in-None
returns-in-None c = Stops-surrogate c.args.left c.args.value c.args.text.now c.in-None.ensures.value c.requires

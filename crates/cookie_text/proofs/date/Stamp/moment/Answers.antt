use Rattle.cookie_text.proofs.DateNumbers.{moment_of_parts}
use Rattle.cookie_text.proofs.date.Stamp.moment.Goals as goal

pub returns-in-Ok : goal.returns-in-Ok
returns-in-Ok c =
    let h = c.in-Ok.ensures in
    moment_of_parts c.args.self c.requires c.in-Ok.moment h.value.0 h.value.1

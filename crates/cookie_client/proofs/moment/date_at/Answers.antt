use Rattle.std.proofs.Common.{◌∙◌, arith, w8, w16}
use Rattle.std.proofs.lemmas.Int.{to_z_pos}
use Rattle.cookie_client.proofs.MomentText.{date_cast}
use Rattle.cookie_client.proofs.moment.date_at.Goals as goal

pub returns-clause-date : goal.returns-clause-date
returns-clause-date c =
    c.ok.ensures.value
    ∙ date_cast c.new.result _ _ _ _ _ _ c.args.year c.args.month c.args.day c.args.hour c.args.minute c.args.second
    (to_z_pos w16 c.args.year (omega arith)) (to_z_pos w8 c.args.month (omega arith))
    (to_z_pos w8 c.args.day (omega arith))
    (to_z_pos w8 c.args.hour (omega arith)) (to_z_pos w8 c.args.minute (omega arith))
    (to_z_pos w8 c.args.second (omega arith))
    c.new.ensures.succeeds c.new.ensures.value

use Rattle.std.proofs.Common.{◌∙◌, ap, arith, w8, w16, w32}
use Rattle.std.specs.Prelude.{option_map}
use Rattle.std.proofs.lemmas.Int.{to_z_pos}
use Rattle.jiff.specs.Words.{civil_nanos}
use Rattle.saved_text.proofs.DateLemmas.{civil_cast}
use Rattle.saved_text.proofs.date.civil_at.Goals as goal

pub returns : goal.returns
returns c =
    ap (option_map civil_nanos) c.ok.ensures.value
    ∙ civil_cast c.new.result _ _ _ _ _ _ _ c.args.year c.args.month c.args.day c.args.hour c.args.minute c.args.second
    c.args.nanos (to_z_pos w16 c.args.year (omega arith)) (to_z_pos w8 c.args.month (omega arith))
    (to_z_pos w8 c.args.day (omega arith)) (to_z_pos w8 c.args.hour (omega arith))
    (to_z_pos w8 c.args.minute (omega arith)) (to_z_pos w8 c.args.second (omega arith))
    (to_z_pos w32 c.args.nanos (omega arith)) c.requires.year c.requires.nanos c.new.ensures.succeeds
    c.new.ensures.value

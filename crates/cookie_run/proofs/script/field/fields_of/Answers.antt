use Rattle.std.proofs.Common.{◌∙◌, ap}
use Rattle.std.specs.Prelude.{map}
use Rattle.percent_encoding.specs.Percent.{percent_decode}
use Rattle.cookie_run.proofs.ScriptLines.{decoded_parts, take_done}
use Rattle.cookie_run.proofs.script.field.fields_of.Goals as goal

pub returns : goal.returns
returns c =
    c.loop-part.invariant
    ∙ (ap (map (λ part. percent_decode part.now)) (take_done c.deref-part-items.result.now c.in_ok-parts.parts.items
    c.loop-part.part-index c.deref-part-items.ensures.value c.loop-part-test.false)
    ∙ decoded_parts c.in_ok-parts.parts.items _ c.in_ok-parts.ensures)

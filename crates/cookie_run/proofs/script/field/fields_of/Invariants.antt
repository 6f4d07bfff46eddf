use Rattle.std.proofs.Common.{◌≡◌, take}
use Rattle.std.specs.Prelude.{map}
use Rattle.percent_encoding.specs.Percent.{percent_decode}
use Rattle.cookie_run.proofs.script.field.fields_of.Given as goal

abbrev pub invariant-loop-part : goal.invariant-loop-part
invariant-loop-part l = map (λ field. field.items) l.fields.items ≡ map (λ part. percent_decode part.now)
    (take l.part-index l.part-items)

use Rattle.std.proofs.Common.{◌∙◌, ap, sym}
use Rattle.std.specs.Prelude.{Ok}
use Rattle.cookie_run.specs.ScriptLine.{Rotates}
use Rattle.cookie_run.proofs.ScriptRings.{rotate_read}
use Rattle.cookie_run.proofs.script.line.read_rotate.Goals as goal

pub returns : goal.returns
returns c =
    let end = c.in_ok-keep_until.keep_until in
    let at = c.in_ok-at.at.date in
    rotate_read c.args.fields.now _ _ _ c.in-Some.seed end at c.in-len3.len_at_least c.in-len3.len_below
    (sym c.in-Some.ensures) c.in_ok-keep_until.ensures.end c.in_ok-at.ensures.date
    ∙ ap (λ key. Ok (Rotates key at end)) (sym c.derive_from.ensures)

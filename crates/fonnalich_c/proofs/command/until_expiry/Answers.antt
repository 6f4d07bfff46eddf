use Rattle.std.proofs.Common.{◌≡◌, Some, refl, rules}
use Rattle.cookie_text.specs.Record.{moment_of}
use Rattle.fonnalich_c.proofs.command.until_expiry.Goals as goal

pub returns-in-Some-clause-ok : goal.returns-in-Some-clause-ok
returns-in-Some-clause-ok c =
    let ends : moment_of c.args.cookie.cookie.expires ≡ Some c.in-Some.until = search rules in
    (c.in-Some.until, ends, refl)

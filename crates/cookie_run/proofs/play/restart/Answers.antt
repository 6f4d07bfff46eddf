use Rattle.std.proofs.Common.{◌≢◌, rules}
use Rattle.jiff.specs.Words.{civil_nanos}
use Rattle.store_parts.specs.declared.error.Error.TheVariants.{OutOfMemory}
use Rattle.cookie_run.proofs.Calendar.{within_of_moment}
use Rattle.cookie_run.proofs.FromLines.{only_memory}
use Rattle.cookie_run.proofs.play.restart.Goals as goal

pub returns-in-Err-clause-err : goal.returns-in-Err-clause-err
returns-in-Err-clause-err c =
    let other : c.in-Err.field-0 ≢ OutOfMemory = search rules in
    absurd (other (only_memory (civil_nanos c.args.moment) c.args.client.now.rows c.in-Err.field-0
    (within_of_moment (civil_nanos c.args.moment) c.requires).0 c.in-Err.ensures.err))

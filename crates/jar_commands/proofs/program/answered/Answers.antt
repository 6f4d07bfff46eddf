use Rattle.std.proofs.Common.{Err, inl, refl}
use Rattle.jar_commands.proofs.program.answered.Goals as goal

pub returns-in-Help : goal.returns-in-Help
returns-in-Help g c = (c.print_help.result, c.print_help.ensures, c.of.ensures)

pub returns-in-Version : goal.returns-in-Version
returns-in-Version g c = (c.print_version.result, c.print_version.ensures, c.of-in-Version.ensures)

pub returns-in_default : goal.returns-in_default
returns-in_default g c = (Err c.refused.result.failure, inl refl, c.stopped.ensures)

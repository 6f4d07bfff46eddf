use Rattle.std.proofs.Common.{◌≡◌}
use Rattle.jar_commands.specs.Program.{written_by}
use Rattle.jar_commands.proofs.ProgramLemmas.{prints_only}
use Rattle.jar_commands.proofs.printing.print_help.Goals as goal

pub returns : goal.returns
returns g c =
    prints_only (c.print.new.writer ≡ c.args.writer.now)
    (written_by g.W.Sink.written g.W.Failing.failures c.args.writer.now c.print.new.writer) c.as_bytes.result.now
    c.print.result c.print.ensures.ok c.print.ensures.err

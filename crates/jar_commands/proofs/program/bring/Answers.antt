use Rattle.std.proofs.Common.{◌≡◌, ◌∙◌, option_map, refl, sym}
use Rattle.jar_commands.specs.Performing.{read_by}
use Rattle.jar_commands.specs.Program.{reads_input}
use Rattle.jar_commands.proofs.KeptLemmas.{brings_given}
use Rattle.jar_commands.proofs.program.bring.Goals as goal

pub returns-then-not-reads_input-clause-ok : goal.returns-then-not-reads_input-clause-ok
returns-then-not-reads_input-clause-ok g c =
    let reader = read_by g.R.Source.left g.R.Source.reads g.R.Failing.failures c.args.reader.now c.args.reader.now in
    brings_given (c.args.reader.now ≡ c.args.reader.now) reader (reads_input c.args.command.now)
    (λ brought. option_map (λ text. text.items) brought) c.read_given.result
    (sym c.reads_input.ensures ∙ c.if-not-reads_input.true) refl

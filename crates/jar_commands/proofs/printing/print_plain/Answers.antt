use Rattle.std.proofs.Common.{◌≡◌, ◌∙◌, ◌∷◌, ◌++◌, [], ℕ, List, subst}
use Rattle.std.specs.Prelude.{MatchOption, string_bytes}
use Rattle.plain_url.specs.Plain.{HasNoPlain}
use Rattle.jar_commands.specs.Instead.{IsPlainInstead}
use Rattle.jar_commands.specs.Program.{written_by}
use Rattle.jar_commands.proofs.InsteadLemmas.{prints_plain}
use Rattle.jar_commands.proofs.printing.print_plain.Goals as goal

pub returns-in-Ok-Some : goal.returns-in-Ok-Some
returns-in-Ok-Some g c =
    let made = subst (λ found. MatchOption found (HasNoPlain c.args.text.now) (λ line. (plain : List ℕ)
    × IsPlainInstead c.args.text.now plain × (string_bytes line ≡ plain ++ 10 ∷ []))) c.in-Ok-Some.field-0-is
    c.in-Ok-Some.ensures in
    prints_plain (c.print.new.writer ≡ c.args.writer.now)
    (written_by g.W.Sink.written g.W.Failing.failures c.args.writer.now c.print.new.writer) c.args.text.now made.0
    c.as_bytes.result.now c.print.result made.1 (c.as_bytes.ensures.value ∙ made.2) c.print.ensures.ok
    c.print.ensures.err

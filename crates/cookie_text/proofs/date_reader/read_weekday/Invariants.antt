use Rattle.std.proofs.Common.{◌≡◌}
use Rattle.httpdate.specs.Text.{day_name}
use Rattle.httpdate.specs.Reader.{read_name}
use Rattle.cookie_text.proofs.date_reader.read_weekday.Given as goal

abbrev pub invariant-loop-weekday : goal.invariant-loop-weekday
invariant-loop-weekday l = read_name day_name 7 l.text ≡ read_name day_name l.weekday l.text

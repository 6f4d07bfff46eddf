use Rattle.std.proofs.Common.{◌≡◌}
use Rattle.httpdate.specs.Text.{month_name}
use Rattle.httpdate.specs.Reader.{read_name}
use Rattle.cookie_text.proofs.date_reader.read_month.Given as goal

abbrev pub invariant-loop-month : goal.invariant-loop-month
invariant-loop-month l = read_name month_name 12 l.text ≡ read_name month_name l.month l.text

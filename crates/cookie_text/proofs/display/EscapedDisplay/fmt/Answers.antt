use Rattle.std.proofs.Common.{rules, sym}
use Rattle.cookie_text.proofs.EscapeLemmas.{encoded_by_profile}
use Rattle.cookie_text.proofs.display.EscapedDisplay.fmt.Goals as goal

pub returns-clause-writes : goal.returns-clause-writes
returns-clause-writes g c = rw (sym (encoded_by_profile c.args.self.now.0.now)) (search rules)

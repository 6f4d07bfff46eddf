use Rattle.std.proofs.Common.{lit<}
use Rattle.std.proofs.lemmas.Str.Pattern.{strip_prefix_char}
use Rattle.cookie_text.proofs.PieceLemmas.{without_dot_none}
use Rattle.cookie_text.proofs.cookie.without_leading_dot.Goals as goal

pub returns-in-None : goal.returns-in-None
returns-in-None c = without_dot_none c.args.text.now (rw c.in-None.is at
    (strip_prefix_char 46 c.args.text.now c.strip_prefix.result c.strip_prefix.ensures.cases (lit< tt)))

use Rattle.std.proofs.Common.{lit<, sym}
use Rattle.std.proofs.lemmas.Str.Pattern.{strip_prefix_char}
use Rattle.cookies_txt.proofs.ExpiryLemmas.{unsigned_second}
use Rattle.cookies_txt.proofs.fields.second_of.Goals as goal

pub returns-in-None-clause-second : goal.returns-in-None-clause-second
returns-in-None-clause-second c =
    unsigned_second c.args.text.now c.whole_second_of-in-None.result c.strip_prefix.result
    (sym c.if-is_empty.ensures) c.in-None.is
    (strip_prefix_char 45 c.args.text.now c.strip_prefix.result c.strip_prefix.ensures.cases (lit< tt))
    c.whole_second_of-in-None.ensures.second

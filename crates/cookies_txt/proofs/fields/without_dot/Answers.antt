use Rattle.std.proofs.Common.{◌∙◌, ap, lit<}
use Rattle.std.proofs.lemmas.Str.Pattern.{strip_prefix_char}
use Rattle.store_parts.proofs.DomainLemmas.{without_dot-stripped}
use Rattle.cookies_txt.proofs.fields.without_dot.Goals as goal

pub returns : goal.returns
returns c =
    let split = strip_prefix_char 46 c.args.text.now c.strip_prefix.result c.strip_prefix.ensures.cases (lit< tt) in
    ap (λ t. t.now) c.unwrap_or.ensures ∙ without_dot-stripped c.args.text c.strip_prefix.result split

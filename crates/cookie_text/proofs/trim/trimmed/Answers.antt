use Rattle.std.proofs.Common.{lit<, ap, sym, ◌∙◌}
use Rattle.std.specs.Str.{trim}
use Rattle.std.proofs.lemmas.Str.Pattern.{strip_prefix_char}
use Rattle.cookie_text.proofs.TrimLemmas.{trim-space}
use Rattle.cookie_text.proofs.trim.trimmed.Goals as goal

pub returns-then-has_graphic_ends-2 : goal.returns-then-has_graphic_ends-2
returns-then-has_graphic_ends-2 c =
    let cut = rw c.in-Some.is at
    (strip_prefix_char 32 c.args.text.now c.strip_prefix.result c.strip_prefix.ensures.cases
    (lit< tt)) in
    sym (ap trim cut
    ∙ (trim-space c.in-Some.rest.now ∙ c.has_graphic_ends-in-Some.ensures c.if-has_graphic_ends-2.true))

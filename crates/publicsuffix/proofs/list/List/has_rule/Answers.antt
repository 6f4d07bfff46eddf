use Rattle.std.proofs.Common.{◌∙◌, length, nat_lt, ap}
use Rattle.publicsuffix.specs.Tree.{paths, marks_of, rules_of}
use Rattle.publicsuffix.proofs.NodeLemmas.{length_paths}
use Rattle.publicsuffix.proofs.TreeLemmas.{some_marked}
use Rattle.publicsuffix.proofs.list.List.has_rule.Goals as goal

pub returns : goal.returns
unfolding rules_of marks_of
returns c =
    let nodes = c.tree.result.now.nodes.items in
    c.has_rule.ensures ∙ some_marked (paths nodes) nodes (length_paths nodes)
    ∙ ap (λ rules. nat_lt 0 (length rules)) c.tree.ensures.rules

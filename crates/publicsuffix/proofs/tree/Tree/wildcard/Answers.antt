use Rattle.std.proofs.Common.{◌∙◌, sym, ap, arith}
use Rattle.publicsuffix.proofs.NodeLemmas.{child_wildcard, wildcard_get}
use Rattle.publicsuffix.proofs.tree.Tree.wildcard.Goals as goal

pub returns : goal.returns
returns c =
    let nodes = c.args.self.now.nodes in
    ap (λ n. n.wildcard) c.index.ensures
    ∙ sym (wildcard_get nodes.items c.args.at c.index.result.now (omega (arith, c.requires, nodes.ok.0)))
    ∙ sym (child_wildcard nodes.items c.args.at)

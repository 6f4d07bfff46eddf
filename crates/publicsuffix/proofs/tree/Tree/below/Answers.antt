use Rattle.std.proofs.Common.{◌∙◌, string_bytes, ap, sym, arith}
use Rattle.publicsuffix.specs.Rules.{Wildcard, Text}
use Rattle.publicsuffix.specs.Tree.{child}
use Rattle.publicsuffix.proofs.NodeLemmas.{IsBelow-found}
use Rattle.publicsuffix.proofs.tree.Tree.below.Goals as goal

pub returns-in-Some-clause-below : goal.returns-in-Some-clause-below
returns-in-Some-clause-below c =
    let nodes = c.args.self.now.nodes in
    rw c.in-Wildcard.is
    (IsBelow-found nodes.items c.args.at Wildcard c.in-Some.found c.requires.grown
    (omega (arith, c.requires.within, nodes.ok.0)) (sym c.wildcard.ensures ∙ c.in-Some.is))

pub returns-in-Some-find-clause-below : goal.returns-in-Some-find-clause-below
returns-in-Some-find-clause-below c =
    let nodes = c.args.self.now.nodes in
    let form = string_bytes c.in-Text.form in
    rw c.in-Text.is
    (IsBelow-found nodes.items c.args.at (Text form) c.in-Some-find.found c.requires.grown
    (omega (arith, c.requires.within, nodes.ok.0))
    (ap (λ f. child nodes.items c.args.at (Text f)) (sym c.as_bytes-in-Text.ensures.value) ∙ sym c.find.ensures
    ∙ c.in-Some-find.is))

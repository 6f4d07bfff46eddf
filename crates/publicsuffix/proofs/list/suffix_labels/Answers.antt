use Rattle.std.proofs.Common.{arith, ◌≡◌, ◌≤◌, length, subst, sym}
use Rattle.std.proofs.lemmas.List.Splits.{length-slice_split}
use Rattle.idna.specs.Labels.{is_full_stop, labels_of}
use Rattle.publicsuffix.specs.Tree.{rules_of}
use Rattle.publicsuffix.proofs.PrevailingLemmas.{told-within}
use Rattle.publicsuffix.proofs.list.suffix_labels.Goals as goal

pub returns-in-Some-clause-within : goal.returns-in-Some-clause-within
returns-in-Some-clause-within c =
    let labels = labels_of c.args.name.now.text.now in
    subst (λ n. n ≤ length labels) (sym c.covered.ensures)
    (told-within (rules_of c.args.tree.now.nodes.items) labels c.in-Some.found c.in-Some.ensures)

pub returns-in-None-clause-within : goal.returns-in-None-clause-within
returns-in-None-clause-within c = omega (arith, length-slice_split is_full_stop c.args.name.now.text.now)

use Rattle.std.proofs.Common.{[], length, refl, ap, arith}
use Rattle.idna.specs.Labels.{labels_of}
use Rattle.publicsuffix.proofs.NodeLemmas.{length_paths}
use Rattle.publicsuffix.proofs.WalkLemmas.{prevails_from_walk}
use Rattle.publicsuffix.proofs.walk.prevailing.Goals as goal

pub returns : goal.returns
returns c =
    prevails_from_walk c.args.tree.now.nodes.items (labels_of c.args.name.now.text.now)
    (labels_of c.text.result.now) c.best.result (ap labels_of c.text.ensures)
    (c.best.ensures [] [] c.requires.grown.root tt refl)

pub best-requires : goal.best-requires
best-requires c = record {
  grown = c.requires.grown;
  linked = c.requires.linked;
  within = omega (arith, c.requires.grown.some, length_paths c.args.tree.now.nodes.items);
  room = omega (arith, ap (λ t. length (labels_of t)) c.text.ensures, c.count-count.ensures, c.count-count.type_inv);
}

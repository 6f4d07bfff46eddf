use Rattle.std.proofs.Common.{rules, ◌≡◌, ◌∙◌, ◌++◌, ◌∷◌, [], ap, sym, subst, map}
use Rattle.std.proofs.lemmas.List.{map_push}
use Rattle.publicsuffix.specs.View.{label_view}
use Rattle.publicsuffix.proofs.NodeLemmas.{GrowsTo, GrowsTo-none, GrowsTo-more, HasMore-marked, IsLinked-marked}
use Rattle.publicsuffix.proofs.tree.Tree.insert.Goals as goal

pub loop-label-init : goal.loop-label-init
loop-label-init c =
    let nodes = c.args.self.now.nodes.items in
    let labels = map label_view c.into_parts-exception.result.1.items in (
      subst (GrowsTo nodes nodes 0 labels) (sym (ap (λ r. r.labels) c.into_parts-exception.ensures))
          (GrowsTo-none nodes labels c.requires.grown),
      c.requires.linked,
    )

pub loop-label-preserved : goal.loop-label-preserved
loop-label-preserved c =
    let split : c.loop-label.labels.items ≡ c.pop.new.self.items ++ c.in-Some.label ∷ [] = c.in-Some.ensures.items in (
      GrowsTo-more c.args.self.now.nodes.items c.loop-label.self.nodes.items c.below.new.self.nodes.items
          c.loop-label.at c.in_ok-at.at
          (map label_view c.loop-label.labels.items) (map label_view c.pop.new.self.items) c.args.rule.labels
          (label_view c.in-Some.label) c.loop-label.invariant.0
          (ap (map label_view) split ∙ map_push label_view c.pop.new.self.items c.in-Some.label)
          c.in_ok-at.ensures.below,
      c.in_ok-at.ensures.linked,
    )

pub returns-clause-more : goal.returns-clause-more
returns-clause-more c =
    let nodes = c.args.self.now.nodes.items in
    let none : c.loop-label.labels.items ≡ [] = search rules in
    HasMore-marked nodes c.loop-label.self.nodes.items c.loop-label.at c.args.rule c.index_mut.result.now
    c.mark.new.self c.into_parts-exception.result.0
    (ap (λ r. r.is_exception) c.into_parts-exception.ensures)
    (subst (λ xs. GrowsTo nodes c.loop-label.self.nodes.items c.loop-label.at
    (map label_view xs) c.args.rule.labels) none c.loop-label.invariant.0)
    c.index_mut.ensures.value c.mark.ensures

pub returns-clause-linked : goal.returns-clause-linked
returns-clause-linked c =
    IsLinked-marked c.loop-label.self.nodes.items c.loop-label.self.heads.items c.loop-label.at c.index_mut.result.now
    c.mark.new.self c.into_parts-exception.result.0 c.index_mut.ensures.value c.mark.ensures c.loop-label.invariant.1

use Rattle.std.proofs.Common.{◌≡◌, ◌∙◌, ◌++◌, ◌∷◌, [], length, sym, subst, arith}
use Rattle.std.specs.Prelude.{set}
use Rattle.publicsuffix.specs.Rules.{Wildcard}
use Rattle.publicsuffix.specs.Tree.{HasWildcard, IsBelow}
use Rattle.publicsuffix.proofs.NodeLemmas.{IsBelow-wildcard, IsLinked-wildcard}
use Rattle.publicsuffix.proofs.tree.Tree.hang_wildcard.Goals as goal

pub returns-clause-below : goal.returns-clause-below
returns-clause-below c =
    let tree = c.args.self.now in
    let nodes = tree.nodes.items in
    let old = c.index_mut.result.now in
    let new = c.lead.new.self in
    let next : c.len-next.result ≡ length nodes = c.len-next.ensures ∙ tree.nodes.ok.0 in
    let all = set nodes c.args.at new ++ c.new.result ∷ [] in
    rw c.in_ok-push.ensures.items
    (subst (λ n. IsBelow nodes all c.args.at Wildcard n) (sym next)
    (IsBelow-wildcard nodes tree.heads.items c.args.at c.requires.grown c.requires.linked
    (omega (arith, c.requires.within, tree.nodes.ok.0)) old new c.new.result c.index_mut.ensures.value c.requires.free
    (subst (λ n. HasWildcard old new n) next c.lead.ensures) c.new.ensures))

pub returns-clause-linked : goal.returns-clause-linked
returns-clause-linked c =
    let tree = c.args.self.now in
    let nodes = tree.nodes.items in
    let old = c.index_mut.result.now in
    let new = c.lead.new.self in
    let next : c.len-next.result ≡ length nodes = c.len-next.ensures ∙ tree.nodes.ok.0 in
    rw c.in_ok-push.ensures.items
    (IsLinked-wildcard nodes tree.heads.items c.args.at c.requires.grown c.requires.linked
    (omega (arith, c.requires.within, tree.nodes.ok.0)) old new c.new.result c.index_mut.ensures.value c.requires.free
    (subst (λ n. HasWildcard old new n) next c.lead.ensures) c.new.ensures)

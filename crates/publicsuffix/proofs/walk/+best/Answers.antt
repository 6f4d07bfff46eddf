use Rattle.std.proofs.Common.{◌≡◌, ℕ, ◌<◌, ◌+◌, ◌∙◌, List, ◌++◌, ◌∷◌, [], Some, length, refl, ap, subst, arith}
use Rattle.std.specs.Prelude.{IfSome}
use Rattle.std.specs.List.{AllZip}
use Rattle.std.proofs.lemmas.List.{length-append}
use Rattle.publicsuffix.specs.Prevailing.{Fits}
use Rattle.publicsuffix.specs.Rules.{Label}
use Rattle.publicsuffix.specs.Tree.{rules_of}
use Rattle.publicsuffix.specs.Walk.{IsAt, IsFirst, IsFirstOf, Reaches, labels_left, own_of}
use Rattle.publicsuffix.proofs.WalkLemmas.{IsFirst-end, IsFirst-nowhere, Walked, Walked-begin, Walked-step, within-ways}
use Rattle.publicsuffix.proofs.walk.+best.Goals.{in-None, in-Some-other}
use Rattle.publicsuffix.proofs.walk.+best.Goals as goal

pub loop-way-init : goal.loop-way-init
loop-way-init t c = record {
  within = c.requires.within;
  counted = refl;
  fewer = omega arith;
  walked = λ path back here fits long. Walked-begin c.args.tree.now.nodes.items
      (labels_left c.args.rest) back path c.args.from c.args.depth here fits long;
}

pub index-node-requires : goal.index-node-requires
index-node-requires t c =
    let nodes = c.args.tree.now.nodes in
    let within = subst (λ o. IfSome o (λ i. i < length nodes.items)) c.in-Some.is c.loop-way.invariant.within in
    omega (arith, within, nodes.ok.0)

pub ways-next-requires-clause-within : goal.ways-next-requires-clause-within
ways-next-requires-clause-within t c =
    subst (λ o. IfSome o (λ i. i < length c.args.tree.now.nodes.items)) c.in-Some.is c.loop-way.invariant.within

pub overflow_add-depth : goal.overflow_add-depth
overflow_add-depth t c =
    let front = labels_left c.split_last.result.0 in
    let m = c.split_last.result.1.now in
    let on = c.loop-way.invariant in
    let cut : labels_left c.loop-way.rest ≡ front ++ m ∷ [] = ap labels_left c.in-Some-rest.is ∙ c.split_last.ensures in
    omega (arith, ap length cut, length-append front (m ∷ []), on.counted, c.requires.room)

pub best-aside-requires : goal.best-aside-requires
best-aside-requires t c =
    let nodes = c.args.tree.now.nodes.items in
    let front = labels_left c.split_last.result.0 in
    let m = c.split_last.result.1.now in
    let on = c.loop-way.invariant in
    let within = subst (λ o. IfSome o (λ i. i < length nodes)) c.in-Some.is on.within in
    let cut : labels_left c.loop-way.rest ≡ front ++ m ∷ [] = ap labels_left c.in-Some-rest.is ∙ c.split_last.ensures in
    let ways = within-ways nodes c.in-Some.at c.index-node.result.now c.requires.grown within c.index-node.ensures m
    c.ways-next.result c.ways-next.ensures in (
      omega (arith, ap length cut, length-append front (m ∷ []), on.fewer, c.decreases),
      (
        ways.1,
        (
          c.requires.grown,
          (
            c.requires.linked,
            omega (arith, ap length cut, length-append front (m ∷ []), on.counted, c.requires.room),
          ),
        ),
      ),
    )

pub loop-way-preserved : goal.loop-way-preserved
loop-way-preserved t c =
    let nodes = c.args.tree.now.nodes.items in
    let node = c.index-node.result.now in
    let front = labels_left c.split_last.result.0 in
    let m = c.split_last.result.1.now in
    let on = c.loop-way.invariant in
    let found = c.loop-way.found in
    let depth = c.loop-way.depth in
    let middle = c.first_found-found.result in
    let within = subst (λ o. IfSome o (λ i. i < length nodes)) c.in-Some.is on.within in
    let cut : labels_left c.loop-way.rest ≡ front ++ m ∷ [] = ap labels_left c.in-Some-rest.is ∙ c.split_last.ensures in
    let ways = within-ways nodes c.in-Some.at node c.requires.grown within c.index-node.ensures m c.ways-next.result
    c.ways-next.ensures in
    let is_middle : IsFirstOf found (own_of node.plain node.exception depth) middle =
    subst (λ o. IsFirstOf found o middle) c.own.ensures c.first_found-found.ensures in
    let beside : (path : List Label) (back : List (List ℕ)) → IsAt nodes c.ways-next.result.1 path
    → AllZip Fits path back → depth + 1 ≡ length path
    → IsFirst (Reaches (rules_of nodes) (front ++ back) path) c.match-other.aside =
    elim c.match-other.branch [
      | in-Some-other w ↦ rw w.aside-is w.best-aside.ensures
      | in-None w ↦
          rw w.aside-is (λ path back here fits long rule on.
          (subst (λ o. IsAt nodes o path) w.in-None.is here) rule on.more on.of_list on.ends)
    ] in
    record {
      within = ways.0;
      counted = omega (arith, ap length cut, length-append front (m ∷ []), on.counted);
      fewer = omega (arith, ap length cut, length-append front (m ∷ []), on.fewer);
      walked = λ path back here fits long.
          let name = labels_left c.args.rest ++ back in
          let walked : Walked nodes name path (Some c.in-Some.at) depth (labels_left c.loop-way.rest) found =
          subst (λ o. Walked nodes name path o depth (labels_left c.loop-way.rest) found) c.in-Some.is
          (on.walked path back here fits long) in
          Walked-step nodes c.in-Some.at node c.requires.grown within c.index-node.ensures name path depth
          (labels_left c.loop-way.rest) front m found middle c.match-other.aside c.first_found-found-in-Some.result
          c.ways-next.result
          cut walked c.ways-next.ensures is_middle beside c.first_found-found-in-Some.ensures;
    }

pub returns-in_default-rest : goal.returns-in_default-rest
returns-in_default-rest t c = λ path back here fits long.
    let nodes = c.args.tree.now.nodes.items in
    let node = c.index-node.result.now in
    let on = c.loop-way.invariant in
    let found = c.loop-way.found in
    let depth = c.loop-way.depth in
    let last = c.first_found-found.result in
    let name = labels_left c.args.rest ++ back in
    let within = subst (λ o. IfSome o (λ i. i < length nodes)) c.in-Some.is on.within in
    let walked : Walked nodes name path (Some c.in-Some.at) depth (labels_left c.loop-way.rest) found =
    subst (λ o. Walked nodes name path o depth (labels_left c.loop-way.rest) found) c.in-Some.is
    (on.walked path back here fits long) in
    let ended : Walked nodes name path (Some c.in-Some.at) depth [] found =
    subst (λ r. Walked nodes name path (Some c.in-Some.at) depth (labels_left r) found) c.in_default-rest.is walked in
    IsFirst-end nodes c.in-Some.at node c.requires.grown within c.index-node.ensures name path depth found last ended
    (subst (λ o. IsFirstOf found o last) c.own.ensures c.first_found-found.ensures)

pub returns : goal.returns
returns t c = λ path back here fits long.
    let nodes = c.args.tree.now.nodes.items in
    let name = labels_left c.args.rest ++ back in
    let found = c.loop-way.found in
    let depth = c.loop-way.depth in
    let rest = labels_left c.loop-way.rest in
    IsFirst-nowhere nodes name path depth rest found
    (subst (λ o. Walked nodes name path o depth rest found) c.in_default.is
    (c.loop-way.invariant.walked path back here fits long))

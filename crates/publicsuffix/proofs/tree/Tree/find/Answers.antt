use Rattle.std.proofs.Common.{◌≡◌, ◌<◌, ◌%◌, ◌∙◌, length, ap, sym, subst, arith}
use Rattle.std.specs.Prelude.{get_or}
use Rattle.std.proofs.Math.Nat.{mod-lt}
use Rattle.std.proofs.lemmas.List.{get_or_default}
use Rattle.publicsuffix.specs.Tree.{edges_of, hangs_at, hashed, nexts_of}
use Rattle.publicsuffix.proofs.NodeLemmas.{child_text, edges_get, length_edges, nexts_get}
use Rattle.publicsuffix.proofs.TableLemmas.{IsAlong, IsAlong-end, IsAlong-found, IsAlong-head, IsAlong-next}
use Rattle.publicsuffix.proofs.tree.Tree.find.Goals as goal

pub loop-next-init : goal.loop-next-init
loop-next-init c =
    let tree = c.args.self.now in
    let heads = tree.heads.items in
    let bucket = hashed c.args.at c.args.text.now % length heads in
    let along = IsAlong-head (edges_of tree.nodes.items) (nexts_of tree.nodes.items) heads (length heads) c.args.at
    c.args.text.now c.requires.linked in
    let place : c.index-next.result.now ≡ get_or heads bucket 0 =
    c.index-next.ensures ∙ ap (λ b. get_or heads b c.index-next.result.now) c.requires.falls
    ∙ get_or_default heads bucket c.index-next.result.now 0
    (mod-lt (hashed c.args.at c.args.text.now) c.requires.linked.some) in
    subst (IsAlong (edges_of tree.nodes.items) (length heads) c.args.at c.args.text.now) (sym place) along

pub index-node-requires : goal.index-node-requires
index-node-requires c =
    let nodes = c.args.self.now.nodes in
    omega (arith, c.loop-next.invariant.within, length_edges nodes.items, nodes.ok.0)

pub returns-then-hangs_at : goal.returns-then-hangs_at
returns-then-hangs_at c =
    let tree = c.args.self.now in
    let nodes = tree.nodes.items in
    let within : c.loop-next.next < length nodes =
    omega (arith, c.loop-next.invariant.within, length_edges nodes) in
    let edge = edges_get nodes c.loop-next.next c.index-node.result.now within c.index-node.ensures in
    sym (child_text nodes c.args.at c.args.text.now
    ∙ IsAlong-found (edges_of nodes) (length tree.heads.items) c.args.at c.args.text.now c.loop-next.next
    c.loop-next.invariant (ap (hangs_at c.args.at c.args.text.now) edge ∙ sym c.hangs_at.ensures ∙ c.if-hangs_at.true))

pub loop-next-smaller : goal.loop-next-smaller
loop-next-smaller c =
    let tree = c.args.self.now in
    let nodes = tree.nodes.items in
    let place = c.loop-next.next in
    let within : place < length nodes = omega (arith, c.loop-next.invariant.within, length_edges nodes) in
    let edge = edges_get nodes place c.index-node.result.now within c.index-node.ensures in
    let link = nexts_get nodes place c.index-node.result.now within c.index-node.ensures in
    subst (λ n. n < place) link
    (IsAlong-next (edges_of nodes) (nexts_of nodes) tree.heads.items (length tree.heads.items) c.args.at c.args.text.now
    place c.requires.linked c.loop-next.invariant (omega arith)
    (ap (hangs_at c.args.at c.args.text.now) edge ∙ sym c.hangs_at.ensures ∙ c.if-hangs_at.false)).1

pub loop-next-preserved : goal.loop-next-preserved
loop-next-preserved c =
    let tree = c.args.self.now in
    let nodes = tree.nodes.items in
    let place = c.loop-next.next in
    let within : place < length nodes = omega (arith, c.loop-next.invariant.within, length_edges nodes) in
    let edge = edges_get nodes place c.index-node.result.now within c.index-node.ensures in
    let link = nexts_get nodes place c.index-node.result.now within c.index-node.ensures in
    subst (IsAlong (edges_of nodes) (length tree.heads.items) c.args.at c.args.text.now) link
    (IsAlong-next (edges_of nodes) (nexts_of nodes) tree.heads.items (length tree.heads.items) c.args.at c.args.text.now
    place c.requires.linked c.loop-next.invariant (omega arith)
    (ap (hangs_at c.args.at c.args.text.now) edge ∙ sym c.hangs_at.ensures ∙ c.if-hangs_at.false)).0

pub returns : goal.returns
returns c =
    let tree = c.args.self.now in
    let nodes = tree.nodes.items in
    let end : c.loop-next.next ≡ 0 = omega arith in
    sym (child_text nodes c.args.at c.args.text.now
    ∙ IsAlong-end (edges_of nodes) (nexts_of nodes) tree.heads.items (length tree.heads.items) c.args.at
    c.args.text.now c.requires.linked
    (subst (IsAlong (edges_of nodes) (length tree.heads.items) c.args.at c.args.text.now) end c.loop-next.invariant))

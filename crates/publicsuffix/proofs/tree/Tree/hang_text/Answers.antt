use Rattle.std.proofs.Common.{◌≡◌, ◌∙◌, ◌++◌, ◌∷◌, [], length, string_bytes, sym, subst, arith}
use Rattle.std.specs.Prelude.{get_or, set}
use Rattle.std.proofs.Math.Nat.{mod-lt}
use Rattle.std.proofs.lemmas.List.{get_or_default}
use Rattle.publicsuffix.specs.Rules.{Text}
use Rattle.publicsuffix.specs.Tree.{IsBelow, Linked, edges_of, hashed, nexts_of}
use Rattle.publicsuffix.proofs.NodeLemmas.{IsBelow-text, IsLinked-text}
use Rattle.publicsuffix.proofs.tree.Tree.hang_text.Goals as goal

pub returns-clause-below : goal.returns-clause-below
returns-clause-below c =
    let tree = c.args.self.now in
    let nodes = tree.nodes.items in
    let form = string_bytes c.args.form in
    let next : c.len-next.result ≡ length nodes = c.len-next.ensures ∙ tree.nodes.ok.0 in
    rw c.in_ok-push.ensures.items
    (subst (λ n. IsBelow nodes (nodes ++ c.new.result ∷ []) c.args.at (Text form) n) (sym next)
    (IsBelow-text nodes tree.heads.items c.args.at c.requires.grown c.requires.linked
    (omega (arith, c.requires.within, tree.nodes.ok.0)) form c.new.result c.index-before.result.now c.requires.free
    c.new.ensures))

pub returns-clause-linked : goal.returns-clause-linked
returns-clause-linked c =
    let tree = c.args.self.now in
    let nodes = tree.nodes.items in
    let heads = tree.heads.items in
    let form = string_bytes c.args.form in
    let all = nodes ++ c.new.result ∷ [] in
    let bucket = c.args.bucket in
    let next : c.len-next.result ≡ length nodes = c.len-next.ensures ∙ tree.nodes.ok.0 in
    let before : c.index-before.result.now ≡ get_or heads bucket 0 =
    c.index-before.ensures ∙ get_or_default heads bucket c.index-before.result.now 0
    (omega (arith, c.requires.falls, mod-lt (hashed c.args.at form) c.requires.linked.some)) in
    rw c.in_ok-push.ensures.items
    (subst (λ n. Linked (length (set heads bucket n)) (edges_of all) (nexts_of all) (set heads bucket n)) (sym next)
    (IsLinked-text nodes heads c.args.at c.requires.grown c.requires.linked
    (omega (arith, c.requires.within, tree.nodes.ok.0)) form c.new.result c.index-before.result.now c.requires.free
    c.new.ensures bucket c.requires.falls before))

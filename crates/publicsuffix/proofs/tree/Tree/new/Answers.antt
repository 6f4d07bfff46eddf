use Rattle.std.proofs.Common.{◌≡◌, ℕ, ◌∙◌, length, replicate, ap, arith}
use Rattle.std.specs.Prelude.{get_or}
use Rattle.std.proofs.lemmas.List.{get_or-replicate, length-replicate}
use Rattle.publicsuffix.proofs.WalkLemmas.{root_grown, root_linked}
use Rattle.publicsuffix.proofs.tree.Tree.new.Goals as goal

pub returns-clause-grown : goal.returns-clause-grown
returns-clause-grown c = rw (c.in_ok-push.ensures.items, c.new-nodes.ensures.items)
    (root_grown c.new.result c.new.ensures)

pub returns-clause-linked : goal.returns-clause-linked
returns-clause-linked c =
    let heads = c.in_ok-heads.heads.items in
    let zeros : heads ≡ replicate {A = ℕ} c.args.buckets 0 =
    c.in_ok-heads.ensures.items_if_clones_equal (λ y same. same) in
    let long : length (replicate {A = ℕ} c.args.buckets 0) ≡ c.args.buckets = length-replicate c.args.buckets 0 in
    rw (c.in_ok-push.ensures.items, c.new-nodes.ensures.items)
    (root_linked c.new.result heads c.new.ensures (omega (arith, ap length zeros, long, c.requires))
    (λ b less. ap (λ hs. get_or hs b 0) zeros
    ∙ get_or-replicate c.args.buckets b 0 0 (omega (arith, less, ap length zeros, long))))

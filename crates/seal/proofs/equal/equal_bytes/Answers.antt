use Rattle.std.proofs.Common.{ℕ, arith}
use Rattle.std.proofs.lemmas.List.{take_more_same}
use Rattle.seal.proofs.EqualLemmas.{or_none_left, or_none_right, same_from_xor, xor_from_same, or_of_none, shorter_same}
use Rattle.seal.proofs.EqualLemmas.{last_same}
use Rattle.seal.proofs.equal.equal_bytes.Goals as goal

pub loop-i-preserved : goal.loop-i-preserved
loop-i-preserved c =
    let i : ℕ = c.loop-i.i in (
      λ e. take_more_same c.args.a.now c.args.b.now i 0 (omega arith) (omega arith)
          (c.loop-i.invariant.0 (or_none_left c.loop-i.differ _ e))
          (same_from_xor _ _ (or_none_right c.loop-i.differ _ e)),
      λ e. or_of_none c.loop-i.differ _ (c.loop-i.invariant.1 (shorter_same c.args.a.now c.args.b.now i e))
          (xor_from_same _ _ (last_same c.args.a.now c.args.b.now i e)),
    )

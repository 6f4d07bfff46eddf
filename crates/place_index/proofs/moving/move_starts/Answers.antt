use Rattle.std.proofs.Common.{◌∙◌, arith, ltb, rules}
use Rattle.std.proofs.lemmas.List.Sorted.{IsPartitionPoint-from_clause, IsPartitionedBy-ltb}
use Rattle.place_index.specs.Index.{moved}
use Rattle.place_index.proofs.AscendLemmas.{PartAt, move_begun, moves_one}
use Rattle.place_index.proofs.StartLemmas.{first_mapped-all, first_mapped-step}
use Rattle.place_index.proofs.moving.move_starts.Goals as goal

pub loop-i-init : goal.loop-i-init
loop-i-init c =
    let part : PartAt (λ s. ltb s c.args.at) c.args.starts.now c.partition_point-behind.result
    = IsPartitionPoint-from_clause (λ s. ltb s c.args.at) _ _ c.partition_point-behind.ensures.partitioned
    (IsPartitionedBy-ltb (λ n. n) _ c.args.at c.requires.ascend) (λ a r q k. search rules) in
    (omega arith, move_begun c.args.starts.now c.args.at c.partition_point-behind.result part)

pub overflow_add-starts : goal.overflow_add-starts
overflow_add-starts c =
    let part : PartAt (λ s. ltb s c.args.at) c.args.starts.now c.partition_point-behind.result
    = IsPartitionPoint-from_clause (λ s. ltb s c.args.at) _ _ c.partition_point-behind.ensures.partitioned
    (IsPartitionedBy-ltb (λ n. n) _ c.args.at c.requires.ascend) (λ a r q k. search rules) in
    let one = (moves_one c.args.starts.now c.args.at c.partition_point-behind.result c.loop-i.starts c.loop-i.i part
    c.requires.low c.loop-i.invariant.1 c.loop-i.invariant.0 c.loop-i-test.true).0 in
    omega (arith, one)

pub loop-i-preserved : goal.loop-i-preserved
loop-i-preserved c =
    let part : PartAt (λ s. ltb s c.args.at) c.args.starts.now c.partition_point-behind.result
    = IsPartitionPoint-from_clause (λ s. ltb s c.args.at) _ _ c.partition_point-behind.ensures.partitioned
    (IsPartitionedBy-ltb (λ n. n) _ c.args.at c.requires.ascend) (λ a r q k. search rules) in
    let le = c.loop-i.invariant.0 in (
      omega (arith, le),
      first_mapped-step (moved c.args.at) c.args.starts.now c.loop-i.starts c.loop-i.i _ c.loop-i.invariant.1
          c.loop-i-test.true
          (moves_one c.args.starts.now c.args.at c.partition_point-behind.result c.loop-i.starts c.loop-i.i part
          c.requires.low c.loop-i.invariant.1 le c.loop-i-test.true).1,
    )

pub returns : goal.returns
returns c =
    c.loop-i.invariant.1
    ∙ first_mapped-all (moved c.args.at) c.args.starts.now c.loop-i.i c.loop-i-test.false

use Rattle.std.proofs.Common.{◌∙◌, arith, leb, rules}
use Rattle.std.proofs.lemmas.List.Sorted.{IsPartitionPoint-from_clause, IsPartitionedBy-leb}
use Rattle.place_index.specs.Taking.{moved_back}
use Rattle.place_index.proofs.AscendLemmas.{PartAt, back_begun, goes_back}
use Rattle.place_index.proofs.StartLemmas.{first_mapped-all, first_mapped-step}
use Rattle.place_index.proofs.moving.move_starts_back.Goals as goal

pub loop-index-init : goal.loop-index-init
loop-index-init c =
    let part : PartAt (λ s. leb s c.args.at) c.args.starts.now c.partition_point-behind.result
    = IsPartitionPoint-from_clause (λ s. leb s c.args.at) _ _ c.partition_point-behind.ensures.partitioned
    (IsPartitionedBy-leb (λ n. n) _ c.args.at c.requires) (λ a r q k. search rules) in
    (omega arith, back_begun c.args.starts.now c.args.at c.partition_point-behind.result part)

pub overflow_sub-starts : goal.overflow_sub-starts
overflow_sub-starts c =
    let part : PartAt (λ s. leb s c.args.at) c.args.starts.now c.partition_point-behind.result
    = IsPartitionPoint-from_clause (λ s. leb s c.args.at) _ _ c.partition_point-behind.ensures.partitioned
    (IsPartitionedBy-leb (λ n. n) _ c.args.at c.requires) (λ a r q k. search rules) in
    (goes_back c.args.starts.now c.args.at c.partition_point-behind.result c.loop-index.starts c.loop-index.index part
    c.loop-index.invariant.1 c.loop-index.invariant.0 c.loop-index-test.true).0

pub loop-index-preserved : goal.loop-index-preserved
loop-index-preserved c =
    let part : PartAt (λ s. leb s c.args.at) c.args.starts.now c.partition_point-behind.result
    = IsPartitionPoint-from_clause (λ s. leb s c.args.at) _ _ c.partition_point-behind.ensures.partitioned
    (IsPartitionedBy-leb (λ n. n) _ c.args.at c.requires) (λ a r q k. search rules) in
    let le = c.loop-index.invariant.0 in (
      omega (arith, le),
      first_mapped-step (moved_back c.args.at) c.args.starts.now c.loop-index.starts c.loop-index.index _
          c.loop-index.invariant.1 c.loop-index-test.true
          (goes_back c.args.starts.now c.args.at c.partition_point-behind.result c.loop-index.starts
          c.loop-index.index part c.loop-index.invariant.1 le c.loop-index-test.true).1,
    )

pub returns : goal.returns
returns c =
    c.loop-index.invariant.1
    ∙ first_mapped-all (moved_back c.args.at) c.args.starts.now c.loop-index.index c.loop-index-test.false

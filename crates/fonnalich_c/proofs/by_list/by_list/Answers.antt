use Rattle.std.proofs.Common.{refl, subst, sym}
use Rattle.std.specs.Prelude.{IfErr}
use Rattle.fonnalich_c.specs.Shard.{IsShardIn}
use Rattle.fonnalich_c.specs.Tasks.{FailsBy, MakesBy}
use Rattle.fonnalich_c.proofs.Exchanges.{err_gives}
use Rattle.fonnalich_c.proofs.Faults.{memory_unloaded}
use Rattle.fonnalich_c.proofs.by_list.by_list.Goals as goal

pub returns-in_err-shared-in-Load-clause-err : goal.returns-in_err-shared-in-Load-clause-err
returns-in_err-shared-in-Load-clause-err c =
    subst (λ by. IfErr c.from_residual-in_err-shared-in-Load.result
    (FailsBy by c.args.second c.args.subject.now c.args.list.now)) (sym c.in-Load.is)
    (err_gives c.from_residual-in_err-shared-in-Load.result _ _ c.from_residual-in_err-shared-in-Load.ensures
    (λ refused is. memory_unloaded c.args.second c.args.subject.now refused is))

pub returns-in_ok-copied-in-Shard-clause-ok : goal.returns-in_ok-copied-in-Shard-clause-ok
returns-in_ok-copied-in-Shard-clause-ok c =
    subst (λ by. MakesBy by c.args.second c.args.subject.now c.args.list.now c.args.client.now
    c.in_ok-copied-in-Shard.field-0.items c.args.client.now) (sym c.in-Shard.is) (
      refl,
      subst (IsShardIn c.args.list.now c.args.subject.now) (sym c.in_ok-copied-in-Shard.ensures)
          c.in_ok-shard-in-Shard.ensures.ok,
    )

use Rattle.std.proofs.Common.{◌++◌, ◌∙◌, take, length, arith}
use Rattle.std.proofs.KnownBytes.{Appends-trans}
use Rattle.devices.proofs.Pouring.{moves_front, wrote}
use Rattle.devices.proofs.pour.write_all.Goals as goal

pub loop-rest-preserved : goal.loop-rest-preserved
loop-rest-preserved g c =
    let (done, split, appended) = c.loop-rest.invariant.bytes in
    let rest = c.loop-rest.rest.now in
    let n = c.in-Ok.n in
    record {
      bytes = (
        done ++ take n rest,
        moves_front _ done rest n split,
        Appends-trans _ _ _ _ _ appended
            c.in-Ok.ensures.bytes,
      );
      failures = wrote n (length rest) _ _ (omega arith) c.in-Ok.ensures.failures ∙ c.loop-rest.invariant.failures;
      flushes = c.write.ensures.flushes ∙ c.loop-rest.invariant.flushes;
    }

pub returns-in_default-clause-flushes : goal.returns-in_default-clause-flushes
returns-in_default-clause-flushes g c = c.write.ensures.flushes ∙ c.loop-rest.invariant.flushes

pub returns-then-n-eq0-clause-flushes : goal.returns-then-n-eq0-clause-flushes
returns-then-n-eq0-clause-flushes g c = c.write.ensures.flushes ∙ c.loop-rest.invariant.flushes

pub returns-clause-flushes : goal.returns-clause-flushes
returns-clause-flushes g c = c.loop-rest.invariant.flushes

use Rattle.std.proofs.Common.{rules, ◌≢◌, refl, sym, inl, inr, ⊎_elim, Some}
use Rattle.cookie_client.specs.Jar.{IsRemovalRefusal}
use Rattle.cookie_client.specs.declared.outcome.SessionError.TheVariants.{OutOfMemory}
use Rattle.cookie_run.proofs.Runs.{removal_fills}
use Rattle.cookie_run.proofs.play.remove.Goals as goal

pub returns-in-Ok-clause-ok : goal.returns-in-Ok-clause-ok
returns-in-Ok-clause-ok c = (c.args.at, refl, inl (refl, rw (sym c.as_str.ensures.value) c.in-Ok.ensures.ok))

pub returns-in-Err : goal.returns-in-Err
returns-in-Err c =
    let other : c.in-Err.error ≢ OutOfMemory = search rules in
    let refusal : IsRemovalRefusal c.args.name.now c.args.at (Some c.in-Err.error) =
    rw (sym c.as_str.ensures.value)
    (⊎_elim (λ r. r) (λ lack. absurd (other lack.0)) c.in-Err.ensures.err) in
    record {
      ok = (c.args.at, refl, inr (c.in-Err.error, refl, refusal, c.in-Err.ensures.same));
      failed = (λ e. removal_fills c.args.name.now c.args.at c.in-Err.error refusal e, tt);
    }

use Rattle.std.proofs.Common.{◌≡◌, ◌≢◌, ◌⊎◌, [], ◌∷◌, Err, None, ⊎_elim, ap, refl, rules, subst, inl}
use Rattle.std.specs.Prelude.{IfErr}
use Rattle.cookie_text.specs.Record.{Seen}
use Rattle.cookie_run.specs.Drawn.{DrawsSo, SetDraws, IsDrawnInVain}
use Rattle.cookie_client.specs.Ways.{Refuses, set_refusal}
use Rattle.cookie_client.specs.declared.command.Command.TheVariants.{Set}
use Rattle.cookie_client.specs.declared.command.Reading.TheVariants.{Refused}
use Rattle.cookie_client.specs.declared.outcome.SessionError.TheVariants.{OutOfMemory}
use Rattle.cookie_client.specs.declared.way.Way.TheVariants.{Sealed}
use Rattle.cookie_run.proofs.DrawnRuns.{refused_drawn, set_drawn, vain_drawn}
use Rattle.cookie_run.proofs.Runs.{on_err_any}
use Rattle.cookie_run.proofs.play.set.Goals as goal

pub returns-in_err-cookie-clause-err : goal.returns-in_err-cookie-clause-err
returns-in_err-cookie-clause-err g c = on_err_any c.from_residual.result _ ([], refl, inl refl)

pub returns-in-Ok-clause-ok : goal.returns-in-Ok-clause-ok
returns-in-Ok-clause-ok g c =
    let same : c.in_ok-cookie.cookie ≡ c.args.cookie.now = c.in_ok-cookie.ensures in
    subst (λ s. DrawsSo g.R.TryRng.may_fill g.row.R-Error.Denot c.args.rng.now (λ ds. SetDraws ds c.args.session.now
    c.args.way s [] c.set-end.new.self) c.set-end.new.rng) same
    (set_drawn g.R.TryRng.may_fill g.row.R-Error.Denot c.args.rng.now c.set-end.new.rng c.args.session.now c.args.way
    c.in_ok-cookie.cookie c.set-end.new.self c.in-Ok.ensures.ok c.set-end.ensures.unasked)

pub returns-in-Err-OutOfMemory-clause-err : goal.returns-in-Err-OutOfMemory-clause-err
returns-in-Err-OutOfMemory-clause-err g c =
    let same : c.in_ok-cookie.cookie ≡ c.args.cookie.now = c.in_ok-cookie.ensures in
    let is : c.set-end.result ≡ Err OutOfMemory = search rules in
    let none : set_refusal c.args.way c.in_ok-cookie.cookie.cookie ≡ None = ⊎_elim (λ no. absurd no) (λ m. m.1)
    (subst (λ r. IfErr r (λ e. Refuses c.args.way c.in_ok-cookie.cookie.cookie e
    ⊎ ((e ≡ OutOfMemory) × (set_refusal c.args.way c.in_ok-cookie.cookie.cookie ≡ None)))) is c.set-end.ensures.err) in
    subst (λ s. DrawsSo g.R.TryRng.may_fill g.row.R-Error.Denot c.args.rng.now (IsDrawnInVain
    (Set c.args.way s ∷ [])) c.set-end.new.rng) same
    (vain_drawn g.R.TryRng.may_fill g.row.R-Error.Denot c.args.rng.now c.set-end.new.rng c.args.way
    c.in_ok-cookie.cookie [] none c.set-end.ensures.unasked (λ e. c.set-end.ensures.asked (e, is)))

pub returns-in-Err : goal.returns-in-Err
returns-in-Err g c =
    let same : c.in_ok-cookie.cookie ≡ c.args.cookie.now = c.in_ok-cookie.ensures in
    let other : c.in-Err.error ≢ OutOfMemory = search rules in
    let refusal : Refuses c.args.way c.in_ok-cookie.cookie.cookie c.in-Err.error =
    ⊎_elim (λ r. r) (λ lack. absurd (other lack.0)) c.in-Err.ensures.err in
    record {
      ok = subst (λ s. DrawsSo g.R.TryRng.may_fill g.row.R-Error.Denot c.args.rng.now (λ ds. SetDraws ds
          c.args.session.now c.args.way s (Refused c.in-Err.error ∷ []) c.set-end.new.self) c.set-end.new.rng) same
          (refused_drawn g.R.TryRng.may_fill g.row.R-Error.Denot c.args.rng.now c.set-end.new.rng
          c.args.session.now c.args.way c.in_ok-cookie.cookie c.set-end.new.self c.in-Err.error refusal
          c.in-Err.ensures.same (λ e. c.in-Err.ensures.failed (ap Err e)) c.set-end.ensures.unasked);
      err = tt;
      failed = (λ e. c.in-Err.ensures.failed (ap Err e), tt);
      unasked = subst (λ (s : Seen). (c.args.way ≢ Sealed) ⊎ (set_refusal c.args.way s.cookie ≢ None)
          → c.set-end.new.rng ≡ c.args.rng.now) same c.set-end.ensures.unasked;
    }

use Rattle.std.proofs.Common.{◌≡◌, ◌≢◌, ◌⊎◌, ◌∙◌, [], ℕ, List, ap, false, subst}
use Rattle.std.specs.Prelude.{string_bytes, is_none}
use Rattle.cookie_client.specs.Ending.{placed}
use Rattle.cookie_run.specs.RingPlay.{GetUntil, ReadUntil}
use Rattle.cookie_client.specs.RingSession.{ReadsEnding}
use Rattle.cookie_run.specs.ScriptLine as spec
use Rattle.cookie_run.specs.ScriptText.{obeyed, reading_text}
use Rattle.cookie_client.specs.declared.outcome.SessionError.TheVariants.{EmptyName, OutOfMemory}
use Rattle.cookie_run.proofs.Halting.{get_until_halts, no_memory}
use Rattle.cookie_client.proofs.Outcomes.{err_gives}
use Rattle.cookie_run.proofs.Standings.{gets_until}
use Rattle.cookie_run.proofs.script.visit.get_until.Goals as goal

pub returns-in_ok-ending_line-in-Ok-clause-ok : goal.returns-in_ok-ending_line-in-Ok-clause-ok
returns-in_ok-ending_line-in-Ok-clause-ok c =
    let read = placed c.in-Ok.read in
    λ list ring rows last first start r output drawn s. gets_until drawn list first start ring rows r last
    c.args.visit.now
    c.in-Some.open output (string_bytes c.in_ok-ending_line-in-Ok.field-0) c.args.way c.args.name.now read s
    c.in-Some.is (subst (λ n. n ≢ []) c.as_str.ensures.value c.in-Ok.ensures.value.0)
    (subst (λ n. ReadsEnding c.in-Some.open.session c.args.way n read) c.as_str.ensures.value c.in-Ok.ensures.value.1)
    (c.in_ok-ending_line-in-Ok.ensures ∙ ap (λ n. reading_text (ReadUntil c.args.way n read))
    c.as_str-in-Ok.ensures.value)

pub returns-in_err-ending_line-in-Ok-clause-err : goal.returns-in_err-ending_line-in-Ok-clause-err
returns-in_err-ending_line-in-Ok-clause-err c =
    err_gives c.from_residual.result _ _ c.from_residual.ensures
    (λ cause e list ring rows last first start r output drawn s.
    no_memory drawn list first start ring rows r last c.args.visit.now output
    (obeyed r.acts r.ring r.last r.now (spec.Commands (GetUntil c.args.way c.args.name.now))) cause s e)

pub returns-in-Err-clause-err : goal.returns-in-Err-clause-err
returns-in-Err-clause-err c =
    let some : is_none c.args.visit.now ≡ false = ap is_none c.in-Some.is in
    let error = c.in-Err.error in
    λ list ring rows last. get_until_halts list ring error c.refused.result rows last c.args.visit.now c.args.way
    c.args.name.now some (subst (λ (n : List ℕ). ((error ≡ EmptyName) × (n ≡ [])) ⊎ ((error ≡ OutOfMemory) × (n ≢ [])))
    c.as_str.ensures.value c.in-Err.ensures.err) c.refused.ensures

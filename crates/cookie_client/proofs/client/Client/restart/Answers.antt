use Rattle.std.proofs.Common.{sym, subst}
use Rattle.std.proofs.lemmas.Result.{err_from_is_err_and}
use Rattle.jiff.specs.Words.{civil_nanos}
use Rattle.saved_text.specs.RonLayout.{ron_layout}
use Rattle.cookie_store.specs.Placing.{saved}
use Rattle.cookie_store.specs.Rows.{Store}
use Rattle.cookie_store.specs.SavedTexts.{IsSaveFault, Saves}
use Rattle.cookie_client.specs.HostPrefix.{AreHeldRightly}
use Rattle.cookie_client.specs.Keeping.{Keeps, HaveReadPairs}
use Rattle.cookie_client.specs.KeptKeys.{KeepsKeys}
use Rattle.cookie_client.proofs.ClientRows.{saved_print, kept_rows, kept_pairs}
use Rattle.cookie_client.proofs.client.Client.restart.Goals as goal

pub returns-in_err-kept-clause-err : goal.returns-in_err-kept-clause-err
returns-in_err-kept-clause-err c =
    let p = err_from_is_err_and c.from_residual.result c.from_residual.ensures.1 in
    let now = civil_nanos c.args.now in
    rw (p.1, p.2) (subst (λ (s : Store). IsSaveFault (saved now s.rows) c.in_err-kept.field-0.0) c.self.view_is
    (c.in_err-kept.ensures.read (saved_print now c.self.inside.store.rows c.self.invariant.0)))

pub invariant_of-self : goal.invariant_of-self
invariant_of-self c =
    let now = civil_nanos c.args.now in
    let old = c.self.inside.store.rows in
    let kept = c.in_ok-kept.kept in
    let keeps = kept_rows old now c.self.invariant.0 now kept c.in_ok-kept.ensures.grouped c.in_ok-kept.ensures.ok in
    subst (λ (s : Store). HaveReadPairs s.rows × AreHeldRightly s.rows) (sym c.replace_rows.ensures) (
      kept_pairs old now c.self.invariant.0 kept.rows keeps,
      (c.host_rows_are_held_rightly.ensures.restarts old now now kept.rows c.self.invariant.0 c.self.invariant.1
          keeps).0,
    )

pub returns-clause-held : goal.returns-clause-held
returns-clause-held c =
    let now = civil_nanos c.args.now in
    let old = c.self.inside.store.rows in
    let kept = c.in_ok-kept.kept in
    let keeps = kept_rows old now c.self.invariant.0 now kept c.in_ok-kept.ensures.grouped c.in_ok-kept.ensures.ok in
    subst (λ (s : Store). AreHeldRightly s.rows) (sym c.replace_rows.ensures)
    (c.host_rows_are_held_rightly.ensures.restarts old now now kept.rows c.self.invariant.0 c.self.invariant.1 keeps).0

pub returns-clause-ok : goal.returns-clause-ok
returns-clause-ok c =
    let now = civil_nanos c.args.now in
    let old = c.self.inside.store.rows in
    let kept = c.in_ok-kept.kept in
    subst (λ (s : Store). Keeps s.rows now now c.replace_rows.new.self.rows) c.self.view_is
    (subst (λ (s : Store). Keeps old now now s.rows) (sym c.replace_rows.ensures)
    (kept_rows old now c.self.invariant.0 now kept c.in_ok-kept.ensures.grouped c.in_ok-kept.ensures.ok))

pub returns-in_err-kept-clause-memory : goal.returns-in_err-kept-clause-memory
returns-in_err-kept-clause-memory c = λ late.
    let p = err_from_is_err_and c.from_residual.result c.from_residual.ensures.1 in
    let old = c.self.inside.store.rows in
    rw (p.1, p.2) (c.restarts_keep_keys.ensures.memory old c.args.now c.in_err-kept.field-0.0 late
    (c.in_err-kept.ensures.read (saved_print (civil_nanos c.args.now) old c.self.invariant.0)))

pub returns-clause-keys : goal.returns-clause-keys
returns-clause-keys c =
    let now = civil_nanos c.args.now in
    let old = c.self.inside.store.rows in
    let kept = c.in_ok-kept.kept in
    let keeps = kept_rows old now c.self.invariant.0 now kept c.in_ok-kept.ensures.grouped c.in_ok-kept.ensures.ok in
    subst (λ (s : Store). KeepsKeys s.rows now c.replace_rows.new.self.rows) c.self.view_is
    (subst (λ (s : Store). KeepsKeys old now s.rows) (sym c.replace_rows.ensures)
    (c.restarts_keep_keys.ensures.keys old now now kept.rows c.self.invariant.0 keeps))

pub returns-clause-text : goal.returns-clause-text
returns-clause-text c =
    let now = civil_nanos c.args.now in
    subst (λ (s : Store). (list : _) × Saves ron_layout (saved now s.rows) list) c.self.view_is
    c.in_ok-kept.ensures.text

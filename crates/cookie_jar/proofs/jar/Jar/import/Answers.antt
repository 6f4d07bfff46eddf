use Rattle.std.proofs.Common.{sym, subst}
use Rattle.jiff.specs.Words.{civil_nanos}
use Rattle.cookie_store.specs.Rows.{Store}
use Rattle.cookie_jar.specs.Importing.{import_text}
use Rattle.cookie_jar.specs.Keeping.{AreKept}
use Rattle.cookie_jar.proofs.ImportLemmas.{import_kept}
use Rattle.cookie_jar.proofs.KeepLemmas.{held_of, pairs_of}
use Rattle.cookie_jar.proofs.jar.Jar.import.Goals as goal

pub replace_rows-requires-clause-pairs : goal.replace_rows-requires-clause-pairs
replace_rows-requires-clause-pairs c =
    pairs_of c.in_ok-done.whole.rows (
    import_kept c.args.form c.args.held (civil_nanos c.args.now) c.args.text.now c.store-store.result.now.rows
    c.in_ok-done.whole.rows (import_text c.in_ok-done.done)
    (subst (λ (s : Store). AreKept s.rows) (sym c.store-store.ensures.store) c.self.invariant)
    c.in_ok-done.ensures.ok)

pub replace_rows-requires-clause-held : goal.replace_rows-requires-clause-held
replace_rows-requires-clause-held c =
    held_of c.in_ok-done.whole.rows (
    import_kept c.args.form c.args.held (civil_nanos c.args.now) c.args.text.now c.store-store.result.now.rows
    c.in_ok-done.whole.rows (import_text c.in_ok-done.done)
    (subst (λ (s : Store). AreKept s.rows) (sym c.store-store.ensures.store) c.self.invariant)
    c.in_ok-done.ensures.ok)

pub invariant_of-self : goal.invariant_of-self
invariant_of-self c =
    subst (λ (s : Store). AreKept s.rows) (sym c.replace_rows.ensures) (
    import_kept c.args.form c.args.held (civil_nanos c.args.now) c.args.text.now c.store-store.result.now.rows
    c.in_ok-done.whole.rows (import_text c.in_ok-done.done)
    (subst (λ (s : Store). AreKept s.rows) (sym c.store-store.ensures.store) c.self.invariant)
    c.in_ok-done.ensures.ok)

pub returns-clause-kept : goal.returns-clause-kept
returns-clause-kept c =
    subst (λ (s : Store). AreKept s.rows) (sym c.replace_rows.ensures) (
    import_kept c.args.form c.args.held (civil_nanos c.args.now) c.args.text.now c.store-store.result.now.rows
    c.in_ok-done.whole.rows (import_text c.in_ok-done.done)
    (subst (λ (s : Store). AreKept s.rows) (sym c.store-store.ensures.store) c.self.invariant)
    c.in_ok-done.ensures.ok)

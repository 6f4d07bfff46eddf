use Rattle.std.proofs.Common.{sym, subst}
use Rattle.std.specs.Prelude.{not}
use Rattle.cookie_store.specs.Rows.{Store, has_key, key}
use Rattle.cookie_jar.specs.Keeping.{AreKept, IsKept}
use Rattle.cookie_jar.proofs.RowLemmas.{filter_all}
use Rattle.cookie_jar.proofs.jar.Jar.remove.Goals as goal

pub invariant_of-self : goal.invariant_of-self
invariant_of-self c =
    let k = key c.args.domain.now c.args.path.now c.args.name.now in
    subst (λ (s : Store). AreKept s.rows) (sym c.remove.ensures.rest)
    (filter_all IsKept (λ row. not (has_key k row)) c.self.inside.client.rows c.self.invariant)

pub returns-clause-kept : goal.returns-clause-kept
returns-clause-kept c =
    let k = key c.args.domain.now c.args.path.now c.args.name.now in
    subst (λ (s : Store). AreKept s.rows) (sym c.remove.ensures.rest)
    (filter_all IsKept (λ row. not (has_key k row)) c.self.inside.client.rows c.self.invariant)

use Rattle.std.proofs.Common.{[], ◌∷◌, subst}
use Rattle.std.specs.Prelude.{IfOk}
use Rattle.jiff.specs.Words.{civil_nanos}
use Rattle.cookie_store.specs.Rows.{Store}
use Rattle.cookie_client.specs.Accept.{Accepts}
use Rattle.cookie_client.proofs.ClientRows.{however_pairs}
use Rattle.cookie_client.proofs.HostRows.{however_held}
use Rattle.cookie_client.proofs.Receiving.{one_stopped, one_taken}
use Rattle.cookie_client.proofs.client.Client.receive_read.Goals as goal

pub invariant_of-self : goal.invariant_of-self
invariant_of-self c =
    let now = civil_nanos c.args.now in
    let taken = one_taken c.accept_read.result c.self.inside.store.suffixes c.self.inside.store.rows
    c.accept_read.new.store.rows c.args.url.now now c.args.line.now c.accept_read.ensures.ok in
    let stopped = one_stopped c.accept_read.result c.self.inside.store.suffixes c.self.inside.store.rows
    c.accept_read.new.store.rows c.args.url.now now c.args.line.now c.accept_read.ensures.err in (
      however_pairs c.accept_read.result (λ end. end ∷ []) (λ _. 0) c.self.inside.store.suffixes c.args.url.now now
          (c.args.line.now ∷ []) c.self.inside.store.rows c.accept_read.new.store.rows c.self.invariant.0 taken stopped,
      however_held c.accept_read.result (λ end. end ∷ []) (λ _. 0) c.self.inside.store.suffixes c.args.url.now now
          (c.args.line.now ∷ []) c.self.inside.store.rows c.accept_read.new.store.rows c.self.invariant.1 taken stopped,
    )

pub returns-clause-held : goal.returns-clause-held
returns-clause-held c =
    let now = civil_nanos c.args.now in
    however_held c.accept_read.result (λ end. end ∷ []) (λ _. 0) c.self.inside.store.suffixes c.args.url.now now
    (c.args.line.now ∷ []) c.self.inside.store.rows c.accept_read.new.store.rows c.self.invariant.1
    (one_taken c.accept_read.result c.self.inside.store.suffixes c.self.inside.store.rows c.accept_read.new.store.rows
    c.args.url.now now c.args.line.now c.accept_read.ensures.ok)
    (one_stopped c.accept_read.result c.self.inside.store.suffixes c.self.inside.store.rows c.accept_read.new.store.rows
    c.args.url.now now c.args.line.now c.accept_read.ensures.err)

pub returns-clause-ok : goal.returns-clause-ok
returns-clause-ok c =
    subst (λ (s : Store). IfOk c.accept_read.result (λ end. Accepts s.suffixes s.rows c.args.url.now
    (civil_nanos c.args.now) c.args.line.now end c.accept_read.new.store.rows)) c.self.view_is c.accept_read.ensures.ok

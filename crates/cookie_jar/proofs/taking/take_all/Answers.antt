use Rattle.std.proofs.Common.{◌↔◌, map, subst}
use Rattle.std.specs.Prelude.{IsTrue}
use Rattle.jiff.specs.Words.{civil_nanos}
use Rattle.cookie_store.specs.Rows.{Store}
use Rattle.cookie_jar.specs.Taking.{IsStopped, TakesAll}
use Rattle.user_agent.specs.CrossAnswers.{ComesAcross}
use Rattle.user_agent.proofs.CrossAnswerLemmas.{err_by_request, ok_by_request}
use Rattle.cookie_jar.proofs.taking.take_all.Goals as goal

pub returns-clause-all : goal.returns-clause-all
returns-clause-all c =
    let url = c.args.url.now in
    let old = c.args.client.now in
    ok_by_request c.comes_across-across.result old.suffixes url c.args.initiator.now
    (subst (λ (s : Store). IsTrue c.comes_across-across.result ↔ ComesAcross s.suffixes url c.args.initiator.now)
    c.store.ensures.store c.comes_across-across.ensures) c.take_from.result
    (λ across ends. TakesAll c.args.form c.args.rules.now across old.suffixes old.rows url
    (civil_nanos c.args.now) (map (λ line. line.now) c.args.lines.now) ends.items c.take_from.new.client.rows)
    c.take_from.ensures.all

pub returns-clause-stopped : goal.returns-clause-stopped
returns-clause-stopped c =
    let url = c.args.url.now in
    let old = c.args.client.now in
    err_by_request c.comes_across-across.result old.suffixes url c.args.initiator.now
    (subst (λ (s : Store). IsTrue c.comes_across-across.result ↔ ComesAcross s.suffixes url c.args.initiator.now)
    c.store.ensures.store c.comes_across-across.ensures) c.take_from.result
    (λ across stopped. IsStopped c.args.form c.args.rules.now across old.suffixes old.rows url
    (civil_nanos c.args.now) (map (λ line. line.now) c.args.lines.now) stopped.0 c.take_from.new.client.rows)
    c.take_from.ensures.stopped

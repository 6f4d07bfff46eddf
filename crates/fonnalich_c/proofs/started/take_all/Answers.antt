use Rattle.std.proofs.Common.{◌≡◌, ◌∙◌, ap, arith, inr, length, map, refl, subst, vec_capacity, vec_len}
use Rattle.std.proofs.lemmas.List.{length-map}
use Rattle.jiff.specs.Words.{civil_nanos}
use Rattle.user_agent.specs.CrossAnswers.{IsStoppedFor, ReceivesFor}
use Rattle.fonnalich_c.specs.Given.{lines_of}
use Rattle.fonnalich_c.specs.Rules.{outcome_for_number}
use Rattle.fonnalich_c.proofs.Receiving.{as_many_for}
use Rattle.fonnalich_c.proofs.started.take_all.Goals as goal

pub numbered-requires-clause-fits : goal.numbered-requires-clause-fits
numbered-requires-clause-fits c =
    let lines = c.deref.result.now in
    let old = c.args.client.now in
    let told : length c.in-Ok-receive_for.outcomes.items ≡ length (map (λ line. line.now) lines) =
    as_many_for c.args.rules.now old.suffixes old.rows c.args.url.now c.args.initiator.now (civil_nanos c.args.now)
    (map (λ line. line.now) lines) c.in-Ok-receive_for.outcomes.items c.receive_for.new.client.rows
    c.in-Ok-receive_for.ensures.all in
    let each : length (map (λ line. line.now) lines) ≡ length lines = length-map lines (λ line. line.now) in
    let same : length c.deref-in-Ok-receive_for.result.now ≡ length c.in-Ok-receive_for.outcomes.items =
    ap length c.deref-in-Ok-receive_for.ensures.value in
    let lent : length lines ≡ vec_len c.in-Ok.lines = c.deref.ensures.len in
    let asked : c.len.result ≡ vec_len c.in-Ok.lines = c.len.ensures in
    let room : vec_capacity c.in-Ok-with_capacity.room ≡ c.len.result = c.in-Ok-with_capacity.ensures.exact in
    omega arith

pub returns-in-Ok-receive_for-clause-ok : goal.returns-in-Ok-receive_for-clause-ok
returns-in-Ok-receive_for-clause-ok c =
    let same : map (λ line. line.now) c.deref.result.now ≡ lines_of c.args.text.now =
    ap (map (λ line. line.now)) c.deref.ensures.value ∙ c.in-Ok.ensures in
    let outcomes = c.in-Ok-receive_for.outcomes.items in
    let old = c.args.client.now in (
      outcomes,
      subst (λ lines. ReceivesFor c.args.rules.now old.suffixes old.rows c.args.url.now c.args.initiator.now
          (civil_nanos c.args.now) lines outcomes c.receive_for.new.client.rows) same
          c.in-Ok-receive_for.ensures.all,
      c.numbered.ensures ∙ ap (map outcome_for_number) c.deref-in-Ok-receive_for.ensures.value,
    )

pub returns-clause-err : goal.returns-clause-err
returns-clause-err c =
    let same : map (λ line. line.now) c.deref.result.now ≡ lines_of c.args.text.now =
    ap (map (λ line. line.now)) c.deref.ensures.value ∙ c.in-Ok.ensures in
    let old = c.args.client.now in
    inr (
      c.in-Err.stopped.0,
      refl,
      subst (λ lines. IsStoppedFor c.args.rules.now old.suffixes old.rows c.args.url.now c.args.initiator.now
          (civil_nanos c.args.now) lines c.in-Err.stopped.0 c.receive_for.new.client.rows) same
          c.in-Err.ensures.stopped,
    )

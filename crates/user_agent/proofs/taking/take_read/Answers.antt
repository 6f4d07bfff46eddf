use Rattle.std.proofs.Common.{◌∙◌, subst, sym}
use Rattle.jiff.specs.Words.{civil_nanos}
use Rattle.cookie_store.specs.Rows.{Store}
use Rattle.user_agent.proofs.CrossAnswerLemmas.{Found, may_set, read_refused, read_taken}
use Rattle.user_agent.proofs.taking.take_read.Goals as goal

pub returns-in-Some-2-clause-ok : goal.returns-in-Some-2-clause-ok
returns-in-Some-2-clause-ok c =
    let rules = c.args.rules.now in
    let now = civil_nanos c.args.now in
    let may = may_set c.one_outcome.ensures.plain rules c.args.across c.args.line.now c.args.cookie.now
    c.requires.read (sym c.site_refusal.ensures ∙ c.in_default.is) in
    read_refused rules c.args.across c.args.client.now.suffixes c.args.client.now.rows c.args.url.now now
    c.args.line.now may c.in_ok-rule.field-0 c.in-Some-2.rule c.in-Some-2.is
    (subst (λ (s : Store). Found rules c.args.across c.args.client.now.suffixes s.rows c.args.url.now now
    c.args.line.now may c.in_ok-rule.field-0) c.store-store.ensures.store c.in_ok-rule.ensures.found)

pub returns-clause-ok : goal.returns-clause-ok
returns-clause-ok c =
    let rules = c.args.rules.now in
    let now = civil_nanos c.args.now in
    let may = may_set c.one_outcome.ensures.plain rules c.args.across c.args.line.now c.args.cookie.now
    c.requires.read (sym c.site_refusal.ensures ∙ c.in_default.is) in
    read_taken rules c.args.across c.args.client.now.suffixes c.args.client.now.rows c.args.url.now now c.args.line.now
    may c.in_ok-rule.field-0 c.in_ok-end.end c.receive_read.new.self.rows c.in_default-2.is
    (subst (λ (s : Store). Found rules c.args.across c.args.client.now.suffixes s.rows c.args.url.now now
    c.args.line.now may c.in_ok-rule.field-0) c.store-store.ensures.store c.in_ok-rule.ensures.found)
    c.in_ok-end.ensures.ok

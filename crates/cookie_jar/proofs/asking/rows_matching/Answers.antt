use Rattle.std.proofs.Common.{[], subst, sym}
use Rattle.std.proofs.lemmas.Bool.{both_ways}
use Rattle.jiff.specs.Words.{civil_nanos}
use Rattle.store_parts.specs.DomainMatch.{DomainMatches}
use Rattle.cookie_store.specs.Given.{lent_row}
use Rattle.cookie_store.specs.Rows.{domain_text, live}
use Rattle.cookie_jar.specs.Rows.{lent_rows}
use Rattle.cookie_jar.proofs.RowLemmas.{picks_alone, picks_more, picks_same}
use Rattle.cookie_jar.proofs.asking.rows_matching.Goals as goal

pub loop-cookie-preserved-in-Continue-1 : goal.loop-cookie-preserved-in-Continue-1
loop-cookie-preserved-in-Continue-1 c =
    picks_more (λ row. DomainMatches (domain_text row) c.args.domain.now) []
    (live (civil_nanos c.args.now) c.args.store.now.rows) c.loop-cookie.cookie-iterator c.next.new.self
    c.loop-cookie.rows.items c.push.new.self.items c.in-Some.cookie c.in-Some.ensures.steps
    c.in_ok-push.ensures.items
    (subst (λ text. DomainMatches text c.args.domain.now) c.text_of_domain.ensures
    (c.domain_matches.ensures.0 c.if-domain_matches.true)) c.loop-cookie.invariant

pub loop-cookie-preserved : goal.loop-cookie-preserved
loop-cookie-preserved c =
    picks_same (λ row. DomainMatches (domain_text row) c.args.domain.now) []
    (live (civil_nanos c.args.now) c.args.store.now.rows) (lent_rows c.loop-cookie.rows.items)
    c.loop-cookie.cookie-iterator c.next.new.self (lent_row c.in-Some.cookie) c.in-Some.ensures.steps
    (λ is. both_ways _ c.if-domain_matches.false (c.domain_matches.ensures.1
    (subst (λ text. DomainMatches text c.args.domain.now) (sym c.text_of_domain.ensures) is))) c.loop-cookie.invariant

pub returns : goal.returns
returns c =
    picks_alone (λ row. DomainMatches (domain_text row) c.args.domain.now)
    (live (civil_nanos c.args.now) c.args.store.now.rows) (lent_rows c.loop-cookie.rows.items)
    c.loop-cookie.cookie-iterator c.in-None.ensures.steps.0 c.loop-cookie.invariant

use Rattle.std.proofs.Common.{IsTrue}
use Rattle.std.proofs.lemmas.Bool.{both_ways}
use Rattle.jiff.specs.Words.{civil_nanos}
use Rattle.user_agent.specs.Refusals.{RefusesCookie, is_on}
use Rattle.user_agent.specs.declared.rules.Refusal.{Refusal}
use Rattle.user_agent.specs.declared.rules.Refusal.TheVariants.{Control, TooLong, SecurePrefix, HostPrefix}
use Rattle.user_agent.specs.declared.rules.Refusal.TheVariants.{SecureFromHttp, SecureOverlay, LacksSecure}
use Rattle.user_agent.proofs.judging.cookie_refusal.Goals as goal
use Rattle.user_agent.proofs.judging.cookie_refusal.Goals.{else-rules-via-then-rules+else-is_too_long}
use Rattle.user_agent.proofs.judging.cookie_refusal.Goals.{else-rules-via-else-rules}
use Rattle.user_agent.proofs.judging.cookie_refusal.Goals.{else-rules-2-via-then-rules-2+else-breaks_secure_prefix}
use Rattle.user_agent.proofs.judging.cookie_refusal.Goals.{else-rules-2-via-else-rules-2}
use Rattle.user_agent.proofs.judging.cookie_refusal.Goals.{else-rules-3-via-then-rules-3+else-breaks_host_prefix}
use Rattle.user_agent.proofs.judging.cookie_refusal.Goals.{else-rules-3-via-else-rules-3}
use Rattle.user_agent.proofs.judging.cookie_refusal.Goals.{else-rules-4-via-then-rules-4+else-is_secure_from_http}
use Rattle.user_agent.proofs.judging.cookie_refusal.Goals.{else-rules-4-via-else-rules-4}
use Rattle.user_agent.proofs.judging.cookie_refusal.Goals.{else-rules-5-via-then-rules-5+in_ok-is_overlay+else-branch}
use Rattle.user_agent.proofs.judging.cookie_refusal.Goals.{else-rules-5-via-else-rules-5}
use Rattle.user_agent.proofs.judging.cookie_refusal.Goals.{else-rules-6-via-then-rules-6+else-is_without_secure}
use Rattle.user_agent.proofs.judging.cookie_refusal.Goals.{else-rules-6-via-else-rules-6}

pub returns-clause-found : goal.returns-clause-found
returns-clause-found c = by
  where
    by : (rule : Refusal) → IsTrue (is_on c.args.rules.now rule)
        → RefusesCookie c.args.store.now.rows c.args.url.now (civil_nanos c.args.now) c.args.cookie.now rule → ⊥
    by Control on against = against
    by TooLong on against = elim c.else-rules.branch [
      | else-rules-via-then-rules+else-is_too_long w ↦ both_ways _ w.if-is_too_long.false
          (w.is_too_long.ensures.1 against)
      | else-rules-via-else-rules w ↦ both_ways _ w.if-rules.false on
    ]
    by SecurePrefix on against = elim c.else-rules-2.branch [
      | else-rules-2-via-then-rules-2+else-breaks_secure_prefix w ↦
          both_ways _ w.if-breaks_secure_prefix.false (w.breaks_secure_prefix.ensures.1 against)
      | else-rules-2-via-else-rules-2 w ↦ both_ways _ w.if-rules-2.false on
    ]
    by HostPrefix on against = elim c.else-rules-3.branch [
      | else-rules-3-via-then-rules-3+else-breaks_host_prefix w ↦
          both_ways _ w.if-breaks_host_prefix.false (w.breaks_host_prefix.ensures.1 against)
      | else-rules-3-via-else-rules-3 w ↦ both_ways _ w.if-rules-3.false on
    ]
    by SecureFromHttp on against = elim c.else-rules-4.branch [
      | else-rules-4-via-then-rules-4+else-is_secure_from_http w ↦
          both_ways _ w.if-is_secure_from_http.false (w.is_secure_from_http.ensures.1 against)
      | else-rules-4-via-else-rules-4 w ↦ both_ways _ w.if-rules-4.false on
    ]
    by SecureOverlay on against = elim c.else-rules-5.branch [
      | else-rules-5-via-then-rules-5+in_ok-is_overlay+else-branch w ↦
          both_ways _ w.if-branch.false (w.in_ok-is_overlay.ensures.is.1 against)
      | else-rules-5-via-else-rules-5 w ↦ both_ways _ w.if-rules-5.false on
    ]
    by LacksSecure on against = elim c.else-rules-6.branch [
      | else-rules-6-via-then-rules-6+else-is_without_secure w ↦
          both_ways _ w.if-is_without_secure.false (w.is_without_secure.ensures.1 against)
      | else-rules-6-via-else-rules-6 w ↦ both_ways _ w.if-rules-6.false on
    ]

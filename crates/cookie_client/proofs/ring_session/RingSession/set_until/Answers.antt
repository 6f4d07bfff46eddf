use Rattle.std.proofs.Common.{◌∙◌, List, ℕ, subst, sym}
use Rattle.cookie_client.specs.RingSession.{IsKeptWith}
use Rattle.cookie_client.proofs.RingSessions.{refused_until, sets_until}
use Rattle.cookie_client.proofs.ring_session.RingSession.set_until.Goals as goal

pub returns-in-Some-clause-err : goal.returns-in-Some-clause-err
returns-in-Some-clause-err g c = (
  c.ending_at-cookie.result,
  c.ending_at-cookie.ensures,
  refused_until c.args.way c.ending_at-cookie.result.cookie c.in-Some.error
      (sym c.until_refusal.ensures ∙ c.in-Some.is),
)

pub returns-clause-ok : goal.returns-clause-ok
returns-clause-ok g c =
    sets_until c.put.result (λ nonce. g.R.TryRng.may_fill c.args.rng.now nonce c.put.new.rng) c.self.inside.session
    c.put.new.session c.self.inside.ring c.self.inside.moment c.args.self.now c.args.way c.args.cookie
    c.ending_at-cookie.result c.in_ok-cookie.cookie c.args.until c.self.view_is c.self.invariant
    c.ending_at-cookie.ensures (sym c.until_refusal.ensures ∙ c.in_default.is)
    (subst (λ r. IsKeptWith (λ nonce. g.R.TryRng.may_fill c.args.rng.now nonce r) c.self.inside.ring.current c.args.way
    c.ending_at-cookie.result c.args.until c.in_ok-cookie.cookie) (sym c.put.ensures.unasked)
    (subst (λ (k : List ℕ). IsKeptWith (λ nonce. g.R.TryRng.may_fill c.args.rng.now nonce c.kept_until.new.rng) k
    c.args.way c.ending_at-cookie.result c.args.until c.in_ok-cookie.cookie) c.current.ensures
    c.in_ok-cookie.ensures.ok)) c.put.ensures.ok

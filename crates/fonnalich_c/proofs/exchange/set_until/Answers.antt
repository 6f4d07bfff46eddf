use Rattle.std.proofs.Common.{◌≡◌, ◌∙◌, drop, length, rules, sym, take}
use Rattle.fonnalich_c.specs.Exchange.{ending_nonce_length}
use Rattle.fonnalich_c.proofs.Exchanges.{set_by}
use Rattle.fonnalich_c.proofs.exchange.set_until.Goals as goal

pub returns-in-Ok-clause-ok : goal.returns-in-Ok-clause-ok
returns-in-Ok-clause-ok c =
    let front : c.in-Some.nonce.now ≡ take (ending_nonce_length c.args.way) c.args.nonces.now = search rules in
    let back : c.in-Some.left.now ≡ drop (ending_nonce_length c.args.way) c.args.nonces.now = search rules in
    let count : length c.in-Some.nonce.now ≡ ending_nonce_length c.args.way = search rules in (
      set_by _ c.args.nonces.now c.args.session.now c.set_until.new.self c.args.way c.args.cookie c.args.until
          (λ nonce long may. may (long ∙ sym count) ∙ front) c.in-Ok.ensures.ok,
      back,
    )

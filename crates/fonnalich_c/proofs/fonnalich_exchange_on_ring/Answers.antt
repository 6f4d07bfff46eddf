use Rattle.std.proofs.Common.{subst, w64}
use Rattle.std.proofs.lemmas.Int.{to_z-of_z}
use Rattle.fonnalich_c.specs.Exchange.{IsRingExchange, IsNoRingExchange}
use Rattle.fonnalich_c.proofs.Exchanges.{answered, refused_by}
use Rattle.fonnalich_c.proofs.fonnalich_exchange_on_ring.Goals as goal

pub returns-in-Ok : goal.returns-in-Ok
returns-in-Ok c =
    let second = to_z-of_z w64 c.args.second c.ranges.second in
    answered _ _ c.in-Ok.answer.items c.deref.result.now c.args.out.now c.write.new.out c.write.result _
    (to_z-of_z w64 c.write.result (record { sfits = c.write.type_inv })) c.deref.ensures.value
    (subst (λ n. IsRingExchange c.args.keys.now c.args.ends.now c.args.header.now n c.args.commands.now
    c.args.nonces.now c.in-Ok.answer.items) second c.in-Ok.ensures.ok) c.write.ensures

pub returns-in-Err : goal.returns-in-Err
returns-in-Err c =
    let second = to_z-of_z w64 c.args.second c.ranges.second in
    refused_by _ _ c.in-Err.refusal c.args.out.now c.number.result _
    (to_z-of_z w64 c.number.result (record { sfits = c.number.type_inv })) c.number.ensures
    (subst (λ n. IsNoRingExchange c.args.keys.now c.args.ends.now c.args.header.now n c.args.commands.now
    c.args.nonces.now c.in-Err.refusal) second c.in-Err.ensures.err)

use Rattle.std.proofs.Common.{◌≡◌, ap, arith, inl, inr, length, w64}
use Rattle.std.proofs.lemmas.Int.{to_z-of_z}
use Rattle.fonnalich_c.proofs.Parting.{parted}
use Rattle.fonnalich_c.proofs.fonnalich_parse.Goals as goal
use Rattle.fonnalich_c.proofs.fonnalich_parse.Goals.{then-len-out, else-len-out}

pub returns-after-len-out : goal.returns-after-len-out
returns-after-len-out c =
    let lent : length c.deref.result.now ≡ length c.in-Ok.texts.items = ap length c.deref.ensures.value in
    let counts = c.deref.ensures.len in
    let told = c.len.ensures in
    parted c.args.decode c.args.text.now c.args.attributes.now c.in-Ok.read c.if-len-out.attributes
    c.in-Ok.texts.items c.deref.result.now c.args.out.now c.write.new.out c.write.result _
    (to_z-of_z w64 c.write.result (record { sfits = c.write.type_inv })) c.deref.ensures.value c.in-Ok.ensures.ok
    c.write.ensures (elim c.if-len-out.branch [
      | then-len-out w ↦ inl (omega (arith, lent, counts, told, w.if-len-out.true), w.attributes-is)
      | else-len-out w ↦ inr (omega (arith, lent, counts, told, w.if-len-out.false), w.attributes-is)
    ])

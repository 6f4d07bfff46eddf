use Rattle.std.proofs.Common.{◌≡◌, ◌≤◌, ◌+◌, ◌*◌, length, rules, subst, sym}
use Rattle.fonnalich_c.specs.Ring.{AreEarlier}
use Rattle.fonnalich_c.proofs.Rings.{are_as_many, ring_is}
use Rattle.fonnalich_c.proofs.ring.ring_of.Goals as goal

pub unwrap-requires : goal.unwrap-requires
unwrap-requires c =
    let few : length c.args.ends.now ≤ 16 = search rules in
    let count = are_as_many c.split_at.result.1.now c.args.ends.now c.in_ok-earlier.earlier.items
    c.in_ok-earlier.ensures.ok in
    c.with_earlier.ensures.accepted.1 (subst (λ n. n ≤ 16) (sym count) few)

pub returns-clause-ok : goal.returns-clause-ok
returns-clause-ok c =
    let few : length c.args.ends.now ≤ 16 = search rules in
    let whole : length c.args.keys.now ≡ 64 * (length c.args.ends.now + 1) = search rules in
    let earlier = subst (λ keys. AreEarlier keys c.args.ends.now c.in_ok-earlier.earlier.items)
    c.split_at.ensures.back c.in_ok-earlier.ensures.ok in
    ring_is c.args.keys.now c.args.ends.now c.with_earlier.result c.unwrap.result _ _ c.unwrap.ensures
    c.with_earlier.ensures.ring few whole c.from.ensures earlier

use Rattle.std.proofs.Common.{◌≡◌, ◌+◌, ◌-◌, length, get_or, sym, ◌∙◌, subst, inl, inr, arith}
use Rattle.std.proofs.lemmas.Bool.{both_ways, cases_lt}
use Rattle.store_parts.specs.DomainMatch.{EndsAfterDot}
use Rattle.cookie_client.specs.Shard.{IsUnlisted}
use Rattle.cookie_client.proofs.BehindDots.{behind_dot, ends_behind, cut_behind}
use Rattle.cookie_client.proofs.shard.shortest.Goals.{else-as_bytes-end-eq46-via-then-as_bytes-end-eq46+else-is_unlisted}
use Rattle.cookie_client.proofs.shard.shortest.Goals.{else-as_bytes-end-eq46-via-else-as_bytes-end-eq46}
use Rattle.cookie_client.proofs.shard.shortest.Goals as goal

pub range_from-requires : goal.range_from-requires
range_from-requires c = λ _.
    cut_behind c.args.host.now c.loop-end.end c.utf8.host (omega arith) c.loop-end.invariant.0
    (subst (λ x. get_or x (c.loop-end.end - 1) 0 ≡ 46) c.as_bytes.ensures.value
    c.if-as_bytes-end-eq46.true)

pub range_from-requires-then-is_unlisted : goal.range_from-requires-then-is_unlisted
range_from-requires-then-is_unlisted c = λ _.
    cut_behind c.args.host.now c.loop-end.end c.utf8.host (omega arith) c.loop-end.invariant.0
    (subst (λ x. get_or x (c.loop-end.end - 1) 0 ≡ 46) c.as_bytes.ensures.value
    c.if-as_bytes-end-eq46.true)

pub returns-then-is_unlisted : goal.returns-then-is_unlisted
returns-then-is_unlisted c =
    let host = c.args.host.now in
    let end = c.loop-end.end in
    let byte : get_or host (end - 1) 0 ≡ 46 =
    subst (λ x. get_or x (end - 1) 0 ≡ 46) c.as_bytes.ensures.value c.if-as_bytes-end-eq46.true in
    let here = c.range_from-then-is_unlisted.ensures.value in
    let long = c.range_from-then-is_unlisted.ensures.len in (
      (
        subst (IsUnlisted c.args.list.now) (c.range_from.ensures.value ∙ sym here)
            (c.is_unlisted.ensures.0 c.if-is_unlisted.true),
        subst (EndsAfterDot host) (sym here) (ends_behind host end (omega arith) c.loop-end.invariant.0 byte),
      ),
      (λ text behind. elim (cases_lt (length text + end) (length host)) [
        | inl before ↦ absurd (c.loop-end.invariant.1 text behind before)
        | inr past ↦ omega (arith, past, long)
      ]),
    )

pub loop-end-preserved : goal.loop-end-preserved
loop-end-preserved c =
    let host = c.args.host.now in
    let end = c.loop-end.end in (
      omega (arith, c.loop-end.invariant.0),
      (λ text behind within. elim (cases_lt (length text + end) (length host)) [
        | inl before ↦ c.loop-end.invariant.1 text behind before
        | inr past ↦
            let at = behind_dot host text end behind.1 (omega (arith, within, past)) in
            elim c.else-as_bytes-end-eq46.branch [
              | else-as_bytes-end-eq46-via-then-as_bytes-end-eq46+else-is_unlisted w ↦
                  both_ways _ w.if-is_unlisted.false (w.is_unlisted.ensures.1
                  (subst (IsUnlisted c.args.list.now) (sym at.0 ∙ sym w.range_from.ensures.value) behind.0))
              | else-as_bytes-end-eq46-via-else-as_bytes-end-eq46 w ↦
                  w.if-as_bytes-end-eq46.false
                  (subst (λ x. get_or x (end - 1) 0 ≡ 46) (sym c.as_bytes.ensures.value) at.1)
            ]
      ]),
    )

use Rattle.std.proofs.Common.{rules, string_bytes, encode_utf8}
use Rattle.std.proofs.lemmas.Result.{err_from_is_err_and}
use Rattle.saved_text.specs.Grammar.{letters}
use Rattle.saved_text.proofs.RonLemmas.{Goes-on, shorter, Takes-string, Stops-string, StopsAs-string, Goes-begun}
use Rattle.saved_text.proofs.ron_text.read_string.Goals as goal

pub loop-value-init : goal.loop-value-init
loop-value-init c = (
  search rules,
  Goes-begun c.args.text.now c.in-Some.rest.now (string_bytes c.new-value.result)
      c.in-Some.ensures.some c.new-value.ensures.bytes,
)

pub returns-in-Some-cut : goal.returns-in-Some-cut
returns-in-Some-cut c = Takes-string c.args.text.now c.loop-value.rest.now c.plain_front.result.0.now
    c.plain_front.result.1.now c.in-Some-cut.behind.now (string_bytes c.loop-value.value)
    (string_bytes c.push_str.new.self)
    c.loop-value.invariant.1 c.plain_front.ensures.split c.plain_front.ensures.plain c.in-Some-cut.ensures.some
    c.in_ok-push_str.ensures.bytes

pub returns-in_default-cut-2 : goal.returns-in_default-cut-2
returns-in_default-cut-2 c = Stops-string c.args.text.now c.loop-value.rest.now c.plain_front.result.0.now
    c.plain_front.result.1.now (string_bytes c.loop-value.value)
    c.loop-value.invariant.1 c.plain_front.ensures.split c.plain_front.ensures.plain c.plain_front.ensures.stop
    c.in_default-cut.ensures.none c.in_default-cut-2.ensures.none

pub returns-in_err-c : goal.returns-in_err-c
returns-in_err-c c =
    let p = err_from_is_err_and c.from_residual-in_err-c.result c.from_residual-in_err-c.ensures.1 in
    rw (p.1, p.2) (StopsAs-string c.args.text.now c.loop-value.rest.now c.plain_front.result.0.now
    c.plain_front.result.1.now c.in-Some-cut-2.escape.now (string_bytes c.loop-value.value) _
    c.loop-value.invariant.1 c.plain_front.ensures.split c.plain_front.ensures.plain c.in-Some-cut-2.ensures.some
    c.in_err-c.ensures)

pub loop-value-smaller : goal.loop-value-smaller
loop-value-smaller c = shorter c.loop-value.rest.now c.plain_front.result.0.now c.plain_front.result.1.now
    c.in-Some-cut-2.escape.now c.in_ok-c.next.now (letters (encode_utf8 c.in_ok-c.c))
    c.plain_front.ensures.split c.in-Some-cut-2.ensures.some c.in_ok-c.ensures

pub loop-value-preserved : goal.loop-value-preserved
loop-value-preserved c = (
  search rules,
  Goes-on c.args.text.now c.loop-value.rest.now c.plain_front.result.0.now c.plain_front.result.1.now
      c.in-Some-cut-2.escape.now c.in_ok-c.next.now (string_bytes c.loop-value.value)
      (string_bytes c.push_str.new.self) (string_bytes c.push.new.self) c.in_ok-c.c
      c.loop-value.invariant.1 c.plain_front.ensures.split c.plain_front.ensures.plain c.in-Some-cut-2.ensures.some
      c.in_ok-c.ensures c.in_ok-push_str.ensures.bytes c.in_ok-push.ensures.bytes,
)

use Rattle.std.proofs.Common.{rules, string_bytes}
use Rattle.saved_text.proofs.PieceLemmas.{more_escaped, all_escaped}
use Rattle.saved_text.proofs.json_write.push_string.Goals as goal

pub loop-b-preserved : goal.loop-b-preserved
loop-b-preserved c = (
  search rules,
  more_escaped (string_bytes c.loop-b.out) c.loop-b.rest.now c.unescaped_front.result.0.now
      c.unescaped_front.result.1.now c.in-Some.next.now c.in-Some.b (string_bytes c.push_str.new.self)
      (string_bytes c.push_escaped.new.out) _
      c.loop-b.invariant.1 c.unescaped_front.ensures.split c.unescaped_front.ensures.same c.in-Some.ensures.some.0
      c.in_ok-push_str.ensures.bytes c.in_ok-push_escaped.ensures,
)

pub returns : goal.returns
unfolding lib.Utf8.encode
returns c = all_escaped (string_bytes c.loop-b.out) c.loop-b.rest.now c.unescaped_front.result.0.now
    c.unescaped_front.result.1.now (string_bytes c.push_str.new.self) _ (string_bytes c.args.out.now) c.args.text.now
    c.loop-b.invariant.1 c.unescaped_front.ensures.split c.unescaped_front.ensures.same c.in_default.ensures.none
    c.in_ok-push_str.ensures.bytes c.in_ok-push-2.ensures.bytes

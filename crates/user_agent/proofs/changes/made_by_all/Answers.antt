use Rattle.std.specs.Prelude.{string_bytes}
use Rattle.jiff.specs.Words.{civil_nanos}
use Rattle.user_agent.proofs.ChangeLemmas.{told_by_all}
use Rattle.user_agent.proofs.changes.made_by_all.Goals as goal

pub returns : goal.returns
returns c =
    told_by_all c.args.rules.now (civil_nanos c.args.now) c.args.line.now (string_bytes c.in_ok-short.short)
    (string_bytes c.in_ok-known.known) (string_bytes c.in_ok-handed.handed) c.as_str.result.now c.as_str-2.result.now
    c.as_str-3.result.now c.as_str-4.result.now c.as_str-5.result.now c.changes_in.result c.as_str.ensures.value
    c.as_str-2.ensures.value c.as_str-3.ensures.value c.as_str-4.ensures.value c.as_str-5.ensures.value
    c.in_ok-short.ensures c.in_ok-known.ensures c.in_ok-handed.ensures c.changes_in.ensures

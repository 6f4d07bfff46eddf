use Rattle.std.proofs.Common.{ap, is_some, length, map, subst, sym, take, ◌+◌}
use Rattle.jiff.specs.Words.{civil_nanos}
use Rattle.cookie_jar.specs.Entries.{entry_row}
use Rattle.cookie_jar.specs.Importing.{AreRefused}
use Rattle.cookie_jar.proofs.ImportLemmas.{next_refused, next_taken}
use Rattle.cookie_jar.proofs.importing.refused_of.Goals as goal
use Rattle.cookie_jar.proofs.importing.refused_of.Goals.{in-Some+in_ok-push-in-Some, in-None}

pub loop-entry-preserved : goal.loop-entry-preserved
loop-entry-preserved c =
    let now = civil_nanos c.args.now in
    let xs = c.args.entries.now in
    let i = c.loop-entry.entry-index in
    let entry = c.entry-item.result in
    let old = c.loop-entry.refused.items in
    elim c.match-cause_of.branch [
      | in-Some+in_ok-push-in-Some w ↦ subst
          (λ v. AreRefused c.args.form now (map entry_row (take (i + 1) xs)) (length v.items)) (sym w.refused-is)
          (next_refused c.args.form now xs i entry old w.push.new.self.items _ c.loop-entry-test.true c.entry-item.is
          c.loop-entry.invariant (c.cause_of.ensures.some (ap is_some w.in-Some.is)) w.in_ok-push-in-Some.ensures.items)
      | in-None w ↦ subst
          (λ v. AreRefused c.args.form now (map entry_row (take (i + 1) xs)) (length v.items)) (sym w.refused-is)
          (next_taken c.args.form now xs i entry (length old) c.loop-entry-test.true c.entry-item.is
          c.loop-entry.invariant (c.cause_of.ensures.none (ap is_some w.in-None.is)))
    ]

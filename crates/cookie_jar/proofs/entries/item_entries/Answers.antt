use Rattle.std.proofs.Common.{◌+◌}
use Rattle.serde_json.specs.View.{view}
use Rattle.cookie_jar.specs.Entries.{GivesItem}
use Rattle.cookie_jar.proofs.EntryLemmas.{next_entry}
use Rattle.cookie_jar.proofs.entries.item_entries.Goals as goal

pub loop-index-preserved : goal.loop-index-preserved
loop-index-preserved c =
    next_entry GivesItem view c.args.items.now c.loop-index.index c.index-items-index.result c.index-items-index.result
    c.loop-index.entries.items c.push.new.self.items (record { number = c.loop-index.index + 1; row = c.in_ok-row.row })
    c.loop-index-test.true c.index-items-index.is c.loop-index.invariant c.in_ok-row.ensures c.in_ok-push.ensures.items

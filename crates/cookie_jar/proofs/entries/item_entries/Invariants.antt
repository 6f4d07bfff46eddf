use Rattle.std.specs.Prelude.{map, take}
use Rattle.cookie_text.specs.ReadingBack.{Pairwise}
use Rattle.serde_json.specs.View.{view}
use Rattle.cookie_jar.specs.Entries.{GivesItem, entry_row}
use Rattle.cookie_jar.proofs.entries.item_entries.Given as goal

abbrev pub invariant-loop-index : goal.invariant-loop-index
invariant-loop-index l = Pairwise GivesItem (map view (take l.index l.items)) (map entry_row l.entries.items)

use Rattle.std.proofs.Common.{[], ◌≡◌, ◌≤◌, ◌-◌, drop, length, map, take}
use Rattle.cookie_jar.specs.RonItems.{items_from, start}
use Rattle.cookie_jar.proofs.ItemLemmas.{with_more}
use Rattle.cookie_jar.proofs.ron_items.items_in.Given as goal

-- the items so far, and those from the place on
abbrev pub invariant-loop-len : goal.invariant-loop-len
invariant-loop-len l = record {
  gives : with_more (map (λ item. item.now) l.items.items) (items_from l.at (take l.len l.rest) (drop l.len l.rest))
      ≡ items_from start [] l.text;
  bound : l.len ≤ length l.rest;
  depth : l.at.depth ≤ l.len;
  room : length l.rest ≤ length l.text;
}

abbrev pub decreases-loop-len : goal.decreases-loop-len
decreases-loop-len l = length l.rest - l.len

-- What a map or a list ends as, once a value was lent.
use Rattle.std.specs.Prelude.{◌≡◌, ℕ, List, Option}
use Rattle.std.specs.Borrow.{Fml, RattleType, MutBor, Lends}
use Rattle.indexmap.specs.IndexMap.{set_value_at}
use Rattle.place_index.specs.Entries.{set_at}
use Rattle.place_index.specs.contracts.text_map.TextMap.{the_row}
use Rattle.place_index.specs.contracts.text_list.TextList.{the_row as the_list_row}

-- the entry at the place has the last value written through r
abbrev pub LendsAt : (V : RattleType) → MutBor (List (List ℕ × V.Denot)) → ℕ → MutBor V.Denot → Fml
LendsAt V m place r = Lends (the_row V) V m r (set_value_at m.now place)

-- the same of a list
abbrev pub LendsIn : (V : RattleType) → MutBor (List (List ℕ × V.Denot)) → ℕ → MutBor V.Denot → Fml
LendsIn V l place r = Lends (the_list_row V) V l r (set_value_at l.now place)

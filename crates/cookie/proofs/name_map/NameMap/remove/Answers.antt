use Rattle.std.proofs.Common.{◌∙◌, ap}
use Rattle.std.specs.FinMap as finmap
use Rattle.cookie.proofs.NameMaps.{map_of_remove}
use Rattle.cookie.proofs.name_map.NameMap.remove.Goals as goal

pub returns : goal.returns
returns g c =
    map_of_remove c.self.inside.entries c.shift_remove.new.self c.args.name.now c.shift_remove.ensures.updates
    ∙ ap (λ m. finmap.remove m c.args.name.now) c.self.view_is

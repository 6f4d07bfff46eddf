use Rattle.std.proofs.Common.{◌∙◌, ap}
use Rattle.std.specs.Prelude.{string_bytes}
use Rattle.std.specs.FinMap as finmap
use Rattle.cookie.proofs.NameMaps.{map_of_insert}
use Rattle.cookie.proofs.name_map.NameMap.insert.Goals as goal

pub returns-in-Ok-clause-ok : goal.returns-in-Ok-clause-ok
returns-in-Ok-clause-ok g c =
    map_of_insert c.self.inside.entries c.insert.new.self
    (string_bytes c.args.name) c.args.value c.in-Ok.ensures.updates
    ∙ ap (λ m. finmap.insert m (string_bytes c.args.name) c.args.value) c.self.view_is

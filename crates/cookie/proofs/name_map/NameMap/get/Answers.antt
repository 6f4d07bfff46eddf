use Rattle.std.proofs.Common.{◌∙◌, ap, sym}
use Rattle.std.specs.FinMap as finmap
use Rattle.cookie.proofs.NameMaps.{get_by_bytes}
use Rattle.cookie.proofs.name_map.NameMap.get.Goals as goal

pub returns : goal.returns
returns g c =
    c.get.ensures.value
    ∙ sym (get_by_bytes c.self.inside.entries.entries c.args.name.now)
    ∙ ap (λ m. finmap.get m c.args.name.now) c.self.view_is

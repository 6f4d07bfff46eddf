use Rattle.std.proofs.Common.{◌∙◌, ap, sym}
use Rattle.std.specs.Prelude.{is_some}
use Rattle.std.specs.FinMap as finmap
use Rattle.cookie.proofs.NameMaps.{get_by_bytes}
use Rattle.cookie.proofs.name_map.NameMap.contains.Goals as goal

pub returns : goal.returns
returns g c =
    c.contains_key.ensures
    ∙ ap is_some (sym (get_by_bytes c.self.inside.entries.entries c.args.name.now)
    ∙ ap (λ m. finmap.get m c.args.name.now) c.self.view_is)

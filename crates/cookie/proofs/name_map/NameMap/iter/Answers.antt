use Rattle.std.proofs.Common.{subst, sym}
use Rattle.std.specs.FinMap as finmap
use Rattle.cookie.specs.ByName.{Lists, by_bytes}
use Rattle.cookie.proofs.NameMaps.{entries_list}
use Rattle.cookie.proofs.name_map.NameMap.iter.Goals as goal

pub returns : goal.returns
returns g c =
    subst (λ es. Lists (by_bytes es) (finmap.get c.args.self.now)) (sym c.iter.ensures.rest)
    (entries_list c.self.inside.entries.entries c.args.self.now c.iter.ensures.unique c.self.view_is)

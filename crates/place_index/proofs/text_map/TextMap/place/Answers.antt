use Rattle.std.proofs.Common.{◌∙◌, ap}
use Rattle.place_index.specs.Entries.{place_of}
use Rattle.place_index.proofs.EntryLemmas.{place_of-by_bytes}
use Rattle.place_index.proofs.text_map.TextMap.place.Goals as goal

pub returns : goal.returns
returns g c =
    c.get_index_of.ensures.index ∙ place_of-by_bytes c.self.inside.entries.entries c.args.key.now
    ∙ ap (place_of c.args.key.now) c.self.view_is

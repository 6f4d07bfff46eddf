use Rattle.std.proofs.Common.{◌≡◌, subst, arith}
use Rattle.std.proofs.lemmas.Grind.{common_steps}
use Rattle.std.specs.Prelude.{None}
use Rattle.place_index.specs.Entries.{place_of}
use Rattle.place_index.proofs.EntryLemmas.{longer_nowhere}
use Rattle.place_index.proofs.text_map.TextMap.is_longer.Goals as goal

pub returns : goal.returns
returns g c longer =
    subst (λ es. place_of c.args.key.now es ≡ None) c.self.view_is
    (longer_nowhere c.self.inside.longest c.args.key.now _ c.self.invariant (grind (arith, common_steps)))

use Rattle.std.proofs.Common.{◌≡◌, subst, arith}
use Rattle.std.proofs.lemmas.Grind.{common_steps}
use Rattle.std.specs.Prelude.{None}
use Rattle.place_index.specs.Entries.{place_of}
use Rattle.place_index.proofs.EntryLemmas.{longer_nowhere}
use Rattle.place_index.proofs.text_list.TextList.is_longer.Goals as goal

pub returns : goal.returns
returns g c longer =
    subst (λ es. place_of c.args.text.now es ≡ None) c.self.view_is
    (longer_nowhere c.self.inside.longest c.args.text.now _ c.self.invariant.up_to (grind (arith, common_steps)))

use Rattle.std.proofs.Common.{[], arith, inr, refl}
use Rattle.std.proofs.lemmas.List.Splits.{length-slice_split}
use Rattle.idna.specs.Labels.{is_full_stop}
use Rattle.publicsuffix.proofs.RegistrableLemmas.{gives_registrable}
use Rattle.publicsuffix.proofs.list.registrable_without_list.Goals as goal

pub registrable_behind-requires-clause-within : goal.registrable_behind-requires-clause-within
registrable_behind-requires-clause-within c =
    omega (arith, length-slice_split is_full_stop c.in_ok-read.read.text.now)

pub returns : goal.returns
returns c =
    gives_registrable [] c.args.name.now c.in_ok-read.read.text.now 1 c.registrable_behind.result
    c.in_ok-read.ensures.0 c.in_ok-read.ensures.1 (inr ((λ rule held. absurd (omega (arith, held.1))), refl))
    c.registrable_behind.ensures

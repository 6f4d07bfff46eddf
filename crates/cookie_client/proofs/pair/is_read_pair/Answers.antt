use Rattle.std.proofs.Common.{◌∙◌, sym}
use Rattle.cookie_client.proofs.ReadPairs.{pair_from, pair_parts}
use Rattle.cookie_client.proofs.pair.is_read_pair.Goals as goal

pub returns : goal.returns
returns c =
    let name = c.args.name.now in
    let value = c.args.value.now in (
      λ is. pair_parts name value (sym c.are_read.ensures ∙ is),
      λ pair. c.are_read.ensures ∙ pair_from name value pair,
    )

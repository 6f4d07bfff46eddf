use Rattle.std.proofs.Common.{◌∙◌}
use Rattle.place_index.proofs.NameLemmas.{position-by_bytes}
use Rattle.place_index.proofs.names.find_by_hash.Goals as goal

pub returns-in_err-place-clause-place : goal.returns-in_err-place-clause-place
returns-in_err-place-clause-place c =
    c.from_residual.ensures ∙ c.in_err-place.ensures.index
    ∙ position-by_bytes c.args.name.now c.args.table.now.keys

pub returns-then-place-len-clause-place : goal.returns-then-place-len-clause-place
returns-then-place-len-clause-place c =
    c.in_ok-place.ensures.index ∙ position-by_bytes c.args.name.now c.args.table.now.keys

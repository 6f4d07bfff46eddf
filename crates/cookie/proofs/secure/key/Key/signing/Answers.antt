use Rattle.std.proofs.Common.{ap, length, ◌∙◌}
use Rattle.std.proofs.lemmas.List.{length-take-le}
use Rattle.cookie.proofs.secure.key.Key.signing.Goals as goal

pub returns-clause-len : goal.returns-clause-len
returns-clause-len c =
    let first = rw c.unwrap.ensures at c.first_chunk.ensures.cases in
    ap length first.same ∙ length-take-le 32 _ first.enough

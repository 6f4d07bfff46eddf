use Rattle.std.proofs.Common.{[], ◌∷◌, ◌++◌, arith, ◌∙◌}
use Rattle.seal.proofs.aes.encipher_last.Goals as goal

pub returns : goal.returns
returns c key front is keeps =
    c.remaining_rounds.ensures key (front ++ c.args.last ∷ []) is
    (c.after_two.ensures ∙ keeps c.args.last (omega arith))

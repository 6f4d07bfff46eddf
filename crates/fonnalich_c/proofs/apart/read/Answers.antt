use Rattle.std.proofs.Common.{subst, sym}
use Rattle.fonnalich_c.specs.Parts.{Reads}
use Rattle.fonnalich_c.proofs.apart.read.Goals as goal

pub returns-then-decode : goal.returns-then-decode
returns-then-decode c =
    subst (λ decode. Reads decode c.args.text.now c.parse_encoded.result) (sym c.if-decode.true)
    c.parse_encoded.ensures

use Rattle.std.proofs.Common.{ℕ, List, [], ◌∷◌, map, bit_xor, ap, ◌∙◌}
use lib.Lanes.{zip2}
use Rattle.seal.specs.Field.{s_box}
use Rattle.seal.proofs.RegisterScheduleLemmas.{turned, unturned}
use Rattle.seal.proofs.register_aes.key_step.Goals as goal

pub returns-then-m-eq0 : goal.returns-then-m-eq0
returns-then-m-eq0 c = λ t is.
    let x : ℕ = c.x_power-p.result in
    ap (λ (l : List ℕ). zip2 bit_xor l (x ∷ 0 ∷ 0 ∷ 0 ∷ x ∷ 0 ∷ 0 ∷ 0 ∷ x ∷ 0 ∷ 0 ∷ 0 ∷ x ∷ 0 ∷ 0 ∷ 0 ∷ []))
    (c.sub_bytes.ensures ∙ ap (map s_box) c.shuffled.ensures)
    ∙ turned c.args.last t x c.args.m c.if-m-eq0.true c.x_power-p.ensures is

pub returns : goal.returns
returns c = λ t is.
    c.sub_bytes-2.ensures ∙ ap (map s_box) c.shuffled-2.ensures ∙ unturned c.args.last t c.args.m c.if-m-eq0.false is

use Rattle.std.proofs.Common.{◌≡◌, ℕ, ◌%◌, get_or, bit_and, arith, ap, ◌∙◌}
use Rattle.std.proofs.lemmas.Nat.{and_mask}
use Rattle.seal.specs.Ghash.{product_low}
use Rattle.seal.proofs.GhashLemmas.{product_low-mod}
use Rattle.seal.proofs.ghash.Multiples.multiple.Goals as goal

pub returns : goal.returns
returns c =
    let x : ℕ = c.args.x in
    let h : ℕ = c.args.self.now in
    let of_h : get_or c.self.inside.table 8 0 ≡ h = cc in
    let low : bit_and x 15 ≡ x % 16 = and_mask x 4 in
    ap (λ (n : ℕ). get_or c.self.inside.table n 0) low ∙ c.self.invariant.0 (x % 16) (omega arith)
    ∙ ap (product_low 4 (x % 16)) of_h ∙ product_low-mod 4 x h

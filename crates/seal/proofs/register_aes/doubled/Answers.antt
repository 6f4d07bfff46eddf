use Rattle.std.proofs.Common.{bit_xor, ◌∙◌}
use Rattle.std.proofs.lemmas.Simd.{zip2_splat, zip2_of_maps}
use Rattle.seal.specs.Field.{byte_product}
use Rattle.seal.specs.Registers.{looked_up}
use Rattle.seal.specs.declared.register_aes.TheConstants.{CARRIED}
use Rattle.seal.proofs.LaneLemmas.{picked, map_same, map_whole}
use Rattle.seal.proofs.RegisterAesLemmas.{down, plus, double_is}
use Rattle.seal.proofs.register_aes.doubled.Goals as goal

pub returns : goal.returns
returns c =
    let v = c.args.x in
    let carry = picked CARRIED (λ b. down b 4) v _ _ (zip2_splat down v 16 4 c.fits-x.0) c.shuffled.ensures in
    let twice = zip2_of_maps plus (λ b. b) (λ b. b) v (map_whole v) (map_whole v) in
    zip2_of_maps bit_xor (λ b. plus b b) (λ b. looked_up CARRIED (down b 4)) v twice carry
    ∙ map_same (λ b. bit_xor (plus b b) (looked_up CARRIED (down b 4))) (byte_product 2) v double_is c.fits-x.1

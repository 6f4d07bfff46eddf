use Rattle.std.proofs.Common.{◌≡◌, ℕ, List, map, bit_and, bit_xor, ◌∙◌}
use Rattle.std.proofs.lemmas.Simd.{zip2_splat, zip2_of_maps}
use Rattle.seal.specs.Field.{s_box}
use Rattle.seal.specs.Registers.{looked_up}
use Rattle.seal.specs.declared.register_aes.TheConstants.{INTO_LOW, INTO_HIGH, INVERSE, SCALED, OUT_HIGH, OUT_LOW}
use Rattle.seal.proofs.LaneLemmas.{picked, with_splat, map_same}
use Rattle.seal.proofs.RegisterAesLemmas.{down, basis, high, low, both, scaled, first, second, out, out_is}
use Rattle.seal.proofs.register_aes.sub_bytes.Goals as goal

pub returns : goal.returns
returns c =
    let v : List ℕ = c.args.x in
    let n = c.fits-x.0 in
    let p : c.shuffled-p.result ≡ map (λ b. looked_up INTO_LOW (bit_and b 15)) v =
    picked INTO_LOW (λ b. bit_and b 15) v _ _ (zip2_splat bit_and v 16 15 n) c.shuffled-p.ensures in
    let q : c.shuffled-q.result ≡ map (λ b. looked_up INTO_HIGH (down b 4)) v =
    picked INTO_HIGH (λ b. down b 4) v _ _ (zip2_splat down v 16 4 n) c.shuffled-q.ensures in
    let y = zip2_of_maps bit_xor (λ b. looked_up INTO_LOW (bit_and b 15)) (λ b. looked_up INTO_HIGH (down b 4)) v p q in
    let i = with_splat down basis v _ 4 n y in
    let k = with_splat bit_and basis v _ 15 n y in
    let j = zip2_of_maps bit_xor high low v i k in
    let ak = picked SCALED low v _ _ k c.shuffled-ak.ensures in
    let ii = picked INVERSE high v _ _ i c.shuffled-ii.ensures in
    let jj = picked INVERSE both v _ _ j c.shuffled-jj.ensures in
    let io = picked INVERSE (λ b. bit_xor (looked_up INVERSE (high b)) (scaled b)) v _ _
    (zip2_of_maps bit_xor (λ b. looked_up INVERSE (high b)) scaled v ii ak) c.shuffled-io.ensures in
    let jo = picked INVERSE (λ b. bit_xor (looked_up INVERSE (both b)) (scaled b)) v _ _
    (zip2_of_maps bit_xor (λ b. looked_up INVERSE (both b)) scaled v jj ak) c.shuffled-jo.ensures in
    let u = picked OUT_HIGH (λ b. bit_xor (first b) (both b)) v _ _ (zip2_of_maps bit_xor first both v io j)
    c.shuffled-u.ensures in
    let t = picked OUT_LOW (λ b. bit_xor (second b) (high b)) v _ _ (zip2_of_maps bit_xor second high v jo i)
    c.shuffled-t.ensures in
    let sum = zip2_of_maps bit_xor (λ b. looked_up OUT_HIGH (bit_xor (first b) (both b)))
    (λ b. looked_up OUT_LOW (bit_xor (second b) (high b))) v u t in
    with_splat bit_xor
    (λ b. bit_xor (looked_up OUT_HIGH (bit_xor (first b) (both b))) (looked_up OUT_LOW (bit_xor (second b) (high b))))
    v _ 99 n sum
    ∙ map_same out s_box v out_is c.fits-x.1

use Rattle.std.proofs.Common.{◌≡◌, ℕ, ◌<◌, List, map, get_or, replicate, bit_xor, bit_and, ap, ◌∙◌, arith, refl}
use Rattle.std.proofs.lemmas.List.FromFn.{get_or-map-range_with_len}
use Rattle.std.specs.List.{range_with_len}
use Rattle.std.specs.Int.{bit_at}
use Rattle.std.proofs.lemmas.Nat.Bits.{bit_at-lt}
use lib.Lanes.{zip2}
use Rattle.seal.specs.declared.hash_subkey.TheConstants.{BIT_0, BIT_1, BIT_2, BIT_3}
use Rattle.seal.specs.Ghash.{scale}
use Rattle.seal.specs.Registers.{looked_up}
use Rattle.seal.proofs.LaneLemmas.{lane_fits}
use Rattle.seal.proofs.RegisterLemmas.{looked_up-below}
use Rattle.seal.proofs.SubkeyLemmas.{masked, mask_is}
use Rattle.seal.proofs.hash_subkey.row.Goals as goal

pub returns : goal.returns
returns c n within =
    let t : ℕ = c.args.t in
    let all : List ℕ → List ℕ = λ (s : List ℕ). map (looked_up s) (replicate 16 t) in
    let byte : List ℕ → ℕ = λ (s : List ℕ). looked_up s t in
    let sum : ℕ → ℕ = λ (k : ℕ). bit_xor (masked k 3 (byte c.args.third))
    (bit_xor (masked k 2 (byte c.args.second))
    (bit_xor (masked k 1 (byte c.args.first)) (masked k 0 (byte c.args.zeroth)))) in
    let lane : List ℕ → List ℕ → List ℕ → List ℕ → List ℕ = λ (p q r s : List ℕ). zip2 bit_xor (zip2 bit_and BIT_3 p)
    (zip2 bit_xor (zip2 bit_and BIT_2 q) (zip2 bit_xor (zip2 bit_and BIT_1 r) (zip2 bit_and BIT_0 s))) in
    let results : lane c.shuffled-4.result c.shuffled-3.result c.shuffled.result c.shuffled-2.result
    ≡ lane (all c.args.third) (all c.args.second) (all c.args.first) (all c.args.zeroth) =
    λ i. lane (c.shuffled-4.ensures i) (c.shuffled-3.ensures i) (c.shuffled.ensures i) (c.shuffled-2.ensures i) in
    let lanes : lane (all c.args.third) (all c.args.second) (all c.args.first) (all c.args.zeroth)
    ≡ map sum (range_with_len 0 16) = refl in
    let is : (k : ℕ) (s : List ℕ) → get_or s t 0 < 256 → masked n k (byte s) ≡ scale (bit_at n k) (get_or s t 0) =
    λ k s fits. ap (masked n k) (looked_up-below s t (omega arith))
    ∙ mask_is (bit_at n k) (get_or s t 0) (bit_at-lt n k) fits in
    ap (λ (l : List ℕ). get_or l n 0) (results ∙ lanes)
    ∙ get_or-map-range_with_len sum 0 16 n n 0 within (omega arith)
    ∙ (λ i. bit_xor (is 3 c.args.third (lane_fits c.args.third t c.fits-third.1) i)
    (bit_xor (is 2 c.args.second (lane_fits c.args.second t c.fits-second.1) i)
    (bit_xor (is 1 c.args.first (lane_fits c.args.first t c.fits-first.1) i)
    (is 0 c.args.zeroth (lane_fits c.args.zeroth t c.fits-zeroth.1) i))))

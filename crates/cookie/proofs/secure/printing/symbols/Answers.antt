use Rattle.std.proofs.Common.{◌≡◌, ℕ, List, map, bit_and, ◌∙◌}
use Rattle.std.proofs.lemmas.Simd.{zip2_splat, zip2_of_maps}
use Rattle.cookie.specs.Base64Steps.{over, symbol}
use Rattle.cookie.proofs.PrintingLemmas.{plus, minus, with_splat, map_same, summed, summed_is}
use Rattle.cookie.proofs.secure.printing.symbols.Goals as goal

pub returns : goal.returns
returns c =
    let v : List ℕ = c.args.sextets in
    let n = c.fits-sextets.0 in
    let capitals = zip2_splat plus v 16 65 n in
    let m25 = with_splat bit_and (over 25) v _ 6 n (c.over.ensures c.requires) in
    let m51 = with_splat bit_and (over 51) v _ 75 n (c.over-2.ensures c.requires) in
    let m61 = with_splat bit_and (over 61) v _ 15 n (c.over-3.ensures c.requires) in
    let m62 = with_splat bit_and (over 62) v _ 3 n (c.over-4.ensures c.requires) in
    let letters = zip2_of_maps plus (λ k. plus k 65) (λ k. bit_and (over 25 k) 6) v capitals m25 in
    let digits = zip2_of_maps minus (λ k. plus (plus k 65) (bit_and (over 25 k) 6)) (λ k. bit_and (over 51 k) 75) v
    letters m51 in
    let signs = zip2_of_maps minus (λ k. minus (plus (plus k 65) (bit_and (over 25 k) 6)) (bit_and (over 51 k) 75))
    (λ k. bit_and (over 61 k) 15) v digits m61 in
    zip2_of_maps plus
    (λ k. minus (minus (plus (plus k 65) (bit_and (over 25 k) 6)) (bit_and (over 51 k) 75)) (bit_and (over 61 k) 15))
    (λ k. bit_and (over 62 k) 3) v signs m62
    ∙ map_same summed symbol v summed_is c.requires

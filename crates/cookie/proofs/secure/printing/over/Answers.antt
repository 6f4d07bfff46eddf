use Rattle.std.proofs.Common.{ℕ, List, ◌-◌, ◌∙◌}
use Rattle.std.proofs.lemmas.Simd.{zip2_splat, zip2_of_maps, splat_is_map}
use Rattle.cookie.specs.Base64Steps.{over}
use Rattle.cookie.proofs.PrintingLemmas.{plus, minus, down, with_splat, map_same, over_is}
use Rattle.cookie.proofs.secure.printing.over.Goals as goal

pub returns : goal.returns
returns c = λ small.
    let v : List ℕ = c.args.sextets in
    let y : ℕ = 127 - c.args.last in
    let n = c.fits-sextets.0 in
    let sum = zip2_splat plus v 16 y n in
    let bit = with_splat down (λ k. plus k y) v _ 7 n sum in
    zip2_of_maps minus (λ _. 0) (λ k. down (plus k y) 7) v (splat_is_map v 16 0 n) bit
    ∙ map_same (λ k. minus 0 (down (plus k y) 7)) (over c.args.last) v
    (λ k. over_is c.args.last k c.requires) small

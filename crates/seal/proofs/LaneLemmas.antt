-- Steps on the lanes of a register, as one function on each.
use Rattle.std.proofs.Common.{◌≡◌, ℕ, zero, suc, ◌<◌, List, [], ◌∷◌, map, length, get_or, replicate, bit_xor, refl, ap}
use Rattle.std.proofs.Common.{◌∙◌, arith, w8, Fits}
use Rattle.std.proofs.lemmas.List.{length-map}
use Rattle.std.proofs.lemmas.Simd.{zip2_splat}
use lib.Lanes.{zip2, Each1}
use Rattle.seal.specs.Bytes.{xor_bytes}
use Rattle.seal.specs.Registers.{looked_up}

map_map : (f g : ℕ → ℕ) (xs : List ℕ) → map f (map g xs) ≡ map (λ x. f (g x)) xs
map_map f g [] = refl
map_map f g (x ∷ xs) = ap (λ (l : List ℕ). f (g x) ∷ l) (map_map f g xs)

pub map_whole : (vs : List ℕ) → vs ≡ map (λ b. b) vs
map_whole [] = refl
map_whole (v ∷ vs) = ap (λ (l : List ℕ). v ∷ l) (map_whole vs)

-- a look-up at places that are computed lane by lane
pub picked : (t : List ℕ) (f : ℕ → ℕ) (vs js rs : List ℕ) → js ≡ map f vs → rs ≡ map (looked_up t) js
    → rs ≡ map (λ b. looked_up t (f b)) vs
picked t f vs js rs e r = r ∙ ap (map (looked_up t)) e ∙ map_map (looked_up t) f vs

-- an operator with the same number in each lane
pub with_splat : (f : ℕ → ℕ → ℕ) (g : ℕ → ℕ) (vs xs : List ℕ) (y : ℕ) → length vs ≡ 16 → xs ≡ map g vs
    → zip2 f xs (replicate 16 y) ≡ map (λ b. f (g b) y) vs
with_splat f g vs xs y long e =
    ap (λ (l : List ℕ). zip2 f l (replicate 16 y)) e ∙ zip2_splat f (map g vs) 16 y (length-map vs g ∙ long)
    ∙ map_map (λ x. f x y) g vs

-- two functions that agree on bytes
pub map_same : (f g : ℕ → ℕ) (vs : List ℕ) → ((b : ℕ) → b < 256 → f b ≡ g b) → Each1 (Fits w8) vs → map f vs ≡ map g vs
map_same f g [] same h = refl
map_same f g (v ∷ vs) same h = λ i. same v h.0.fits i ∷ map_same f g vs same h.1 i

pub zip_is : (xs ys : List ℕ) → zip2 bit_xor xs ys ≡ xor_bytes xs ys
unfolding xor_bytes
zip_is [] ys = refl
zip_is (x ∷ xs) [] = refl
zip_is (x ∷ xs) (y ∷ ys) = ap (λ (l : List ℕ). bit_xor x y ∷ l) (zip_is xs ys)

-- each lane of a register of bytes is one
pub lane_fits : (vs : List ℕ) (k : ℕ) → Each1 (Fits w8) vs → get_or vs k 0 < 256
lane_fits [] k h = omega arith
lane_fits (v ∷ vs) zero h = h.0.fits
lane_fits (v ∷ vs) (suc k) h = lane_fits vs k h.1

-- Look-ups within a register, lane by lane.
use Rattle.std.proofs.Common.{◌≡◌, ℕ, ◌+◌, ◌*◌, ◌/◌, ◌<◌, true, false, cond, ltb, leb, ◌||◌, T, List, map, length}
use Rattle.std.proofs.Common.{get_or}
use Rattle.std.proofs.Common.{replicate, bit_and, refl, sym, ap, subst, ◌∙◌, arith, w8, Fits}
use Rattle.std.proofs.lemmas.Bool.{agree_below_at}
use Rattle.std.proofs.lemmas.List.{get_or-map, length-map, ext_get_or}
use Rattle.std.proofs.lemmas.Simd.{Each1-weaker, Each1-zip2, Each2-splat, below_from_Fits, length-zip2, zip2_splat}
use Rattle.std.proofs.lemmas.Simd.{swz_l, SwzOk, SwzOk-from_Each1, length-swz_l, get_or-swz_l}
use lib.Lanes.{zip2, Each1}
use Rattle.seal.specs.Registers.{looked_up}
use Rattle.seal.proofs.ByteFacts.{equal_below}

-- the lanes of a register of bytes
abbrev pub IsBlock : List ℕ → Type 0
IsBlock v = (length v ≡ 16) × Each1 (Fits w8) v

place : (a : ℕ) → a < 256 → T (leb 128 (bit_and a 143) || ltb (bit_and a 143) 16)
place a h =
    let yes : (leb 128 (bit_and a 143) || ltb (bit_and a 143) 16) ≡ true =
    agree_below_at (λ b. leb 128 (bit_and b 143) || ltb (bit_and b 143) 16) (λ b. true) 256 a refl h in
    subst T (sym yes) tt

pub places_ok : (v : List ℕ) → IsBlock v → SwzOk w8 16 16 0 (zip2 bit_and v (replicate 16 143))
places_ok v fits =
    let small = Each1-weaker (λ a. a < 256) (λ a. T (leb 128 (bit_and a 143) || ltb (bit_and a 143) 16)) place v
    (below_from_Fits w8 v fits.1) in
    SwzOk-from_Each1 w8 16 1 16 0 (zip2 bit_and v (replicate 16 143)) refl
    (omega (arith, length-zip2 bit_and v (replicate 16 143) fits.0))
    (Each1-zip2 bit_and (λ j. T (leb 128 j || ltb j 16)) v (replicate 16 143)
    (Each2-splat (λ a b. T (leb 128 (bit_and a b) || ltb (bit_and a b) 16)) v 16 143 small))

pub picks : (t v : List ℕ) → IsBlock v → swz_l w8 16 t 0 (zip2 bit_and v (replicate 16 143)) ≡ map (looked_up t) v
picks t v fits =
    let js : List ℕ = zip2 bit_and v (replicate 16 143) in
    let e : js ≡ map (λ a. bit_and a 143) v = zip2_splat bit_and v 16 143 fits.0 in
    let long : length js ≡ 16 = length-zip2 bit_and v (replicate 16 143) fits.0 ∙ fits.0 in
    ext_get_or 0 _ _ (length-swz_l w8 16 t 0 js ∙ long ∙ sym (length-map v (looked_up t) ∙ fits.0)) (λ i h.
    let lt : i < 16 = omega (arith, length-swz_l w8 16 t 0 js) in
    let is : get_or js i 0 ≡ bit_and (get_or v i 0) 143 =
    ap (λ (l : List ℕ). get_or l i 0) e ∙ get_or-map (λ a. bit_and a 143) v i 0 0 (omega (arith, fits.0)) in
    let base : 16 * ((0 + i) / 16) + get_or js i 0 ≡ get_or js i 0 = omega arith in
    get_or-swz_l w8 16 t 0 js i (omega arith)
    ∙ ap (λ (k : ℕ). cond (leb 128 (get_or js i 0)) 0 (get_or t k 0)) base
    ∙ ap (λ (k : ℕ). cond (leb 128 k) 0 (get_or t k 0)) is
    ∙ sym (get_or-map (looked_up t) v i 0 0 (omega (arith, fits.0))))

-- a look-up at a place below 16
pub looked_up-below : (t : List ℕ) (k : ℕ) → k < 16 → looked_up t k ≡ get_or t k 0
looked_up-below t k h =
    let low : leb 128 (bit_and k 143) ≡ false =
    agree_below_at (λ b. leb 128 (bit_and b 143)) (λ b. false) 16 k refl h in
    ap (λ q. cond q 0 (get_or t (bit_and k 143) 0)) low
    ∙ ap (λ (q : ℕ). get_or t q 0) (equal_below (λ b. bit_and b 143) (λ b. b) 16 k refl h)

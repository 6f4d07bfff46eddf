use Rattle.std.proofs.Common.{◌≡◌, ◌<◌, ℕ, List, [], ◌∷◌, map, get_or, bit_xor, ap, sym, ◌∙◌, arith}
use lib.Lanes.{zip2}
use Rattle.seal.specs.Aes.{mix_columns}
use Rattle.seal.specs.Field.{byte_product}
use Rattle.seal.specs.Registers.{looked_up}
use Rattle.seal.specs.declared.register_aes.TheConstants.{NEXT_ROW, OVER_NEXT}
use Rattle.seal.proofs.ByteLists.{listing, listing_is}
use Rattle.seal.proofs.LaneLemmas.{lane_fits}
use Rattle.seal.proofs.RegisterAesLemmas.{mixed_lane}
use Rattle.seal.proofs.register_aes.mix_columns.Goals as goal

-- a register and its rows as they are moved, lane by lane
abbrev summed : List ℕ → List ℕ
summed s = zip2 bit_xor (listing 0 16 s) (map (looked_up s) NEXT_ROW)

abbrev mixed : List ℕ → List ℕ
mixed s = zip2 bit_xor (zip2 bit_xor (map (byte_product 2) (summed s)) (map (looked_up s) NEXT_ROW))
    (map (looked_up (summed s)) OVER_NEXT)

mixed_is : (s : List ℕ) → ((k : ℕ) → get_or s k 0 < 256) → mixed s ≡ mix_columns s
mixed_is s fits =
    let m : (a b d e : ℕ) → bit_xor (bit_xor (byte_product 2 (bit_xor (get_or s a 0) (get_or s b 0))) (get_or s b 0))
    (bit_xor (get_or s d 0) (get_or s e 0))
    ≡ bit_xor (bit_xor (byte_product 2 (get_or s a 0)) (byte_product 3 (get_or s b 0)))
    (bit_xor (get_or s d 0) (get_or s e 0)) =
    λ a b d e. mixed_lane (get_or s a 0) (get_or s b 0) (bit_xor (get_or s d 0) (get_or s e 0)) (fits a) (fits b) in
    λ i. m 0 1 2 3 i ∷ m 1 2 3 0 i ∷ m 2 3 0 1 i ∷ m 3 0 1 2 i
    ∷ m 4 5 6 7 i ∷ m 5 6 7 4 i ∷ m 6 7 4 5 i ∷ m 7 4 5 6 i
    ∷ m 8 9 10 11 i ∷ m 9 10 11 8 i ∷ m 10 11 8 9 i ∷ m 11 8 9 10 i
    ∷ m 12 13 14 15 i ∷ m 13 14 15 12 i ∷ m 14 15 12 13 i ∷ m 15 12 13 14 i ∷ []

pub returns : goal.returns
returns c =
    let s : List ℕ = c.args.s in
    let whole : s ≡ listing 0 16 s = sym (listing_is 16 0 s (omega (arith, c.fits-s.0))) in
    let sum : zip2 bit_xor s c.shuffled-next.result ≡ summed s =
    λ i. zip2 bit_xor (whole i) (c.shuffled-next.ensures i) in
    let over : c.shuffled-over.result ≡ map (looked_up (summed s)) OVER_NEXT =
    c.shuffled-over.ensures ∙ ap (λ (l : List ℕ). map (looked_up l) OVER_NEXT) sum in
    let two : c.doubled.result ≡ map (byte_product 2) (summed s) = c.doubled.ensures ∙ ap (map (byte_product 2)) sum in
    (λ i. zip2 bit_xor (zip2 bit_xor (two i) (c.shuffled-next.ensures i)) (over i))
    ∙ mixed_is s (λ k. lane_fits s k c.fits-s.1)

-- What stays of a counter block when one is added.
use Rattle.std.proofs.Common.{◌≡◌, ℕ, ◌+◌, ◌*◌, ◌/◌, ◌%◌, ◌^◌, ◌<◌, List, [], ◌∷◌, ◌++◌, length, get_or}
use Rattle.std.proofs.Common.{take, arith, ap, sym, ◌∙◌}
use Rattle.std.proofs.lemmas.List.{take_more, take_all}
use Rattle.std.specs.Int.{w32, from_be_bytes, to_be_bytes}
use Rattle.seal.proofs.ByteLists.{listing, listing_is}

-- four bytes to which one was added, where the last of them isn't 0 then
stays : (v p q r s : ℕ) → p < 256 → q < 256 → r < 256 → s < 256
    → v ≡ (from_be_bytes w32 (p ∷ q ∷ r ∷ s ∷ []) + 1) % 2 ^ 32
    → 0 < v % 2 ^ 8 → v / 2 ^ 24 % 2 ^ 8 ∷ v / 2 ^ 16 % 2 ^ 8 ∷ v / 2 ^ 8 % 2 ^ 8 ∷ [] ≡ p ∷ q ∷ r ∷ []
stays v p q r s hp hq hr hs e last =
    let sum : ℕ = p * 2 ^ 24 + q * 2 ^ 16 + r * 2 ^ 8 + s + 1 in
    let is : v ≡ sum % 2 ^ 32 = omega arith in
    let next : s < 255 = omega arith in
    let all : v ≡ sum = omega arith in
    let e0 : v / 2 ^ 24 % 2 ^ 8 ≡ p = omega arith in
    let e1 : v / 2 ^ 16 % 2 ^ 8 ≡ q = omega arith in
    let e2 : v / 2 ^ 8 % 2 ^ 8 ≡ r = omega arith in
    λ i. e0 i ∷ e1 i ∷ e2 i ∷ []

-- .. so the 12 bytes of the block before them and the first three are those of the block
pub front_stays : (block t : List ℕ) (v : ℕ) → length block ≡ 16 → ((j : ℕ) → get_or block j 0 < 256)
    → v ≡ (from_be_bytes w32 (listing 12 4 block) + 1) % 2 ^ 32 → t ≡ to_be_bytes w32 v → 0 < get_or t 3 0
    → listing 0 12 block ++ get_or t 0 0 ∷ get_or t 1 0 ∷ get_or t 2 0 ∷ [] ≡ take 15 block
front_stays block t v long fits e is last =
    let past : 0 < v % 2 ^ 8 = omega (arith, ap (λ (l : List ℕ). get_or l 3 0) is) in
    ap (λ (l : List ℕ). listing 0 12 block ++ get_or l 0 0 ∷ get_or l 1 0 ∷ get_or l 2 0 ∷ []) is
    ∙ ap (λ (l : List ℕ). listing 0 12 block ++ l) (stays v _ _ _ _ (fits 12) (fits 13) (fits 14) (fits 15) e past)
    ∙ ap (take 15) (listing_is 16 0 block (omega arith))

-- a block is its first 15 bytes and the last
pub with_last : (block : List ℕ) → length block ≡ 16 → take 15 block ++ get_or block 15 0 ∷ [] ≡ block
with_last block long = sym (take_more block 15 0 (omega arith)) ∙ take_all 16 block (omega arith)

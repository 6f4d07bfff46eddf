use Rattle.std.proofs.Common.{◌≡◌, ℕ, List, ◌+◌, ◌-◌, ◌*◌, ◌++◌, map, length, length-take, length-drop, drop, bit_xor}
use Rattle.std.proofs.Common.{ap, sym}
use Rattle.std.proofs.Common.{◌∙◌, arith, refl}
use lib.Lanes.{zip2}
use Rattle.seal.specs.Aes.{key_step, word}
use Rattle.seal.specs.Registers.{looked_up}
use Rattle.seal.specs.declared.register_aes.TheConstants.{TWO_WORDS_ON}
use Rattle.seal.proofs.ByteLists.{listing, listing_is}
use Rattle.seal.proofs.ScheduleLemmas.{length-key_step}
use Rattle.seal.proofs.RegisterScheduleLemmas.{moved, by_sums, last_word}
use Rattle.seal.proofs.register_aes.next_words.Goals as goal

pub returns : goal.returns
returns c = λ key so_far.
    let w : List ℕ = c.args.w.now in
    let m : ℕ = c.args.m in
    let o : List ℕ = c.round_key-old.result in
    let t : List ℕ = key_step (4 * m + 8) (word w (4 * m + 7)) in
    let long : length o ≡ 16 =
    ap length c.round_key-old.ensures
    ∙ omega (arith, length-take (16 * m + 16 - 16 * m) (drop (16 * m) w), length-drop (16 * m) w) in
    let whole : o ≡ listing 0 16 o = sym (listing_is 16 0 o (omega arith)) in
    let one : zip2 bit_xor o c.shuffled.result ≡ moved o = λ i. zip2 bit_xor (whole i) (c.shuffled.ensures i) in
    let two : c.shuffled-2.result ≡ map (looked_up (moved o)) TWO_WORDS_ON =
    c.shuffled-2.ensures ∙ ap (λ (l : List ℕ). map (looked_up l) TWO_WORDS_ON) one in
    let step : c.key_step.result ≡ t ++ (t ++ (t ++ t)) =
    c.key_step.ensures t (ap (key_step (4 * m + 8)) (sym (last_word w c.round_key.result m c.round_key.ensures))) in
    by_sums key w o t _ m c.told-w c.requires so_far c.round_key-old.ensures refl
    (length-key_step (4 * m + 8) _ _ _ _)
    (λ i. zip2 bit_xor (zip2 bit_xor (one i) (two i)) (step i))

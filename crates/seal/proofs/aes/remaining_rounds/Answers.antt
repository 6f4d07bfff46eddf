use Rattle.std.proofs.Common.{◌≡◌, ℕ, List, arith, refl, ap, ◌∙◌}
use Rattle.seal.specs.Bytes.{xor_bytes}
use Rattle.seal.specs.Words.{state_bytes}
use Rattle.seal.specs.Aes.{sub_bytes, shift_rows, round_key, schedule, rounds, aes}
use Rattle.seal.proofs.aes.remaining_rounds.Goals as goal

pub loop-r-init : goal.loop-r-init
loop-r-init c block is = is

pub loop-r-preserved : goal.loop-r-preserved
loop-r-preserved c block is = c.round-next.ensures block (c.loop-r.invariant block is)

last_round : (key block : List ℕ)
    → xor_bytes (shift_rows (sub_bytes (rounds (schedule key 52) block 13))) (round_key (schedule key 52) 14)
    ≡ aes key block
unfolding aes
last_round key block = refl

pub returns : goal.returns
returns c key block is so_far =
    let w : List ℕ = c.args.w.now in
    let done : c.loop-r.r ≡ 13 = omega arith in
    let e : state_bytes c.loop-r.s ≡ rounds w block 13 = c.loop-r.invariant block so_far ∙ ap (rounds w block) done in
    c.last_round.ensures
    ∙ ap (λ (q : List ℕ). xor_bytes (shift_rows (sub_bytes q)) (round_key w 14)) e
    ∙ ap (λ (v : List ℕ). xor_bytes (shift_rows (sub_bytes (rounds v block 13))) (round_key v 14)) is
    ∙ last_round key block

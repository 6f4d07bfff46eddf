use Rattle.std.proofs.Common.{◌≡◌, List, ℕ, arith, ap, ◌∙◌}
use Rattle.seal.specs.Aes.{sub_bytes, shift_rows, mix_columns, rounds, round_key, aes, schedule}
use Rattle.seal.specs.Bytes.{xor_bytes}
use Rattle.seal.proofs.LaneLemmas.{zip_is}
use Rattle.seal.proofs.RegisterAesLemmas.{rounds-first, rounds-more}
use Rattle.seal.proofs.register_aes.encipher.Goals as goal

pub loop-r-init : goal.loop-r-init
loop-r-init c =
    zip_is c.args.block.now c.round_key.result ∙ ap (xor_bytes c.args.block.now) c.round_key.ensures
    ∙ rounds-first c.args.w.now c.args.block.now

pub loop-r-preserved : goal.loop-r-preserved
loop-r-preserved c =
    c.round-s.ensures
    ∙ (λ i. xor_bytes (mix_columns (shift_rows (sub_bytes (c.loop-r.invariant i)))) (c.round_key-in-loop-r.ensures i))
    ∙ rounds-more c.args.w.now c.args.block.now c.loop-r.r

whole : (key w b : List ℕ) → w ≡ schedule key 52
    → xor_bytes (shift_rows (sub_bytes (rounds w b 13))) (round_key w 14) ≡ aes key b
unfolding aes
whole key w b e = λ i. xor_bytes (shift_rows (sub_bytes (rounds (e i) b 13))) (round_key (e i) 14)

pub returns : goal.returns
returns c = λ key is.
    let w : List ℕ = c.args.w.now in
    let b : List ℕ = c.args.block.now in
    let done : c.loop-r.r ≡ 13 = omega arith in
    let state : c.loop-r.s ≡ rounds w b 13 = c.loop-r.invariant ∙ ap (rounds w b) done in
    let last : c.shift_rows.result ≡ shift_rows (sub_bytes (rounds w b 13)) =
    c.shift_rows.ensures ∙ ap shift_rows (c.sub_bytes.ensures ∙ ap sub_bytes state) in
    zip_is c.shift_rows.result c.round_key-2.result
    ∙ (λ i. xor_bytes (last i) (c.round_key-2.ensures i)) ∙ whole key w b is

use Rattle.std.proofs.Common.{◌≡◌, ℕ, List, ◌+◌, ◌-◌, ◌*◌, ◌++◌, ◌∷◌, [], length, take, drop, get_or, arith, sym, ◌∙◌}
use Rattle.std.proofs.Common.{ap}
use Rattle.std.proofs.Common.{length-append, length-take, length-drop}
use Rattle.std.proofs.lemmas.List.{take_all, take_more, take_more_set, length-set}
use Rattle.std.proofs.lemmas.Slice.{take-put_mid}
use Rattle.seal.specs.Aes.{schedule}
use Rattle.seal.proofs.register_aes.schedule.Goals as goal

pub loop-i-preserved : goal.loop-i-preserved
loop-i-preserved c =
    let i : ℕ = c.loop-i.i in
    let long : length c.loop-i.w ≡ 240 = c.loop-i.invariant.0 in (
      length-set _ _ _ ∙ long,
      take_more_set c.loop-i.w i (get_or c.args.key.now i 0) (omega arith)
          ∙ ap (λ (q : List ℕ). q ++ get_or c.args.key.now i 0 ∷ []) c.loop-i.invariant.1
          ∙ sym (take_more c.args.key.now i 0 (omega arith)),
    )

pub loop-m-init : goal.loop-m-init
unfolding schedule
loop-m-init c =
    let done : 32 ≡ c.loop-i.i = omega arith in (
      c.loop-i.invariant.0,
      ap (λ (k : ℕ). take k c.loop-i.w) done ∙ c.loop-i.invariant.1 ∙ take_all c.loop-i.i c.args.key.now (omega arith),
    )

pub loop-m-preserved : goal.loop-m-preserved
loop-m-preserved c =
    let m : ℕ = c.loop-m.m in
    let w : List ℕ = c.loop-m.w in
    let key : List ℕ = c.args.key.now in
    let at : ℕ = 16 * m + 32 in
    let next : List ℕ = c.copy_from_slice.new.self in
    let held : next ≡ c.next_words.result = c.copy_from_slice.ensures.after in
    let room : length next ≡ 16 =
    c.copy_from_slice.ensures.len
    ∙ omega (arith, c.loop-m.invariant.0, length-take (16 * m + 48 - at) (drop at w), length-drop at w) in
    let count : 16 * (m + 1) + 32 ≡ at + length next = omega arith in
    let words : 4 * m + 4 ≡ 4 * (m + 1) = omega arith in (
      length-append (take at w) (next ++ drop (16 * m + 48 - at) (drop at w))
          ∙ omega (
            arith,
            c.loop-m.invariant.0,
            length-append next (drop (16 * m + 48 - at) (drop at w)),
            length-take at w,
            length-drop (16 * m + 48 - at) (drop at w),
            length-drop at w,
          ),
      take-put_mid at (16 * m + 48 - at) w next (16 * (m + 1) + 32) count (omega (arith, c.loop-m.invariant.0))
          ∙ ap (λ (q : List ℕ). take at w ++ q) held ∙ c.next_words.ensures key c.loop-m.invariant.1
          ∙ ap (schedule key) words,
    )

pub returns : goal.returns
returns c =
    let done : 240 ≡ 16 * c.loop-m.m + 32 = omega arith in
    let turns : 4 * c.loop-m.m ≡ 52 = omega arith in
    let long : length c.loop-m.w ≡ 240 = c.loop-m.invariant.0 in
    sym (take_all 240 c.loop-m.w (omega arith)) ∙ ap (λ (k : ℕ). take k c.loop-m.w) done ∙ c.loop-m.invariant.1
    ∙ ap (schedule c.args.key.now) turns

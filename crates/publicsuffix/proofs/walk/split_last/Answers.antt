use Rattle.std.proofs.Common.{◌≡◌, ◌+◌, ◌-◌, ◌++◌, ◌∷◌, [], sym, subst, take, drop, All, false, arith}
use Rattle.std.proofs.lemmas.Bool.{eq-eqb, ne_eqb}
use Rattle.std.proofs.lemmas.List.{take_rest}
use Rattle.std.proofs.lemmas.List.Splits.{slice_split_none}
use Rattle.idna.specs.Labels.{is_full_stop, labels_of}
use Rattle.publicsuffix.proofs.SplitLemmas.{none_more, none_yet, split_at}
use Rattle.publicsuffix.proofs.walk.split_last.Goals as goal

pub loop-end-init : goal.loop-end-init
loop-end-init c = (omega arith, none_yet is_full_stop c.args.text.now _ (omega arith))

pub loop-end-preserved : goal.loop-end-preserved
loop-end-preserved c =
    let end = c.loop-end.end in
    let one_more : end ≡ end - 1 + 1 = omega arith in (
      omega arith,
      none_more is_full_stop c.args.text.now (end - 1) 0 (omega arith) (ne_eqb _ 46 c.if-text-end-eq46.false)
          (subst (λ n. All (λ b. is_full_stop b ≡ false) (drop n c.args.text.now)) one_more c.loop-end.invariant.1),
    )

pub returns-then-text-end-eq46 : goal.returns-then-text-end-eq46
returns-then-text-end-eq46 c =
    let end = c.loop-end.end in
    let text = c.args.text.now in
    let one_more : end ≡ end - 1 + 1 = omega arith in
    rw (take_rest text end)
    (subst (λ n. labels_of text ≡ labels_of (take (end - 1) text) ++ drop n text ∷ []) (sym one_more)
    (split_at is_full_stop text (end - 1) 0 (omega arith) (eq-eqb _ 46 c.if-text-end-eq46.true)
    (subst (λ n. All (λ b. is_full_stop b ≡ false) (drop n text)) one_more c.loop-end.invariant.1)))

pub returns : goal.returns
returns c =
    let none : c.loop-end.end ≡ 0 = omega arith in
    slice_split_none is_full_stop c.args.text.now (subst (λ n. All (λ b. is_full_stop b ≡ false)
    (drop n c.args.text.now)) none c.loop-end.invariant.1)

use Rattle.std.proofs.Common.{◌≡◌, ◌+◌, ◌<◌, ℕ, List, Option, String, Global, arith, sym, subst, ◌∙◌}
use Rattle.cookie.specs.Base64.{IsBase64}
use Rattle.cookie.specs.Trials.{GivesBelow, GivesValue, told}
use Rattle.cookie.proofs.TrialLemmas.{gives_opens, none_more, under_from_below}
use Rattle.cookie.proofs.secure.ring_sealing.opened_by_ring.Goals as goal
use Rattle.cookie.proofs.secure.ring_sealing.opened_by_ring.Goals.{then-verdicts-place+in_ok-opened}
use Rattle.cookie.proofs.secure.ring_sealing.opened_by_ring.Goals.{else-verdicts-place}

pub loop-place-preserved : goal.loop-place-preserved
loop-place-preserved c =
    let name : List ℕ = c.args.name.now in
    let text : List ℕ = c.args.text.now in
    let n : ℕ = c.loop-place.place in
    let decodes = rw c.in-Some.is at c.in_ok-bytes.ensures in
    let one : (b : List ℕ) → IsBase64 b text → c.deref.result.now ≡ b = λ b is.
    let e = (decodes b).1 is in
    let same : c.in-Some.bytes.items ≡ b = cc e in
    c.deref.ensures.value ∙ same in
    let below = λ (o : Option (String Global × ℕ)).
    GivesBelow (GivesValue name text) c.args.now c.args.ring.now (n + 1) (told o) in
    elim c.if-verdicts-place.branch [
      | then-verdicts-place+in_ok-opened w ↦
          subst below (sym w.opened-is) (w.in_ok-opened.ensures c.loop-place.invariant)
      | else-verdicts-place w ↦
          subst below (sym w.opened-is)
          (none_more (GivesValue name text) c.args.now c.args.ring.now n (told c.loop-place.opened)
          c.loop-place.invariant (λ k v at gives.
          let is_yes = (c.verdicts-verdicts.ensures.each n (omega arith)).1
          (k, at, gives_opens name text k v c.deref.result.now one gives) in
          let is_no = w.if-verdicts-place.false in
          cc (is_yes, is_no)))
    ]

pub returns : goal.returns
returns c =
    under_from_below (GivesValue c.args.name.now c.args.text.now) c.args.now c.args.ring.now c.loop-place.place
    (told c.loop-place.opened) c.loop-place.invariant (λ p k at.
    let within : p < 17 = c.verdicts-verdicts.ensures.few p k at in
    omega arith)

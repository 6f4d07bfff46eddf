use Rattle.std.proofs.Common.{◌≡◌, ◌||◌, ◌<◌, ◌∙◌, ap, arith, eqb, false, get_or, length, refl, sym, true, true≢false}
use Rattle.std.proofs.lemmas.Bool.{or_left, or_right}
use Rattle.std.proofs.lemmas.Grind.{common_steps}
use Rattle.std.proofs.lemmas.Str.{IsCharBoundary-after_ascii}
use Rattle.matching.specs.Paths.{slash}
use Rattle.place_index.specs.Index.{part_at}
use Rattle.place_index.proofs.CandidateLemmas.{same_nat}
use Rattle.place_index.proofs.StepLemmas.{beginning, fewer_asked, fewer_passed, spans_asked, spans_begun, spans_passed}
use Rattle.place_index.proofs.find.ask_paths.Goals as goal
use Rattle.place_index.proofs.find.ask_paths.Goals.{then-behind+in_ok-ask_path-2, then-behind-via-then-behind}
use Rattle.place_index.proofs.find.ask_paths.Goals.{then-behind-via-else-behind+then-slash, else-behind+else-slash}

pub loop-i-init : goal.loop-i-init
loop-i-init g c =
    let look = c.in_ok-ask_path.ensures.look in (
      spans_begun (part_at c.args.start c.args.domain.now) c.args.path.now c.args.found.now.items _
          c.in_ok-ask_path.ensures.spans,
      omega (arith, look),
      λ e. absurd (true≢false (sym e)),
    )

pub loop-i-preserved : goal.loop-i-preserved
loop-i-preserved g c =
    let path = c.args.path.now in
    let i = c.loop-i.i in
    let behind = c.loop-i.behind in
    let next = eqb (get_or c.as_bytes.result.now i 0) 47 in
    let l : i < length path = grind (arith, common_steps) in
    let is_next : next ≡ eqb (get_or path i 0) slash = ap (λ bs. eqb (get_or bs i 0) 47) c.as_bytes.ensures.value in
    let domain = part_at c.args.start c.args.domain.now in
    let low = c.loop-i.invariant.1 in
    elim c.if-behind.branch [
      | then-behind+in_ok-ask_path-2 w ↦
          let is : (behind || next) ≡ true = elim w.then-behind.branch [
            | then-behind-via-then-behind v ↦ or_left behind next v.if-behind.true
            | then-behind-via-else-behind+then-slash v ↦ let s = v.if-slash.true in
                or_right behind next (grind (arith, common_steps, s))
          ] in
          let fewer = fewer_asked path i behind next is_next l is in
          let more = w.in_ok-ask_path-2.ensures.look in
          let same = w.looks-is in (
            spans_asked path i behind next is_next l domain c.loop-i.found.items _ _ is _
                (w.range.ensures.value ∙ beginning path i i refl)
                (ap (λ f. f.items) w.found-is ∙ w.in_ok-ask_path-2.ensures.spans) c.loop-i.invariant.0,
            omega (arith, fewer, more, same, low),
            λ e. IsCharBoundary-after_ascii path i c.utf8.path l
                (let at = ap (λ bs. get_or bs i 0) (sym c.as_bytes.ensures.value) ∙ same_nat _ 47 e in
                omega (arith, at)),
          )
      | else-behind+else-slash w ↦
          let s = w.if-slash.false in
          let none : next ≡ false = grind (arith, common_steps, s) in
          let before = w.if-behind.false in
          let is : (behind || next) ≡ false = (λ j. before j || none j) in
          let fewer = fewer_passed path i behind next is_next l is in
          let same = w.looks-is in (
            spans_passed path i behind next is_next l domain c.loop-i.found.items _ _ is (ap (λ f. f.items) w.found-is)
                c.loop-i.invariant.0,
            omega (arith, fewer, same, low),
            λ e. absurd (true≢false (sym e ∙ none)),
          )
    ]

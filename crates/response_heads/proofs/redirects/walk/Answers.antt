use Rattle.std.proofs.Common.{◌≡◌, ◌-◌, ◌∙◌, ◌∷◌, [], Bool, Ok, ap, arith, length, map, subst, sym}
use Rattle.std.specs.Vec.Iter.{into_iter_items}
use Rattle.std.proofs.lemmas.List.{length-map}
use Rattle.response_heads.specs.Read.{head_text}
use Rattle.response_heads.specs.Visits.{VisitText, is_followed, is_tunnel, visit_text}
use Rattle.response_heads.proofs.VisitLemmas.{WalksOn, ends, goes_on, leaves_out, none_left}
use Rattle.response_heads.proofs.redirects.walk.Goals as goal

pub returns-in-Err : goal.returns-in-Err
returns-in-Err c =
    let url = c.args.url.now in
    let heads = map head_text c.args.heads.items in
    let visits = map visit_text c.loop-head.visits.items in
    let rest = into_iter_items c.next.new.self in
    let stop = c.args.stop in
    let flag = c.loop-head.is_behind_success in
    leaves_out url heads stop c.in-Err.by flag (head_text c.in-Some.head) (map head_text rest) visits
    (subst (λ here. WalksOn url heads stop here flag (map head_text (c.in-Some.head ∷ rest)) visits) c.in-Err.is
    (subst (λ items. WalksOn url heads stop c.loop-head.here flag (map head_text items) visits)
    c.in-Some.ensures.steps.0 c.loop-head.invariant.walks))

pub loop-head-preserved : goal.loop-head-preserved
loop-head-preserved c =
    let url = c.args.url.now in
    let heads = map head_text c.args.heads.items in
    let visits = c.loop-head.visits.items in
    let rest = into_iter_items c.next.new.self in
    let stop = c.args.stop in
    let flag = c.loop-head.is_behind_success in
    let here = c.in-Ok.url in
    let head = c.in-Some.head in
    let far : WalksOn url heads stop (Ok here) flag (map head_text (head ∷ rest)) (map visit_text visits) =
    subst (λ at. WalksOn url heads stop at flag (map head_text (head ∷ rest)) (map visit_text visits)) c.in-Ok.is
    (subst (λ items. WalksOn url heads stop c.loop-head.here flag (map head_text items) (map visit_text visits))
    c.in-Some.ensures.steps.0 c.loop-head.invariant.walks) in
    let one_less : c.loop-head.left - 1 ≡ length rest =
    omega (arith, c.loop-head.invariant.left, ap length c.in-Some.ensures.steps.0) in
    let left : c.loop-head.left - 1 ≡ length (map head_text rest) = one_less ∙ sym (length-map rest head_text) in
    let tunnel =
    c.is_tunnel-is_tunnel.ensures ∙ ap (is_tunnel here flag (head_text head))
    (c.is_followed.ensures ∙ ap (λ n. is_followed n stop) left) in
    let make : Bool → VisitText = λ b. record { url = here; head = head_text head; is_tunnel = b } in
    record {
      walks = subst (λ b. WalksOn url heads stop c.in_ok-here.here b (map head_text rest)
          (map visit_text c.push.new.self.items)) (sym c.is_success-is_behind_success.ensures)
          (goes_on url heads stop here flag (head_text head) (map head_text rest) c.in_ok-here.here visits
          (record {
            url = here;
            head = head;
            is_tunnel = c.is_tunnel-is_tunnel.result;
          }) c.push.new.self.items far c.in_ok-here.ensures
          (ap make tunnel)
          c.in_ok-push.ensures.items);
      left = one_less;
      counted =
          let short = ap length c.in-Some.ensures.steps.0 in
          let gone = c.in-Some.ensures.steps.1 in
          let was = c.loop-head.invariant.counted in
          omega arith;
    }

pub returns : goal.returns
returns c =
    let url = c.args.url.now in
    let heads = map head_text c.args.heads.items in
    let visits = map visit_text c.loop-head.visits.items in
    let flag = c.loop-head.is_behind_success in
    let none : into_iter_items c.loop-head.head-iterator ≡ [] =
    none_left _ (c.loop-head.invariant.counted ∙ c.in-None.ensures.steps.0) in
    ends url heads c.args.stop c.loop-head.here flag visits
    (subst (λ items. WalksOn url heads c.args.stop c.loop-head.here flag (map head_text items) visits) none
    c.loop-head.invariant.walks)

use Rattle.std.proofs.Common.{◌≡◌, ◌++◌, ◌∷◌, ◌∙◌, [], false, map, sym, ap}
use Rattle.std.proofs.lemmas.List.{map-append}
use Rattle.url.specs.Parts.{Parts}
use Rattle.response_heads.specs.Read.{head_text}
use Rattle.response_heads.specs.Visits.{VisitText, last_visits, visit_text}
use Rattle.response_heads.specs.declared.redirects.Visit.{Visit}
use Rattle.response_heads.proofs.VisitLemmas.{last_pushed, last_stopped}
use Rattle.response_heads.proofs.redirects.last.Goals as goal

pub returns-then-is_stopped : goal.returns-then-is_stopped
returns-then-is_stopped c =
    let heads = map head_text c.args.heads.items in
    ap (map visit_text) c.new-visits.ensures.items
    ∙ sym (ap (last_visits c.args.url.now heads) c.if-is_stopped.true ∙ last_stopped c.args.url.now heads)

pub returns : goal.returns
returns c =
    let url = c.args.url.now in
    let heads = map head_text c.args.heads.items in
    let front = map head_text c.pop.new.self.items in
    let head = head_text c.in-Some.head in
    let split : heads ≡ front ++ head ∷ [] =
    ap (map head_text) c.in-Some.ensures.items
    ∙ map-append head_text c.pop.new.self.items (c.in-Some.head ∷ []) in
    let last : last_visits url heads c.args.is_stopped ≡ (record { url = url; head = head; is_tunnel = false }) ∷ [] =
    ap (last_visits url heads) c.if-is_stopped.false
    ∙ (ap (λ all. last_visits url all false) split ∙ last_pushed url front head) in
    let visit : Visit = record { url = c.in_ok-url.url; head = c.in-Some.head; is_tunnel = false } in
    let pushed : map visit_text c.push.new.self.items
    ≡ (record { url = c.in_ok-url.url; head = head; is_tunnel = false }) ∷ [] =
    ap (map visit_text) (c.in_ok-push.ensures.items ∙ ap (λ vs. vs ++ visit ∷ []) c.new-visits.ensures.items) in
    let make : Parts → VisitText = λ at. record { url = at; head = head; is_tunnel = false } in
    pushed ∙ (ap (λ at. make at ∷ []) c.in_ok-url.ensures.cases ∙ sym last)

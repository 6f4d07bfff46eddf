use Rattle.std.proofs.Common.{◌≡◌, ◌∙◌, ap, length, sym, take}
use Rattle.std.proofs.lemmas.Iterator.Adapters.{YieldsList-from_vec}
use Rattle.std.proofs.lemmas.Iterator.Consumers.{YieldsList-so_far, YieldsList-turn}
use Rattle.std.proofs.lemmas.List.{map-id}
use Rattle.std.specs.List.{find}
use Rattle.cookie_jar.specs.Asking.{has_name}
use Rattle.cookie_jar.specs.Rows.{lent_rows}
use Rattle.cookie_jar.proofs.AskingLemmas.{found_at, none_more}
use Rattle.cookie_jar.proofs.asking.first_of_name.Goals as goal

pub loop-cookie-preserved : goal.loop-cookie-preserved
loop-cookie-preserved c =
    none_more (has_name c.args.name.now) c.loop-cookie.yielded c.in-Some.cookie c.loop-cookie.invariant
    (sym c.has_name.ensures ∙ c.if-has_name.false)

pub returns-then-has_name : goal.returns-then-has_name
returns-then-has_name c =
    let items = c.args.cookies.items in
    let xs = c.loop-cookie.yielded in
    let gives = c.into_iter-cookie-iterator.ensures.into_iter_gives in
    let all = YieldsList-from_vec {s = c.into_iter-cookie-iterator.result} items gives.0
    (gives.1 ∙ c.args.cookies.ok.0) in
    let at = c.loop-cookie.cookie-iterator in
    let turn = YieldsList-turn all xs at c.loop-cookie.yielded_by c.next.result c.next.new.self c.in-Some.cookie
    c.in-Some.is c.next.ensures.steps in
    let front : take (length xs) items ≡ xs = sym (YieldsList-so_far all xs at c.loop-cookie.yielded_by) ∙ map-id xs in
    sym (found_at (has_name c.args.name.now) items (length xs) c.in-Some.cookie turn.0 turn.1
    (ap (λ ys. find (has_name c.args.name.now) (lent_rows ys)) front ∙ c.loop-cookie.invariant)
    (sym c.has_name.ensures ∙ c.if-has_name.true))

use Rattle.std.proofs.Common.{◌≡◌, Some, refl, rules, subst, sym}
use Rattle.fonnalich_c.specs.Given.{IsListOf}
use Rattle.fonnalich_c.specs.Tasks.{Begins, Makes, State}
use Rattle.fonnalich_c.specs.declared.word.Word.TheVariants as word
use Rattle.fonnalich_c.proofs.task.answer.Goals as goal

pub returns-in_ok-first-in-Some-List-clause-ok : goal.returns-in_ok-first-in-Some-List-clause-ok
returns-in_ok-first-in-Some-List-clause-ok c =
    let first = c.in_ok-first-in-Some-List.first in
    let text : c.given.inside.text.now ≡ c.args.given.now.text = search rules in
    let begins = subst (λ t. Begins t first) text c.in_ok-first-in-Some-List.ensures.ok in
    let old : State =
    record { list = c.args.shelf.now; rules = c.args.browsing.now.rules; client = c.args.client.now } in
    let is_word : c.args.word ≡ Some word.List = search rules in
    subst (λ w. Makes w c.args.given.now old c.new.result.items (record old { client = Some first }))
    (sym is_word) (c.new.ensures.items, refl, refl, (first, refl, begins))

pub returns-in_ok-loaded-in-Some-Load-clause-ok : goal.returns-in_ok-loaded-in-Some-Load-clause-ok
returns-in_ok-loaded-in-Some-Load-clause-ok c =
    let client = c.in_ok-loaded-in-Some-Load.loaded in
    let old : State =
    record { list = c.args.shelf.now; rules = c.args.browsing.now.rules; client = c.args.client.now } in
    let is_word : c.args.word ≡ Some word.Load = search rules in
    subst (λ w. Makes w c.args.given.now old c.new-in-Some-Load.result.items (record old { client = Some client }))
    (sym is_word) (c.new-in-Some-Load.ensures.items, refl, refl, (client, refl, c.in_ok-loaded-in-Some-Load.ensures.ok))

pub returns-in_ok-list-in-Some-Keep-clause-ok : goal.returns-in_ok-list-in-Some-Keep-clause-ok
returns-in_ok-list-in-Some-Keep-clause-ok c =
    let list = c.in_ok-list-in-Some-Keep.list in
    let text : c.given.inside.text.now ≡ c.args.given.now.text = search rules in
    let is = subst (λ t. IsListOf t list) text c.in_ok-list-in-Some-Keep.ensures.ok in
    let old : State =
    record { list = c.args.shelf.now; rules = c.args.browsing.now.rules; client = c.args.client.now } in
    let is_word : c.args.word ≡ Some word.Keep = search rules in
    subst (λ w. Makes w c.args.given.now old c.new-in-Some-Keep.result.items (record old { list = Some list }))
    (sym is_word) (c.new-in-Some-Keep.ensures.items, refl, refl, (list, refl, is))

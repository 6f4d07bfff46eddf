use Rattle.std.proofs.Common.{◌≡◌, ◌∙◌, ◌++◌, ◌∷◌, [], ap, sym, subst, append_assoc, append-nil}
use Rattle.cookie_store.specs.Given.{lent_row}
use Rattle.cookie_store.specs.Grouped.{AreGrouped}
use Rattle.cookie_store.specs.Rows.{put}
use Rattle.cookie_store.proofs.GroupedLemmas.{put_last}
use Rattle.cookie_store.proofs.rows.Rows.clone.Goals as goal

pub loop-cookie-init : goal.loop-cookie-init
loop-cookie-init c =
    let items : c.into_iter-cookie-iterator.result ≡ c.args.self.now =
    c.into_iter-cookie-iterator.ensures.into_iter_gives ∙ c.iter-cookie-items.ensures.rows in
    λ i. c.new-rows.ensures i ++ items i

pub loop-cookie-preserved : goal.loop-cookie-preserved
loop-cookie-preserved c =
    let rows = c.loop-cookie.rows in
    let r = lent_row c.in-Some.cookie in
    let rest = c.next.new.self in
    let whole : rows ++ r ∷ rest ≡ c.args.self.now =
    ap (λ l. rows ++ l) (sym c.in-Some.ensures.steps) ∙ c.loop-cookie.invariant in
    ap (λ l. l ++ rest)
    (c.in_ok-put.ensures.ok ∙ ap (λ x. put x rows) c.in_ok-clone.ensures
    ∙ put_last rows rest r (subst AreGrouped (sym whole) c.iter-cookie-items.ensures.grouped))
    ∙ append_assoc rows (r ∷ []) rest ∙ whole

pub returns : goal.returns
returns c =
    sym (append-nil c.loop-cookie.rows) ∙ ap (λ l. c.loop-cookie.rows ++ l) (sym c.in-None.ensures.steps.0)
    ∙ c.loop-cookie.invariant

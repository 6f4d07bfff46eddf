use Rattle.std.proofs.Common.{◌∷◌, [], sym, subst}
use Rattle.std.proofs.lemmas.List.{map-append}
use Rattle.cookie_store.specs.Given.{lent_row}
use Rattle.cookie_jar.specs.Rows.{AreCopies, lent_rows}
use Rattle.cookie_jar.proofs.RowLemmas.{copies_more}
use Rattle.cookie_jar.proofs.rows.copies_of.Goals as goal

pub loop-cookie-preserved : goal.loop-cookie-preserved
loop-cookie-preserved c =
    let done = c.loop-cookie.yielded in
    let cookie = c.in-Some.cookie in
    subst (λ rs. AreCopies rs c.push.new.self.items) (sym (map-append lent_row done (cookie ∷ [])))
    (copies_more c.push.new.self.items c.loop-cookie.copies.items (lent_rows done)
    (lent_row cookie) c.in_ok-clone.field-0 c.loop-cookie.invariant c.in_ok-push.ensures.items
    c.in_ok-clone.ensures)

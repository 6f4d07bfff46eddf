use Rattle.std.proofs.Common.{◌≡◌, ◌++◌, ◌∷◌, ap, sym, ◌∙◌, append_assoc, string_bytes}
use Rattle.std.specs.Prelude.{map}
use Rattle.saved_text.specs.RonLayout.{row_layout, rows_layout}
use Rattle.saved_text.specs.Saved.{shown}
use Rattle.saved_text.proofs.ron_rows.push_rows.Goals as goal

pub loop-row-preserved : goal.loop-row-preserved
loop-row-preserved c =
    let e : c.loop-row.rest.now ≡ c.in-Some.row.now ∷ c.in-Some.tail.now = c.in-Some.ensures.cases.0 in
    ap (λ q. q ++ rows_layout (map shown c.in-Some.tail.now)) c.in_ok-push_row.ensures
    ∙ append_assoc (string_bytes c.loop-row.out) (row_layout (shown c.in-Some.row.now))
    (rows_layout (map shown c.in-Some.tail.now))
    ∙ ap (λ q. string_bytes c.loop-row.out ++ rows_layout (map shown q)) (sym e)
    ∙ c.loop-row.invariant

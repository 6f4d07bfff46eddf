use Rattle.std.proofs.Common.{◌≡◌, ◌++◌, ◌∷◌, [], ap, sym, refl, ◌∙◌, string_bytes}
use Rattle.std.specs.Prelude.{codes, map}
use Rattle.saved_text.specs.Json.{row_lines, more_lines}
use Rattle.saved_text.specs.Saved.{shown}
use Rattle.saved_text.proofs.PieceLemmas.{steps}
use Rattle.saved_text.proofs.json_rows.push_more_lines.Goals as goal

pub loop-row-preserved : goal.loop-row-preserved
loop-row-preserved c =
    let e : c.loop-row.rest.now ≡ c.in-Some.row.now ∷ c.in-Some.tail.now = c.in-Some.ensures.cases.0 in
    let more = more_lines (map shown c.in-Some.tail.now) in
    steps (string_bytes c.loop-row.out) (codes ",\n") (row_lines (shown c.in-Some.row.now) ∷ more ∷ [])
    (string_bytes c.push_row_lines.new.out ++ more) (
      string_bytes c.push_str.new.self,
      c.in_ok-push_str.ensures.bytes,
      (
        string_bytes c.push_row_lines.new.out,
        c.in_ok-push_row_lines.ensures,
        refl,
      ),
    )
    ∙ ap (λ q. string_bytes c.loop-row.out ++ more_lines (map shown q)) (sym e)
    ∙ c.loop-row.invariant

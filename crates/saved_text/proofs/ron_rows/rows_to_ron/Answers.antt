use Rattle.std.proofs.Common.{◌++◌, length, ap, sym, ◌∙◌}
use Rattle.std.specs.Prelude.{codes}
use Rattle.std.proofs.lemmas.Bool.{eqb-true}
use Rattle.saved_text.proofs.LayoutLemmas.{none_layout}
use Rattle.saved_text.proofs.ron_rows.rows_to_ron.Goals as goal

pub returns-then-is_empty : goal.returns-then-is_empty
returns-then-is_empty c = c.in_ok-push_str.ensures.bytes ∙ ap (λ q. q ++ codes "[]\n") c.new-out.ensures.bytes
    ∙ sym (none_layout c.args.rows.now (eqb-true (length c.args.rows.now) 0 (sym c.if-is_empty.ensures)))

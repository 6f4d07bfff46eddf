use Rattle.std.proofs.Common.{◌++◌, ap, ◌∙◌, string_bytes}
use Rattle.std.specs.Prelude.{codes}
use Rattle.saved_text.specs.RonLayout.{tagged_layout}
use Rattle.saved_text.proofs.ron_rows.push_expires.Goals as goal

pub returns-in_ok-push_tagged-in-AtUtc : goal.returns-in_ok-push_tagged-in-AtUtc
returns-in_ok-push_tagged-in-AtUtc c = rw c.in-AtUtc.is (c.in_ok-push_tagged-in-AtUtc.ensures
    ∙ ap (λ t. string_bytes c.args.out.now ++ tagged_layout (codes "AtUtc(") t) (c.as_str.ensures.value
    ∙ c.in_ok-date-in-AtUtc.ensures.ok))

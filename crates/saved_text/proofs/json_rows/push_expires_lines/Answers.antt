use Rattle.std.proofs.Common.{◌++◌, ap, ◌∙◌, string_bytes}
use Rattle.std.specs.Prelude.{codes}
use Rattle.saved_text.specs.Json.{tagged_text}
use Rattle.saved_text.proofs.json_rows.push_expires_lines.Goals as goal

pub returns-in_ok-push_tagged-in-AtUtc : goal.returns-in_ok-push_tagged-in-AtUtc
returns-in_ok-push_tagged-in-AtUtc c = rw c.in-AtUtc.is (c.in_ok-push_tagged-in-AtUtc.ensures
    ∙ ap (λ t. string_bytes c.args.out.now ++ tagged_text (codes "{\n      \"AtUtc\": ") t (codes "\n    }"))
    (c.as_str.ensures.value ∙ c.in_ok-date-in-AtUtc.ensures.ok))

use Rattle.std.proofs.Common.{◌++◌, ap, ◌∙◌, string_bytes}
use Rattle.std.specs.Prelude.{codes}
use Rattle.saved_text.specs.Json.{tagged_text}
use Rattle.saved_text.proofs.json_rows.push_domain_lines.Goals as goal

pub returns-in_ok-push_tagged-in-HostOnly : goal.returns-in_ok-push_tagged-in-HostOnly
returns-in_ok-push_tagged-in-HostOnly c = rw c.in-HostOnly.is (c.in_ok-push_tagged-in-HostOnly.ensures
    ∙ ap (λ t. string_bytes c.args.out.now ++ tagged_text (codes "{\n      \"HostOnly\": ") t (codes "\n    }"))
    c.as_str.ensures.value)

pub returns-in_ok-push_tagged-in-Suffix : goal.returns-in_ok-push_tagged-in-Suffix
returns-in_ok-push_tagged-in-Suffix c = rw c.in-Suffix.is (c.in_ok-push_tagged-in-Suffix.ensures
    ∙ ap (λ t. string_bytes c.args.out.now ++ tagged_text (codes "{\n      \"Suffix\": ") t (codes "\n    }"))
    c.as_str-in-Suffix.ensures.value)

use Rattle.std.proofs.Common.{◌∙◌, ap}
use Rattle.std.specs.List.{list_any}
use Rattle.response_heads.specs.Read.{field_text, says_content}
use Rattle.response_heads.proofs.ReadLemmas.{any_given}
use Rattle.response_heads.proofs.head.Head.announces_content.Goals as goal

pub returns : goal.returns
returns c =
    c.say_content.ensures ∙ (ap (list_any (λ field. says_content (field_text field))) c.deref.ensures.value
    ∙ any_given field_text says_content c.args.self.now.fields.items)

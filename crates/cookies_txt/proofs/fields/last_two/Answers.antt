use Rattle.cookies_txt.proofs.FieldLemmas.{third_part}
use Rattle.cookies_txt.proofs.fields.last_two.Goals as goal

pub returns-else-is_none : goal.returns-else-is_none
returns-else-is_none c =
    third_part c.args.text.now c.in-Some.name.now c.in-Some.value.now c.cut-in-Some.result c.in-Some.ensures
    c.cut-in-Some.ensures c.if-is_none.ensures

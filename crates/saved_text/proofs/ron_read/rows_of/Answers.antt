use Rattle.std.proofs.Common.{rules, subst}
use Rattle.saved_text.specs.Drafts.{IsTextRead, StopsText}
use Rattle.saved_text.proofs.TextLemmas.{text_fault, text_rows, text_unread, text_unread_fits}
use Rattle.saved_text.proofs.ron_read.rows_of.Goals as goal

pub overflow_sub-result : goal.overflow_sub-result
overflow_sub-result c = text_unread_fits c.args.text.now c.read_text.new.rows.items c.in-Ok-Some.rest
    (subst (IsTextRead c.args.text.now c.read_text.new.rows.items) c.in-Ok-Some.field-0-is c.in-Ok-Some.ensures)

pub returns-in-Ok-Some-clause-err : goal.returns-in-Ok-Some-clause-err
returns-in-Ok-Some-clause-err c = text_unread c.args.text.now c.read_text.new.rows.items c.in-Ok-Some.rest
    (subst (IsTextRead c.args.text.now c.read_text.new.rows.items) c.in-Ok-Some.field-0-is c.in-Ok-Some.ensures)

pub returns-in-Err-Here-clause-err : goal.returns-in-Err-Here-clause-err
returns-in-Err-Here-clause-err c = text_fault c.args.text.now c.in-Err-Here.rest.now
    (subst (StopsText c.args.text.now) c.in-Err-Here.field-0-is c.in-Err-Here.ensures) (search rules)

pub returns-in-Ok-None-clause-ok : goal.returns-in-Ok-None-clause-ok
returns-in-Ok-None-clause-ok c = text_rows c.args.text.now c.read_text.new.rows.items
    (subst (IsTextRead c.args.text.now c.read_text.new.rows.items) c.in-Ok-None.field-0-is c.in-Ok-None.ensures)

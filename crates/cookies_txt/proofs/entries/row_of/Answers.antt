use Rattle.std.proofs.Common.{◌∙◌, IfOk, ap, option_map, subst, sym}
use Rattle.std.specs.Result.{result_map_both}
use Rattle.cookie_store.specs.StoredCookie.{stored_of}
use Rattle.cookies_txt.specs.Entries.{AnswersGiven, with_idna}
use Rattle.cookies_txt.specs.Reading.{read_line}
use Rattle.cookies_txt.proofs.EntryLemmas.{given_fault, given_over, given_text}
use Rattle.cookies_txt.proofs.entries.row_of.Goals as goal

pub returns-in-Ok : goal.returns-in-Ok
returns-in-Ok c =
    subst (λ given. IfOk c.row_of_text.result (λ answer.
    AnswersGiven given (option_map (λ row. result_map_both stored_of (λ fault. fault) row) answer)))
    (ap (λ text. with_idna (read_line text)) c.in-Ok.ensures.cases.0
    ∙ sym (given_text c.args.line.now c.in-Ok.ensures.cases.1))
    c.row_of_text.ensures

pub returns-in-Err : goal.returns-in-Err
returns-in-Err c =
    given_over c.args.line.now c.in-Err.ensures.cases.0 (sym c.is_passed_over.ensures ∙ c.if-is_passed_over.true)

pub returns-in-Err-2 : goal.returns-in-Err-2
returns-in-Err-2 c =
    given_fault c.args.line.now c.in-Err.ensures.cases.0 (sym c.is_passed_over.ensures ∙ c.if-is_passed_over.false)

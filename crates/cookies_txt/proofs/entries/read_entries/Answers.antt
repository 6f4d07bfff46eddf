use Rattle.std.proofs.Common.{◌≡◌, ◌+◌, map, option_map, Some, None, sym, ap, subst, ◌∙◌, arith}
use Rattle.std.proofs.lemmas.List.{map-append}
use Rattle.std.specs.Result.{result_map_both}
use Rattle.cookie_store.specs.StoredCookie.{stored_of}
use Rattle.cookies_txt.specs.Entries.{AnswersLine, entry_text, without_mark}
use Rattle.cookies_txt.proofs.EntryLemmas.{EntersUpTo, up_to_end, up_to_more, up_to_none, up_to_over}
use Rattle.cookies_txt.proofs.entries.read_entries.Goals as goal

pub loop-line-init : goal.loop-line-init
loop-line-init c = record {
  gives = subst (λ text. EntersUpTo text c.without_mark-rest.result.now 0
      (map entry_text c.new-entries.result.items)) c.without_mark-rest.ensures
      (subst (EntersUpTo c.without_mark-rest.result.now c.without_mark-rest.result.now 0)
      (sym (ap (map entry_text) c.new-entries.ensures.items)) (up_to_none c.without_mark-rest.result.now));
  room = omega arith;
}

pub loop-line-preserved-in-Continue-branch-3 : goal.loop-line-preserved-in-Continue-branch-3
loop-line-preserved-in-Continue-branch-3 c =
    let text = without_mark c.args.text.now in
    let line = c.in-Some.line.now in
    let answered = map entry_text c.loop-line.entries.items in
    let answer = result_map_both stored_of (λ fault. fault) c.in-Some-2.row in
    let says : AnswersLine line (Some answer) =
    subst (λ r. AnswersLine line (option_map (λ row. result_map_both stored_of (λ fault. fault) row) r)) c.in-Some-2.is
    c.in_ok-row.ensures in
    record {
      gives = subst (EntersUpTo text c.in-Some.behind.now (c.loop-line.number + 1))
          (sym (ap (map entry_text) c.in_ok-push-in-Some-2.ensures.items
          ∙ map-append entry_text c.loop-line.entries.items _))
          (up_to_more text c.loop-line.rest.now line c.in-Some.behind.now c.loop-line.number answered answer
          c.loop-line.invariant.gives c.in-Some.ensures.0 says);
      room = omega (arith, c.in-Some.ensures.1, c.loop-line.invariant.room);
    }

pub loop-line-preserved : goal.loop-line-preserved
loop-line-preserved c =
    let text = without_mark c.args.text.now in
    let line = c.in-Some.line.now in
    let none : AnswersLine line None =
    subst (λ r. AnswersLine line (option_map (λ row. result_map_both stored_of (λ fault. fault) row) r)) c.in-None.is
    c.in_ok-row.ensures in
    record {
      gives = up_to_over text c.loop-line.rest.now line c.in-Some.behind.now c.loop-line.number
          (map entry_text c.loop-line.entries.items) c.loop-line.invariant.gives c.in-Some.ensures.0 none;
      room = omega (arith, c.in-Some.ensures.1, c.loop-line.invariant.room);
    }

pub returns : goal.returns
returns c =
    up_to_end (without_mark c.args.text.now) c.loop-line.rest.now c.loop-line.number
    (map entry_text c.loop-line.entries.items) c.loop-line.invariant.gives c.in_default.ensures

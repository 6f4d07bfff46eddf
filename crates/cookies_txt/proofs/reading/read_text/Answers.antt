use Rattle.std.proofs.Common.{◌≡◌, ◌+◌, ◌∷◌, ◌++◌, [], length, map, Ok, Some, sym, ap, subst, inr, refl, ◌∙◌}
use Rattle.std.proofs.lemmas.Iterator.Splits.{YieldsList-from_lines}
use Rattle.std.proofs.lemmas.Iterator.Consumers.{YieldsList-end, YieldsList-so_far, YieldsList-turn}
use Rattle.std.proofs.lemmas.List.{length-map, length_push, map_push, map-append}
use Rattle.std.specs.Str.Iter.{lines_rest}
use Rattle.cookie_store.specs.StoredCookie.{stored_of}
use Rattle.cookies_txt.specs.Reading.{IsFirstFault, read_line}
use Rattle.cookies_txt.specs.Steps.{said_of}
use Rattle.cookies_txt.proofs.ReadLemmas.{ReadsSoFar, reads_all, reads_row, stops_at}
use Rattle.cookies_txt.proofs.reading.read_text.Goals as goal

pub loop-line-preserved-in_ok-push-in-Ok-Some : goal.loop-line-preserved-in_ok-push-in-Ok-Some
loop-line-preserved-in_ok-push-in-Ok-Some c =
    let done = map (λ line. line.now) c.loop-line.yielded in
    let rows = map stored_of c.loop-line.cookies.items in
    let line = c.in-Some.line.now in
    let row = stored_of c.in_ok-to_cookie-in-Ok-Some.field-0 in
    let says : read_line line ≡ Ok (Some (said_of c.in-Ok-Some.line)) =
    rw c.in-Ok-Some.field-0-is at c.in-Ok-Some.ensures.said in
    let more : ReadsSoFar (done ++ line ∷ []) (rows ++ row ∷ []) =
    reads_row done rows line (said_of c.in-Ok-Some.line) row c.loop-line.invariant.reads says
    c.in_ok-to_cookie-in-Ok-Some.ensures in
    let new : map stored_of c.push.new.self.items ≡ rows ++ row ∷ [] =
    ap (map stored_of) c.in_ok-push-in-Ok-Some.ensures.items
    ∙ map-append stored_of c.loop-line.cookies.items (c.in_ok-to_cookie-in-Ok-Some.field-0 ∷ []) in
    record {
      counted = ap (λ n. n + 1) c.loop-line.invariant.counted ∙ sym (length_push c.loop-line.yielded c.in-Some.line);
      reads = subst (λ rs. ReadsSoFar (map (λ line. line.now) (c.loop-line.yielded ++ c.in-Some.line ∷ [])) rs)
          (sym new)
          (subst (λ ls. ReadsSoFar ls (rows ++ row ∷ []))
          (sym (map_push (λ line. line.now) c.loop-line.yielded c.in-Some.line)) more);
    }

pub returns-in-Err-clause-err : goal.returns-in-Err-clause-err
returns-in-Err-clause-err c =
    let text = c.args.text.now in
    let xs = c.loop-line.yielded in
    let done = map (λ line. line.now) xs in
    let rest = ap lines_rest c.into_iter-line-iterator.ensures.into_iter_gives ∙ c.lines-line-items.ensures.rest in
    let turn = YieldsList-turn (YieldsList-from_lines text rest) xs _ c.loop-line.yielded_by _ _ c.in-Some.line
    c.in-Some.is c.next.ensures.steps in
    let front = YieldsList-so_far (YieldsList-from_lines text rest) xs _ c.loop-line.yielded_by in
    let first : IsFirstFault text (length xs + 1) c.in-Err.fault =
    stops_at text done (map stored_of c.loop-line.cookies.items) (length xs) c.in-Some.line.now c.in-Err.fault
    c.loop-line.invariant.reads front (sym (length-map xs (λ line. line.now))) turn.0 turn.1 c.in-Err.ensures.said in
    inr (
      c.loop-line.number + 1,
      c.in-Err.fault,
      subst (λ n. IsFirstFault text (n + 1) c.in-Err.fault) (sym c.loop-line.invariant.counted) first,
      refl,
    )

pub returns-clause-ok : goal.returns-clause-ok
returns-clause-ok c =
    let text = c.args.text.now in
    let xs = c.loop-line.yielded in
    let rest = ap lines_rest c.into_iter-line-iterator.ensures.into_iter_gives ∙ c.lines-line-items.ensures.rest in
    let end = YieldsList-end (YieldsList-from_lines text rest) xs _ c.loop-line.yielded_by _ _ c.in-None.is
    c.next.ensures.steps in
    reads_all text (map (λ line. line.now) xs) (map stored_of c.loop-line.cookies.items) c.loop-line.invariant.reads
    end.0

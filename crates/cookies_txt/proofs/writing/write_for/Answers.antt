use Rattle.std.proofs.Common.{◌≡◌, ◌++◌, ◌+◌, ◌∷◌, [], length, map, string_bytes, take, sym, ap, subst, inr, refl, ◌∙◌}
use Rattle.std.proofs.lemmas.Iterator.Adapters.{YieldsList-from_vec}
use Rattle.std.proofs.lemmas.Iterator.Consumers.{YieldsList-end, YieldsList-so_far, YieldsList-turn}
use Rattle.std.proofs.lemmas.List.{length-map, length_push, map-append, map-id}
use Rattle.cookie_store.specs.StoredCookie.{stored_of}
use Rattle.cookies_txt.specs.Layout.{kept_for, line_text}
use Rattle.cookies_txt.specs.Reading.{SaysLines}
use Rattle.cookies_txt.specs.Writing.{AreHeld, IsFirstRefused, held, line_of_row, rows_in}
use Rattle.cookies_txt.proofs.RowLemmas.{rows_said_for}
use Rattle.cookies_txt.proofs.WriteLemmas.{WritesSoFar, held_more, refused_at, text_of, writes_row}
use Rattle.cookies_txt.proofs.writing.write_for.Goals as goal

pub loop-cookie-preserved : goal.loop-cookie-preserved
loop-cookie-preserved c =
    let xs = c.loop-cookie.yielded in
    let cookie = c.in-Some.cookie in
    let row = stored_of cookie.now in
    let more = map-append (λ cookie. stored_of cookie.now) xs (cookie ∷ []) in
    let fine = sym c.in-None-row_fault.is ∙ c.row_fault.ensures in
    record {
      writes = subst (λ rs. WritesSoFar c.args.reader rs (string_bytes c.push_line.new.text) c.loop-cookie.passed)
          (sym more)
          (writes_row c.args.reader (rows_in xs) row (string_bytes c.loop-cookie.text)
          (string_bytes c.push_line.new.text) c.loop-cookie.passed c.loop-cookie.invariant.writes fine
          (c.in_ok-push_line-in-None-row_fault.ensures
          ∙ ap (λ l. string_bytes c.loop-cookie.text ++ (line_text c.args.reader l ++ 10 ∷ [])) c.of.ensures));
      held = λ e. subst AreHeld (sym more) (held_more (rows_in xs) row (c.loop-cookie.invariant.held e) fine);
      counted = ap (λ n. n + 1) c.loop-cookie.invariant.counted ∙ sym (length_push xs cookie);
    }

pub returns-in-Some-2-clause-err : goal.returns-in-Some-2-clause-err
returns-in-Some-2-clause-err c =
    let items = c.args.cookies.items in
    let xs = c.loop-cookie.yielded in
    let n = length xs in
    let gives = c.into_iter-cookie-iterator.ensures.into_iter_gives in
    let all = YieldsList-from_vec {s = c.into_iter-cookie-iterator.result} items gives.0
    (gives.1 ∙ c.args.cookies.ok.0) in
    let at = c.loop-cookie.cookie-iterator in
    let turn = YieldsList-turn all xs at c.loop-cookie.yielded_by c.next.result c.next.new.self c.in-Some.cookie
    c.in-Some.is c.next.ensures.steps in
    let front : take n items ≡ xs = sym (YieldsList-so_far all xs at c.loop-cookie.yielded_by) ∙ map-id xs in
    let fine = c.loop-cookie.invariant.held c.if-passing_over.false in
    let first : IsFirstRefused (rows_in items) (n + 1) c.in-Some-row_fault.field-0 =
    refused_at items n c.in-Some.cookie c.in-Some-row_fault.field-0 turn.0 turn.1
    (ap (λ ys. length (rows_in ys)) front ∙ length-map xs (λ cookie. stored_of cookie.now))
    (subst (λ ys. AreHeld (rows_in ys)) (sym front) fine) (sym c.in-Some-row_fault.is ∙ c.row_fault.ensures) in
    inr (
      c.if-passing_over.false,
      c.loop-cookie.number + 1,
      c.in-Some-row_fault.field-0,
      subst (λ k. IsFirstRefused (rows_in items) (k + 1) c.in-Some-row_fault.field-0)
          (sym c.loop-cookie.invariant.counted) first,
      refl,
    )

pub returns-clause-reads : goal.returns-clause-reads
returns-clause-reads c =
    let items = c.args.cookies.items in
    let xs = c.loop-cookie.yielded in
    let gives = c.into_iter-cookie-iterator.ensures.into_iter_gives in
    let all = YieldsList-from_vec {s = c.into_iter-cookie-iterator.result} items gives.0
    (gives.1 ∙ c.args.cookies.ok.0) in
    let end = YieldsList-end all xs c.loop-cookie.cookie-iterator c.loop-cookie.yielded_by c.next.result
    c.next.new.self c.in-None.is c.next.ensures.steps in
    let text : string_bytes c.loop-cookie.text ≡ text_of c.args.reader (rows_in items) =
    c.loop-cookie.invariant.writes.text ∙ ap (λ ys. text_of c.args.reader (rows_in ys)) (sym (map-id xs) ∙ end.0) in
    subst (λ t. SaysLines t (map (λ row. kept_for c.args.reader (line_of_row row)) (held (rows_in items)))) (sym text)
    (rows_said_for c.args.reader (rows_in items))

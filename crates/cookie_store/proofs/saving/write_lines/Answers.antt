use Rattle.std.proofs.Common.{◌≡◌, ◌∙◌, ◌∷◌, ◌++◌, [], rules, of_calls, refl, option_map, subst}
use Rattle.std.specs.Io.KnownBytes.{Appends}
use Rattle.std.proofs.KnownBytes.{Keeps-refl}
use Rattle.std.proofs.lemmas.Result.{err_from_is_err_and}
use Rattle.devices.specs.Device.{AppendsFront}
use Rattle.jiff.specs.Words.{civil_nanos}
use Rattle.cookie_store.specs.Given.{lent_row}
use Rattle.cookie_store.specs.SavedLines.{WritesLine, printer}
use Rattle.cookie_store.specs.Steps.{wanted}
use Rattle.cookie_store.proofs.SaveLemmas.{saving, wanted_first, saves_first, stops_later, stops_refused, stops_failed}
use Rattle.cookie_store.proofs.saving.write_lines.Goals as goal

pub returns-in_err-text-clause-err : goal.returns-in_err-text-clause-err
returns-in_err-text-clause-err g c =
    let closures = printer g.C.StoreCookie.shows g.F.FnMut in
    let now = option_map civil_nanos c.args.now in
    let writer = c.loop-cookie.writer in
    let p = err_from_is_err_and c.from_residual.result c.from_residual.ensures.1 in
    rw (p.1, p.2) (c.loop-cookie.invariant.stops _ _ (stops_refused closures
    (saving c.loop-cookie.closure (g.W.Sink.written writer) (g.W.Failing.failures writer)) (lent_row c.in-Some.cookie)
    (wanted now c.next.new.self) (wanted now c.loop-cookie.cookie-iterator) _ _
    (wanted_first now (lent_row c.in-Some.cookie) c.next.new.self c.loop-cookie.cookie-iterator c.is_wanted.result
    c.in-Some.ensures.steps c.is_wanted.ensures c.if-is_wanted.true) (
      c.closure.new.self,
      (
        c.of_store.result.now,
        c.of_store.ensures,
        record { shown = c.of_store.result; shows = refl; called = c.in_err-text.ensures },
      ),
      Keeps-refl _,
      refl,
    )))

pub returns-in_err-write_line-clause-err : goal.returns-in_err-write_line-clause-err
returns-in_err-write_line-clause-err g c =
    let closures = printer g.C.StoreCookie.shows g.F.FnMut in
    let now = option_map civil_nanos c.args.now in
    let writer = c.loop-cookie.writer in
    let old = g.W.Sink.written writer in
    let new = g.W.Sink.written c.write_line.new.writer in
    let p = err_from_is_err_and c.from_residual-in_err-write_line.result
    c.from_residual-in_err-write_line.ensures.1 in
    rw (p.1, p.2) (c.loop-cookie.invariant.stops _ _ (stops_failed closures
    (saving c.loop-cookie.closure (g.W.Sink.written writer) (g.W.Failing.failures writer)) (lent_row c.in-Some.cookie)
    (wanted now c.next.new.self) (wanted now c.loop-cookie.cookie-iterator) _ _
    (wanted_first now (lent_row c.in-Some.cookie) c.next.new.self c.loop-cookie.cookie-iterator c.is_wanted.result
    c.in-Some.ensures.steps c.is_wanted.ensures c.if-is_wanted.true) (
      c.in_err-write_line.ensures.err.0,
      c.in_ok-text.text,
      c.closure.new.self,
      (
        c.of_store.result.now,
        c.of_store.ensures,
        record { shown = c.of_store.result; shows = refl; called = c.in_ok-text.ensures },
      ),
      subst (λ text. AppendsFront old new (text ++ 10 ∷ [])) c.as_str.ensures.value
          c.in_err-write_line.ensures.front,
      c.in_err-write_line.ensures.err.1,
    )))

pub loop-cookie-preserved-then-is_wanted : goal.loop-cookie-preserved-then-is_wanted
loop-cookie-preserved-then-is_wanted g c =
    let closures = printer g.C.StoreCookie.shows g.F.FnMut in
    let now = option_map civil_nanos c.args.now in
    let old = c.loop-cookie.writer in
    let new = c.write_line.new.writer in
    let row = lent_row c.in-Some.cookie in
    let start = saving c.loop-cookie.closure (g.W.Sink.written old) (g.W.Failing.failures old) in
    let mid = saving c.closure.new.self (g.W.Sink.written new) (g.W.Failing.failures new) in
    let rest = wanted now c.next.new.self in
    let all = wanted now c.loop-cookie.cookie-iterator in
    let first : all ≡ row ∷ rest =
    wanted_first now row c.next.new.self c.loop-cookie.cookie-iterator c.is_wanted.result
    c.in-Some.ensures.steps c.is_wanted.ensures c.if-is_wanted.true in
    let step : WritesLine closures start row mid = (
      c.in_ok-text.text,
      (
        c.of_store.result.now,
        c.of_store.ensures,
        record { shown = c.of_store.result; shows = refl; called = c.in_ok-text.ensures },
      ),
      subst (λ text. Appends (g.W.Sink.written old) (g.W.Sink.written new) (text ++ 10 ∷ []))
          c.as_str.ensures.value c.in_ok-write_line.ensures.bytes,
      c.in_ok-write_line.ensures.failures,
    ) in
    record {
      callable = search (rules, of_calls);
      saves = λ last later. c.loop-cookie.invariant.saves last (saves_first closures start mid last row rest all
          first step
          later);
      stops = λ error out later. c.loop-cookie.invariant.stops error out (stops_later closures start mid row rest all
          error
          out first step later);
      flushes = c.in_ok-write_line.ensures.flushes ∙ c.loop-cookie.invariant.flushes;
    }

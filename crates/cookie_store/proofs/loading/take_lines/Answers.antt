use Rattle.std.proofs.Common.{◌≡◌, ◌<◌, ◌++◌, ◌∷◌, [], ℕ, List, arith, length, refl, subst}
use Rattle.std.proofs.Common.{Some, option_map}
use Rattle.std.specs.Str.Lines.{lines}
use Rattle.std.proofs.lemmas.Result.{err_from_is_err_and}
use Rattle.std.proofs.lemmas.Bool.Decides.{nat_tests}
use Rattle.jiff.specs.Words.{civil_nanos}
use Rattle.cookie_store.specs.LoadedLines.{line_reader}
use Rattle.cookie_store.specs.Steps.{Fills}
use Rattle.cookie_store.proofs.LineLemmas.{ends_here, some_lines, stops_wanting, stops_here, stops_behind, takes_none}
use Rattle.cookie_store.proofs.LineLemmas.{none_unended, nothing_more, takes_behind, takes_unended}
use Rattle.cookie_store.proofs.loading.take_lines.Goals as goal

pub returns-in_err-after-clause-err : goal.returns-in_err-after-clause-err
returns-in_err-after-clause-err g c =
    let closures = line_reader g.C.StoreCookie.shows g.F.FnMut in
    let some : 0 < length c.loop-bytes.bytes.now = grind (arith, nat_tests) in
    let p = err_from_is_err_and c.from_residual.result c.from_residual.ensures.1 in
    rw (p.1, p.2) (λ rest. c.loop-bytes.invariant.stops _ rest (stops_wanting closures c.loop-bytes.closure
    (lines ((c.loop-bytes.begun.items ++ c.loop-bytes.bytes.now) ++ rest))
    (some_lines c.loop-bytes.begun.items c.loop-bytes.bytes.now rest some)))

pub returns-in-None-clause-ok : goal.returns-in-None-clause-ok
returns-in-None-clause-ok g c =
    c.loop-bytes.invariant.takes _ _ _ (takes_unended (line_reader g.C.StoreCookie.shows g.F.FnMut) c.args.with_expired
    (civil_nanos c.args.now) c.loop-bytes.closure c.loop-bytes.rows c.loop-bytes.begun.items c.loop-bytes.bytes.now
    c.fill.new.begun.items c.loop-bytes.invariant.unended
    (subst (λ o. Fills c.loop-bytes.begun.items c.loop-bytes.bytes.now c.fill.new.begun.items (option_map (λ b.
    b.now) o))
    c.in-None.is c.in_ok-after.ensures))

pub returns-in_err-take_line-clause-err : goal.returns-in_err-take_line-clause-err
returns-in_err-take_line-clause-err g c =
    let closures = line_reader g.C.StoreCookie.shows g.F.FnMut in
    let begun = c.loop-bytes.begun.items in
    let bytes = c.loop-bytes.bytes.now in
    let after = c.in-Some.after.now in
    let fills : Fills begun bytes c.fill.new.begun.items (Some after) =
    subst (λ o. Fills begun bytes c.fill.new.begun.items (option_map (λ b. b.now) o)) c.in-Some.is
    c.in_ok-after.ensures in
    let p = err_from_is_err_and c.from_residual-in_err-take_line.result c.from_residual-in_err-take_line.ensures.1 in
    rw (p.1, p.2) (λ rest. c.loop-bytes.invariant.stops _ rest (stops_here closures c.loop-bytes.closure
    c.without_return.result.now (lines (([] ++ after) ++ rest)) (lines ((begun ++ bytes) ++ rest)) _
    (ends_here begun bytes c.fill.new.begun.items c.deref.result.now c.without_return.result.now [] after
    c.loop-bytes.invariant.unended fills c.deref.ensures.value c.without_return.ensures refl rest)
    c.in_err-take_line.ensures.err))

pub loop-bytes-preserved : goal.loop-bytes-preserved
loop-bytes-preserved g c =
    let closures = line_reader g.C.StoreCookie.shows g.F.FnMut in
    let now = civil_nanos c.args.now in
    let begun = c.loop-bytes.begun.items in
    let bytes = c.loop-bytes.bytes.now in
    let after = c.in-Some.after.now in
    let line = c.without_return.result.now in
    let more = c.clear.new.self.items ++ after in
    let fills : Fills begun bytes c.fill.new.begun.items (Some after) =
    subst (λ o. Fills begun bytes c.fill.new.begun.items (option_map (λ b. b.now) o)) c.in-Some.is
    c.in_ok-after.ensures in
    let ends : (rest : List ℕ) → lines ((begun ++ bytes) ++ rest) ≡ line ∷ lines (more ++ rest) =
    ends_here begun bytes c.fill.new.begun.items c.deref.result.now line c.clear.new.self.items after
    c.loop-bytes.invariant.unended fills c.deref.ensures.value c.without_return.ensures c.clear.ensures.items in
    record {
      callable = c.in_ok-take_line.ensures.callable;
      unended = none_unended c.clear.new.self.items c.clear.ensures.items;
      takes = λ last end open_line whole. c.loop-bytes.invariant.takes last end open_line
          (takes_behind closures c.args.with_expired now c.loop-bytes.closure c.take_line.new.closure last
          c.loop-bytes.rows c.take_line.new.rows end line (begun ++ bytes) more open_line ends
          c.in_ok-take_line.ensures.ok whole);
      stops = λ error rest later. c.loop-bytes.invariant.stops error rest
          (stops_behind closures c.args.with_expired now c.loop-bytes.closure c.take_line.new.closure c.loop-bytes.rows
          c.take_line.new.rows line (lines (more ++ rest)) (lines ((begun ++ bytes) ++ rest)) error (ends rest)
          c.in_ok-take_line.ensures.ok later);
    }

pub returns-clause-ok : goal.returns-clause-ok
returns-clause-ok g c =
    let begun = c.loop-bytes.begun.items in
    let none : length c.loop-bytes.bytes.now ≡ 0 = grind (arith, nat_tests) in
    c.loop-bytes.invariant.takes _ _ _ (takes_none (line_reader g.C.StoreCookie.shows g.F.FnMut) c.args.with_expired
    (civil_nanos c.args.now) c.loop-bytes.closure c.loop-bytes.rows (begun ++ c.loop-bytes.bytes.now) begun
    (nothing_more begun c.loop-bytes.bytes.now none) c.loop-bytes.invariant.unended)

use Rattle.std.proofs.Common.{◌<◌, [], arith, length}
use Rattle.std.specs.Str.Lines.{lines}
use Rattle.std.proofs.lemmas.Bool.Decides.{nat_tests}
use Rattle.std.proofs.lemmas.Result.{err_from_is_err_and}
use Rattle.jiff.specs.Words.{civil_nanos}
use Rattle.cookie_store.specs.LoadedLines.{line_reader}
use Rattle.cookie_store.proofs.LineLemmas.{line_last, stops_here, takes_rest}
use Rattle.cookie_store.proofs.loading.take_last.Goals as goal

pub returns-clause-ok : goal.returns-clause-ok
returns-clause-ok g c =
    let begun = c.args.begun.now in
    let some : 0 < length begun = grind (arith, nat_tests) in
    takes_rest (line_reader g.C.StoreCookie.shows g.F.FnMut) c.args.with_expired (civil_nanos c.args.now)
    c.args.closure.now
    c.take_line.new.closure c.args.rows.now c.take_line.new.rows begun (line_last begun c.requires.unended some)
    c.in_ok-take_line.ensures.ok

pub returns-in_err-take_line-clause-err : goal.returns-in_err-take_line-clause-err
returns-in_err-take_line-clause-err g c =
    let begun = c.args.begun.now in
    let some : 0 < length begun = grind (arith, nat_tests) in
    let p = err_from_is_err_and c.from_residual.result c.from_residual.ensures.1 in
    rw (p.1, p.2) (stops_here (line_reader g.C.StoreCookie.shows g.F.FnMut) c.args.closure.now begun [] (lines begun) _
    (line_last begun c.requires.unended some) c.in_err-take_line.ensures.err)

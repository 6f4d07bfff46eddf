use Rattle.std.proofs.Common.{◌≡◌, [], refl, ◌∙◌, arith, take, inl, inr, ◌++◌, subst}
use Rattle.std.proofs.KnownBytes.{Consumes-nil, Consumes-kept, Consumes-trans}
use Rattle.std.proofs.lemmas.Bool.Decides.{nat_tests}
use Rattle.std.proofs.lemmas.Result.{err_from_is_err_and}
use Rattle.jiff.specs.Words.{civil_nanos}
use Rattle.cookie_store.specs.LoadedLines.{input, line_reader}
use Rattle.cookie_store.specs.Steps.{TakesRest}
use Rattle.cookie_store.proofs.ReadLemmas.{read_none, takes_start, takes_more, stops_more, stops_last, loads_all}
use Rattle.cookie_store.proofs.ReadLemmas.{rose_by_one, stops_reading}
use Rattle.cookie_store.proofs.loading.load_lines.Goals as goal

pub reads-init : goal.reads-init
reads-init g c = record {
  callable = c.requires;
  taken = (
    [],
    Consumes-nil (g.R.Source.left c.args.reader.now),
    takes_start (line_reader g.C.StoreCookie.shows g.F.FnMut) c.args.with_expired (civil_nanos c.args.now)
        c.args.closure c.new-rows.result c.new-begun.result.items c.new-rows.ensures c.new-begun.ensures.items,
  );
  failures = refl;
  made = omega arith;
  capped = λ h. absurd (omega (arith, h));
}

pub returns-in_err-take_last-in-Ok-eq0-clause-err : goal.returns-in_err-take_last-in-Ok-eq0-clause-err
returns-in_err-take_last-in-Ok-eq0-clause-err g c =
    let (text, read, taken) = c.reads.invariant.taken in
    let before = input (g.R.Source.left c.args.reader.now) (g.R.Failing.failures c.args.reader.now)
    (g.R.Source.reads c.args.reader.now) in
    let after = input (g.R.Source.left c.read.new.self) (g.R.Failing.failures c.read.new.self)
    (g.R.Source.reads c.read.new.self) in
    let none : c.in-Ok-eq0.field-0 ≡ 0 = grind (arith, nat_tests) in
    let p = err_from_is_err_and c.from_residual.result c.from_residual.ensures.1 in
    rw (p.1, p.2) (stops_last (line_reader g.C.StoreCookie.shows g.F.FnMut) c.args.with_expired (civil_nanos c.args.now)
    c.args.closure c.reads.closure [] c.reads.rows text c.reads.begun.items _ before after taken
    (read_none (g.R.Source.left c.args.reader.now) (g.R.Source.left c.reads.reader) (g.R.Source.left c.read.new.self)
    text
    c.read.new.buf c.in-Ok-eq0.field-0 none read c.in-Ok-eq0.ensures.bytes.0)
    (c.in-Ok-eq0.ensures.bytes.1 none (omega arith)) (c.in-Ok-eq0.ensures.failures ∙ c.reads.invariant.failures)
    c.deref.result.now c.deref.ensures.value c.in_err-take_last-in-Ok-eq0.ensures.err)

pub returns-in-Ok-eq0-clause-ok : goal.returns-in-Ok-eq0-clause-ok
returns-in-Ok-eq0-clause-ok g c =
    let (text, read, taken) = c.reads.invariant.taken in
    let closures = line_reader g.C.StoreCookie.shows g.F.FnMut in
    let before = input (g.R.Source.left c.args.reader.now) (g.R.Failing.failures c.args.reader.now)
    (g.R.Source.reads c.args.reader.now) in
    let after = input (g.R.Source.left c.read.new.self) (g.R.Failing.failures c.read.new.self)
    (g.R.Source.reads c.read.new.self) in
    let none : c.in-Ok-eq0.field-0 ≡ 0 = grind (arith, nat_tests) in
    loads_all closures c.args.with_expired (civil_nanos c.args.now) c.args.closure c.reads.closure
    c.take_last.new.closure
    c.reads.rows c.take_last.new.rows text c.reads.begun.items before after c.of_rows.result taken
    (read_none (g.R.Source.left c.args.reader.now) (g.R.Source.left c.reads.reader) (g.R.Source.left c.read.new.self)
    text
    c.read.new.buf c.in-Ok-eq0.field-0 none read c.in-Ok-eq0.ensures.bytes.0)
    (c.in-Ok-eq0.ensures.bytes.1 none (omega arith))
    (c.in-Ok-eq0.ensures.failures ∙ c.reads.invariant.failures)
    (subst (λ line. TakesRest closures c.args.with_expired (civil_nanos c.args.now) c.reads.closure c.reads.rows line
    c.take_last.new.closure c.take_last.new.rows) c.deref.ensures.value c.in_ok-take_last-in-Ok-eq0.ensures.ok)
    c.of_rows.ensures

pub returns-in_err-take_lines-in-Ok-clause-err : goal.returns-in_err-take_lines-in-Ok-clause-err
returns-in_err-take_lines-in-Ok-clause-err g c =
    let (text, read, taken) = c.reads.invariant.taken in
    let before = input (g.R.Source.left c.args.reader.now) (g.R.Failing.failures c.args.reader.now)
    (g.R.Source.reads c.args.reader.now) in
    let after = input (g.R.Source.left c.read.new.self) (g.R.Failing.failures c.read.new.self)
    (g.R.Source.reads c.read.new.self) in
    let p = err_from_is_err_and c.from_residual-in_err-take_lines-in-Ok.result
    c.from_residual-in_err-take_lines-in-Ok.ensures.1 in
    rw (p.1, p.2) (stops_more (line_reader g.C.StoreCookie.shows g.F.FnMut) c.args.with_expired (civil_nanos c.args.now)
    c.args.closure c.reads.closure [] c.reads.rows text c.reads.begun.items (take c.in-Ok.n c.read.new.buf) _ before
    after
    (g.R.Source.left c.reads.reader) taken read c.in-Ok.ensures.bytes.0
    (c.in-Ok.ensures.failures ∙ c.reads.invariant.failures) c.in_err-take_lines-in-Ok.ensures.err)

pub returns-in-Err-clause-err : goal.returns-in-Err-clause-err
returns-in-Err-clause-err g c =
    let (text, read, taken) = c.reads.invariant.taken in
    let before = input (g.R.Source.left c.args.reader.now) (g.R.Failing.failures c.args.reader.now)
    (g.R.Source.reads c.args.reader.now) in
    let after = input (g.R.Source.left c.read.new.self) (g.R.Failing.failures c.read.new.self)
    (g.R.Source.reads c.read.new.self) in
    inr (
      refl,
      stops_reading (line_reader g.C.StoreCookie.shows g.F.FnMut) c.args.with_expired (civil_nanos c.args.now)
          c.args.closure c.reads.closure c.reads.rows text c.reads.begun.items before after taken
          (Consumes-kept (g.R.Source.left c.args.reader.now) (g.R.Source.left c.reads.reader) (g.R.Source.left
          c.read.new.self)
          text read c.in-Err.ensures.bytes)
          (inl (rose_by_one _ _ _ c.reads.invariant.failures c.in-Err.ensures.failures)),
    )

pub reads-preserved : goal.reads-preserved
reads-preserved g c =
    let (text, read, taken) = c.reads.invariant.taken in
    let bytes = take c.in-Ok.n c.read.new.buf in
    record {
      callable = c.in_ok-take_lines-in-Ok.ensures.callable;
      taken = (
        text ++ bytes,
        Consumes-trans (g.R.Source.left c.args.reader.now) (g.R.Source.left c.reads.reader)
            (g.R.Source.left c.read.new.self) text bytes read c.in-Ok.ensures.bytes.0,
        takes_more (line_reader g.C.StoreCookie.shows g.F.FnMut) c.args.with_expired (civil_nanos c.args.now)
            c.args.closure c.reads.closure c.take_lines.new.closure [] c.reads.rows c.take_lines.new.rows text
            c.reads.begun.items bytes c.take_lines.new.begun.items taken c.in_ok-take_lines-in-Ok.ensures.ok,
      );
      failures = c.in-Ok.ensures.failures ∙ c.reads.invariant.failures;
      made = omega arith;
      capped = λ h. omega arith;
    }

pub returns-clause-err : goal.returns-clause-err
returns-clause-err g c =
    let (text, read, taken) = c.reads.invariant.taken in
    let before = input (g.R.Source.left c.args.reader.now) (g.R.Failing.failures c.args.reader.now)
    (g.R.Source.reads c.args.reader.now) in
    let after = input (g.R.Source.left c.reads.reader) (g.R.Failing.failures c.reads.reader)
    (g.R.Source.reads c.reads.reader) in
    inr (
      refl,
      stops_reading (line_reader g.C.StoreCookie.shows g.F.FnMut) c.args.with_expired (civil_nanos c.args.now)
          c.args.closure c.reads.closure c.reads.rows text c.reads.begun.items before after taken read (inr (omega
          arith)),
    )

use Rattle.std.proofs.Common.{◌≡◌, ◌-◌, false, length, ap, ◌∙◌, arith}
use Rattle.std.proofs.lemmas.List.{length-append, length-map}
use Rattle.jiff.specs.Words.{civil_nanos}
use Rattle.cookie_store.specs.Given.{lent_row}
use Rattle.cookie_store.specs.Placing.{loaded}
use Rattle.cookie_store.specs.Rows.{Store}
use Rattle.cookie_jar.proofs.jar.with_rows.Goals as goal

pub returns : goal.returns
returns c =
    let (taken, picked, is) = c.in_ok-rows.ensures in
    let own = c.args.store.now.rows in
    let count : c.len.result - c.len-own.result ≡ length taken = omega (
      arith,
      c.len.ensures,
      c.len-own.ensures,
      c.in_ok-rows.rows.ok.0,
      c.in_ok-rows_of.field-0.ok.0,
      ap length is,
      length-append own taken,
      ap length c.in_ok-rows_of.ensures,
      length-map c.in_ok-rows.rows.items lent_row,
      length-map c.in_ok-rows_of.field-0.items lent_row,
    ) in (
      taken,
      picked,
      count,
      ap (λ (s : Store). s.rows) c.in_ok-placed.ensures ∙ ap (loaded false (civil_nanos c.args.now)) is,
    )

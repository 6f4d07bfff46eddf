use Rattle.std.proofs.Common.{◌≡◌, ◌+◌, ◌-◌, ◌++◌, ◌∙◌, ap, arith, false, length, map, subst}
use Rattle.std.proofs.lemmas.List.{length-map}
use Rattle.jiff.specs.Words.{civil_nanos}
use Rattle.cookie_store.specs.Placing.{loaded}
use Rattle.cookie_store.specs.Rows.{Store}
use Rattle.cookie_store.specs.StoredCookie.{stored_of}
use Rattle.cookie_jar.specs.Entries.{entry_row}
use Rattle.cookie_jar.specs.Importing.{AreRefused, expired_of, rows_in}
use Rattle.cookie_jar.proofs.ImportLemmas.{entries_counted, loaded_fewer, taken_all}
use Rattle.cookie_jar.proofs.importing.import_entries.Goals as goal

pub overflow_sub-expired : goal.overflow_sub-expired
overflow_sub-expired c =
    let now = civil_nanos c.args.now in
    let refused = c.in_ok-refused.refused in
    let kept = c.in_ok-kept.kept in
    let told = subst (λ xs. AreRefused c.args.form now (map entry_row xs) (length refused.items)) c.deref.ensures.value
    c.in_ok-refused.ensures in
    omega (
      arith,
      entries_counted c.args.form now c.args.entries.items (length refused.items) kept.items told c.in_ok-kept.ensures,
      c.len-count.ensures,
      c.args.entries.ok.0,
      c.len.ensures,
      refused.ok.0,
    )

pub overflow_sub-expired-2 : goal.overflow_sub-expired-2
overflow_sub-expired-2 c =
    let now = civil_nanos c.args.now in
    let refused = c.in_ok-refused.refused in
    let kept = c.in_ok-kept.kept in
    let told = subst (λ xs. AreRefused c.args.form now (map entry_row xs) (length refused.items)) c.deref.ensures.value
    c.in_ok-refused.ensures in
    omega (
      arith,
      entries_counted c.args.form now c.args.entries.items (length refused.items) kept.items told c.in_ok-kept.ensures,
      c.len-count.ensures,
      c.args.entries.ok.0,
      c.len.ensures,
      refused.ok.0,
      c.len-2.ensures,
      kept.ok.0,
    )

pub overflow_sub-done : goal.overflow_sub-done
overflow_sub-done c =
    let now = civil_nanos c.args.now in
    let kept = c.in_ok-kept.kept in
    let entries = map entry_row c.args.entries.items in
    let (taken, picked, count, rows) = c.in_ok-rows.ensures in
    let whole = taken_all c.args.form now (rows_in entries) (map stored_of kept.items) c.in_ok-others.others.rows taken
    c.in_ok-kept.ensures (ap (λ (s : Store). s.rows) c.in_ok-others.ensures) picked in
    omega (
      arith,
      count,
      ap length whole,
      loaded_fewer now (map stored_of kept.items),
      length-map kept.items stored_of,
      c.len-of_keys.ensures,
      kept.ok.0,
    )

pub returns : goal.returns
returns c =
    let now = civil_nanos c.args.now in
    let refused = c.in_ok-refused.refused in
    let kept = c.in_ok-kept.kept in
    let entries = map entry_row c.args.entries.items in
    let own = c.args.store.now.rows in
    let told = subst (λ xs. AreRefused c.args.form now (map entry_row xs) (length refused.items)) c.deref.ensures.value
    c.in_ok-refused.ensures in
    let (taken, picked, count, rows) = c.in_ok-rows.ensures in
    let whole = taken_all c.args.form now (rows_in entries) (map stored_of kept.items) c.in_ok-others.others.rows taken
    c.in_ok-kept.ensures (ap (λ (s : Store). s.rows) c.in_ok-others.ensures) picked in
    let expired : c.len-count.result - c.len.result - c.len-2.result ≡ length (expired_of now (rows_in entries)) =
    omega (
      arith,
      entries_counted c.args.form now c.args.entries.items (length refused.items) kept.items told c.in_ok-kept.ensures,
      c.len-count.ensures,
      c.args.entries.ok.0,
      c.len.ensures,
      refused.ok.0,
      c.len-2.ensures,
      kept.ok.0,
    ) in
    let replaced : c.in_ok-rows.rows + (c.len-of_keys.result - c.in_ok-rows.rows) ≡ length (map stored_of kept.items) =
    omega (
      arith,
      count,
      ap length whole,
      loaded_fewer now (map stored_of kept.items),
      length-map kept.items stored_of,
      c.len-of_keys.ensures,
      kept.ok.0,
    ) in
    record {
      kept = map stored_of kept.items;
      are_kept = c.in_ok-kept.ensures;
      new_rows = rows ∙ ap (λ rs. loaded false now (own ++ rs)) whole;
      taken = count ∙ ap length whole;
      replaced = replaced;
      expired = expired;
      refused = told;
    }

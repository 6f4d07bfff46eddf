use Rattle.std.proofs.Common.{Some, ap, sym, ◌∙◌}
use Rattle.std.specs.Prelude.{option_map, string_bytes}
use Rattle.jiff.specs.Words.{civil_nanos}
use Rattle.cookie_store.specs.Rows.{live}
use Rattle.cookie_jar.specs.Rows.{lent_rows}
use Rattle.cookie_jar.proofs.AskingLemmas.{under_found}
use Rattle.cookie_jar.proofs.asking.rows_under.Goals as goal

pub returns-in-Some : goal.returns-in-Some
returns-in-Some c =
    under_found c.rows_matching.result (λ rows. lent_rows rows.items) c.args.domain.now c.as_str.result.now
    (live (civil_nanos c.args.now) c.args.store.now.rows)
    (ap Some c.as_str.ensures.value ∙ (ap (option_map string_bytes) (sym c.in-Some.is) ∙ c.in_ok-form.ensures))
    c.rows_matching.ensures

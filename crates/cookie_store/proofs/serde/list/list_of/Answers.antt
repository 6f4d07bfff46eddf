use Rattle.std.specs.Prelude.{option_map}
use Rattle.std.proofs.Common.{subst}
use Rattle.std.specs.List.{AllByRecursion}
use Rattle.jiff.specs.Words.{civil_nanos}
use Rattle.cookie_store.specs.SavedLaws.{IsOfBytes}
use Rattle.cookie_store.specs.Steps.{wanted}
use Rattle.cookie_store.proofs.ByteLemmas.{rows_bytes}
use Rattle.cookie_store.proofs.serde.list.list_of.Goals as goal

pub returns-clause-bytes : goal.returns-clause-bytes
returns-clause-bytes c =
    let at = option_map civil_nanos c.args.now in
    subst (λ rows. AllByRecursion IsOfBytes (wanted at rows)) c.iter_any.ensures.rows
    (rows_bytes (wanted at c.iter_any.result) c.in_ok-rows.rows.items c.in_ok-rows.ensures.ok)

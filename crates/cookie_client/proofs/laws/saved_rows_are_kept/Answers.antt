use Rattle.std.proofs.Common.{false}
use Rattle.cookie_store.specs.Placing.{is_saved, saved}
use Rattle.cookie_store.proofs.GroupedLemmas.{filter_grouped}
use Rattle.cookie_client.proofs.ClientRows.{kept_rows, saved_print}
use Rattle.cookie_client.proofs.laws.saved_rows_are_kept.Goals as goal

pub returns-clause-kept : goal.returns-clause-kept
returns-clause-kept c = λ rows saving loading text store own grouped bytes saves loads.
    kept_rows rows saving own loading store (filter_grouped (is_saved saving) rows grouped)
    (c.laws.ensures.ron (saved saving rows) text false loading store bytes saves loads)

pub returns-clause-read : goal.returns-clause-read
returns-clause-read c = λ rows saving text e own bytes utf8 saves refused.
    c.laws.ensures.ron_read (saved saving rows) text e bytes (saved_print saving rows own) utf8 saves refused

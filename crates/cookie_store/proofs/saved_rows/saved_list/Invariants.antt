use Rattle.std.proofs.Common.{map}
use Rattle.std.specs.Prelude.{option_map}
use Rattle.jiff.specs.Words.{civil_nanos}
use Rattle.saved_text.specs.Saved.{shown}
use Rattle.cookie_store.specs.Steps.{wanted}
use Rattle.cookie_store.proofs.SavedLemmas.{SavesSoFar}
use Rattle.cookie_store.proofs.saved_rows.saved_list.Given as goal

abbrev pub invariant-loop-cookie : goal.invariant-loop-cookie
invariant-loop-cookie l =
    let at = option_map civil_nanos l.now in
    SavesSoFar (wanted at l.fn.cookies) (map shown l.rows.items) (wanted at l.cookie-iterator)

use Rattle.std.proofs.Common.{◌≡◌, List, string_bytes}
use Rattle.std.specs.List.{AllByRecursion}
use Rattle.jiff.specs.Words.{civil_nanos}
use Rattle.saved_text.specs.JsonReading.{AreShown}
use Rattle.saved_text.specs.Row.{Shown}
use Rattle.saved_text.specs.Saved.{IsCookieText}
use Rattle.cookie_store.specs.Placing.{loaded}
use Rattle.cookie_store.specs.Rows.{Row}
use Rattle.cookie_store.proofs.SavedLemmas.{LoadsSoFar}
use Rattle.cookie_store.proofs.saved_rows.store_of_rows.Given as goal

abbrev pub invariant-loop-row : goal.invariant-loop-row
invariant-loop-row l = record {
  read : AllByRecursion (λ r. IsCookieText (string_bytes r.raw_cookie)) l.row-iterator.rest.items;
  loads : (all : List Shown) → AreShown all l.fn.rows.items
      → (done : List Row) × LoadsSoFar all done l.row-iterator.rest.items
      × (l.placed ≡ loaded l.with_expired (civil_nanos l.now) done);
}

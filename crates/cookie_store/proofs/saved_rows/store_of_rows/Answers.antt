use Rattle.std.proofs.Common.{List, ◌≡◌, ◌∷◌, ◌++◌, [], ap, sym, subst, ◌∙◌, string_bytes}
use Rattle.std.specs.List.{AllByRecursion}
use Rattle.std.proofs.lemmas.List.{nil_from_length}
use Rattle.jiff.specs.Words.{civil_nanos}
use Rattle.saved_text.specs.Saved.{IsCookieText}
use Rattle.cookie_store.specs.Rows.{Row}
use Rattle.cookie_store.specs.StoredCookie.{stored_of}
use Rattle.cookie_store.proofs.LoadLemmas.{kept, kept_append}
use Rattle.cookie_store.proofs.SavedLemmas.{LoadsSoFar, loads_more, loads_all}
use Rattle.cookie_store.proofs.saved_rows.store_of_rows.Goals as goal

pub loop-row-preserved : goal.loop-row-preserved
loop-row-preserved c =
    let rest = c.next.new.self.rest.items in
    let w = c.args.with_expired in
    let now = civil_nanos c.args.now in
    let row = stored_of c.in_ok-cookie.cookie in
    let e : c.loop-row.row-iterator.rest.items ≡ c.in-Some.row ∷ rest = c.in-Some.ensures.steps.0 in
    record {
      read = (subst (AllByRecursion (λ r. IsCookieText (string_bytes r.raw_cookie))) e c.loop-row.invariant.read).1;
      loads = λ all shown.
          let (done, far, placed) = c.loop-row.invariant.loads all shown in (
            done ++ row ∷ [],
            loads_more all done c.in-Some.row rest row (subst (LoadsSoFar all done) e far) c.in_ok-cookie.ensures,
            c.in_ok-put_loaded.ensures ∙ ap (kept w now (row ∷ [])) placed ∙ sym (kept_append w now done (row ∷ []) []),
          );
    }

pub returns : goal.returns
returns c = λ all shown.
    let rest = c.loop-row.row-iterator.rest in
    let (done, far, placed) = c.loop-row.invariant.loads all shown in
    let ended = nil_from_length rest.items (sym rest.ok.0 ∙ c.in-None.ensures.steps.0) in (
      done,
      loads_all all done (subst (LoadsSoFar all done) ended far),
      c.of_rows.ensures ∙ ap (λ (rows : List Row). record { rows = rows; suffixes = [] }) placed,
    )

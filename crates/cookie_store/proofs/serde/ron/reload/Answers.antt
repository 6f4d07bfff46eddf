use Rattle.std.proofs.Common.{inr, subst, string_bytes, false}
use Rattle.std.proofs.lemmas.Result.{IfOk-weaker, IfErr-weaker}
use Rattle.std.proofs.lemmas.Str.{IsUtf8-string_bytes}
use Rattle.jiff.specs.Words.{civil_nanos}
use Rattle.saved_text.specs.RonReading.{ShowsOnly}
use Rattle.cookie_store.specs.Placing.{is_saved, saved}
use Rattle.cookie_store.specs.SavedTexts.{Loads, IsRonRefusal}
use Rattle.cookie_store.proofs.GroupedLemmas.{filter_grouped}
use Rattle.cookie_store.proofs.serde.ron.reload.Goals as goal

pub returns-in_err-text-clause-grouped : goal.returns-in_err-text-clause-grouped
returns-in_err-text-clause-grouped c =
    filter_grouped (is_saved (civil_nanos c.args.now)) c.args.store.now.rows c.iter_any-rows.ensures.grouped

pub returns-clause-grouped : goal.returns-clause-grouped
returns-clause-grouped c =
    filter_grouped (is_saved (civil_nanos c.args.now)) c.args.store.now.rows c.iter_any-rows.ensures.grouped

pub returns-clause-ok : goal.returns-clause-ok
returns-clause-ok c =
    let now = civil_nanos c.args.now in
    let text = string_bytes c.in_ok-text.text in
    IfOk-weaker c.store_of.result _ _
    (λ store loads. c.laws.ensures.ron (saved now c.args.store.now.rows) text false now store
    c.in_ok-text.ensures.bytes c.in_ok-text.ensures.ok
    (subst (λ t. Loads ShowsOnly false now t store) c.as_bytes.ensures.value loads))
    c.store_of.ensures.ok

pub returns-clause-read : goal.returns-clause-read
returns-clause-read c =
    let now = civil_nanos c.args.now in
    let text = string_bytes c.in_ok-text.text in
    IfErr-weaker c.store_of.result _ _
    (λ e why prints. inr (c.laws.ensures.ron_read (saved now c.args.store.now.rows) text e
    c.in_ok-text.ensures.bytes prints (IsUtf8-string_bytes c.in_ok-text.text) c.in_ok-text.ensures.ok
    (subst (λ t. IsRonRefusal t e) c.as_bytes.ensures.value why)))
    c.store_of.ensures.err

use Rattle.std.proofs.Common.{◌∷◌, [], string_bytes, ◌++◌}
use Rattle.std.proofs.lemmas.Result.{err_from_is_err_and}
use Rattle.saved_text.specs.Grammar.Grammar.{sign, seq, space}
use Rattle.saved_text.specs.Ron.{path, string, comma, bool, ◌▹◌}
use Rattle.saved_text.specs.Words.{string_words}
use Rattle.saved_text.specs.RowWords.{bool_words}
use Rattle.saved_text.specs.Faults.{closing}
use Rattle.saved_text.proofs.RonLemmas.{StopsAs-first, StopsAs-behind}
use Rattle.saved_text.proofs.FieldLemmas.{
  path_flag,
  path_opens,
  path_named,
  path_parted,
  path_flagged,
  StopsAs-within,
  Takes-silent,
}
use Rattle.saved_text.proofs.ron_fields.read_path.Goals as goal

pub returns-in_err-rest : goal.returns-in_err-rest
returns-in_err-rest c =
    let p = err_from_is_err_and c.from_residual.result c.from_residual.ensures.1 in
    rw (p.1, p.2) (StopsAs-first (sign (40 ∷ [])) (seq space (seq (string ▹ comma ▹ bool) (seq space closing)))
    c.args.text.now _ c.in_err-rest.ensures)

pub returns-in_err-value : goal.returns-in_err-value
returns-in_err-value c =
    let a = path_opens c.args.text.now c.in_ok-rest.rest.now c.gap-rest.result.now c.in_ok-rest.ensures
    c.gap-rest.ensures in
    let p = err_from_is_err_and c.from_residual-in_err-value.result c.from_residual-in_err-value.ensures.1 in
    rw (p.1, p.2) (StopsAs-behind path (seq (string ▹ comma ▹ bool) (seq space closing)) c.args.text.now
    c.gap-rest.result.now [] _ a (StopsAs-first (string ▹ comma ▹ bool) (seq space closing) c.gap-rest.result.now
    _ (StopsAs-first string (seq space path_flag) c.gap-rest.result.now _ c.in_err-value.ensures)))

pub returns-in_err-rest-2 : goal.returns-in_err-rest-2
returns-in_err-rest-2 c =
    let a = path_opens c.args.text.now c.in_ok-rest.rest.now c.gap-rest.result.now c.in_ok-rest.ensures
    c.gap-rest.ensures in
    let b = path_named c.args.text.now c.gap-rest.result.now c.in_ok-value.rest.now c.gap-rest-2.result.now
    (string_words (string_bytes c.in_ok-value.value)) a c.in_ok-value.ensures c.gap-rest-2.ensures in
    let p = err_from_is_err_and c.from_residual-in_err-rest-2.result c.from_residual-in_err-rest-2.ensures.1 in
    rw (p.1, p.2) (StopsAs-behind path (seq path_flag (seq space closing)) c.args.text.now c.gap-rest-2.result.now
    (string_words (string_bytes c.in_ok-value.value)) _ b
    (StopsAs-first path_flag (seq space closing) c.gap-rest-2.result.now _
    (StopsAs-first comma (seq space bool) c.gap-rest-2.result.now _ c.in_err-rest-2.ensures)))

pub returns-in_err-flag : goal.returns-in_err-flag
returns-in_err-flag c =
    let a = path_opens c.args.text.now c.in_ok-rest.rest.now c.gap-rest.result.now c.in_ok-rest.ensures
    c.gap-rest.ensures in
    let b = path_named c.args.text.now c.gap-rest.result.now c.in_ok-value.rest.now c.gap-rest-2.result.now
    (string_words (string_bytes c.in_ok-value.value)) a c.in_ok-value.ensures c.gap-rest-2.ensures in
    let d = path_parted c.args.text.now c.gap-rest-2.result.now c.in_ok-rest-2.rest.now c.gap-rest-3.result.now
    (string_words (string_bytes c.in_ok-value.value)) b c.in_ok-rest-2.ensures c.gap-rest-3.ensures in
    let p = err_from_is_err_and c.from_residual-in_err-flag.result c.from_residual-in_err-flag.ensures.1 in
    rw (p.1, p.2) (StopsAs-within path bool (seq space closing) c.args.text.now c.gap-rest-3.result.now
    (string_words (string_bytes c.in_ok-value.value)) _ d c.in_err-flag.ensures)

pub returns-in_err-rest-3 : goal.returns-in_err-rest-3
returns-in_err-rest-3 c =
    let a = path_opens c.args.text.now c.in_ok-rest.rest.now c.gap-rest.result.now c.in_ok-rest.ensures
    c.gap-rest.ensures in
    let b = path_named c.args.text.now c.gap-rest.result.now c.in_ok-value.rest.now c.gap-rest-2.result.now
    (string_words (string_bytes c.in_ok-value.value)) a c.in_ok-value.ensures c.gap-rest-2.ensures in
    let d = path_parted c.args.text.now c.gap-rest-2.result.now c.in_ok-rest-2.rest.now c.gap-rest-3.result.now
    (string_words (string_bytes c.in_ok-value.value)) b c.in_ok-rest-2.ensures c.gap-rest-3.ensures in
    let e = path_flagged c.args.text.now c.gap-rest-3.result.now c.in_ok-flag.rest.now c.gap-rest-4.result.now
    (string_words (string_bytes c.in_ok-value.value)) (bool_words c.in_ok-flag.flag) d c.in_ok-flag.ensures
    c.gap-rest-4.ensures in
    let p = err_from_is_err_and c.from_residual-in_err-rest-3.result c.from_residual-in_err-rest-3.ensures.1 in
    rw (p.1, p.2) (StopsAs-behind path closing c.args.text.now c.gap-rest-4.result.now
    ((string_words (string_bytes c.in_ok-value.value)) ++ (bool_words c.in_ok-flag.flag)) _ e
    c.in_err-rest-3.ensures)

pub returns : goal.returns
returns c =
    let a = path_opens c.args.text.now c.in_ok-rest.rest.now c.gap-rest.result.now c.in_ok-rest.ensures
    c.gap-rest.ensures in
    let b = path_named c.args.text.now c.gap-rest.result.now c.in_ok-value.rest.now c.gap-rest-2.result.now
    (string_words (string_bytes c.in_ok-value.value)) a c.in_ok-value.ensures c.gap-rest-2.ensures in
    let d = path_parted c.args.text.now c.gap-rest-2.result.now c.in_ok-rest-2.rest.now c.gap-rest-3.result.now
    (string_words (string_bytes c.in_ok-value.value)) b c.in_ok-rest-2.ensures c.gap-rest-3.ensures in
    let e = path_flagged c.args.text.now c.gap-rest-3.result.now c.in_ok-flag.rest.now c.gap-rest-4.result.now
    (string_words (string_bytes c.in_ok-value.value)) (bool_words c.in_ok-flag.flag) d c.in_ok-flag.ensures
    c.gap-rest-4.ensures in
    Takes-silent path closing c.args.text.now c.gap-rest-4.result.now c.in_ok-rest-3.rest.now
    ((string_words (string_bytes c.in_ok-value.value)) ++ (bool_words c.in_ok-flag.flag)) e c.in_ok-rest-3.ensures

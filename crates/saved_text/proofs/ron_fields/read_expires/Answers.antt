use Rattle.std.proofs.Common.{Some, ◌∷◌, [], codes, string_bytes, sym, subst}
use Rattle.std.proofs.lemmas.Result.{err_from_is_err_and}
use Rattle.saved_text.specs.Ron.{expires, string}
use Rattle.saved_text.specs.Grammar.Word.{the_name}
use Rattle.saved_text.specs.Grammar.Grammar.{seq, space}
use Rattle.saved_text.specs.Faults.{closing}
use Rattle.saved_text.specs.Words.{string_words, tagged}
use Rattle.saved_text.proofs.RonLemmas.{StopsAs-behind}
use Rattle.saved_text.proofs.FieldLemmas.{
  expires_date,
  expires_session,
  date_opens,
  date_closes,
  StopsAs-within,
  StopsAs-picked_name,
  Takes-picked_name,
  Takes-silent,
  date_read,
  date_unread,
  session_has_death,
}
use Rattle.saved_text.proofs.ron_fields.read_expires.Goals as goal
use Rattle.saved_text.specs.JsonReading.{HasDeath}

pub returns-in_err-quote : goal.returns-in_err-quote
returns-in_err-quote c =
    let p = err_from_is_err_and c.from_residual.result c.from_residual.ensures.1 in
    rw (p.1, p.2) (StopsAs-behind expires (tagged (codes "AtUtc")) c.args.text.now c.args.text.now [] _
    (expires_date c.args.text.now c.if-begins.ensures) c.in_err-quote.ensures)

pub returns-in_err-date : goal.returns-in_err-date
returns-in_err-date c =
    let o = date_opens c.args.text.now c.in_ok-quote.quote.now c.if-begins.ensures c.in_ok-quote.ensures in
    let p = err_from_is_err_and c.from_residual-in_err-date.result c.from_residual-in_err-date.ensures.1 in
    rw (p.1, p.2) (StopsAs-within expires string (seq space closing) c.args.text.now c.in_ok-quote.quote.now
    (the_name (codes "AtUtc") ∷ []) _ o c.in_err-date.ensures)

pub returns-in_err-rest : goal.returns-in_err-rest
returns-in_err-rest c =
    let o = date_opens c.args.text.now c.in_ok-quote.quote.now c.if-begins.ensures c.in_ok-quote.ensures in
    let d = date_closes c.args.text.now c.in_ok-quote.quote.now c.in_ok-date.rest.now c.gap-rest.result.now
    (string_words (string_bytes c.in_ok-date.date)) o c.in_ok-date.ensures c.gap-rest.ensures in
    let p = err_from_is_err_and c.from_residual-in_err-rest.result c.from_residual-in_err-rest.ensures.1 in
    rw (p.1, p.2) (StopsAs-behind expires closing c.args.text.now c.gap-rest.result.now
    (the_name (codes "AtUtc") ∷ string_words (string_bytes c.in_ok-date.date)) _ d c.in_err-rest.ensures)

pub returns-then-is_date : goal.returns-then-is_date
returns-then-is_date c =
    let o = date_opens c.args.text.now c.in_ok-quote.quote.now c.if-begins.ensures c.in_ok-quote.ensures in
    let d = date_closes c.args.text.now c.in_ok-quote.quote.now c.in_ok-date.rest.now c.gap-rest.result.now
    (string_words (string_bytes c.in_ok-date.date)) o c.in_ok-date.ensures c.gap-rest.ensures in
    let taken = Takes-silent expires closing c.args.text.now c.gap-rest.result.now c.in_ok-rest.rest.now
    (the_name (codes "AtUtc") ∷ string_words (string_bytes c.in_ok-date.date)) d c.in_ok-rest.ensures in
    let death = subst (λ t. HasDeath (Some t)) c.as_str.ensures.value c.if-is_date.ensures in
    (taken, (date_read (string_bytes c.in_ok-date.date) death, death))

pub returns-then-begins : goal.returns-then-begins
returns-then-begins c =
    let o = date_opens c.args.text.now c.in_ok-quote.quote.now c.if-begins.ensures c.in_ok-quote.ensures in
    let d = date_closes c.args.text.now c.in_ok-quote.quote.now c.in_ok-date.rest.now c.gap-rest.result.now
    (string_words (string_bytes c.in_ok-date.date)) o c.in_ok-date.ensures c.gap-rest.ensures in
    let taken = Takes-silent expires closing c.args.text.now c.gap-rest.result.now c.in_ok-rest.rest.now
    (the_name (codes "AtUtc") ∷ string_words (string_bytes c.in_ok-date.date)) d c.in_ok-rest.ensures in (
      taken,
      date_unread c.args.text.now c.in_ok-quote.quote.now c.in_ok-date.rest.now (string_bytes c.in_ok-date.date)
          o c.in_ok-date.ensures (λ h. c.if-is_date.ensures
          (subst (λ t. HasDeath (Some t)) (sym c.as_str.ensures.value) h)),
    )

pub returns-in_err-rest-2 : goal.returns-in_err-rest-2
returns-in_err-rest-2 c =
    let p = err_from_is_err_and c.from_residual-in_err-rest-2.result c.from_residual-in_err-rest-2.ensures.1 in
    rw (p.1, p.2) (StopsAs-picked_name expires (codes "SessionEnd") c.args.text.now _
    (expires_session c.args.text.now c.if-begins.ensures) c.in_err-rest-2.ensures)

pub returns : goal.returns
returns c = (
  Takes-picked_name expires (codes "SessionEnd") c.args.text.now c.in_ok-rest-2.rest.now
      (expires_session c.args.text.now c.if-begins.ensures) c.in_ok-rest-2.ensures,
  (tt, session_has_death),
)

use Rattle.cookie_text.proofs.AttributeLemmas.{says_no_seconds, says_no_moment}
use Rattle.cookie_text.proofs.attribute.attribute_named.Goals as goal

pub returns-in_err-seconds_of-in-MaxAge : goal.returns-in_err-seconds_of-in-MaxAge
returns-in_err-seconds_of-in-MaxAge c =
    rw (c.from_residual-in_err-seconds_of-in-MaxAge.ensures, c.in-MaxAge.is, c.in_ok-value-in-MaxAge.was)
    (says_no_seconds c.in_ok-value-in-MaxAge.field-0.now c.in_err-seconds_of-in-MaxAge.ensures)

pub returns-in_err-moment_of-in-Expires : goal.returns-in_err-moment_of-in-Expires
returns-in_err-moment_of-in-Expires c =
    rw (c.from_residual-in_err-moment_of-in-Expires.ensures, c.in-Expires.is, c.in_ok-value-in-Expires.was)
    (says_no_moment c.in_ok-value-in-Expires.field-0.now c.in_err-moment_of-in-Expires.ensures)

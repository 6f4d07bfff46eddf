use Rattle.jiff.specs.Words.{civil_nanos}
use Rattle.cookie_run.proofs.ScriptLines.{header_read}
use Rattle.cookie_run.proofs.script.line.read_header.Goals as goal

pub returns : goal.returns
returns c = header_read c.args.fields.now _ _ c.in_ok-url.url
    (civil_nanos c.in_ok-at.at.date) c.in-len2.len_at_least c.in-len2.len_below c.in_ok-url.ensures.url
    c.in_ok-at.ensures.at

use Rattle.std.proofs.lemmas.Str.Ascii.{trim_ascii_start_is}
use Rattle.cookies_txt.specs.Reading.{unindented}
use Rattle.cookies_txt.proofs.fields.unindented_bytes.Goals as goal

pub returns : goal.returns
unfolding unindented
returns c = trim_ascii_start_is _ _ c.trim_ascii_start.ensures.value

use Rattle.std.proofs.Common.{◌∙◌, ap, sym}
use Rattle.std.specs.Prelude.{option_map}
use Rattle.jiff.specs.Words.{civil_nanos}
use Rattle.cookie_client.proofs.MomentDates.{moment_dated, nanos_of}
use Rattle.cookie_client.proofs.moment.moment_of.Goals as goal

pub returns : goal.returns
returns c = nanos_of c.timely.result ∙ ap (option_map civil_nanos) c.timely.ensures ∙ sym (moment_dated c.args.text.now)

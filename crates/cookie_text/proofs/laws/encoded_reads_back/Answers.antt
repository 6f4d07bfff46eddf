use Rattle.jiff.specs.Words.{signed_nanos}
use Rattle.cookie_text.proofs.ReadsBack.{reads_back, lasting_of}
use Rattle.cookie_text.proofs.laws.encoded_reads_back.Goals as goal

pub returns : goal.returns
returns c =
    let lasting = lasting_of signed_nanos (λ d. d.in_range) c.max_age.result c.args.cookie.now.cookie.max_age
    c.max_age.ensures in
    reads_back c.args.cookie.now.cookie c.requires lasting

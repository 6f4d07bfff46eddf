use Rattle.std.proofs.Common.{◌≡◌}
use Rattle.cookie.specs.Signing.{signing}
use Rattle.cookie_client.proofs.EndingReads.{read_of}
use Rattle.cookie_client.proofs.ending.read_signed.Goals as goal

pub returns-in-Some : goal.returns-in-Some
returns-in-Some c =
    read_of (λ key dated. c.args.text.now ≡ signing key dated) c.args.now c.args.ring.now c.in-Some.dated.now
    c.in-Some.place c.read_before.result c.in-Some.ensures c.read_before.ensures

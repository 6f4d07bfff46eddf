use Rattle.cookie.specs.Jar.{view}
use Rattle.cookie.specs.Reading.{IsSigned}
use Rattle.cookie.proofs.RingLemmas.{found_reads_under}
use Rattle.cookie.proofs.secure.signed_ring_jar.found.Goals as goal

pub returns-in_ok-clone-in-Some : goal.returns-in_ok-clone-in-Some
returns-in_ok-clone-in-Some c =
    found_reads_under IsSigned c.args.now c.args.ring.now c.verified.result c.in_ok-clone-in-Some.field-0
    c.in-Some.cookie.now (view c.args.jar.now c.args.name.now) c.in_ok-clone-in-Some.ensures c.in-Some.ensures.cookie
    c.verified.ensures

use Rattle.std.proofs.Common.{subst}
use Rattle.std.specs.Prelude.{string_bytes}
use Rattle.jiff.specs.Words.{civil_nanos}
use Rattle.cookie_store.specs.Rows.{Store}
use Rattle.cookie_jar.specs.Keeping.{AreKept}
use Rattle.cookie_jar.proofs.StartedLemmas.{started_line}
use Rattle.cookie_jar.proofs.jar.Jar.header.Goals as goal

pub returns : goal.returns
returns c =
    started_line c.header_line.result string_bytes c.args.rules.now c.self.inside.client c.args.self.now c.args.url.now
    c.args.initiator.now (civil_nanos c.args.now) (string_bytes c.in_ok-header.header) c.as_str.result.now
    c.self.view_is (subst (λ (s : Store). AreKept s.rows) c.self.view_is c.self.invariant) c.in_ok-header.ensures
    c.as_str.ensures.value c.header_line.ensures

use Rattle.std.proofs.Common.{◌↔◌, subst}
use Rattle.std.specs.Prelude.{IsTrue}
use Rattle.plain_url.specs.Plain.{IsOwnText}
use Rattle.plain_url.proofs.TestLemmas.{same_test}
use Rattle.plain_url.proofs.plain.is_plain_of.Goals as goal

pub returns-clause-test : goal.returns-clause-test
returns-clause-test c =
    same_test c.is_own.result c.args.text.now c.args.url.now
    (subst (λ text. IsTrue c.is_own.result ↔ IsOwnText text c.args.url.now) c.as_bytes.ensures.value c.is_own.ensures)

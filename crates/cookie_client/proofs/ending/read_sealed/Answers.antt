use Rattle.std.proofs.Common.{List, ℕ, Option, String, Global, IfOk, subst}
use Rattle.std.specs.Prelude.{string_bytes}
use Rattle.jiff.specs.Words.{civil_nanos}
use Rattle.cookie.specs.KeyRing.{GivesUnder}
use Rattle.cookie.specs.Trials.{GivesValue, told}
use Rattle.cookie_client.specs.Ending.{IsReadBefore, placed}
use Rattle.cookie_client.proofs.EndingReads.{read_of}
use Rattle.cookie_client.proofs.ending.read_sealed.Goals as goal

pub returns-in-Some : goal.returns-in-Some
returns-in-Some c =
    let Gives : List ℕ → List ℕ → Type 0 = GivesValue c.args.name.now c.args.text.now in
    read_of Gives c.args.now c.args.ring.now (string_bytes c.in-Some.dated) c.in-Some.place c.read_before.result
    (subst (λ (o : Option (String Global × ℕ)). GivesUnder Gives c.args.now c.args.ring.now (told o)) c.in-Some.is
    c.in_ok-dated.ensures)
    (subst (λ (t : List ℕ). IfOk c.read_before.result (λ read.
    IsReadBefore (civil_nanos c.args.now) t c.in-Some.place (placed read))) c.deref.ensures c.read_before.ensures)

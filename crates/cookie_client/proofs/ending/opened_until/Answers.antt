use Rattle.std.proofs.Common.{◌≡◌, ◌∷◌, List, ℕ, Some, None, lit<}
use Rattle.std.proofs.lemmas.Result.{IfOk-weaker}
use Rattle.std.proofs.lemmas.Str.Pattern.{strip_prefix_char}
use Rattle.cookie.specs.Trials.{GivesValue}
use Rattle.cookie_client.specs.Ending.{StandsFor, placed}
use Rattle.cookie_client.specs.declared.ending.EndingWay.TheVariants.{Sealed}
use Rattle.cookie_client.proofs.EndingReads.{read_under, read_unmarked, sealed_is}
use Rattle.cookie_client.proofs.ending.opened_until.Goals as goal

pub returns-in_default : goal.returns-in_default
returns-in_default c =
    read_unmarked Sealed c.args.now c.args.ring.now c.args.name.now c.args.text.now
    (strip_prefix_char 126 c.args.text.now None c.in_default.ensures.cases (lit< tt))

pub returns : goal.returns
returns c =
    let rest : List ℕ = c.in-Some.rest.now in
    let marked : c.args.text.now ≡ 126 ∷ rest =
    strip_prefix_char 126 c.args.text.now (Some c.in-Some.rest) c.in-Some.ensures.cases (lit< tt) in
    IfOk-weaker c.read_sealed.result _ _ (λ read r.
    read_under (StandsFor Sealed c.args.name.now c.args.text.now) (GivesValue c.args.name.now rest)
    c.args.name.now c.args.now c.args.ring.now _ (placed read) c.in_ok-ring.ensures
    (sealed_is c.args.name.now c.args.text.now rest marked) r) c.read_sealed.ensures

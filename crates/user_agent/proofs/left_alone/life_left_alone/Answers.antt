use Rattle.std.proofs.Common.{◌≡◌, ◌∙◌, ◌++◌, ap, codes}
use Rattle.jiff.specs.Words.{civil_nanos}
use Rattle.user_agent.proofs.LeftLemmas.{life_left}
use Rattle.user_agent.proofs.left_alone.life_left_alone.Goals as goal

pub returns-in-Ok : goal.returns-in-Ok
returns-in-Ok c =
    let is : c.as_str.result.now ≡ codes "a=;" ++ c.args.piece.now =
    c.as_str.ensures.value ∙ c.in_ok-push_str.ensures.bytes ∙ ap (λ t. t ++ c.args.piece.now) c.in_ok-text.ensures.ok in
    life_left (civil_nanos c.args.now) c.args.piece.now c.as_str.result.now c.requires is c.in-Ok.cookie
    c.in-Ok.ensures c.lives_briefly.result c.lives_briefly.ensures

use Rattle.std.proofs.Common.{◌∙◌, ◌++◌, ap}
use Rattle.user_agent.proofs.KnownLemmas.{strict_of}
use Rattle.user_agent.proofs.known_date.is_strict.Goals as goal

pub returns : goal.returns
returns c =
    let h = strict_of c.args.piece.now c.as_str.result.now c.requires
    (c.as_str.ensures.value ∙ c.in_ok-push_str.ensures.bytes ∙ ap (λ t. t ++ c.args.piece.now) c.in_ok-text.ensures.ok)
    c.parse.result c.parse.ensures in
    (λ yes. h.0 (c.has_end.ensures.0 yes), λ g. c.has_end.ensures.1 (h.1 g))

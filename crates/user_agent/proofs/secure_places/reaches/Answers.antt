use Rattle.std.proofs.Common.{subst, sym}
use Rattle.std.proofs.lemmas.Bool.{both_ways}
use Rattle.store_parts.specs.PathMatch.{PathMatches}
use Rattle.user_agent.specs.Refusals.{AreNested}
use Rattle.user_agent.proofs.secure_places.reaches.Goals as goal

pub returns-then-are_nested : goal.returns-then-are_nested
returns-then-are_nested c =
    let path = c.as_str-then-are_nested.ensures.value in (
      λ yes. (
        subst (AreNested c.args.domain.now) c.as_str.ensures.value (c.are_nested.ensures.0 c.if-are_nested.true),
        subst (λ t. PathMatches t c.args.path.now) path (c.path_matches.ensures.0 yes),
      ),
      λ both. c.path_matches.ensures.1 (subst (λ t. PathMatches t c.args.path.now) (sym path) both.1),
    )

pub returns-else-are_nested : goal.returns-else-are_nested
returns-else-are_nested c = (
  λ yes. absurd (both_ways _ c.if-are_nested.false yes),
  λ both. c.are_nested.ensures.1 (subst (AreNested c.args.domain.now) (sym c.as_str.ensures.value) both.0),
)

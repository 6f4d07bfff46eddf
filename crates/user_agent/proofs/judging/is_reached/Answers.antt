use Rattle.std.proofs.Common.{subst, sym}
use Rattle.std.proofs.lemmas.Bool.{both_ways}
use Rattle.store_parts.specs.PathMatch.{PathMatches}
use Rattle.user_agent.specs.Refusals.{AreNested}
use Rattle.user_agent.proofs.judging.is_reached.Goals as goal

pub returns-then-are_nested : goal.returns-then-are_nested
returns-then-are_nested c =
    let nested = subst (AreNested c.args.domain.now) c.row_domain.ensures (c.are_nested.ensures.0 c.if-are_nested.true)
    in (
      λ yes. (
        nested,
        subst (λ t. PathMatches t c.args.path.now) c.as_str.ensures (c.path_matches.ensures.0 yes),
      ),
      λ both. c.path_matches.ensures.1 (subst (λ t. PathMatches t c.args.path.now) (sym c.as_str.ensures) both.1),
    )

pub returns-else-are_nested : goal.returns-else-are_nested
returns-else-are_nested c = (
  λ yes. absurd (both_ways _ c.if-are_nested.false yes),
  λ both. c.are_nested.ensures.1 (subst (AreNested c.args.domain.now) (sym c.row_domain.ensures) both.0),
)

use Rattle.user_agent.proofs.judging.is_overlaid.Goals as goal

pub returns-then-is_secure_and_live : goal.returns-then-is_secure_and_live
returns-then-is_secure_and_live c = (
  λ yes.
      let held = c.is_secure_and_live.ensures.0 c.if-is_secure_and_live.true in
      let under = c.lies_under.ensures.0 yes in
      record {
        secure = held.0;
        live = held.1;
        named = under.0;
        nested = under.1.0;
        covered = under.1.1;
      },
  λ over. c.lies_under.ensures.1 (over.named, (over.nested, over.covered)),
)

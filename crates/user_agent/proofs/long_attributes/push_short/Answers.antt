use Rattle.std.proofs.Common.{◌∙◌, string_bytes, sym}
use Rattle.user_agent.proofs.LongLemmas.{short_left}
use Rattle.user_agent.proofs.long_attributes.push_short.Goals as goal

pub returns-else-is_short : goal.returns-else-is_short
returns-else-is_short c =
    short_left (string_bytes c.args.short.now) c.args.piece.now (sym c.is_short.ensures ∙ c.if-is_short.false)

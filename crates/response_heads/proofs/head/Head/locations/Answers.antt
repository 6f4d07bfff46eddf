use Rattle.std.proofs.Common.{◌∙◌, ap, sym, map}
use Rattle.response_heads.specs.Read.{head_text, location_text}
use Rattle.response_heads.proofs.ReadLemmas.{all_found, locations_are, locations_none}
use Rattle.response_heads.proofs.head.Head.locations.Goals as goal

pub returns-then-not-is_redirection : goal.returns-then-not-is_redirection
returns-then-not-is_redirection c =
    locations_none (head_text c.args.self.now) _ (sym c.is_redirection.ensures ∙ c.if-not-is_redirection.true)
    (ap (map location_text) c.new-found.ensures.items)

pub returns : goal.returns
returns c =
    locations_are (head_text c.args.self.now) _ (sym c.is_redirection.ensures ∙ c.if-not-is_redirection.false)
    (all_found _ _ c.loop-left.line c.loop-left.left.now c.in_default.len_below c.loop-left.invariant.found)

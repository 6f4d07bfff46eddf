use Rattle.cookie_text.specs.Record.{Seen}
use Rattle.cookie_text.specs.Setting.{MakesRemoval}
use Rattle.std.proofs.Common.{◌∙◌, ℕ, List, ap, subst}
use Rattle.cookie_client.specs.Ways.{refusal_of}
use Rattle.cookie_client.proofs.session.removal_refusal.Goals as goal

pub returns : goal.returns
returns c = (
  c.make_removal.new.self,
  subst (λ (s : Seen). MakesRemoval s c.args.now c.make_removal.new.self) c.named-removal.ensures
      c.make_removal.ensures,
  c.part_refusal.ensures
      ∙ ap (λ (n : List ℕ). refusal_of n c.make_removal.new.self.cookie.expires)
      (ap (λ (s : Seen). s.cookie.name) c.make_removal.ensures.2.2
      ∙ ap (λ (s : Seen). s.cookie.name) c.named-removal.ensures),
)

use Rattle.std.proofs.Common.{◌≡◌, ap, sym, ◌∙◌}
use Rattle.std.proofs.lemmas.Bool.Decides.{Decides-eqb}
use Rattle.std.proofs.lemmas.Slice.Eq.{slice_eq-Decides}
use Rattle.fonnalich_c.proofs.page.Page.is_of.Goals as goal

pub returns : goal.returns
returns c =
    let is : c.self.inside.text.items ≡ c.args.self.now.text = ap (λ page. page.text) c.self.view_is in
    let decides = slice_eq-Decides Decides-eqb _ _ _ c.eq.ensures in
    (λ yes. sym is ∙ sym c.deref.ensures.value ∙ decides.0 yes, λ same. decides.1 (c.deref.ensures.value ∙ is ∙ same))

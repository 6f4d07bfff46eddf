use Rattle.std.proofs.Common.{◌≡◌, ◌-◌, length, get_or, sym, subst, true, ◌∙◌}
use Rattle.std.specs.Int.{IsInRange}
use Rattle.cookie_text.proofs.TrimLemmas.{trim-graphic, graphic_in}
use Rattle.cookie_text.proofs.trim.has_graphic_ends.Goals as goal

pub returns-then-is_ascii_graphic : goal.returns-then-is_ascii_graphic
returns-then-is_ascii_graphic c graphic =
    let text = c.args.text.now in
    let same = c.as_bytes-bytes.ensures.value in
    let first : IsInRange 33 126 (get_or c.as_bytes-bytes.result.now 0 0) = graphic_in _
    (sym c.is_ascii_graphic.ensures.value ∙ c.if-is_ascii_graphic.true) in
    let last : IsInRange 33 126 (get_or c.as_bytes-bytes.result.now (length c.as_bytes-bytes.result.now - 1) 0) =
    graphic_in _ (sym c.is_ascii_graphic-then-is_ascii_graphic.ensures.value ∙ graphic) in
    trim-graphic text c.utf8.text (subst (λ t. IsInRange 33 126 (get_or t 0 0)) same first)
    (subst (λ t. IsInRange 33 126 (get_or t (length t - 1) 0)) same last)

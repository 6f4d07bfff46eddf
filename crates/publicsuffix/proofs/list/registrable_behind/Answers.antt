use Rattle.std.proofs.Common.{◌≡◌, ◌<◌, ◌-◌, ◌+◌, arith, drop, length, sym, subst, take}
use Rattle.std.proofs.lemmas.List.{take_rest}
use Rattle.idna.specs.Labels.{labels_of}
use Rattle.publicsuffix.specs.Registrable.{IsEndOf}
use Rattle.publicsuffix.proofs.RegistrableLemmas.{end_behind}
use Rattle.publicsuffix.proofs.list.registrable_behind.Goals as goal

pub returns : goal.returns
returns c =
    let text = c.args.text.now in
    let name = c.args.name.now.text.now in
    let count = c.args.count in
    let end = c.end-end.result.now in
    let shorter : count < length (labels_of name) =
    omega (arith, c.requires.within, c.if-count.false, c.count.ensures) in
    let found = end_behind text name end (count + 1) c.requires.name c.end-end.ensures in (
      shorter,
      subst (λ t. IsEndOf text (count + 1)
          (take (length text - (length t - length end)) (drop (length t - length end) text))) (sym c.text.ensures)
          (subst (IsEndOf text (count + 1)) (sym (take_rest text (length name - length end))) found),
    )

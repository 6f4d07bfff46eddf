use Rattle.std.proofs.Common.{subst}
use Rattle.publicsuffix.specs.Registrable.{HasSuffixOf}
use Rattle.publicsuffix.proofs.RegistrableLemmas.{gives_registrable}
use Rattle.publicsuffix.proofs.list.List.registrable.Goals as goal

pub returns : goal.returns
returns c =
    let name = c.in_ok-read.read.text.now in
    let count = c.suffix_labels.result in
    gives_registrable c.args.self.now c.args.name.now name count c.registrable_behind.result c.in_ok-read.ensures.0
    c.in_ok-read.ensures.1
    (subst (λ rules. HasSuffixOf rules name count) c.tree.ensures.rules c.suffix_labels.ensures.count)
    c.registrable_behind.ensures

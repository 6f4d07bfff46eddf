use Rattle.std.proofs.Common.{◌++◌, refl, subst, sym}
use Rattle.std.specs.Option.{option_map}
use Rattle.cookie_text.specs.Setting.{with_name}
use Rattle.cookie.specs.Prefix.{prefixed}
use Rattle.cookie.specs.Laws.{IsReadAs}
use Rattle.cookie.proofs.LawLemmas.{given}
use Rattle.cookie.proofs.laws.prefixed_reads_back.Goals as goal

pub returns : goal.returns
returns g c = λ jar s.
    let keeps = g.met.P.Prefix.keeps_pair (prefixed g.P.Prefix.text s) in
    subst (λ o. IsReadAs s (option_map (λ d. with_name d s.cookie.name) o))
    (sym (given jar (g.P.Prefix.conformed (prefixed g.P.Prefix.text s)) (g.P.Prefix.text ++ s.cookie.name) keeps.0))
    (refl, keeps.1)

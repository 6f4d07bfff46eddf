use Rattle.std.proofs.Common.{◌++◌, ◌∙◌, ap, subst, sym}
use Rattle.std.specs.List.{list_any}
use Rattle.place_index.specs.Candidates.{domains_of, paths_of}
use Rattle.place_index.specs.Found.{AllFit, is_in, spans}
use Rattle.place_index.proofs.FindLemmas.{few_looks, finds}
use Rattle.place_index.proofs.PlacesLemmas.{all_fit}
use Rattle.place_index.proofs.index.Index.find.Goals as goal

pub ask_domains-requires : goal.ask_domains-requires
ask_domains-requires g c = subst AllFit (sym c.self.view_is) (all_fit c.args.self.now c.requires)

pub returns-in_err-ask_domains-clause-looks : goal.returns-in_err-ask_domains-clause-looks
returns-in_err-ask_domains-clause-looks g c places agrees =
    few_looks places c.args.self.now c.self.inside.domains c.self.view_is agrees.parts c.args.host.now
    c.args.path.now c.args.looks.now c.ask_domains.new.looks c.in_err-ask_domains.ensures.looks

pub returns-clause-found : goal.returns-clause-found
returns-clause-found g c places agrees =
    finds c.args.host.now c.args.path.now places c.args.self.now c.put_in_order.new.parts.items agrees
    c.put_in_order.ensures.ascend
    (λ i. c.put_in_order.ensures.same i ∙ ap (list_any (is_in i))
    (c.in_ok-ask_domains.ensures.spans
    ∙ (λ j. c.new-found.ensures.items j
    ++ spans (c.self.view_is j) (domains_of c.args.host.now) (paths_of c.args.path.now))))

pub returns-clause-looks : goal.returns-clause-looks
returns-clause-looks g c places agrees =
    few_looks places c.args.self.now c.self.inside.domains c.self.view_is agrees.parts c.args.host.now
    c.args.path.now c.args.looks.now c.ask_domains.new.looks c.in_ok-ask_domains.ensures.looks

use Rattle.std.proofs.Common.{◌∙◌, ap, sym}
use Rattle.std.specs.Prelude.{Some, option_map, slice_get}
use Rattle.std.proofs.lemmas.Option.{slice_get_read}
use Rattle.place_index.proofs.SideLemmas.{side-values, side-within}
use Rattle.place_index.proofs.StartLemmas.{no_value, place_within, value_at-place}
use Rattle.place_index.proofs.text_list.TextList.get_full.Goals as goal

pub returns-in_err-place-clause-value : goal.returns-in_err-place-clause-value
returns-in_err-place-clause-value g c =
    ap (option_map (λ found. found.1.now)) c.from_residual.ensures
    ∙ sym (no_value c.args.text.now c.args.self.now (sym c.in_err-place.ensures))

pub index-requires : goal.index-requires
index-requires g c =
    side-within c.self.inside.longest c.self.inside.texts c.self.inside.values.items c.self.invariant c.args.self.now
    c.self.view_is c.self.inside.values.len c.in_ok-place.place c.self.inside.values.ok.0
    (place_within c.args.text.now c.args.self.now c.in_ok-place.place (sym c.in_ok-place.ensures))

pub returns-clause-value : goal.returns-clause-value
returns-clause-value g c =
    let place = c.in_ok-place.place in
    let at = sym c.in_ok-place.ensures in
    let len = c.self.inside.values.len in
    let all = c.self.inside.values.ok.0 in
    sym (slice_get_read c.self.inside.values.items len place c.index.result.now all
    (side-within c.self.inside.longest c.self.inside.texts c.self.inside.values.items c.self.invariant c.args.self.now
    c.self.view_is len place all (place_within c.args.text.now c.args.self.now place at))
    c.index.ensures)
    ∙ ap (λ vs. slice_get vs place) (side-values c.self.inside.longest c.self.inside.texts c.self.inside.values.items
    c.self.invariant c.args.self.now c.self.view_is)
    ∙ value_at-place c.args.text.now c.args.self.now place at

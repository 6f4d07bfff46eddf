use Rattle.std.proofs.Common.{◌∙◌, ap, arith, sym}
use Rattle.std.specs.Prelude.{Some, option_map}
use Rattle.place_index.specs.Entries.{value_at}
use Rattle.place_index.specs.Index.{part_at}
use Rattle.place_index.proofs.StartLemmas.{none_found, part_found, place_within}
use Rattle.place_index.proofs.index.Domains.get.Goals as goal

pub returns-in_err-place : goal.returns-in_err-place
returns-in_err-place c =
    ap (option_map (λ found. part_at found.0 found.1.now)) c.from_residual.ensures
    ∙ sym (none_found part_at c.args.text.now c.self.inside.starts c.self.inside.rows
    (sym c.in_err-place.ensures.value))
    ∙ ap (value_at c.args.text.now) c.self.view_is

pub get-requires : goal.get-requires
get-requires c =
    let within = place_within c.args.text.now c.self.inside.rows c.in_ok-place.place
    (sym c.in_ok-place.ensures.place) in
    let same = c.self.invariant.each in
    omega (arith, within, same)

pub returns : goal.returns
returns c =
    ap (λ start. Some (part_at start c.in_ok-place.rows.now)) c.get.ensures
    ∙ sym (part_found part_at c.args.text.now c.self.inside.starts c.self.inside.rows c.in_ok-place.place 0
    c.in_ok-place.rows.now c.self.invariant.each (sym c.in_ok-place.ensures.place) (sym c.in_ok-place.ensures.value))
    ∙ ap (value_at c.args.text.now) c.self.view_is

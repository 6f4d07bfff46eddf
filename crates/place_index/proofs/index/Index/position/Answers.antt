use Rattle.std.proofs.Common.{◌+◌, ◌∙◌, ap, arith, sym, subst}
use Rattle.place_index.specs.Entries.{value_at}
use Rattle.place_index.specs.Index.{StandsAt, part_at}
use Rattle.place_index.specs.PathParts.{path_at}
use Rattle.place_index.specs.Places.{Place}
use Rattle.place_index.proofs.PlacesLemmas.{looks_one, looks_three, looks_two, no_domain, no_name, no_path}
use Rattle.place_index.proofs.PlacesLemmas.{stands_low, stands_there}
use Rattle.place_index.proofs.index.Index.position.Goals as goal

pub returns-in_err-start-clause-at : goal.returns-in_err-start-clause-at
returns-in_err-start-clause-at g c places agrees =
    let row : Place = record { domain = c.args.domain.now; path = c.args.path.now; name = c.args.name.now } in
    subst (StandsAt row places) (sym c.from_residual.ensures)
    (no_domain row c.args.self.now
    (ap (value_at c.args.domain.now) (sym c.self.view_is) ∙ sym c.in_err-start.ensures.part) places agrees)

pub returns-in_err-inner-clause-at : goal.returns-in_err-inner-clause-at
returns-in_err-inner-clause-at g c places agrees =
    let row : Place = record { domain = c.args.domain.now; path = c.args.path.now; name = c.args.name.now } in
    subst (StandsAt row places) (sym c.from_residual-in_err-inner.ensures)
    (no_path row c.args.self.now (part_at c.in_ok-start.start c.in_ok-start.rows.now)
    (ap (value_at c.args.domain.now) (sym c.self.view_is) ∙ sym c.in_ok-start.ensures.part)
    (sym c.in_err-inner.ensures.part) places agrees)

pub returns-in_err-place-clause-at : goal.returns-in_err-place-clause-at
returns-in_err-place-clause-at g c places agrees =
    let row : Place = record { domain = c.args.domain.now; path = c.args.path.now; name = c.args.name.now } in
    subst (StandsAt row places) (sym c.from_residual-in_err-place.ensures)
    (no_name row c.args.self.now (part_at c.in_ok-start.start c.in_ok-start.rows.now)
    (ap (value_at c.args.domain.now) (sym c.self.view_is) ∙ sym c.in_ok-start.ensures.part)
    (path_at c.in_ok-inner.inner c.in_ok-inner.rows.now) (sym c.in_ok-inner.ensures.part)
    (sym c.in_err-place.ensures.place) places agrees)

pub overflow_add-result : goal.overflow_add-result
overflow_add-result g c =
    let row : Place = record { domain = c.args.domain.now; path = c.args.path.now; name = c.args.name.now } in
    let low = stands_low row c.args.self.now (part_at c.in_ok-start.start c.in_ok-start.rows.now)
    (ap (value_at c.args.domain.now) (sym c.self.view_is) ∙ sym c.in_ok-start.ensures.part)
    (path_at c.in_ok-inner.inner c.in_ok-inner.rows.now) (sym c.in_ok-inner.ensures.part) c.in_ok-place.place
    (sym c.in_ok-place.ensures.place)
    c.requires in
    omega (arith, low)

pub overflow_add-result-2 : goal.overflow_add-result-2
overflow_add-result-2 g c =
    let row : Place = record { domain = c.args.domain.now; path = c.args.path.now; name = c.args.name.now } in
    let low = stands_low row c.args.self.now (part_at c.in_ok-start.start c.in_ok-start.rows.now)
    (ap (value_at c.args.domain.now) (sym c.self.view_is) ∙ sym c.in_ok-start.ensures.part)
    (path_at c.in_ok-inner.inner c.in_ok-inner.rows.now) (sym c.in_ok-inner.ensures.part) c.in_ok-place.place
    (sym c.in_ok-place.ensures.place)
    c.requires in
    omega (arith, low)

pub returns-clause-at : goal.returns-clause-at
returns-clause-at g c =
    let row : Place = record { domain = c.args.domain.now; path = c.args.path.now; name = c.args.name.now } in
    stands_there row c.args.self.now (part_at c.in_ok-start.start c.in_ok-start.rows.now)
    (ap (value_at c.args.domain.now) (sym c.self.view_is) ∙ sym c.in_ok-start.ensures.part)
    (path_at c.in_ok-inner.inner c.in_ok-inner.rows.now) (sym c.in_ok-inner.ensures.part) c.in_ok-place.place
    (sym c.in_ok-place.ensures.place)

pub returns-in_err-start-clause-looks : goal.returns-in_err-start-clause-looks
returns-in_err-start-clause-looks g c places agrees =
    let row : Place = record { domain = c.args.domain.now; path = c.args.path.now; name = c.args.name.now } in
    let one = looks_one row c.args.self.now places agrees
    (ap (value_at c.args.domain.now) (sym c.self.view_is) ∙ sym c.in_err-start.ensures.part) in
    c.ask.ensures.look ∙ ap (λ n. c.args.looks.now + n) (sym one)

pub returns-in_err-inner-clause-looks : goal.returns-in_err-inner-clause-looks
returns-in_err-inner-clause-looks g c places agrees =
    let row : Place = record { domain = c.args.domain.now; path = c.args.path.now; name = c.args.name.now } in
    let first = c.in_ok-start.ensures.look in
    let second = c.ask-2.ensures.look in
    let two = looks_two row c.args.self.now places agrees (part_at c.in_ok-start.start c.in_ok-start.rows.now)
    (ap (value_at c.args.domain.now) (sym c.self.view_is) ∙ sym c.in_ok-start.ensures.part)
    (sym c.in_err-inner.ensures.part) in
    omega (arith, first, second, two)

pub returns-in_err-place-clause-looks : goal.returns-in_err-place-clause-looks
returns-in_err-place-clause-looks g c places agrees =
    let row : Place = record { domain = c.args.domain.now; path = c.args.path.now; name = c.args.name.now } in
    let first = c.in_ok-start.ensures.look in
    let second = c.in_ok-inner.ensures.look in
    let third = c.ask-3.ensures.look in
    let three = looks_three row c.args.self.now places agrees (part_at c.in_ok-start.start c.in_ok-start.rows.now)
    (ap (value_at c.args.domain.now) (sym c.self.view_is) ∙ sym c.in_ok-start.ensures.part)
    (path_at c.in_ok-inner.inner c.in_ok-inner.rows.now)
    (sym c.in_ok-inner.ensures.part) in
    omega (arith, first, second, third, three)

pub returns-clause-looks : goal.returns-clause-looks
returns-clause-looks g c places agrees =
    let row : Place = record { domain = c.args.domain.now; path = c.args.path.now; name = c.args.name.now } in
    let first = c.in_ok-start.ensures.look in
    let second = c.in_ok-inner.ensures.look in
    let third = c.ask-3.ensures.look in
    let three = looks_three row c.args.self.now places agrees (part_at c.in_ok-start.start c.in_ok-start.rows.now)
    (ap (value_at c.args.domain.now) (sym c.self.view_is) ∙ sym c.in_ok-start.ensures.part)
    (path_at c.in_ok-inner.inner c.in_ok-inner.rows.now)
    (sym c.in_ok-inner.ensures.part) in
    omega (arith, first, second, third, three)

use Rattle.std.proofs.Common.{◌∙◌, ◌-◌, ap, arith, refl, subst, sym}
use Rattle.std.specs.List.{remove}
use Rattle.std.specs.List.Sorted.{IsNonDecreasing}
use Rattle.place_index.specs.Entries.{value_at, without}
use Rattle.place_index.specs.Places.{Place}
use Rattle.place_index.specs.Index.{part_at}
use Rattle.place_index.specs.Starts.{AreInOrder, with_starts}
use Rattle.place_index.specs.Taking.{domain_back, moved_back}
use Rattle.place_index.proofs.AscendLemmas.{in_order-map, in_order-same, in_order-set, in_order-without}
use Rattle.place_index.proofs.AscendLemmas.{moved_back-rises}
use Rattle.place_index.proofs.RowOutLemmas.{begun_by, starts_before, inside_of, takes_more, takes_only, takes_none}
use Rattle.place_index.proofs.StartLemmas.{entry_at, no_value, none_found, part_removed, part_set}
use Rattle.place_index.proofs.StartLemmas.{part_there, place_within, set_value_at-same, starts_moved}
use Rattle.place_index.proofs.taking.take_row.Goals.{in-Some+then-rows-gt1, in-Some+else-rows-gt1, in_default}
use Rattle.place_index.proofs.taking.take_row.Goals as goal

pub get-requires : goal.get-requires
get-requires c =
    let within = place_within c.args.domain.now c.domains.inside.rows c.in-Some.place (sym c.in-Some.ensures) in
    let same = c.domains.invariant.each in
    omega (arith, within, same)

pub overflow_sub-inner : goal.overflow_sub-inner
overflow_sub-inner c =
    let rows = c.domains.inside.rows in
    let place = c.in-Some.place in
    let at = sym c.in-Some.ensures in
    let start = c.get.result in
    let within = place_within c.args.domain.now rows place at in
    let own = entry_at rows place within in
    starts_before c.args.domain.now c.args.path.now c.args.at c.args.domains.now c.requires (part_at start own.0)
    (part_there part_at c.args.domain.now c.domains.inside.starts rows c.args.domains.now c.domains.view_is
    c.domains.invariant.each place at own.0 own.1 start 0 c.get.ensures)

pub value_mut-rows-requires : goal.value_mut-rows-requires
value_mut-rows-requires c =
    place_within c.args.domain.now c.domains.inside.rows c.in-Some.place (sym c.in-Some.ensures)

pub take-requires-clause-inside : goal.take-requires-clause-inside
take-requires-clause-inside c =
    let start = c.get.result in
    inside_of c.args.domain.now c.args.path.now c.args.at c.args.domains.now c.requires start
    c.value_mut-rows.result.now
    (part_there part_at c.args.domain.now c.domains.inside.starts c.domains.inside.rows c.args.domains.now
    c.domains.view_is c.domains.invariant.each c.in-Some.place (sym c.in-Some.ensures) c.value_mut-rows.result.now
    c.value_mut-rows.ensures.value start 0 c.get.ensures)

pub take-requires-clause-begun : goal.take-requires-clause-begun
take-requires-clause-begun c =
    let start = c.get.result in
    begun_by c.args.domain.now c.args.path.now c.args.at c.args.domains.now c.requires start (c.args.at - start)
    c.value_mut-rows.result.now
    (part_there part_at c.args.domain.now c.domains.inside.starts c.domains.inside.rows c.args.domains.now
    c.domains.view_is c.domains.invariant.each c.in-Some.place (sym c.in-Some.ensures) c.value_mut-rows.result.now
    c.value_mut-rows.ensures.value start 0 c.get.ensures) refl

pub remove-requires-else-rows-gt1 : goal.remove-requires-else-rows-gt1
remove-requires-else-rows-gt1 c =
    let within = place_within c.args.domain.now c.domains.inside.rows c.in-Some.place (sym c.in-Some.ensures) in
    let same = c.domains.invariant.each in
    omega (arith, within, same)

pub move_back-requires : goal.move_back-requires
move_back-requires c =
    let text = c.args.domain.now in
    let starts = c.domains.inside.starts in
    let rows = c.domains.inside.rows in
    let order = c.domains.invariant in
    elim c.match-place.branch [
      | in-Some+then-rows-gt1 w ↦
          subst IsNonDecreasing (sym (ap (λ d. d.starts) w.domains-inside-is)) order.ascend
      | in-Some+else-rows-gt1 w ↦
          subst IsNonDecreasing
          (sym (ap (λ d. d.starts) w.domains-inside-is ∙ w.remove-else-rows-gt1.ensures))
          (in_order-without starts rows order text w.in-Some.place (sym w.in-Some.ensures)).ascend
      | in_default w ↦
          subst IsNonDecreasing (sym (ap (λ d. d.starts) w.domains-inside-is)) order.ascend
    ]

pub invariant_of-domains : goal.invariant_of-domains
invariant_of-domains c =
    let text = c.args.domain.now in
    let starts = c.domains.inside.starts in
    let rows = c.domains.inside.rows in
    let order = c.domains.invariant in
    let mid = c.match-place.domains-inside in
    subst (λ ss. AreInOrder ss mid.rows) (sym c.move_back.ensures)
    (in_order-map mid.starts mid.rows
    (elim c.match-place.branch [
      | in-Some+then-rows-gt1 w ↦
          in_order-same _ _ _ _ (ap (λ d. d.starts) w.domains-inside-is)
          (ap (λ d. d.rows) w.domains-inside-is) (in_order-set starts rows order w.in-Some.place w.take.new.domain)
      | in-Some+else-rows-gt1 w ↦
          let place = w.in-Some.place in
          let own = w.value_mut-rows.result.now in
          in_order-same _ _ _ _
          (ap (λ d. d.starts) w.domains-inside-is ∙ w.remove-else-rows-gt1.ensures)
          (ap (λ d. d.rows) w.domains-inside-is ∙ w.remove.ensures.rest
          ∙ ap (without text) (set_value_at-same rows place own w.value_mut-rows.ensures.value))
          (in_order-without starts rows order text place (sym w.in-Some.ensures))
      | in_default w ↦
          in_order-same _ _ _ _ (ap (λ d. d.starts) w.domains-inside-is)
          (ap (λ d. d.rows) w.domains-inside-is) order
    ])
    (moved_back c.args.at) (moved_back-rises c.args.at))

pub returns : goal.returns
returns c name =
    let text = c.args.domain.now in
    let row : Place = record { domain = text; path = c.args.path.now; name = name } in
    let old = c.args.domains.now in
    let starts = c.domains.inside.starts in
    let rows = c.domains.inside.rows in
    let is = c.domains.view_is in
    let same = c.domains.invariant.each in
    let inside = c.match-place.domains-inside in
    let mid = with_starts part_at inside.starts inside.rows in
    let moved = ap (λ ss. with_starts part_at ss inside.rows) c.move_back.ensures
    ∙ starts_moved part_at (moved_back c.args.at) (domain_back c.args.at) (λ _ _. refl) inside.starts inside.rows in
    elim c.match-place.branch [
      | in-Some+then-rows-gt1 w ↦
          let place = w.in-Some.place in
          let at = sym w.in-Some.ensures in
          let own = w.value_mut-rows.result.now in
          let value = w.value_mut-rows.ensures.value in
          let start = w.get.result in
          let there = part_there part_at text starts rows old is same place at own value start 0 w.get.ensures in
          takes_more row c.args.at old mid _ moved start own w.take.new.domain there w.if-rows-gt1.true w.take.ensures
          (ap (λ d. with_starts part_at d.starts d.rows) w.domains-inside-is
          ∙ part_set part_at text starts rows old is same place at own value start 0 w.get.ensures w.take.new.domain)
      | in-Some+else-rows-gt1 w ↦
          let place = w.in-Some.place in
          let at = sym w.in-Some.ensures in
          let own = w.value_mut-rows.result.now in
          let value = w.value_mut-rows.ensures.value in
          let start = w.get.result in
          let there = part_there part_at text starts rows old is same place at own value start 0 w.get.ensures in
          takes_only row c.args.at old mid _ moved (part_at start own) there w.if-rows-gt1.false
          (ap (λ d. with_starts part_at d.starts d.rows) w.domains-inside-is
          ∙ ap (λ ss. with_starts part_at ss w.remove.new.self) w.remove-else-rows-gt1.ensures
          ∙ ap (with_starts part_at (remove starts place))
          (w.remove.ensures.rest ∙ ap (without text) (set_value_at-same rows place own value))
          ∙ part_removed part_at text starts rows place same at
          ∙ ap (without text) is)
          (ap (λ d. value_at text (with_starts part_at d.starts d.rows)) w.domains-inside-is
          ∙ none_found part_at text _ w.remove.new.self w.remove.ensures.gone)
      | in_default w ↦
          takes_none row c.args.at old _
          (ap (value_at text) (sym is)
          ∙ none_found part_at text starts rows (no_value text rows (sym c.place.ensures ∙ w.in_default.is)))
    ]

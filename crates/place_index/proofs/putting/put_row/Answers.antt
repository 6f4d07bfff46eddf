use Rattle.std.proofs.Common.{◌+◌, ◌∙◌, ◌<◌, ap, arith, refl, subst, sym}
use Rattle.std.proofs.lemmas.List.Elements.{All-weaker}
use Rattle.indexmap.specs.IndexMap.{set_value_at}
use Rattle.place_index.specs.Entries.{value_at}
use Rattle.place_index.specs.Index.{last, moved, moved_domain, part_at}
use Rattle.place_index.specs.Places.{Place}
use Rattle.place_index.specs.Starts.{AreInOrder, with_starts}
use Rattle.place_index.proofs.AscendLemmas.{all_low, in_order-map, in_order-set, moved-rises}
use Rattle.place_index.proofs.RowLemmas.{has_room, puts_before_others, puts_at_end, puts_first, on_err, row_fits}
use Rattle.place_index.proofs.StartLemmas.{no_value, none_found, part_set, part_there, place_within}
use Rattle.place_index.proofs.StartLemmas.{set_value_at-same, starts_moved}
use Rattle.place_index.proofs.putting.put_row.Goals as goal

pub value_mut-requires : goal.value_mut-requires
value_mut-requires c = place_within c.args.domain.now c.domains.inside.rows c.in-Some.place (sym c.in-Some.ensures)

pub put-requires : goal.put-requires
put-requires c =
    (has_room (record { domain = c.args.domain.now; path = c.args.path.now; name = c.args.name.now }) c.args.rows
    c.args.domains.now _ c.value_mut.result.now c.requires
    (part_there part_at c.args.domain.now c.domains.inside.starts c.domains.inside.rows c.args.domains.now
    c.domains.view_is c.domains.invariant.each c.in-Some.place (sym c.in-Some.ensures) c.value_mut.result.now
    c.value_mut.ensures.value _ 0 refl)).0

pub invariant_of-domains : goal.invariant_of-domains
invariant_of-domains c =
    in_order-set c.domains.inside.starts c.domains.inside.rows c.domains.invariant c.in-Some.place
    c.put.new.domain

pub returns-in_err-inner-in-Some-clause-err : goal.returns-in_err-inner-in-Some-clause-err
returns-in_err-inner-in-Some-clause-err c =
    let text = c.args.domain.now in
    let starts = c.domains.inside.starts in
    let rows = c.domains.inside.rows in
    let old = c.args.domains.now in
    let own = c.value_mut.result.now in
    let place = c.in-Some.place in
    on_err c.from_residual.result
    (ap (λ w. with_starts part_at starts (set_value_at rows place w)) c.in_err-inner-in-Some.ensures.err
    ∙ ap (with_starts part_at starts) (set_value_at-same rows place own c.value_mut.ensures.value)
    ∙ c.domains.view_is)

pub get-requires : goal.get-requires
get-requires c =
    let within = place_within c.args.domain.now c.domains.inside.rows c.in-Some.place (sym c.in-Some.ensures) in
    let same = c.domains.invariant.each in
    omega (arith, within, same)

pub overflow_add-at : goal.overflow_add-at
overflow_add-at c =
    let start = c.get.result in
    let fits = row_fits (record { domain = c.args.domain.now; path = c.args.path.now; name = c.args.name.now })
    c.args.rows c.args.domains.now start c.value_mut.result.now c.put.new.domain c.in_ok-inner-in-Some.inner c.requires
    (part_there part_at c.args.domain.now c.domains.inside.starts c.domains.inside.rows c.args.domains.now
    c.domains.view_is c.domains.invariant.each c.in-Some.place (sym c.in-Some.ensures) c.value_mut.result.now
    c.value_mut.ensures.value start 0 c.get.ensures) c.in_ok-inner-in-Some.ensures.ok in
    omega (arith, fits)

pub invariant_of-domains-then-at-rows : goal.invariant_of-domains-then-at-rows
invariant_of-domains-then-at-rows c =
    let v = c.domains.inside.starts in
    let rows = set_value_at c.domains.inside.rows c.in-Some.place c.put.new.domain in
    let p = c.get.result + c.in_ok-inner-in-Some.inner in
    subst (λ ss. AreInOrder ss rows) (sym c.move_from.ensures)
    (in_order-map v rows
    (in_order-set v c.domains.inside.rows c.domains.invariant c.in-Some.place c.put.new.domain) (moved p)
    (moved-rises p))

pub move_from-requires-clause-low : goal.move_from-requires-clause-low
move_from-requires-clause-low c =
    let room = c.requires.room in
    All-weaker (λ start. start < c.args.rows) (λ start. start < last) (λ start l. omega (arith, l, room))
    c.domains.inside.starts
    (all_low c.domains.inside.starts c.domains.inside.rows c.domains.invariant c.args.domains.now c.domains.view_is _
    c.args.rows c.requires)

pub invariant_of-domains-else-at-rows : goal.invariant_of-domains-else-at-rows
invariant_of-domains-else-at-rows c =
    in_order-set c.domains.inside.starts c.domains.inside.rows c.domains.invariant c.in-Some.place
    c.put.new.domain

pub begin-requires-clause-absent : goal.begin-requires-clause-absent
begin-requires-clause-absent c =
    ap (value_at c.args.domain.now) (sym c.domains.view_is)
    ∙ none_found part_at c.args.domain.now c.domains.inside.starts c.domains.inside.rows
    (no_value c.args.domain.now c.domains.inside.rows (sym c.in-None.ensures))

pub returns-then-at-rows-clause-ok : goal.returns-then-at-rows-clause-ok
returns-then-at-rows-clause-ok c =
    let text = c.args.domain.now in
    let v = c.domains.inside.starts in
    let starts = v in
    let rows = c.domains.inside.rows in
    let old = c.args.domains.now in
    let own = c.value_mut.result.now in
    let w = c.put.new.domain in
    let start = c.get.result in
    let p = start + c.in_ok-inner-in-Some.inner in
    let there = part_there part_at text starts rows old c.domains.view_is c.domains.invariant.each c.in-Some.place
    (sym c.in-Some.ensures) own c.value_mut.ensures.value start 0 c.get.ensures in
    let lent = part_set part_at text starts rows old c.domains.view_is c.domains.invariant.each c.in-Some.place
    (sym c.in-Some.ensures) own c.value_mut.ensures.value start 0 c.get.ensures w in
    let row : Place = record { domain = text; path = c.args.path.now; name = c.args.name.now } in
    let has = has_room row c.args.rows old start own c.requires there in
    puts_before_others row p c.args.rows old _ start own w there lent
    c.in_ok-inner-in-Some.inner refl c.requires.room has.0 has.1 c.in_ok-inner-in-Some.ensures.ok _
    (ap (λ ss. with_starts part_at ss (set_value_at rows c.in-Some.place w)) c.move_from.ensures
    ∙ starts_moved part_at (moved p) (moved_domain p) (λ _ _. refl) starts (set_value_at rows c.in-Some.place w))

pub returns-else-at-rows-clause-ok : goal.returns-else-at-rows-clause-ok
returns-else-at-rows-clause-ok c =
    let text = c.args.domain.now in
    let starts = c.domains.inside.starts in
    let rows = c.domains.inside.rows in
    let old = c.args.domains.now in
    let own = c.value_mut.result.now in
    let w = c.put.new.domain in
    let start = c.get.result in
    let there = part_there part_at text starts rows old c.domains.view_is c.domains.invariant.each c.in-Some.place
    (sym c.in-Some.ensures) own c.value_mut.ensures.value start 0 c.get.ensures in
    let lent = part_set part_at text starts rows old c.domains.view_is c.domains.invariant.each c.in-Some.place
    (sym c.in-Some.ensures) own c.value_mut.ensures.value start 0 c.get.ensures w in
    let row : Place = record { domain = text; path = c.args.path.now; name = c.args.name.now } in
    let has = has_room row c.args.rows old start own c.requires there in
    puts_at_end row (start + c.in_ok-inner-in-Some.inner) c.args.rows
    old _ start own w there lent c.in_ok-inner-in-Some.inner refl c.requires.room has.0 has.1
    c.in_ok-inner-in-Some.ensures.ok c.if-at-rows.false

pub returns-in_ok-begin-in-None-clause-ok : goal.returns-in_ok-begin-in-None-clause-ok
returns-in_ok-begin-in-None-clause-ok c =
    let text = c.args.domain.now in
    puts_first (record { domain = text; path = c.args.path.now; name = c.args.name.now }) c.args.rows
    c.args.domains.now c.begin.new.domains
    c.requires.room
    (ap (value_at text) (sym c.domains.view_is)
    ∙ none_found part_at text c.domains.inside.starts c.domains.inside.rows
    (no_value text c.domains.inside.rows (sym c.in-None.ensures)))
    c.in_ok-begin-in-None.ensures.ok

use Rattle.std.proofs.Common.{◌≡◌, ◌≤◌, ◌<◌, ◌-◌, ◌∙◌, ap, arith, length, refl, subst, sym}
use Rattle.std.specs.List.{remove}
use Rattle.indexmap.specs.IndexMap.{set_value_at}
use Rattle.place_index.specs.Entries.{set_at, value_at, without}
use Rattle.place_index.specs.PathParts.{path_at}
use Rattle.place_index.specs.Starts.{AreInOrder, with_starts}
use Rattle.place_index.specs.Taking.{BeginsBy, shorter}
use Rattle.place_index.proofs.AscendLemmas.{in_order-same, in_order-set, in_order-without}
use Rattle.place_index.proofs.SideLemmas.{remove-place, without-gone}
use Rattle.place_index.proofs.StartLemmas.{entry_at, no_value, none_found, part_removed, part_set, part_there}
use Rattle.place_index.proofs.StartLemmas.{place_within, set_value_at-same}
use Rattle.place_index.proofs.TakingLemmas.{shorter-only, shortens_gone, shortens_more, shortens_none}
use Rattle.place_index.proofs.taking.shorten.Goals as goal

pub returns-in_default : goal.returns-in_default
returns-in_default c =
    shortens_none c.args.path.now c.args.at c.args.paths.now
    (ap (value_at c.args.path.now) (sym c.paths.view_is)
    ∙ none_found path_at c.args.path.now c.paths.inside.starts c.paths.inside.rows
    (no_value c.args.path.now c.paths.inside.rows (sym c.place.ensures ∙ c.in_default.is)))

pub get-requires : goal.get-requires
get-requires c =
    let within = place_within c.args.path.now c.paths.inside.rows c.in-Some.place (sym c.in-Some.ensures) in
    let same = c.paths.invariant.each in
    omega (arith, within, same)

pub overflow_sub-inner : goal.overflow_sub-inner
overflow_sub-inner c =
    let rows = c.paths.inside.rows in
    let place = c.in-Some.place in
    let at = sym c.in-Some.ensures in
    let own = entry_at rows place (place_within c.args.path.now rows place at) in
    subst (BeginsBy c.args.at)
    (part_there path_at c.args.path.now c.paths.inside.starts rows c.args.paths.now c.paths.view_is
    c.paths.invariant.each place at own.0 own.1 c.get.result 0 c.get.ensures)
    c.requires

pub value_mut-rows-requires : goal.value_mut-rows-requires
value_mut-rows-requires c =
    place_within c.args.path.now c.paths.inside.rows c.in-Some.place (sym c.in-Some.ensures)

pub invariant_of-paths : goal.invariant_of-paths
invariant_of-paths c =
    in_order-set c.paths.inside.starts c.paths.inside.rows c.paths.invariant c.in-Some.place
    (record { len = c.value_mut-rows.result.now.len - 1; names = c.take.new.self })

pub remove-requires : goal.remove-requires
remove-requires c =
    let rows = c.paths.inside.rows in
    let place = c.in-Some.place in
    subst (λ es. place < length es)
    (sym (set_value_at-same rows place c.value_mut-rows.result.now c.value_mut-rows.ensures.value))
    (place_within c.args.path.now rows place (sym c.in-Some.ensures))

pub remove-requires-else-rows-gt1 : goal.remove-requires-else-rows-gt1
remove-requires-else-rows-gt1 c =
    let within = place_within c.args.path.now c.paths.inside.rows c.in-Some.place (sym c.in-Some.ensures) in
    let same = c.paths.invariant.each in
    omega (arith, within, same)

pub invariant_of-paths-else-rows-gt1 : goal.invariant_of-paths-else-rows-gt1
invariant_of-paths-else-rows-gt1 c =
    let path = c.args.path.now in
    let rows = c.paths.inside.rows in
    let place = c.in-Some.place in
    in_order-same _ _ _ _ c.remove-else-rows-gt1.ensures
    (c.remove.ensures
    ∙ ap (λ es. remove es place)
    (set_value_at-same rows place c.value_mut-rows.result.now c.value_mut-rows.ensures.value)
    ∙ remove-place path rows place (sym c.in-Some.ensures))
    (in_order-without c.paths.inside.starts rows c.paths.invariant path place (sym c.in-Some.ensures))

pub returns-then-rows-gt1 : goal.returns-then-rows-gt1
returns-then-rows-gt1 c =
    let path = c.args.path.now in
    let starts = c.paths.inside.starts in
    let rows = c.paths.inside.rows in
    let old = c.args.paths.now in
    let place = c.in-Some.place in
    let at = sym c.in-Some.ensures in
    let own = c.value_mut-rows.result.now in
    let start = c.get.result in
    shortens_more path c.args.at old _ (path_at start own)
    (part_there path_at path starts rows old c.paths.view_is c.paths.invariant.each place at own
    c.value_mut-rows.ensures.value start 0 c.get.ensures)
    c.if-rows-gt1.true
    (part_set path_at path starts rows old c.paths.view_is c.paths.invariant.each place at own
    c.value_mut-rows.ensures.value start 0 c.get.ensures (record { len = own.len - 1; names = c.take.new.self })
    ∙ ap (λ names. set_at path old (record { start = start; len = own.len - 1; names = names })) c.take.ensures)

pub returns-else-rows-gt1 : goal.returns-else-rows-gt1
returns-else-rows-gt1 c =
    let path = c.args.path.now in
    let starts = c.paths.inside.starts in
    let rows = c.paths.inside.rows in
    let old = c.args.paths.now in
    let place = c.in-Some.place in
    let at = sym c.in-Some.ensures in
    let own = c.value_mut-rows.result.now in
    let start = c.get.result in
    let there = part_there path_at path starts rows old c.paths.view_is c.paths.invariant.each place at own
    c.value_mut-rows.ensures.value start 0 c.get.ensures in
    let kept = c.remove.ensures
    ∙ ap (λ es. remove es place) (set_value_at-same rows place own c.value_mut-rows.ensures.value)
    ∙ remove-place path rows place at in
    shortens_gone path c.args.at old old _ refl
    (ap (shorter c.args.at) there ∙ shorter-only c.args.at (path_at start own) c.if-rows-gt1.false)
    ((λ i. with_starts path_at (c.remove-else-rows-gt1.ensures i) (kept i))
    ∙ part_removed path_at path starts rows place c.paths.invariant.each at
    ∙ ap (without path) c.paths.view_is)
    (none_found path_at path _ c.remove.new.self
    (ap (value_at path) kept ∙ without-gone path rows c.paths.invariant.apart))

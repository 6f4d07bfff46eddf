use Rattle.std.proofs.Common.{◌≡◌, ◌+◌, ◌<◌, ◌∙◌, ap, arith, false, refl, subst, sym}
use Rattle.std.specs.List.{list_any}
use Rattle.std.specs.Prelude.{IfSome}
use Rattle.std.specs.Str.{bytes_eq}
use Rattle.indexmap.specs.IndexMap.{set_value_at}
use Rattle.place_index.specs.Entries.{value_at}
use Rattle.place_index.specs.Index.{last}
use Rattle.place_index.specs.PathParts.{path_at}
use Rattle.place_index.specs.Starts.{with_starts}
use Rattle.place_index.proofs.AscendLemmas.{in_order-set}
use Rattle.place_index.proofs.PuttingLemmas.{lengthens}
use Rattle.place_index.proofs.RowLemmas.{on_err}
use Rattle.place_index.proofs.StartLemmas.{no_value, none_found, part_there, place_within, set_value_at-same}
use Rattle.place_index.proofs.putting.lengthen.Goals as goal

pub returns-in_default-clause-ok : goal.returns-in_default-clause-ok
returns-in_default-clause-ok c = (
  ap (value_at c.args.path.now) (sym c.paths.view_is)
      ∙ none_found path_at c.args.path.now c.paths.inside.starts c.paths.inside.rows
      (no_value c.args.path.now c.paths.inside.rows (sym c.place.ensures ∙ c.in_default.is)),
  refl,
)

pub value_mut-rows-requires : goal.value_mut-rows-requires
value_mut-rows-requires c =
    place_within c.args.path.now c.paths.inside.rows c.in-Some.place (sym c.in-Some.ensures)

pub push-requires : goal.push-requires
push-requires c =
    subst (λ o. IfSome o (λ part. list_any (bytes_eq c.args.name.now) part.names ≡ false))
    (part_there path_at c.args.path.now c.paths.inside.starts c.paths.inside.rows c.args.paths.now c.paths.view_is
    c.paths.invariant.each c.in-Some.place (sym c.in-Some.ensures) c.value_mut-rows.result.now
    c.value_mut-rows.ensures.value _ 0 refl)
    c.requires.absent

pub invariant_of-paths : goal.invariant_of-paths
invariant_of-paths c =
    in_order-set c.paths.inside.starts c.paths.inside.rows c.paths.invariant c.in-Some.place
    (record { len = c.value_mut-rows.result.now.len; names = c.push.new.self })

pub returns-in_err-push-clause-err : goal.returns-in_err-push-clause-err
returns-in_err-push-clause-err c =
    let starts = c.paths.inside.starts in
    let rows = c.paths.inside.rows in
    let own = c.value_mut-rows.result.now in
    let place = c.in-Some.place in
    on_err c.from_residual.result
    (ap (λ names. with_starts path_at starts (set_value_at rows place (record { len = own.len; names = names })))
    c.in_err-push.ensures.err
    ∙ ap (with_starts path_at starts) (set_value_at-same rows place own c.value_mut-rows.ensures.value)
    ∙ c.paths.view_is)

pub get-requires : goal.get-requires
get-requires c =
    let within = place_within c.args.path.now c.paths.inside.rows c.in-Some.place (sym c.in-Some.ensures) in
    let same = c.paths.invariant.each in
    omega (arith, within, same)

pub overflow_add-at : goal.overflow_add-at
overflow_add-at c =
    let fits = subst (λ o. IfSome o (λ part. part.start + part.len < last))
    (part_there path_at c.args.path.now c.paths.inside.starts c.paths.inside.rows c.args.paths.now c.paths.view_is
    c.paths.invariant.each c.in-Some.place (sym c.in-Some.ensures) c.value_mut-rows.result.now
    c.value_mut-rows.ensures.value c.get.result 0 c.get.ensures)
    (c.requires.room c.args.path.now) in
    omega (arith, fits)

pub overflow_add-rows : goal.overflow_add-rows
overflow_add-rows c =
    let fits = subst (λ o. IfSome o (λ part. part.start + part.len < last))
    (part_there path_at c.args.path.now c.paths.inside.starts c.paths.inside.rows c.args.paths.now c.paths.view_is
    c.paths.invariant.each c.in-Some.place (sym c.in-Some.ensures) c.value_mut-rows.result.now
    c.value_mut-rows.ensures.value c.get.result 0 c.get.ensures)
    (c.requires.room c.args.path.now) in
    omega (arith, fits)

pub invariant_of-paths-2 : goal.invariant_of-paths-2
invariant_of-paths-2 c =
    in_order-set c.paths.inside.starts c.paths.inside.rows c.paths.invariant c.in-Some.place
    (record { len = c.value_mut-rows.result.now.len + 1; names = c.push.new.self })

pub returns-clause-ok : goal.returns-clause-ok
returns-clause-ok c =
    lengthens c.args.path.now c.args.name.now c.paths.inside.starts c.paths.inside.rows c.args.paths.now c.paths.view_is
    c.paths.invariant.each c.in-Some.place (sym c.in-Some.ensures) c.value_mut-rows.result.now
    c.value_mut-rows.ensures.value c.get.result c.get.ensures c.push.new.self c.in_ok-push.ensures.ok

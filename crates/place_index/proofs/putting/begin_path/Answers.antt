use Rattle.std.proofs.Common.{◌≡◌, ◌++◌, ◌∷◌, [], ◌∙◌, ap, subst, sym}
use Rattle.std.specs.Prelude.{OnOk}
use Rattle.place_index.specs.Entries.{value_at, with_value}
use Rattle.place_index.specs.PathParts.{BeginBefore, path_at}
use Rattle.place_index.specs.Starts.{with_starts}
use Rattle.place_index.specs.declared.part.PathRows.{PathRows}
use Rattle.place_index.proofs.AscendLemmas.{in_order-after, part_after, paths_begin_before}
use Rattle.place_index.proofs.StartLemmas.{no_place}
use Rattle.place_index.proofs.putting.begin_path.Goals as goal

pub begin_rows-requires : goal.begin_rows-requires
begin_rows-requires c =
    no_place path_at c.args.path.now c.paths.inside.starts c.paths.inside.rows c.paths.invariant.each
    (ap (value_at c.args.path.now) c.paths.view_is ∙ c.requires.absent)

pub invariant_of-paths : goal.invariant_of-paths
invariant_of-paths c =
    let text = c.args.path.now in
    let starts = c.paths.inside.starts in
    let rows = c.paths.inside.rows in
    let own : PathRows = record { len = 1; names = c.push.new.self } in
    let none = no_place path_at text starts rows c.paths.invariant.each
    (ap (value_at text) c.paths.view_is ∙ c.requires.absent) in
    in_order-after starts _ rows _ c.paths.invariant text c.args.start own c.begin_rows.result
    c.begin_rows.ensures.starts_ok c.begin_rows.ensures.rows_ok
    c.begin_rows.ensures.starts_err c.begin_rows.ensures.rows_err none
    (paths_begin_before c.args.start starts rows c.paths.invariant.each c.paths.invariant.apart
    (subst (BeginBefore c.args.start) (sym c.paths.view_is) c.requires.last))

pub returns-clause-ok : goal.returns-clause-ok
returns-clause-ok c =
    let text = c.args.path.now in
    let starts = c.paths.inside.starts in
    let rows = c.paths.inside.rows in
    let own : PathRows = record { len = 1; names = c.push.new.self } in
    let none = no_place path_at text starts rows c.paths.invariant.each
    (ap (value_at text) c.paths.view_is ∙ c.requires.absent) in
    let after = part_after starts _ rows _ c.paths.invariant text c.args.start own c.begin_rows.result
    c.begin_rows.ensures.starts_ok c.begin_rows.ensures.rows_ok
    c.begin_rows.ensures.starts_err c.begin_rows.ensures.rows_err none path_at c.args.paths.now c.paths.view_is in
    subst (λ names. OnOk c.begin_rows.result (with_starts path_at c.begin_rows.new.starts c.begin_rows.new.rows
    ≡ with_value c.args.paths.now text (record { start = c.args.start; len = 1; names = names })))
    (c.in_ok-push.ensures.ok ∙ ap (λ names. names ++ c.args.name.now ∷ []) c.new-names.ensures) after

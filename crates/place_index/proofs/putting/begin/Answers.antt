use Rattle.std.proofs.Common.{◌≡◌, ◌∷◌, [], ◌∙◌, ap, subst}
use Rattle.std.specs.Prelude.{OnOk}
use Rattle.place_index.specs.Entries.{value_at, with_value}
use Rattle.place_index.specs.Index.{part_at}
use Rattle.place_index.specs.Starts.{with_starts}
use Rattle.place_index.specs.declared.part.DomainRows.{DomainRows}
use Rattle.place_index.proofs.AscendLemmas.{all_low, in_order-after, part_after}
use Rattle.place_index.proofs.StartLemmas.{no_place}
use Rattle.place_index.proofs.putting.begin.Goals as goal

pub invariant_of-domains : goal.invariant_of-domains
invariant_of-domains c =
    let text = c.args.domain.now in
    let starts = c.domains.inside.starts in
    let rows = c.domains.inside.rows in
    let own : DomainRows = record { len = 1; paths = c.in_ok-paths.paths } in
    let none = no_place part_at text starts rows c.domains.invariant.each
    (ap (value_at text) c.domains.view_is ∙ c.requires.absent) in
    in_order-after starts _ rows _ c.domains.invariant text c.args.start own c.begin_part.result
    c.begin_part.ensures.starts_ok
    (subst (λ key. OnOk c.begin_part.result (c.begin_part.new.rows ≡ with_value rows key own)) c.in_ok-text.ensures.ok
    c.begin_part.ensures.rows_ok)
    c.begin_part.ensures.starts_err c.begin_part.ensures.rows_err none
    (all_low starts rows c.domains.invariant c.args.domains.now c.domains.view_is _ c.args.start c.requires.last)

pub returns-clause-ok : goal.returns-clause-ok
returns-clause-ok c =
    let text = c.args.domain.now in
    let starts = c.domains.inside.starts in
    let rows = c.domains.inside.rows in
    let own : DomainRows = record { len = 1; paths = c.in_ok-paths.paths } in
    let none = no_place part_at text starts rows c.domains.invariant.each
    (ap (value_at text) c.domains.view_is ∙ c.requires.absent) in
    let after = part_after starts _ rows _ c.domains.invariant text c.args.start own c.begin_part.result
    c.begin_part.ensures.starts_ok
    (subst (λ key. OnOk c.begin_part.result (c.begin_part.new.rows ≡ with_value rows key own)) c.in_ok-text.ensures.ok
    c.begin_part.ensures.rows_ok)
    c.begin_part.ensures.starts_err c.begin_part.ensures.rows_err none part_at c.args.domains.now c.domains.view_is in
    subst (λ paths. OnOk c.begin_part.result (with_starts part_at c.begin_part.new.starts c.begin_part.new.rows
    ≡ with_value c.args.domains.now text (record { start = c.args.start; len = 1; paths = paths })))
    c.in_ok-paths.ensures after

use Rattle.std.proofs.Common.{◌∙◌, ap, sym}
use Rattle.std.specs.Prelude.{option_map}
use Rattle.place_index.specs.Entries.{place_of, value_at}
use Rattle.place_index.proofs.EntryLemmas.{place_of-by_bytes, value_at-by_bytes}
use Rattle.place_index.proofs.StartLemmas.{no_value}
use Rattle.place_index.proofs.text_map.TextMap.get_full.Goals as goal

pub returns-then-is_longer-clause-place : goal.returns-then-is_longer-clause-place
returns-then-is_longer-clause-place g c = sym (c.is_longer.ensures c.if-is_longer.true)

pub returns-then-is_longer-clause-value : goal.returns-then-is_longer-clause-value
returns-then-is_longer-clause-value g c =
    sym (no_value c.args.key.now c.args.self.now (c.is_longer.ensures c.if-is_longer.true))

pub returns-in_err-place-clause-place : goal.returns-in_err-place-clause-place
returns-in_err-place-clause-place g c =
    ap (option_map (λ found. found.0)) c.from_residual.ensures ∙ c.in_err-place.ensures.index
    ∙ place_of-by_bytes c.self.inside.entries.entries c.args.key.now
    ∙ ap (place_of c.args.key.now) c.self.view_is

pub returns-in_err-place-clause-value : goal.returns-in_err-place-clause-value
returns-in_err-place-clause-value g c =
    ap (option_map (λ found. found.1.now)) c.from_residual.ensures ∙ c.in_err-place.ensures.value
    ∙ value_at-by_bytes c.self.inside.entries.entries c.args.key.now
    ∙ ap (value_at c.args.key.now) c.self.view_is

pub returns-clause-place : goal.returns-clause-place
returns-clause-place g c =
    c.in_ok-place.ensures.index ∙ place_of-by_bytes c.self.inside.entries.entries c.args.key.now
    ∙ ap (place_of c.args.key.now) c.self.view_is

pub returns-clause-value : goal.returns-clause-value
returns-clause-value g c =
    c.in_ok-place.ensures.value ∙ value_at-by_bytes c.self.inside.entries.entries c.args.key.now
    ∙ ap (value_at c.args.key.now) c.self.view_is

use Rattle.std.proofs.Common.{◌∙◌, Option, Some, None, MatchOption, map, sym, ap, subst, rules, tests}
use Rattle.std.specs.Slice.Iter as slice
use Rattle.std.proofs.lemmas.Iterator.Consumers.{YieldsList-end}
use Rattle.std.proofs.lemmas.Iterator.Splits.{YieldsList-from_slice_split}
use Rattle.std.proofs.lemmas.List.{map_push}
use Rattle.jiff.specs.Types.{DateTime}
use Rattle.user_agent.specs.Dates.{Date, IsMomentOf, Shows, date_tokens, is_delimiter}
use Rattle.user_agent.specs.Fields.{Makes, nothing}
use Rattle.user_agent.proofs.FindingLemmas.{TakesAll, takes_one_more, makes_shown, shows_made}
use Rattle.user_agent.proofs.dates.read.Goals as goal

pub loop-token-preserved : goal.loop-token-preserved
loop-token-preserved c = (
  c.take.ensures.small,
  subst (λ tokens. TakesAll nothing tokens c.take.new.self)
      (sym (map_push (λ p. p.now) c.loop-token.yielded c.in-Some.token))
      (takes_one_more (map (λ p. p.now) c.loop-token.yielded) nothing c.loop-token.found c.take.new.self
      c.in-Some.token.now c.loop-token.invariant.1 c.take.ensures.value),
)

pub returns : goal.returns
returns c =
    let same = c.into_iter-token-iterator.ensures.into_iter_gives in
    let rest = ap slice.split_rest same ∙ c.split-token-items.ensures.rest in
    let done = ap slice.split_done same ∙ c.split-token-items.ensures.done in
    let closure = ap slice.split_callee same ∙ c.split-token-items.ensures.closure in
    let end = YieldsList-end (YieldsList-from_slice_split _ is_delimiter c.as_bytes.result.now rest done closure
    (λ x b q k. search (rules, tests))) c.loop-token.yielded _ c.loop-token.yielded_by _ _ c.in-None.is
    c.next.ensures.steps in
    let all = subst (λ tokens. TakesAll nothing tokens c.loop-token.found)
    (end.0 ∙ ap date_tokens c.as_bytes.ensures.value) c.loop-token.invariant.1 in
    by c.args.text.now c.loop-token.found all c.moment.result c.moment.ensures
  where
    by : (text : _) (found : _) → TakesAll nothing (date_tokens text) found → (result : Option DateTime)
        → MatchOption result ((d : Date) → ¬ (Makes found d)) (λ m. (d : Date) × Makes found d × IsMomentOf d m)
        → MatchOption result ((d : Date) → ¬ (Shows text d)) (λ m. (d : Date) × Shows text d × IsMomentOf d m)
    by text found all None none = λ d shown. none d (makes_shown text found all d shown)
    by text found all (Some m) (d, makes, is) = (d, shows_made text found all d makes, is)

use Rattle.std.proofs.Common.{◌≡◌, IfOk, map, refl, rules, subst, sym}
use borrow.Author.Tests.{tests}
use Rattle.std.proofs.lemmas.Iterator.Splits.{YieldsList-from_slice_split}
use Rattle.std.proofs.lemmas.Iterator.Consumers.{map_from_collect}
use Rattle.fonnalich_c.proofs.given.parts.Goals as goal

pub returns-then-is_one_part : goal.returns-then-is_one_part
returns-then-is_one_part c = subst (λ whole. IfOk c.single.result (λ parts. map (λ part. part.now) parts.items ≡ whole))
    (sym (c.if-is_one_part.ensures.part refl)) c.single.ensures

pub returns : goal.returns
returns c = map_from_collect _ c.collect.ensures.ran (YieldsList-from_slice_split _ _ c.args.text.now
    c.split.ensures.rest c.split.ensures.done c.split.ensures.closure (λ x r q k. search (rules, tests)))

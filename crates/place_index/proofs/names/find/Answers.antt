use Rattle.std.proofs.Common.{◌≡◌, ◌∙◌, arith, false, sym}
use Rattle.std.proofs.lemmas.Grind.{common_steps}
use Rattle.std.proofs.lemmas.List.Elements.{All-more}
use Rattle.std.specs.Prelude.{string_bytes}
use Rattle.std.specs.Str.{bytes_eq}
use Rattle.place_index.proofs.ListLemmas.{position-first, position-nowhere}
use Rattle.place_index.proofs.NameLemmas.{position-by_bytes}
use Rattle.place_index.proofs.names.find.Goals as goal

pub returns-then-eq : goal.returns-then-eq
returns-then-eq c =
    let e = c.index-texts-i.is in
    let v = c.as_str.ensures.value in
    let q = c.eq.ensures in
    let t = c.if-eq.true in
    sym (position-first (λ t. bytes_eq c.args.name.now (string_bytes t)) c.args.texts.now c.loop-i.i
    c.index-texts-i.result c.loop-i.invariant c.loop-i-test.true (grind (arith, common_steps, e, v, q, t)))
    ∙ position-by_bytes c.args.name.now c.args.texts.now

pub loop-i-preserved : goal.loop-i-preserved
loop-i-preserved c =
    let e = c.index-texts-i.is in
    let v = c.as_str.ensures.value in
    let q = c.eq.ensures in
    let t = c.if-eq.false in
    All-more (λ t. bytes_eq c.args.name.now (string_bytes t) ≡ false) c.args.texts.now c.loop-i.i
    c.index-texts-i.result c.loop-i-test.true c.loop-i.invariant (grind (arith, common_steps, e, v, q, t))

pub returns : goal.returns
returns c =
    sym (position-nowhere (λ t. bytes_eq c.args.name.now (string_bytes t)) c.args.texts.now c.loop-i.i
    c.loop-i.invariant c.loop-i-test.false)
    ∙ position-by_bytes c.args.name.now c.args.texts.now

use Rattle.std.proofs.Common.{◌≡◌, ◌++◌, ◌∙◌, Some, ap, subst, sym}
use Rattle.fonnalich_c.specs.Exchange.{read_text}
use Rattle.fonnalich_c.specs.Items.{item}
use Rattle.fonnalich_c.proofs.Exchanges.{read_more}
use Rattle.fonnalich_c.proofs.exchange.push_read.Goals as goal

pub returns-in_ok-push_item-2 : goal.returns-in_ok-push_item-2
returns-in_ok-push_item-2 c =
    let written = c.args.told.now.items in
    let last = c.push_item-then-on_ring.new.answer.items in
    let first = c.in_ok-push_item.ensures ∙ ap (λ value. written ++ item value) c.as_bytes.ensures.value in
    subst (λ b. last ≡ written ++ read_text b (Some (c.args.value.now, c.args.place))) (sym c.if-on_ring.true)
    (read_more written c.push_item.new.answer.items last c.args.value.now _ c.args.place first c.to_le_bytes.ensures
    c.in_ok-push_item-2.ensures)

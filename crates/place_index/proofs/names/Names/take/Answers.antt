use Rattle.std.proofs.Common.{◌≡◌, ◌++◌, ◌-◌, ◌<◌, ◌∙◌, [], ap, arith, length, map, sym}
use Rattle.std.proofs.lemmas.List.{length-map, nil_from_length}
use Rattle.std.proofs.lemmas.List.Edits.{remove-append_left}
use Rattle.std.specs.List.{remove}
use Rattle.std.specs.Prelude.{string_bytes}
use Rattle.place_index.specs.Texts.{texts_of}
use Rattle.place_index.proofs.ListLemmas.{taken_behind}
use Rattle.place_index.proofs.NameLemmas.{map-remove}
use Rattle.place_index.proofs.names.Names.take.Goals.{in-Some-2, in-None-2}
use Rattle.place_index.proofs.names.Names.take.Goals as goal

pub returns-then-place-few : goal.returns-then-place-few
returns-then-place-few c =
    let few = map string_bytes c.self.inside.few.items in
    let more = texts_of (λ table. map string_bytes table.value.keys) c.self.inside.more in
    let same = length-map c.self.inside.few.items string_bytes in
    let len = c.len-few.ensures in
    let before = c.if-place-few.true in
    let less : c.args.place < length few = omega (arith, same, len, before) in
    ap (λ ts. map string_bytes ts ++ more) c.remove.ensures.items
    ∙ ap (λ ts. ts ++ more) (map-remove string_bytes c.self.inside.few.items c.args.place)
    ∙ sym (remove-append_left few more c.args.place less)
    ∙ ap (λ names. remove names c.args.place) c.self.view_is

pub returns-then-is_empty : goal.returns-then-is_empty
returns-then-is_empty c =
    let few = map string_bytes c.self.inside.few.items in
    let same = length-map c.self.inside.few.items string_bytes in
    let len = c.len-few.ensures in
    let behind = c.if-place-few.false in
    let gone : c.deref.result.now.keys ≡ [] =
    nil_from_length c.deref.result.now.keys (c.is_empty.ensures.0 c.if-is_empty.true) in
    let left = sym gone
    ∙ ap (λ t. t.keys) c.deref.ensures ∙ c.shift_remove_index.ensures.keys
    ∙ ap (λ t. remove t.keys (c.args.place - c.len-few.result)) c.deref_mut.ensures.value in
    let taken = ap (λ ts. few ++ map string_bytes ts) left
    ∙ taken_behind few c.in-Some.table.value.keys c.len-few.result c.args.place (omega (arith, same, len))
    (omega (arith, behind))
    ∙ ap (λ m. remove (few ++ texts_of (λ table. map string_bytes table.value.keys) m) c.args.place)
    (sym c.in-Some.is)
    ∙ ap (λ names. remove names c.args.place) c.self.view_is in
    elim c.match-self-2.branch [
      | in-Some-2 w ↦ w.self-is ∙ taken
      | in-None-2 w ↦ w.self-is ∙ taken
    ]

pub returns-else-is_empty : goal.returns-else-is_empty
returns-else-is_empty c =
    let few = map string_bytes c.self.inside.few.items in
    let same = length-map c.self.inside.few.items string_bytes in
    let len = c.len-few.ensures in
    let behind = c.if-place-few.false in
    ap (λ ts. few ++ map string_bytes ts) c.shift_remove_index.ensures.keys
    ∙ ap (λ t. few ++ map string_bytes (remove t.keys (c.args.place - c.len-few.result))) c.deref_mut.ensures.value
    ∙ taken_behind few c.in-Some.table.value.keys c.len-few.result c.args.place (omega (arith, same, len))
    (omega (arith, behind))
    ∙ ap (λ m. remove (few ++ texts_of (λ table. map string_bytes table.value.keys) m) c.args.place)
    (sym c.in-Some.is)
    ∙ ap (λ names. remove names c.args.place) c.self.view_is

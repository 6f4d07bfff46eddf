use Rattle.std.proofs.Common.{◌≡◌, ◌++◌, ◌+◌, ◌∙◌, ap, arith, length, map, sym}
use Rattle.std.proofs.lemmas.List.{length-map}
use Rattle.std.specs.Prelude.{Some, option_map, position, string_bytes}
use Rattle.std.specs.Str.{bytes_eq}
use Rattle.place_index.specs.Texts.{texts_of}
use Rattle.place_index.proofs.ListLemmas.{position-before, position-behind}
use Rattle.place_index.proofs.names.Names.place.Goals as goal

pub returns-in-Some : goal.returns-in-Some
returns-in-Some c =
    let test = bytes_eq c.args.name.now in
    let few = map string_bytes c.self.inside.few.items in
    let more = texts_of (λ table. map string_bytes table.value.keys) c.self.inside.more in
    sym (position-before test few more c.in-Some.place
    (ap (λ ts. position test (map string_bytes ts)) (sym c.as_slice.ensures.value) ∙ sym c.in-Some.ensures))
    ∙ ap (position test) c.self.view_is

pub returns-in_err-later-in-Some-more : goal.returns-in_err-later-in-Some-more
returns-in_err-later-in-Some-more c =
    let test = bytes_eq c.args.name.now in
    let few = map string_bytes c.self.inside.few.items in
    let table = c.in-Some-more.table.value.keys in
    let none = ap (λ ts. position test (map string_bytes ts)) (sym c.as_slice.ensures.value) ∙ sym c.find.ensures
    ∙ c.in_default.is in
    c.from_residual.ensures
    ∙ ap (option_map (λ n. length few + n))
    (c.in_err-later-in-Some-more.ensures.place ∙ ap (λ t. position test (map string_bytes t.keys)) c.deref.ensures)
    ∙ sym (position-behind test few (map string_bytes table) none)
    ∙ ap (λ m. position test (few ++ texts_of (λ table. map string_bytes table.value.keys) m)) (sym c.in-Some-more.is)
    ∙ ap (position test) c.self.view_is

pub returns-in_ok-later-in-Some-more : goal.returns-in_ok-later-in-Some-more
returns-in_ok-later-in-Some-more c =
    let test = bytes_eq c.args.name.now in
    let few = map string_bytes c.self.inside.few.items in
    let table = c.in-Some-more.table.value.keys in
    let none = ap (λ ts. position test (map string_bytes ts)) (sym c.as_slice.ensures.value) ∙ sym c.find.ensures
    ∙ c.in_default.is in
    let same = length-map c.self.inside.few.items string_bytes in
    let len = c.len.ensures in
    let long : c.len.result ≡ length few = omega (arith, same, len) in
    ap (λ n. Some (n + c.in_ok-later-in-Some-more.later)) long
    ∙ ap (option_map (λ n. length few + n))
    (c.in_ok-later-in-Some-more.ensures.place ∙ ap (λ t. position test (map string_bytes t.keys)) c.deref.ensures)
    ∙ sym (position-behind test few (map string_bytes table) none)
    ∙ ap (λ m. position test (few ++ texts_of (λ table. map string_bytes table.value.keys) m)) (sym c.in-Some-more.is)
    ∙ ap (position test) c.self.view_is

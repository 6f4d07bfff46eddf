use Rattle.std.proofs.Common.{ℕ, List, [], ◌∷◌, map, subst, lit<}
use Rattle.std.specs.Borrow.{Bor}
use Rattle.std.proofs.lemmas.List.{map-append}
use Rattle.std.proofs.lemmas.Iterator.Splits.{YieldsList-from_str_split}
use Rattle.std.proofs.lemmas.Iterator.Consumers.{YieldsList-end}
use Rattle.cookie_text.specs.AttributeView.{attribute_view}
use Rattle.cookie_text.specs.Steps.{ReadsFurther}
use Rattle.cookie_text.proofs.ReadingLemmas.{ReadsFurther-push, ReadsFurther-pass}
use Rattle.cookie_text.proofs.cookie.Cookie.read_attributes.Goals as goal

texts : List (Bor (List ℕ)) → List (List ℕ)
texts xs = map (λ p. p.now) xs

pub loop-piece-preserved-in-Some-attribute_of : goal.loop-piece-preserved-in-Some-attribute_of
loop-piece-preserved-in-Some-attribute_of c =
    rw (map-append {A = Bor (List ℕ)} (λ p. p.now) c.loop-piece.yielded (c.in-Some.piece ∷ []))
    (ReadsFurther-push _ _ _ c.loop-piece.self c.take.new.self
    (attribute_view c.in-Some-attribute_of.attribute) c.loop-piece.invariant c.in-Some-attribute_of.ensures
    c.take.ensures.cookie c.take.ensures.raw)

pub loop-piece-preserved : goal.loop-piece-preserved
loop-piece-preserved c =
    rw (map-append {A = Bor (List ℕ)} (λ p. p.now) c.loop-piece.yielded (c.in-Some.piece ∷ []))
    (ReadsFurther-pass _ _ _ c.loop-piece.self c.loop-piece.invariant c.in_default.ensures)

pub returns : goal.returns
returns c =
    let it = c.into_iter-piece-iterator.result in
    let split = YieldsList-from_str_split {s = it} 59 c.args.rest.now (lit< tt) (cc) (cc) (cc) in
    let end = YieldsList-end split c.loop-piece.yielded _ c.loop-piece.yielded_by _ _ c.in-None.is c.next.ensures.steps
    in
    subst (λ ps. ReadsFurther ps c.args.self.now c.loop-piece.self) end.0 c.loop-piece.invariant

use Rattle.std.proofs.Common.{◌≡◌, ◌<◌, ◌⊎◌, ◌∙◌, ℕ, length, ap, refl, sym, inl, inr, Result, Ok, Err}
use Rattle.std.specs.Prelude.{IsErrOf, string_bytes}
use Rattle.jiff.specs.Words.{civil_nanos}
use Rattle.cookie.specs.KeyRing.{kept}
use Rattle.cookie.specs.declared.secure.key_ring.KeyRingError.{KeyRingError}
use Rattle.cookie.specs.declared.secure.key_ring.KeyRingError.TheVariants.{TooMany, OutOfMemory}
use Rattle.cookie_run.specs.ScriptLine as spec
use Rattle.cookie_run.specs.ScriptText.{obeyed}
use Rattle.cookie_run.proofs.Halting.{keys_halt, no_memory, open_already, open_rotate}
use Rattle.cookie_run.proofs.Standings.{rotates}
use Rattle.cookie_run.proofs.script.visit.rotate.Goals as goal

accepted : {A : Type 0} (x : A) (e : KeyRingError) → IsErrOf (Ok x) e → ⊥
accepted x e p = ok_err x e p
  where
    ok_err : {A : Type 0} (x : A) (e : KeyRingError) → Ok x ≡ Err e → ⊥
    ok_err x e p = cc

-- what was refused for its number was refused for that of the keys
crowded : {A : Type 0} (e : KeyRingError) (n m : ℕ) (X : Type 0) → e ≡ TooMany n
    → (e ≡ OutOfMemory) ⊎ (e ≡ TooMany m)
    → ((let r : Result A KeyRingError = Err e in IsErrOf r (TooMany m)) → X) → X
crowded e n m X is (inl o) f = absurd (other n (sym is ∙ o))
  where
    other : (n : ℕ) → TooMany n ≡ OutOfMemory → ⊥
    other n e = cc
crowded e n m X is (inr o) f = f (ap Err o)

pub returns-in-Ok-clause-ok : goal.returns-in-Ok-clause-ok
returns-in-Ok-clause-ok c =
    let at = c.args.at.date in
    let room : ¬ (16 < length (kept at c.args.keep_until c.args.ring.now)) = λ over.
    accepted _ _ (c.in-Ok.ensures.too_many.1 over) in
    λ list rows first start r output drawn s.
    rotates drawn list first start c.args.ring.now c.rotate.new.self rows r (civil_nanos c.args.last.now)
    c.args.visit.now output (string_bytes c.new.result) c.args.key at c.args.keep_until (civil_nanos at) s
    (sym c.if-is_some.ensures) room c.in-Ok.ensures.ok c.new.ensures.bytes refl

pub returns-in-Err-TooMany-clause-err : goal.returns-in-Err-TooMany-clause-err
returns-in-Err-TooMany-clause-err c =
    let at = c.args.at.date in
    let n = length (kept at c.args.keep_until c.args.ring.now) in
    λ list rows. keys_halt list c.args.ring.now rows (civil_nanos c.args.last.now) c.args.visit.now c.args.key at
    c.args.keep_until _ (sym c.if-is_some.ensures)
    (crowded c.in-Err-TooMany.field-0 c.in-Err-TooMany.field-0-0 n (16 < n) c.in-Err-TooMany.field-0-is
    c.in-Err-TooMany.ensures.causes c.in-Err-TooMany.ensures.too_many.0) refl

pub returns-in-Err-OutOfMemory-clause-err : goal.returns-in-Err-OutOfMemory-clause-err
returns-in-Err-OutOfMemory-clause-err c = λ list rows first start r output drawn s.
    no_memory drawn list first start c.args.ring.now rows r (civil_nanos c.args.last.now) c.args.visit.now output
    (obeyed r.acts r.ring r.last r.now (spec.Rotates c.args.key c.args.at.date c.args.keep_until)) _ s refl

pub returns-then-is_some-clause-err : goal.returns-then-is_some-clause-err
returns-then-is_some-clause-err c = λ list rows first start r output drawn s.
    open_already drawn list first start c.args.ring.now rows r (civil_nanos c.args.last.now) c.args.visit.now output
    (spec.Rotates c.args.key c.args.at.date c.args.keep_until) s (c.if-is_some.ensures)
    (open_rotate r c.args.key c.args.at.date c.args.keep_until)

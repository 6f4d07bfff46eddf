-- A domain's text after a leading dot.
use Rattle.std.proofs.Common.{◌≡◌, ◌≢◌, ℕ, List, [], ◌∷◌, eqb, false, refl, sym, ap, arith}
use Rattle.std.specs.Prelude.{Option, Some, None, unwrap_or}
use Rattle.std.specs.Borrow.{Bor}
use Rattle.std.specs.Option.{MatchOption}
use Rattle.std.proofs.lemmas.Grind.{common_steps}
use Rattle.cookie_text.specs.Record.{without_dot}
use Rattle.store_parts.specs.DomainMatch.{dot}

without_dot-other : (text : List ℕ) → ((rest : List ℕ) → text ≢ dot ∷ rest)
    → without_dot text ≡ text
without_dot-other [] none = refl
without_dot-other (b ∷ bs) none =
    let other : b ≢ dot = λ e. none bs (ap (λ x. x ∷ bs) e) in
    let apart : eqb b dot ≡ false = grind (arith, common_steps) in
    rw apart refl

pub without_dot-stripped : (text : Bor (List ℕ)) (stripped : Option (Bor (List ℕ)))
    → MatchOption stripped ((rest : List ℕ) → text.now ≢ dot ∷ rest) (λ x. text.now ≡ dot ∷ x.now)
    → (unwrap_or stripped text).now ≡ without_dot text.now
without_dot-stripped text None none = sym (without_dot-other text.now none)
without_dot-stripped text (Some x) split = sym (ap without_dot split)

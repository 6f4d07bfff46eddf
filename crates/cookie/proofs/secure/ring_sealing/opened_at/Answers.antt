use Rattle.std.proofs.Common.{◌≡◌, List, ℕ, refl, ap, sym, subst}
use Rattle.std.specs.Option.{option_map}
use Rattle.std.specs.String.{string_bytes}
use Rattle.cookie.specs.Trials.{GivesValue}
use Rattle.cookie.proofs.secure.ring_sealing.opened_at.Goals as goal

pub returns-in-Some-2 : goal.returns-in-Some-2
returns-in-Some-2 c = (
  refl,
  c.in-Some.key.now,
  sym c.in-Some.ensures,
  (c.in_ok-value.ensures (string_bytes c.in-Some-2.value)).0 (ap (option_map string_bytes) c.in-Some-2.is),
)

pub returns-in-None : goal.returns-in-None
returns-in-None c = λ key value at gives.
    let mine = c.in-Some.ensures in
    let same : key ≡ c.in-Some.key.now = cc (mine, at) in
    let yes = (c.in_ok-value.ensures value).1
    (subst (λ (k : List ℕ). GivesValue c.args.name.now c.args.text.now k value) same gives) in
    let none = ap (option_map string_bytes) c.in-None.is in
    cc (yes, none)

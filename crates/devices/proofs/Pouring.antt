-- What calls of a writer write, one after another.
use Rattle.std.proofs.Common.{◌≡◌, ℕ, ◌+◌, ◌-◌, ◌<◌, ◌%◌, List, [], ◌∷◌, ◌++◌, length, take, drop, Option, Result, Ok}
use Rattle.std.proofs.Common.{Err, sym, ap, ◌∙◌, subst, append_assoc, take-append-drop, arith}
use Rattle.std.specs.Prelude.{OnOk, decimal, if◌then◌else◌, ◌==◌, ◌&&◌, nat_lt}
use Rattle.std.proofs.lemmas.Bool.Decides.{nat_tests}
use Rattle.std.proofs.lemmas.List.{take_rest}
use Rattle.std.proofs.lemmas.Fmt.{decimal_digit}
use Rattle.std.specs.Io.KnownBytes.{Appends}
use Rattle.std.proofs.KnownBytes.{Appends-trans}
use Rattle.devices.specs.Device.{one_more}

pub moves_front : (all done rest : List ℕ) (n : ℕ) → all ≡ done ++ rest
    → all ≡ (done ++ take n rest) ++ take (length rest - n) (drop n rest)
moves_front all done rest n e =
    e ∙ ap (λ l. done ++ l) (sym (take-append-drop n rest)) ∙ sym (append_assoc done (take n rest) (drop n rest))
    ∙ ap (λ l. (done ++ take n rest) ++ l) (sym (take_rest rest n))

-- a write that takes some bytes is no failure
pub wrote : (n offered old new : ℕ) → 0 < n → new ≡ (if n == 0 && nat_lt 0 offered then one_more old else old)
    → new ≡ old
wrote n offered old new some e = grind (arith, nat_tests)

pub appends_both : {A E : Type 0} (r : Result A E) (a b c : Option (List ℕ)) (xs ys all : List ℕ) → Appends a b xs
    → OnOk r (Appends b c ys) → all ≡ xs ++ ys → OnOk r (Appends a c all)
appends_both (Ok x) a b c xs ys all p q e = subst (Appends a c) (sym e) (Appends-trans a b c xs ys p q)
appends_both (Err x) a b c xs ys all p q e = tt

pub last_digit : (n : ℕ) → n < 10 → (48 + n % 10) ∷ [] ≡ decimal n
last_digit n small = ap (λ d. (48 + d) ∷ []) (let same : n % 10 ≡ n = omega arith in same) ∙ sym (decimal_digit n small)

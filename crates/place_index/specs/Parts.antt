-- The parts of a vector that the rows of a path and those of a domain are.
use Rattle.std.specs.Prelude.{ℕ, List, refl}
use Rattle.std.specs.Coded.{Coded, code_by, coded×, coded_list, coded_ℕ}

-- a path's part: where it begins, how many rows it has, and their names
pub record Part : Type 0 where
  pub start : ℕ
  pub len : ℕ
  pub names : List (List ℕ)

-- its code, by which it can be kept
abbrev pub part_code : Coded Part
part_code =
    code_by (ℕ × (ℕ × List (List ℕ))) (coded× coded_ℕ (coded× coded_ℕ (coded_list (coded_list coded_ℕ))))
    (λ p. (p.start, (p.len, p.names))) (λ t. record { start = t.0; len = t.1.0; names = t.1.1 }) (λ _. refl)

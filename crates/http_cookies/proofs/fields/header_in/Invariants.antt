use Rattle.std.proofs.Common.{◌≡◌, ◌++◌, ◌∷◌}
use Rattle.std.specs.List.{flat_map}
use Rattle.http_cookies.specs.Fields as spec
use Rattle.http_cookies.proofs.fields.header_in.Given as goal

abbrev pub invariant-loop-value : goal.invariant-loop-value
invariant-loop-value l =
    l.header.items ++ flat_map (λ next. 59 ∷ 32 ∷ next.bytes) l.value-iterator ≡ spec.header_in l.fn.fields

use Rattle.std.proofs.Common.{◌≡◌, ◌++◌, map}
use Rattle.http_cookies.specs.Fields as spec
use Rattle.http_cookies.proofs.fields.lines_in.Given as goal

abbrev pub invariant-loop-value : goal.invariant-loop-value
invariant-loop-value l =
    map (λ line. line.now) l.lines.items ++ map (λ v. v.bytes) l.value-iterator ≡ spec.lines_in l.fn.fields

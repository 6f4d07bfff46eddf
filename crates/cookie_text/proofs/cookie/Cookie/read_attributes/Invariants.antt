use Rattle.std.proofs.Common.{map}
use Rattle.cookie_text.specs.Steps.{ReadsFurther}
use Rattle.cookie_text.proofs.cookie.Cookie.read_attributes.Given as goal

abbrev pub invariant-loop-piece : goal.invariant-loop-piece
invariant-loop-piece l = ReadsFurther (map (λ p. p.now) l.yielded) l.fn.self l.self

use Rattle.std.proofs.Common.{◌∙◌, ap, sym, subst}
use Rattle.std.specs.Prelude.{option_map}
use Rattle.std.specs.FinMap as finmap
use Rattle.std.specs.Ordering.{nat_cmp}
use Rattle.std.specs.Cmp.Lexicographic.{slice_cmp}
use Rattle.cookie.specs.Jar.{cookie_of, AreUnderTheirNames}
use Rattle.cookie.proofs.JarLemmas.{names_empty}
use Rattle.cookie.proofs.jar.CookieJar.reset_delta.Goals as goal

pub invariant_of-self : goal.invariant_of-self
invariant_of-self c = (
  c.self.invariant.0,
  subst (AreUnderTheirNames cookie_of) (sym c.new.ensures)
      (names_empty cookie_of),
)

pub returns-clause-empty : goal.returns-clause-empty
returns-clause-empty c = λ name.
    ap (λ m. option_map cookie_of (finmap.get m name)) c.new.ensures
    ∙ ap (option_map cookie_of) (finmap.get-empty (slice_cmp nat_cmp) name)

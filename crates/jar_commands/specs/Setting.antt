-- What becomes of a line that is set, as if a URL had answered it (this repository's own).
use Rattle.std.specs.Prelude.{◌≡◌, ◌==◌, ◌||◌, ℕ, ℤ, Bool, List, [], ◌∷◌}
use Rattle.std.specs.Bool.{MatchBool}
use Rattle.std.specs.List.{list_any}
use Rattle.publicsuffix.specs.Rules.{Rule}
use Rattle.url.specs.Parts.{Parts}
use Rattle.cookie_store.specs.Rows.{Row}
use Rattle.cookie_jar.specs.declared.form.Form.{Form}
use Rattle.cookie_jar.specs.declared.taking.End.{End}
use Rattle.cookie_jar.specs.declared.taking.End.TheVariants.{Control}
use Rattle.user_agent.specs.declared.rules.Rules.{Rules}
use Rattle.jar_commands.specs.Started.{TakesFrom}
use Rattle.jar_commands.specs.declared.plan.Start.TheVariants as start

-- A line feed ends a line of a head, and neither a carriage return nor a zero byte stands in one (RFC 9110, section
-- 5.5).
abbrev pub breaks_head : List ℕ → Bool
breaks_head line = list_any (λ b. b == 10 || (b == 13 || b == 0)) line

-- The line has one end: where no head can have it, it is refused for its control character, and nothing changes; any
-- other is taken as the one line of the URL's answer to the user.
abbrev pub TakesSet : Form → Rules → List Rule → List Row → Parts → ℤ → List ℕ → List End → List Row → Type 0
TakesSet form rules list rows url now line ends new =
    MatchBool (breaks_head line) ((ends ≡ Control ∷ []) × (new ≡ rows))
    (TakesFrom start.User form rules list rows url now (line ∷ []) ends new)

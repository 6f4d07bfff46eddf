-- Requests, by what starts them, as a user agent tells them apart (this repository's own).
use Rattle.std.specs.Prelude.{◌≡◌, ℕ, ℤ, Bool, true, false, List, None, IsSomeAnd}
use Rattle.publicsuffix.specs.Rules.{Rule}
use Rattle.url.specs.Parts.{Parts}
use Rattle.cookie_store.specs.Rows.{Row}
use Rattle.cookie_jar.specs.Taking.{TakesFor}
use Rattle.cookie_jar.specs.declared.form.Form.{Form}
use Rattle.cookie_jar.specs.declared.taking.End.{End}
use Rattle.user_agent.specs.declared.rules.Rules.{Rules}
use Rattle.user_agent.specs.declared.sites.Initiator.{Initiator}
use Rattle.jar_commands.specs.declared.plan.Start.{Start}
use Rattle.jar_commands.specs.declared.plan.Start.TheVariants as start

-- the page of this URL starts the request, by a safe method; it navigates the top level or doesn't
abbrev pub IsStartedBy : Parts → Bool → Initiator → Type 0
IsStartedBy page navigates initiator =
    IsSomeAnd initiator.page (λ url. url.now ≡ page) × (initiator.is_navigation ≡ navigates)
    × (initiator.is_safe ≡ true)

-- what a user agent is told of that: no page, where the user does
abbrev pub IsStarted : Start → Initiator → Type 0
IsStarted start.User initiator = initiator.page ≡ None
IsStarted (start.Page page) initiator = IsStartedBy page false initiator
IsStarted (start.Navigation page) initiator = IsStartedBy page true initiator

-- what becomes of the lines of an answer from the URL
abbrev pub TakesFrom : Start → Form → Rules → List Rule → List Row → Parts → ℤ → List (List ℕ) → List End
    → List Row → Type 0
TakesFrom start form rules list rows url now lines ends new =
    (initiator : Initiator) × IsStarted start initiator
    × TakesFor form rules list rows url initiator now lines ends new

-- The lines of a session behind the rules of a user agent: none is refused, and none changed.
use Rattle.std.specs.Prelude.{◌≡◌, ◌+◌, ◌≤◌, ◌+ℤ◌, ◌≤ℤ◌, ℕ, ℤ, pos, List, length, map, Some, IfSome, IsTrue}
use Rattle.jiff.specs.Words.{civil_nanos}
use Rattle.publicsuffix.specs.Rules.{Rule}
use Rattle.url.specs.Parts.{Parts}
use Rattle.cookie.specs.Jar.{Jar, delta}
use Rattle.cookie_text.specs.Printing.{encoded, escaped, whole_seconds}
use Rattle.cookie_text.specs.Record.{Record, Seen, moment_of}
use Rattle.cookie_store.specs.Rows.{Row}
use Rattle.cookie_client.specs.Accept.{AcceptsAll}
use Rattle.cookie_client.specs.Jar.{ClosesWith, IsSent}
use Rattle.cookie_client.specs.declared.outcome.LineEnd.{LineEnd}
use Rattle.store_parts.specs.Expiry.{seconds}
use Rattle.user_agent.specs.Agent.{IsHandedOn, TakesLines}
use Rattle.user_agent.specs.CutLives.{longest}
use Rattle.user_agent.specs.Refusals.{CameByHttps, IsLetIn, IsStoppedByControl}
use Rattle.user_agent.specs.declared.rules.Outcome.{Outcome}
use Rattle.user_agent.specs.declared.rules.Outcome.TheVariants.{Taken}
use Rattle.user_agent.specs.declared.rules.Rules.{Rules}

-- name and value, as the line has them, which is escaped, have at most 4,096 bytes together
abbrev pub IsShortPair : Record → Type 0
IsShortPair cookie = length (escaped cookie.name) + length (escaped cookie.value) ≤ 4096

-- it lives 400 days at most from now on, by its Max-Age in whole seconds, and by its expiry
pub record LivesShortly (now : ℤ) (cookie : Record) : Type 0 where
  pub age : IfSome cookie.max_age (λ nanos. whole_seconds nanos ≤ℤ pos longest)
  pub end : IfSome (moment_of cookie.expires) (λ end. civil_nanos end ≤ℤ (now +ℤ seconds longest))

-- the cookie is within the bounds of the rules that are on
pub record IsWithin (rules : Rules) (now : ℤ) (cookie : Record) : Type 0 where
  pub pair : IsTrue rules.too_long → IsShortPair cookie
  pub life : IsTrue rules.long_lives → LivesShortly now cookie

-- the line of a session's cookie within the bounds, from an https URL: no rule refuses it, whatever rows there are, and
-- the client gets it as it stands
pub record Passes (rules : Rules) (rows : List Row) (url : Parts) (now : ℤ) (line : List ℕ) : Type 0 where
  pub free : ¬ (IsStoppedByControl rules line)
  pub same : (handed : List ℕ) → IsHandedOn rules now line handed → handed ≡ line
  pub let_in : IsLetIn rules rows url now line

abbrev pub SentLinesPass : Type 0
SentLinesPass =
    (rules : Rules) (rows : List Row) (url : Parts) (now : ℤ) (cookie : Record) → IsSent cookie → CameByHttps url
    → IsWithin rules now cookie → Passes rules rows url now (encoded cookie)

-- so the lines that a session closes with, each cookie of its delta within the bounds, are taken as by the client
abbrev pub SessionsAreTaken : Type 0
SessionsAreTaken =
    (rules : Rules) (list : List Rule) (rows : List Row) (url : Parts) (now : ℤ) (jar : Jar) (lines : List (List ℕ))
    (outcomes : List Outcome) (new : List Row) → ClosesWith jar lines → CameByHttps url
    → ((name : List ℕ) (s : Seen) → delta jar name ≡ Some s → IsWithin rules now s.cookie)
    → TakesLines rules list rows url now lines outcomes new
    → (ends : List LineEnd) × (outcomes ≡ map Taken ends) × AcceptsAll list rows url now lines ends new

-- What a request is sent under the name of a Secure row, where Secure rows win (own: docs/DEFINITIONS.md).
use Rattle.std.specs.Prelude.{◌≡◌, ◌⊎◌, ℕ, ℤ, Bool, List, [], ◌∷◌, map, IsTrue, Ok}
use Rattle.std.specs.List.{AllByRecursion, list_any}
use Rattle.publicsuffix.specs.Rules.{Rule}
use Rattle.percent_encoding.specs.Percent.{percent_decode}
use Rattle.url.specs.Parts.{Parts}
use Rattle.cookie_text.specs.Reading.{ReadsPlain}
use Rattle.cookie_text.specs.Record.{Record, Seen, unsliced}
use Rattle.store_parts.specs.Schemes.{IsSecure}
use Rattle.cookie_store.specs.Given.{pair_of}
use Rattle.cookie_store.specs.Longest.{AreGivenLongest}
use Rattle.cookie_store.specs.Making.{IsMade}
use Rattle.cookie_store.specs.Rows.{Key, Row, key_of}
use Rattle.cookie_client.specs.Header.{header_of}
use Rattle.cookie_client.specs.Keeping.{Keeps}
use Rattle.cookie_client.specs.Reading.{AreCookiesBy}
use Rattle.user_agent.specs.Agent.{IsHandedOn, TakesLines}
use Rattle.user_agent.specs.Headers.{IsHeaderBehind}
use Rattle.user_agent.specs.SecureWins.{decoded_name, is_secure_of, winners}
use Rattle.user_agent.specs.declared.rules.Outcome.{Outcome}
use Rattle.user_agent.specs.declared.rules.Rules.{Rules}

-- ---- what comes to a user agent

-- an answer: its URL, its moment and its lines
pub record Answer : Type 0 where
  pub url : Parts
  pub at : ℤ
  pub lines : List (List ℕ)

-- an answer; or the rows are saved at a moment, and loaded again at another
pub data Step : Type 0 where
  Answers : (answer : Answer) → Step
  Restarts : (saving loading : ℤ) → Step

-- the rows after a step
abbrev pub TakesStep : Rules → List Rule → List Row → Step → List Row → Type 0
TakesStep rules list rows (Answers answer) new =
    (outcomes : List Outcome) × TakesLines rules list rows answer.url answer.at answer.lines outcomes new
TakesStep rules list rows (Restarts saving loading) new = Keeps rows saving loading new

-- the rows after the steps, one after another
abbrev pub TakesSteps : Rules → List Rule → List Row → List Step → List Row → Type 0
TakesSteps rules list rows [] new = new ≡ rows
TakesSteps rules list rows (step ∷ steps) new =
    (mid : List Row) × TakesStep rules list rows step mid × TakesSteps rules list mid steps new

-- ---- what was set over a secure URL

-- one of the list is so
abbrev pub IsAny : {A : Type 0} → (A → Type 0) → List A → Type 0
IsAny Is [] = ⊥
IsAny Is (x ∷ xs) = Is x ⊎ IsAny Is xs

-- the line, as the client gets it, reads as a cookie that becomes a row of this key and value, if it is stored
pub record Sets (rules : Rules) (url : Parts) (now : ℤ) (key : Key) (value line : List ℕ) : Type 0 where
  pub handed : List ℕ
  pub is_handed : IsHandedOn rules now line handed
  pub seen : Seen
  pub reads : ReadsPlain handed (Ok seen)
  pub made : Row
  pub is_made : IsMade (unsliced seen.cookie) url now made
  pub keyed : key_of made ≡ key
  pub valued : made.raw.cookie.value ≡ value

-- it is an answer from a secure URL, and one of its lines does
abbrev pub SetsSecurely : Rules → Key → List ℕ → Step → Type 0
SetsSecurely rules key value (Answers answer) =
    IsSecure answer.url × IsAny (Sets rules answer.url answer.at key value) answer.lines
SetsSecurely rules key value (Restarts saving loading) = ⊥

-- one of the steps set the row's value under its domain, its path and its name
abbrev pub WasSetSecurely : Rules → List Step → Row → Type 0
WasSetSecurely rules steps row = IsAny (SetsSecurely rules (key_of row) row.raw.cookie.value) steps

-- ---- what a request is sent

-- Where the rules on Secure cookies from http and on Secure rows are on, whatever answers came, with restarts between:
-- the header of each request has the pairs of the rows that win among those that it is given; and where one of these is
-- Secure and has the decoded name of such a row, that row's value was set under its domain, path and name by an answer
-- from a secure URL.
abbrev pub SecureNamesAreSetSecurely : Type 0
SecureNamesAreSetSecurely =
    (rules : Rules) (list : List Rule) (steps : List Step) (rows : List Row) → IsTrue rules.secure_from_http
    → IsTrue rules.secure_wins → TakesSteps rules list [] steps rows
    → (to : Parts) (now : ℤ) (header : List ℕ) → IsHeaderBehind rules rows to now header
    → (given : List Row) × AreGivenLongest rows to now given × (header ≡ header_of (map pair_of (winners given)))
    × AllByRecursion (λ row. IsTrue (list_any (is_secure_of (decoded_name row)) given)
    → WasSetSecurely rules steps row) (winners given)

-- ---- what a session reads

-- the cookie is of a row that the request is given and that was set securely: its name and its value are that row's,
-- decoded
pub record WasReadSecurely (rules : Rules) (steps : List Step) (given : List Row) (cookie : Record) : Type 0 where
  pub row : Row
  pub given_row : IsAny (λ other. row ≡ other) given
  pub was : WasSetSecurely rules steps row
  pub named : cookie.name ≡ decoded_name row
  pub valued : cookie.value ≡ percent_decode row.raw.cookie.value

-- So of the cookies of that header, which a session on it reads by either reading, each is that has the name of a
-- Secure row which the request is given.
abbrev pub SecureNamesAreReadSecurely : Type 0
SecureNamesAreReadSecurely =
    (rules : Rules) (list : List Rule) (steps : List Step) (rows : List Row) → IsTrue rules.secure_from_http
    → IsTrue rules.secure_wins → TakesSteps rules list [] steps rows
    → (to : Parts) (now : ℤ) (header : List ℕ) → IsHeaderBehind rules rows to now header
    → (shown : Bool) (cookies : List Record) → AreCookiesBy shown header cookies
    → (given : List Row) × AreGivenLongest rows to now given
    × AllByRecursion (λ cookie. IsTrue (list_any (is_secure_of cookie.name) given)
    → WasReadSecurely rules steps given cookie) cookies

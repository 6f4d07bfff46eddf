-- The header of a request behind rules, of which two leave rows out of it (own: docs/DEFINITIONS.md).
use Rattle.std.specs.Prelude.{◌≡◌, ◌||◌, ◌↔◌, ℕ, ℤ, Bool, true, false, not, List, filter, map}
use Rattle.std.specs.List.{list_any}
use Rattle.url.specs.Parts.{Parts, IsValid}
use Rattle.cookie_store.specs.Given.{pair_of}
use Rattle.cookie_store.specs.Longest.{AreGivenLongest}
use Rattle.cookie_store.specs.Rows.{Row}
use Rattle.cookie_client.specs.Header.{IsHeader, header_of}
use Rattle.user_agent.specs.Refusals.{is_control}
use Rattle.user_agent.specs.SecureWins.{winners}
use Rattle.user_agent.specs.declared.rules.Rules.{Rules}

-- a control character stands in the row's name or its value
abbrev pub has_control : Row → Bool
has_control row = list_any is_control row.raw.cookie.name || list_any is_control row.raw.cookie.value

abbrev pub is_free : Row → Bool
is_free row = not (has_control row)

-- the rows without one, in their order
abbrev pub free_rows : List Row → List Row
free_rows rows = filter is_free rows

-- what is left of the rows where the rule is on, else all
abbrev pub left_if : Bool → (List Row → List Row) → List Row → List Row
left_if true left rows = left rows
left_if false left rows = rows

-- the rows that a header shows of those that its request is given: the ones that win, where that rule is on, and of
-- these the ones without a control character, where that one is
abbrev pub shown : Rules → List Row → List Row
shown rules given = left_if rules.control free_rows (left_if rules.secure_wins winners given)

-- the header of a request to the URL at the moment: the pairs of the rows that it shows, longer paths first; the URL is
-- one that was parsed
pub record IsHeaderBehind (rules : Rules) (rows : List Row) (url : Parts) (now : ℤ) (header : List ℕ) : Type 0 where
  pub valid : IsValid url
  pub given : List Row
  pub are_given : AreGivenLongest rows url now given
  pub printed : header ≡ header_of (map pair_of (shown rules given))

-- where neither rule is on, the header is a client's
abbrev pub OtherHeadersAreTheClients : Type 0
OtherHeadersAreTheClients =
    (rules : Rules) (rows : List Row) (url : Parts) (now : ℤ) (header : List ℕ) → rules.secure_wins ≡ false
    → rules.control ≡ false → IsHeaderBehind rules rows url now header ↔ IsHeader rows url now header

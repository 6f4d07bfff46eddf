-- Secure rows and what comes from a URL that isn't secure (the draft that follows RFC 6265, 5.7).
use Rattle.std.specs.Prelude.{◌≡◌, ◌&&◌, ℕ, ℤ, Bool, List, filter, nat_le, IsTrue}
use Rattle.std.specs.List.{AllByRecursion, find}
use Rattle.std.specs.Str.{bytes_eq}
use Rattle.percent_encoding.specs.Percent.{percent_decode}
use Rattle.publicsuffix.specs.Rules.{Rule}
use Rattle.url.specs.Parts.{Parts, IsValid}
use Rattle.cookie_text.specs.Printing.{is_set}
use Rattle.store_parts.specs.Schemes.{IsSecure}
use Rattle.cookie_store.specs.Longest.{AreGivenLongest, path_length}
use Rattle.cookie_store.specs.Rows.{Row, is_live}
use Rattle.user_agent.specs.Agent.{TakesLines}
use Rattle.user_agent.specs.declared.rules.Outcome.{Outcome}
use Rattle.user_agent.specs.declared.rules.Rules.{Rules}

-- the row is Secure and live
abbrev pub is_protected : ℤ → Row → Bool
is_protected now row = is_set row.raw.cookie.secure && is_live now row

-- where the rules on Secure cookies from http and on overlays are on, whatever lines come from a URL that isn't secure:
-- the protected rows stay as they are, in their order, and none is added
abbrev pub ProtectedRowsStay : Type 0
ProtectedRowsStay =
    (rules : Rules) (list : List Rule) (rows : List Row) (url : Parts) (now : ℤ) (lines : List (List ℕ))
    (outcomes : List Outcome) (new : List Row) → IsTrue rules.secure_from_http → IsTrue rules.secure_overlay
    → ¬ (IsSecure url) → TakesLines rules list rows url now lines outcomes new
    → filter (is_protected now) new ≡ filter (is_protected now) rows

-- ---- a protected row in the header of a request

-- the second row's name is the first one's, both decoded
abbrev pub has_name_of : Row → Row → Bool
has_name_of row other = bytes_eq (percent_decode row.raw.cookie.name) (percent_decode other.raw.cookie.name)

-- and its path is no shorter: where longer paths come first, it may stand before the first row or beside it
abbrev pub is_rival_of : Row → Row → Bool
is_rival_of row other = has_name_of row other && nat_le (path_length row) (path_length other)

-- The row stands in the second list as in the first: among the same rivals, in their order, and behind the same first
-- row of its name. Where its path is one byte, as `/` is, all rows of its name are the same.
pub record StandsAsBefore (row : Row) (before after : List Row) : Type 0 where
  pub rivals : filter (is_rival_of row) after ≡ filter (is_rival_of row) before
  pub first : find (has_name_of row) after ≡ find (has_name_of row) before
  pub root : path_length row ≡ 1 → filter (has_name_of row) after ≡ filter (has_name_of row) before

-- Where both rules are on, whatever lines come from a URL that isn't secure: each protected row that a request is given
-- stands as before among the rows that this request is given, longer paths first. Its URL is any that was parsed.
abbrev pub ProtectedRowsStand : Type 0
ProtectedRowsStand =
    (rules : Rules) (list : List Rule) (rows : List Row) (url : Parts) (now : ℤ) (lines : List (List ℕ))
    (outcomes : List Outcome) (new : List Row) → IsTrue rules.secure_from_http → IsTrue rules.secure_overlay
    → ¬ (IsSecure url) → TakesLines rules list rows url now lines outcomes new
    → (to : Parts) (at : ℤ) (before after : List Row) → IsValid to → AreGivenLongest rows to at before
    → AreGivenLongest new to at after
    → AllByRecursion (λ row. IsTrue (is_protected now row) → StandsAsBefore row before after) before

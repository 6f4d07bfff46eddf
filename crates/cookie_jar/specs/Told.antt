-- The line of a header, and the lines that aren't stored (this repository's own).
use Rattle.std.specs.Prelude.{◌==◌, ◌++◌, ℕ, Bool, true, false, List, [], ◌∷◌, codes, length, if◌then◌else◌}
use Rattle.cookie_client.specs.declared.outcome.LineEnd.TheVariants.{Stored}
use Rattle.user_agent.specs.declared.rules.Outcome.TheVariants as outcome
use Rattle.cookie_jar.specs.declared.taking.End.{End}
use Rattle.cookie_jar.specs.declared.taking.End.TheVariants.{Line}

-- the header's field and its end, nothing where no cookie goes with the request
abbrev pub header_line : List ℕ → List ℕ
header_line header = if length header == 0 then [] else codes "Cookie: " ++ (header ++ 10 ∷ [])

-- the line wasn't stored
abbrev pub is_refused : End → Bool
is_refused (Line (outcome.Taken (Stored action)) changes) = false
is_refused other = true

-- The version of the programs and libraries, and the line that tells it (own: docs/DEFINITIONS.md).
use Rattle.std.specs.Prelude.{ℕ, List, codes, ◌++◌}

abbrev pub version : List ℕ
version = codes "0.9.0"

-- what a program of this name prints: its name, a space, the version and a line feed
abbrev pub version_line : List ℕ → List ℕ
version_line name = ((name ++ codes " ") ++ version) ++ codes "\n"

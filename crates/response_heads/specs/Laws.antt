-- What holds of every text (this repository's own).
use Rattle.std.specs.Prelude.{◌≡◌, ℕ, List, Option}
use Rattle.response_heads.specs.Heads.{GivesHeads, HeadText}
use Rattle.response_heads.specs.declared.error.StopFault.{StopFault}

-- it gives one list of heads, and reading stops at one line, or at none
abbrev pub OneListOfHeads : Type 0
OneListOfHeads =
    (text : List ℕ) (heads others : List HeadText) (stop other : Option (ℕ × StopFault)) → GivesHeads text heads stop
    → GivesHeads text others other → (heads ≡ others) × (stop ≡ other)

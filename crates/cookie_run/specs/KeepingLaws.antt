-- What comes back of the rows of a play where they are saved and loaded again.
use Rattle.std.specs.Prelude.{ℕ, Bool, List, []}
use Rattle.std.specs.List.{AllByRecursion}
use Rattle.publicsuffix.specs.Rules.{Rule}
use Rattle.cookie_store.specs.Rows.{Row}
use Rattle.cookie_client.specs.Steps.{Act}
use Rattle.cookie_run.specs.Acts.{moments_of}
use Rattle.cookie_client.specs.Keeping.{ComesBack}
use Rattle.cookie_run.specs.Moments.{AllFollow, the_beginning}
use Rattle.cookie_run.specs.Play.{Plays}
use Rattle.cookie_client.specs.declared.command.Reading.{Reading}

-- every row that a play left comes back
abbrev pub RowsComeBack : List ℕ → Type 0
RowsComeBack key =
    (shown : Bool) (list : List Rule) (acts : List Act) (told : List (List Reading)) (rows : List Row)
    → AllFollow the_beginning (moments_of acts) → Plays shown list key [] acts told rows → AllByRecursion ComesBack rows

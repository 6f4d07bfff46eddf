-- What holds of a written text (this repository's own).
use Rattle.std.specs.Prelude.{List, map}
use Rattle.cookie_text.specs.ReadingBack.{Pairwise}
use Rattle.cookie_store.specs.Rows.{Row}
use Rattle.cookies_txt.specs.Layout.{cookies_txt}
use Rattle.cookies_txt.specs.Reading.{GivesRows, SaysLines}
use Rattle.cookies_txt.specs.Writing.{IsThroughCookiesTxt, held, line_of_row}

-- the text that is written of rows says those that lines can hold
abbrev pub WrittenRowsAreSaid : Type 0
WrittenRowsAreSaid =
    (rows : List Row) → SaysLines (cookies_txt (map line_of_row (held rows))) (map line_of_row (held rows))

-- whatever rows it is read as, they are these
abbrev pub WrittenRowsComeBack : Type 0
WrittenRowsComeBack =
    (rows back : List Row) → GivesRows (cookies_txt (map line_of_row (held rows))) back
    → Pairwise IsThroughCookiesTxt (held rows) back

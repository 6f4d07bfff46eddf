-- The text of a jar's rows in a form, and why there is none (this repository's own).
use Rattle.std.specs.Prelude.{◌≡◌, ◌≢◌, ◌⊎◌, ℕ, List, Bool, false, map}
use Rattle.std.specs.List.{AllByRecursion}
use Rattle.saved_text.specs.Json.{list_text}
use Rattle.saved_text.specs.RonLayout.{ron_layout}
use Rattle.cookie_store.specs.Rows.{Row}
use Rattle.cookie_store.specs.SavedLaws.{IsOfBytes}
use Rattle.cookie_store.specs.SavedTexts.{IsAnyBeforeYears, Saves}
use Rattle.cookies_txt.specs.Layout.{cookies_txt}
use Rattle.cookies_txt.specs.Writing.{IsFirstRefused, held, line_of_row}
use Rattle.cookies_txt.specs.declared.error.RowFault.{RowFault}
use Rattle.cookie_jar.specs.declared.error.SaveError.{SaveError}
use Rattle.cookie_jar.specs.declared.error.SaveError.TheVariants.{OutOfMemory}
use Rattle.cookie_jar.specs.declared.form.Form.{Form}
use Rattle.cookie_jar.specs.declared.form.Form.TheVariants.{Ron, Json, Txt}

-- the text of all these rows
abbrev pub IsText : Form → List Row → List ℕ → Type 0
IsText Ron rows text = Saves ron_layout rows text
IsText Json rows text = Saves list_text rows text
IsText Txt rows text = text ≡ cookies_txt (map line_of_row rows)

-- the rows that a text of the form can hold: a line of `cookies.txt` doesn't hold every row
abbrev pub fitting : Form → List Row → List Row
fitting Txt rows = held rows
fitting other rows = rows

-- the texts of the rows are bytes, as RON asks of what it shows
abbrev pub AreBytesIn : Form → List Row → Type 0
AreBytesIn Ron rows = AllByRecursion IsOfBytes rows
AreBytesIn other rows = Unit {0}

-- the rows have no text: one ends in a year below 0, or a line can't hold one, where such aren't passed over
abbrev pub HaveNoText : Form → Bool → List Row → Type 0
HaveNoText Txt passing_over rows =
    (passing_over ≡ false) × (number : ℕ) × (fault : RowFault) × IsFirstRefused rows number fault
HaveNoText other passing_over rows = IsAnyBeforeYears rows

-- so they aren't saved, or for want of memory
abbrev pub IsUnsaved : Form → Bool → List Row → SaveError → Type 0
IsUnsaved form passing_over rows e = (e ≡ OutOfMemory) ⊎ ((e ≢ OutOfMemory) × HaveNoText form passing_over rows)

-- What a jar's text is read as again, and what a jar is without rules (this repository's own).
use Rattle.std.specs.Prelude.{◌≡◌, ℕ, ℤ, Bool, List}
use Rattle.std.specs.Str.{IsUtf8}
use Rattle.publicsuffix.specs.Rules.{Rule}
use Rattle.url.specs.Parts.{Parts}
use Rattle.cookie_text.specs.ReadingBack.{Pairwise}
use Rattle.cookie_store.specs.Given.{ArePicked}
use Rattle.cookie_store.specs.Grouped.{AreGrouped}
use Rattle.cookie_store.specs.Rows.{Row, Store, live}
use Rattle.cookies_txt.specs.Writing.{IsThroughCookiesTxt}
use Rattle.cookie_client.specs.Accept.{Accepts}
use Rattle.cookie_client.specs.KeptKeys.{IsRowKept}
use Rattle.cookie_client.specs.declared.outcome.LineEnd.{LineEnd}
use Rattle.user_agent.specs.Refusals.{no_rules}
use Rattle.user_agent.specs.declared.changes.Changes.{Changes}
use Rattle.user_agent.specs.declared.rules.Outcome.{Outcome}
use Rattle.user_agent.specs.declared.rules.Outcome.TheVariants.{Taken}
use Rattle.cookie_jar.specs.Keeping.{AreKept, IsKept}
use Rattle.cookie_jar.specs.Reading.{IsUnread, Reads}
use Rattle.cookie_jar.specs.Saving.{AreBytesIn, IsText, fitting}
use Rattle.cookie_jar.specs.Taking.{TakesLine}
use Rattle.cookie_jar.specs.declared.error.ReadError.{ReadError}
use Rattle.cookie_jar.specs.declared.error.ReadError.TheVariants.{OutOfMemory}
use Rattle.cookie_jar.specs.declared.form.Form.{Form}
use Rattle.cookie_jar.specs.declared.form.Form.TheVariants.{Txt}
use Rattle.cookie_jar.specs.declared.taking.End.TheVariants.{Line}

-- the second row is the first as the form keeps it: in RON and JSON its domain, path, name and value, and its death
-- without a fraction of a second; in `cookies.txt` what a line says of it
abbrev pub IsSameIn : Form → Row → Row → Type 0
IsSameIn Txt row other = IsThroughCookiesTxt row other
IsSameIn list row other = IsRowKept row other

-- Rows that a jar keeps, saved at a moment in a form that holds them and loaded of that text at another: each as the
-- form keeps it, in their order, without those that are dead then, and no other; and a jar keeps them all.
abbrev pub SavedRowsAreLoaded : Type 0
SavedRowsAreLoaded =
    (form : Form) (rows : List Row) (saving loading : ℤ) (text : List ℕ) (store : Store) (left : List Row)
    → AreKept rows → AreGrouped rows → AreBytesIn form (live saving rows)
    → fitting form (live saving rows) ≡ live saving rows → IsText form (live saving rows) text
    → Reads form loading text store → ArePicked IsKept store.rows left
    → (read : List Row) × Pairwise (IsSameIn form) (live saving rows) read × (left ≡ live loading read)

-- and that text is refused for want of memory alone
abbrev pub SavedTextsAreRead : Type 0
SavedTextsAreRead =
    (form : Form) (rows : List Row) (saving : ℤ) (text : List ℕ) (e : ReadError) → AreKept rows
    → AreBytesIn form (live saving rows) → fitting form (live saving rows) ≡ live saving rows → IsUtf8 text
    → IsText form (live saving rows) text → IsUnread form text e → e ≡ OutOfMemory

-- With no rule on, a line that the jar itself doesn't refuse is taken exactly as by a client.
abbrev pub WithoutRules : Type 0
WithoutRules =
    (form : Form) (across : Bool) (list : List Rule) (rows : List Row) (url : Parts) (now : ℤ) (line : List ℕ)
    (outcome : Outcome) (changes : Changes) (new : List Row)
    → TakesLine form no_rules across list rows url now line (Line outcome changes) new
    → (end : LineEnd) × (outcome ≡ Taken end) × Accepts list rows url now line end new

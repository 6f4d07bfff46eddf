-- What becomes of the `Set-Cookie` lines of an answer in a jar (RFC 6265, 5.2 and 5.3; the draft that follows it, 5.6).
use Rattle.std.specs.Prelude.{◌≡◌, ◌==◌, ◌⊎◌, ◌+◌, ◌<◌, ◌&&◌, ℕ, ℤ, Bool, true, false, List, [], ◌∷◌}
use Rattle.std.specs.Prelude.{length, take, get_or}
use Rattle.std.specs.List.{list_any}
use Rattle.publicsuffix.specs.Rules.{Rule}
use Rattle.url.specs.Parts.{Parts}
use Rattle.cookie_store.specs.Rows.{Row}
use Rattle.cookies_txt.specs.Layout.{tab}
use Rattle.user_agent.specs.Agent.{AsksForMemory}
use Rattle.user_agent.specs.Changes.{AreChanges}
use Rattle.user_agent.specs.CrossAnswers.{ByRequest, TakesLineFrom}
use Rattle.user_agent.specs.declared.cross_answer.OutcomeFor.TheVariants.{Judged, KeptOut as IsKeptOut}
use Rattle.user_agent.specs.declared.rules.Rules.{Rules}
use Rattle.user_agent.specs.declared.sites.Initiator.{Initiator}
use Rattle.cookie_jar.specs.Keeping.{has_control}
use Rattle.cookie_jar.specs.declared.form.Form.{Form}
use Rattle.cookie_jar.specs.declared.form.Form.TheVariants.{Txt}
use Rattle.cookie_jar.specs.declared.taking.End.{End}
use Rattle.cookie_jar.specs.declared.taking.End.TheVariants.{Line, KeptOut, Control, Tab}

-- a control character stands in the line, wherever that is
abbrev pub HasControl : List ℕ → Type 0
HasControl line = has_control line ≡ true

-- a line of `cookies.txt` parts its fields by tabs
abbrev pub parts_by_tabs : Form → Bool
parts_by_tabs Txt = true
parts_by_tabs other = false

abbrev pub has_tab : List ℕ → Bool
has_tab line = list_any (λ b. b == tab) line

-- What becomes of a line from the URL at the moment in a jar of this form, by whether its answer comes across sites: a
-- control character, and then a tab where the form's lines are parted by tabs, has it refused, and nothing changes; any
-- other goes as a user agent of these rules takes it, and those of them that change it are told.
abbrev pub TakesLine : Form → Rules → Bool → List Rule → List Row → Parts → ℤ → List ℕ → End → List Row → Type 0
TakesLine form rules across list rows url now line Control new = HasControl line × (new ≡ rows)
TakesLine form rules across list rows url now line Tab new =
    (¬ (HasControl line)) × ((parts_by_tabs form && has_tab line) ≡ true) × (new ≡ rows)
TakesLine form rules across list rows url now line (Line outcome changes) new =
    (¬ (HasControl line)) × ((parts_by_tabs form && has_tab line) ≡ false)
    × TakesLineFrom rules across list rows url now line (Judged outcome) new × AreChanges rules now line changes
TakesLine form rules across list rows url now line (KeptOut cause) new =
    (¬ (HasControl line)) × ((parts_by_tabs form && has_tab line) ≡ false)
    × TakesLineFrom rules across list rows url now line (IsKeptOut cause) new

-- what becomes of each of the lines, and the rows after them
abbrev pub TakesAll : Form → Rules → Bool → List Rule → List Row → Parts → ℤ → List (List ℕ) → List End
    → List Row → Type 0
TakesAll form rules across list rows url now [] ends new = (ends ≡ []) × (new ≡ rows)
TakesAll form rules across list rows url now (line ∷ lines) [] new = ⊥
TakesAll form rules across list rows url now (line ∷ lines) (end ∷ ends) new =
    (mid : List Row) × TakesLine form rules across list rows url now line end mid
    × TakesAll form rules across list mid url now lines ends new

-- memory was refused at line n, counted from 1, once those before it were taken
pub record StopsAtLine (form : Form) (rules : Rules) (across : Bool) (list : List Rule) (rows : List Row)
    (url : Parts) (now : ℤ) (lines : List (List ℕ)) (n : ℕ) (new : List Row) : Type 0 where
  pub before : ℕ
  pub number : n ≡ before + 1
  pub within : before < length lines
  pub ends : List End
  pub taken : TakesAll form rules across list rows url now (take before lines) ends new
  pub asks : AsksForMemory rules url (get_or lines before [])

-- so, or before any line was looked at, which is 0
abbrev pub IsStopped : Form → Rules → Bool → List Rule → List Row → Parts → ℤ → List (List ℕ) → ℕ → List Row
    → Type 0
IsStopped form rules across list rows url now lines n new =
    ((n ≡ 0) × (new ≡ rows)) ⊎ StopsAtLine form rules across list rows url now lines n new

-- by what started the request
abbrev pub TakesFor : Form → Rules → List Rule → List Row → Parts → Initiator → ℤ → List (List ℕ) → List End
    → List Row → Type 0
TakesFor form rules list rows url initiator now lines ends new =
    ByRequest list url initiator (λ across. TakesAll form rules across list rows url now lines ends new)

abbrev pub IsStoppedFor : Form → Rules → List Rule → List Row → Parts → Initiator → ℤ → List (List ℕ) → ℕ → List Row
    → Type 0
IsStoppedFor form rules list rows url initiator now lines n new =
    ByRequest list url initiator (λ across. IsStopped form rules across list rows url now lines n new)

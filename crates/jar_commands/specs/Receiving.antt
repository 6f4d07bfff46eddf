-- The rows behind the heads of responses (this repository's own).
use Rattle.std.specs.Prelude.{◌≡◌, ◌||◌, ℕ, ℤ, Bool, true, false, List, [], ◌∷◌, Option, None, is_some}
use Rattle.std.specs.List.{list_any}
use Rattle.publicsuffix.specs.Rules.{Rule}
use Rattle.response_heads.specs.Visits.{GivesAnswer, GivesVisits, IsVisitRefusal, VisitText, visit_lines}
use Rattle.response_heads.specs.declared.error.ReadError.TheVariants.{Line}
use Rattle.response_heads.specs.declared.error.StopFault.{StopFault}
use Rattle.response_heads.specs.declared.redirects.Lost.{Lost}
use Rattle.url.specs.Parts.{Parts}
use Rattle.cookie_store.specs.Rows.{Row, Store}
use Rattle.cookie_jar.specs.Told.{is_refused}
use Rattle.cookie_jar.specs.declared.form.Form.{Form}
use Rattle.cookie_jar.specs.declared.taking.End.{End}
use Rattle.user_agent.specs.declared.rules.Rules.{Rules}
use Rattle.jar_commands.specs.Started.{TakesFrom}
use Rattle.jar_commands.specs.declared.failure.Failure.{Failure}
use Rattle.jar_commands.specs.declared.failure.Failure.TheVariants.{Heads}
use Rattle.jar_commands.specs.declared.plan.Start.{Start}

-- one of the lines wasn't stored
abbrev pub is_any_refused : List End → Bool
is_any_refused ends = list_any is_refused ends

-- The Set-Cookie lines of each visit are taken from its URL, one visit after another, in a jar of this form behind
-- these rules: whether one was refused, and the rows behind them. What started the first request started each: a
-- redirect is of the request that it answers.
abbrev pub TakesVisits : Form → Rules → Start → List Rule → List Row → ℤ → List VisitText → Bool → List Row → Type 0
TakesVisits form rules start list rows now [] refused new = (refused ≡ false) × (new ≡ rows)
TakesVisits form rules start list rows now (visit ∷ visits) refused new =
    (ends : List End) × (mid : List Row) × (others : Bool)
    × TakesFrom start form rules list rows visit.url now (visit_lines visit) ends mid
    × TakesVisits form rules start list mid now visits others new
    × (refused ≡ (is_any_refused ends || others))

-- the visits of a text's heads, or that of its last head, where this URL alone was asked; and the lines for which
-- heads are left out
abbrev pub AreVisits : Bool → Parts → List ℕ → List VisitText → Option Lost → Option (ℕ × StopFault) → Type 0
AreVisits false url text visits lost stop = GivesVisits url text visits lost stop
AreVisits true url text visits lost stop = (lost ≡ None) × GivesAnswer url text visits stop

-- So it is with the heads of a text, the first of which this URL answered; to leave heads out is to refuse lines.
abbrev pub TakesHeads : Bool → Form → Rules → Start → Store → ℤ → Parts → List ℕ → Bool → List Row → Type 0
TakesHeads is_one form rules start jar now url text refused new =
    (visits : List VisitText) × (lost : Option Lost) × (stop : Option (ℕ × StopFault)) × (others : Bool)
    × AreVisits is_one url text visits lost stop
    × TakesVisits form rules start jar.suffixes jar.rows now visits others new
    × (refused ≡ ((others || is_some lost) || is_some stop))

-- the text isn't heads of responses, and the failure has the number of the line that isn't
abbrev pub IsNoHeads : List ℕ → Failure → Type 0
IsNoHeads text failure =
    (line : ℕ) × (fault : StopFault) × (failure ≡ Heads line) × IsVisitRefusal text (Line line fault)

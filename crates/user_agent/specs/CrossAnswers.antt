-- What an answer may set, by what started its request (the draft that follows RFC 6265, version 15, section 5.7).
use Rattle.std.specs.Prelude.{◌≡◌, ◌⊎◌, ◌+◌, ◌<◌, ◌&&◌, ℕ, ℤ, Bool, true, false, not, List, [], ◌∷◌, length, take}
use Rattle.std.specs.Prelude.{get_or, map, Option, Some, None, Ok, IsTrue, if◌then◌else◌}
use Rattle.std.specs.List.{AllByRecursion}
use Rattle.std.specs.Str.{IsUtf8}
use Rattle.cookie_store.specs.Rows.{Row, expired}
use Rattle.cookie_text.specs.Printing.{is_set, is_unrestricted}
use Rattle.cookie_text.specs.Reading.{ReadsPlain}
use Rattle.cookie_text.specs.Record.{Record, Seen}
use Rattle.cookie_text.specs.declared.draft.SameSite.{SameSite}
use Rattle.cookie_text.specs.declared.draft.SameSite.TheVariants.{Strict, Lax, None as Unrestricted}
use Rattle.publicsuffix.specs.Rules.{Rule}
use Rattle.url.specs.Parts.{Parts}
use Rattle.user_agent.specs.Agent.{AsksForMemory, IsHandedOn, TakesHanded, TakesLines}
use Rattle.user_agent.specs.Refusals.{IsStoppedByControl}
use Rattle.user_agent.specs.SecureRuns.{IsAny}
use Rattle.user_agent.specs.Sites.{IsCrossSite}
use Rattle.user_agent.specs.declared.cross_answer.OutcomeFor.{OutcomeFor}
use Rattle.user_agent.specs.declared.cross_answer.OutcomeFor.TheVariants.{Judged, KeptOut}
use Rattle.user_agent.specs.declared.cross_answer.SiteRefusal.{SiteRefusal}
use Rattle.user_agent.specs.declared.cross_answer.SiteRefusal.TheVariants.{CrossSite, NoneLacksSecure}
use Rattle.user_agent.specs.declared.rules.Outcome.{Outcome}
use Rattle.user_agent.specs.declared.rules.Outcome.TheVariants.{Refused}
use Rattle.user_agent.specs.declared.rules.Refusal.TheVariants.{Control}
use Rattle.user_agent.specs.declared.rules.Rules.{Rules}
use Rattle.user_agent.specs.declared.sites.Initiator.{Initiator}

-- ---- a cookie

-- What its `SameSite` is, `cookie_text` says: of several the last that has one of the three words. By the draft the
-- last of all counts, and one of another word is none: so is that of `SameSite=None; SameSite=x` (5.6.7.1; 5.7, step
-- 17).

-- Its same-site-flag isn't "None" (5.7, step 18). Of a cookie without the attribute the flag is "Default", which counts
-- where the rule is on.
abbrev pub is_bound : Bool → Option SameSite → Bool
is_bound by_default (Some Strict) = true
is_bound by_default (Some Lax) = true
is_bound by_default (Some Unrestricted) = false
is_bound by_default None = by_default

-- the flag is "None", and the secure-only-flag is false (step 19)
abbrev pub is_unrestricted_without_secure : Record → Bool
is_unrestricted_without_secure cookie = is_unrestricted cookie.same_site && not (is_set cookie.secure)

-- Why an answer may not set the cookie, if so: across sites none that is bound; and where the rule is on none that is
-- unrestricted without Secure. No cookie is both.
abbrev pub site_refusal : Rules → Bool → Record → Option SiteRefusal
site_refusal rules across cookie =
    if across && is_bound rules.lax_by_default cookie.same_site then Some CrossSite
    else (if rules.none_needs_secure && is_unrestricted_without_secure cookie then Some NoneLacksSecure else None)

-- ---- a request, and the lines of its answer

-- The request is cross-site, and doesn't navigate the top level. A navigation counts whatever its method is.
abbrev pub ComesAcross : List Rule → Parts → Initiator → Type 0
ComesAcross list url initiator = IsCrossSite list url initiator × (initiator.is_navigation ≡ false)

-- the line reads as a cookie that may not be set, for this cause
abbrev pub IsKeptOut : Rules → Bool → List ℕ → SiteRefusal → Type 0
IsKeptOut rules across line cause =
    IsUtf8 line × ((seen : Seen) × ReadsPlain line (Ok seen) × (site_refusal rules across seen.cookie ≡ Some cause))

-- the answer may set what the line reads as
abbrev pub MaySet : Rules → Bool → List ℕ → Type 0
MaySet rules across line = (cause : SiteRefusal) → ¬ (IsKeptOut rules across line cause)

-- what becomes of a line that is handed on, and the rows after it: one that is kept out changes nothing, so the cookie
-- that it would replace stays; any other goes by the rules
abbrev pub TakesHandedFrom : Rules → Bool → List Rule → List Row → Parts → ℤ → List ℕ → OutcomeFor → List Row → Type 0
TakesHandedFrom rules across list rows url now handed outcome new =
    ((cause : SiteRefusal) × IsKeptOut rules across handed cause × (outcome ≡ KeptOut cause) × (new ≡ rows))
    ⊎ (MaySet rules across handed
    × ((judged : Outcome) × TakesHanded rules list rows url now handed judged new × (outcome ≡ Judged judged)))

-- what becomes of a line as it came: a control character stops it first of all
abbrev pub TakesLineFrom : Rules → Bool → List Rule → List Row → Parts → ℤ → List ℕ → OutcomeFor → List Row → Type 0
TakesLineFrom rules across list rows url now line outcome new =
    (IsStoppedByControl rules line × (outcome ≡ Judged (Refused Control)) × (new ≡ rows))
    ⊎ ((¬ (IsStoppedByControl rules line)) × ((handed : List ℕ) × IsHandedOn rules now line handed
    × TakesHandedFrom rules across list rows url now handed outcome new))

-- what becomes of each of the lines, and the rows after them
abbrev pub TakesLinesFrom : Rules → Bool → List Rule → List Row → Parts → ℤ → List (List ℕ) → List OutcomeFor
    → List Row → Type 0
TakesLinesFrom rules across list rows url now [] outcomes new = (outcomes ≡ []) × (new ≡ rows)
TakesLinesFrom rules across list rows url now (line ∷ lines) [] new = ⊥
TakesLinesFrom rules across list rows url now (line ∷ lines) (outcome ∷ outcomes) new =
    (mid : List Row) × TakesLineFrom rules across list rows url now line outcome mid
    × TakesLinesFrom rules across list mid url now lines outcomes new

-- memory was refused at line n, counted from 1, once those before it were taken
pub record StopsAtLineFrom (rules : Rules) (across : Bool) (list : List Rule) (rows : List Row) (url : Parts) (now : ℤ)
    (lines : List (List ℕ)) (n : ℕ) (new : List Row) : Type 0 where
  pub before : ℕ
  pub outcomes : List OutcomeFor
  pub number : n ≡ before + 1
  pub within : before < length lines
  pub taken : TakesLinesFrom rules across list rows url now (take before lines) outcomes new
  pub asks : AsksForMemory rules url (get_or lines before [])

-- so, or before any line was looked at, which is 0
abbrev pub IsStoppedFrom : Rules → Bool → List Rule → List Row → Parts → ℤ → List (List ℕ) → ℕ → List Row → Type 0
IsStoppedFrom rules across list rows url now lines n new =
    ((n ≡ 0) × (new ≡ rows)) ⊎ StopsAtLineFrom rules across list rows url now lines n new

-- what holds of the answer as it comes across sites, or doesn't
abbrev pub ByRequest : List Rule → Parts → Initiator → (Bool → Type 0) → Type 0
ByRequest list url initiator Holds =
    (ComesAcross list url initiator × Holds true) ⊎ ((¬ (ComesAcross list url initiator)) × Holds false)

-- what becomes of the lines of an answer to a request that is started so
abbrev pub ReceivesFor : Rules → List Rule → List Row → Parts → Initiator → ℤ → List (List ℕ) → List OutcomeFor
    → List Row → Type 0
ReceivesFor rules list rows url initiator now lines outcomes new =
    ByRequest list url initiator (λ across. TakesLinesFrom rules across list rows url now lines outcomes new)

abbrev pub IsStoppedFor : Rules → List Rule → List Row → Parts → Initiator → ℤ → List (List ℕ) → ℕ → List Row
    → Type 0
IsStoppedFor rules list rows url initiator now lines n new =
    ByRequest list url initiator (λ across. IsStoppedFrom rules across list rows url now lines n new)

-- ---- laws

-- the lines that aren't kept out, and what becomes of each
abbrev pub AreJudged : List (List ℕ) → List OutcomeFor → List (List ℕ) → List Outcome → Type 0
AreJudged [] outcomes let_in judged = (outcomes ≡ []) × (let_in ≡ []) × (judged ≡ [])
AreJudged (line ∷ lines) [] let_in judged = ⊥
AreJudged (line ∷ lines) (KeptOut cause ∷ outcomes) let_in judged = AreJudged lines outcomes let_in judged
AreJudged (line ∷ lines) (Judged outcome ∷ outcomes) let_in judged =
    (others : List (List ℕ)) × (later : List Outcome) × (let_in ≡ line ∷ others) × (judged ≡ outcome ∷ later)
    × AreJudged lines outcomes others later

-- whatever starts a request, the rows are those after the lines that aren't kept out, taken as where nothing is said of
-- that
abbrev pub JudgedLinesAreReceived : Type 0
JudgedLinesAreReceived =
    (rules : Rules) (list : List Rule) (rows : List Row) (url : Parts) (initiator : Initiator) (now : ℤ)
    (lines : List (List ℕ)) (outcomes : List OutcomeFor) (new : List Row)
    → ReceivesFor rules list rows url initiator now lines outcomes new
    → (let_in : List (List ℕ)) × (judged : List Outcome) × AreJudged lines outcomes let_in judged
    × TakesLines rules list rows url now let_in judged new

-- where the request isn't cross-site, or navigates the top level, and `none_needs_secure` is off, none is kept out
abbrev pub OwnAnswersAreReceived : Type 0
OwnAnswersAreReceived =
    (rules : Rules) (list : List Rule) (rows : List Row) (url : Parts) (initiator : Initiator) (now : ℤ)
    (lines : List (List ℕ)) (outcomes : List OutcomeFor) (new : List Row) → ¬ (ComesAcross list url initiator)
    → rules.none_needs_secure ≡ false → ReceivesFor rules list rows url initiator now lines outcomes new
    → (judged : List Outcome) × AreJudged lines outcomes lines judged
    × TakesLines rules list rows url now lines judged new

-- and so the other way round: what is taken where nothing is said of requests is received for such a one
abbrev pub ReceivedLinesAreOwn : Type 0
ReceivedLinesAreOwn =
    (rules : Rules) (list : List Rule) (rows : List Row) (url : Parts) (initiator : Initiator) (now : ℤ)
    (lines : List (List ℕ)) (outcomes : List Outcome) (new : List Row) → ¬ (ComesAcross list url initiator)
    → rules.none_needs_secure ≡ false → TakesLines rules list rows url now lines outcomes new
    → ReceivesFor rules list rows url initiator now lines (map Judged outcomes) new

-- the row is one of these, or is one of them that was ended
abbrev pub IsOneOf : List Row → Row → Type 0
IsOneOf rows row = IsAny (λ other. (row ≡ other) ⊎ (row ≡ expired other)) rows

-- Whatever lines come across sites, each row after them that is Strict or Lax was there before, or was so and is ended;
-- and so each without the attribute, where the rule is on.
abbrev pub NoBoundRowComes : Type 0
NoBoundRowComes =
    (rules : Rules) (list : List Rule) (rows : List Row) (url : Parts) (initiator : Initiator) (now : ℤ)
    (lines : List (List ℕ)) (outcomes : List OutcomeFor) (new : List Row) → ComesAcross list url initiator
    → ReceivesFor rules list rows url initiator now lines outcomes new
    → AllByRecursion (λ row. IsTrue (is_bound rules.lax_by_default row.raw.cookie.same_site) → IsOneOf rows row) new

-- Where the rule is on, each row after any lines that is unrestricted without Secure was so too.
abbrev pub UnrestrictedRowsAreSecure : Type 0
UnrestrictedRowsAreSecure =
    (rules : Rules) (list : List Rule) (rows : List Row) (url : Parts) (initiator : Initiator) (now : ℤ)
    (lines : List (List ℕ)) (outcomes : List OutcomeFor) (new : List Row) → IsTrue rules.none_needs_secure
    → ReceivesFor rules list rows url initiator now lines outcomes new
    → AllByRecursion (λ row. IsTrue (is_unrestricted_without_secure row.raw.cookie) → IsOneOf rows row) new

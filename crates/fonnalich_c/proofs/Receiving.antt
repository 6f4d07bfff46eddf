-- The outcomes of lines.
use Rattle.std.proofs.Common.{◌≡◌, ℕ, ℤ, Bool, true, false, List, [], ◌∷◌, length, ap, arith, inl, inr, refl}
use Rattle.std.proofs.Common.{subst, sym}
use Rattle.std.specs.Prelude.{◌↔◌, IsTrue}
use Rattle.publicsuffix.specs.Rules.{Rule}
use Rattle.url.specs.Parts.{Parts}
use Rattle.cookie_store.specs.Rows.{Row, Store}
use Rattle.user_agent.specs.Agent.{AsksForMemory}
use Rattle.user_agent.specs.CrossAnswers.{ByRequest, ComesAcross, IsStoppedFor, IsStoppedFrom, ReceivesFor}
use Rattle.user_agent.specs.CrossAnswers.{TakesLineFrom, TakesLinesFrom}
use Rattle.user_agent.specs.declared.cross_answer.OutcomeFor.{OutcomeFor}
use Rattle.user_agent.specs.declared.rules.Rules.{Rules}
use Rattle.user_agent.specs.declared.sites.Initiator.{Initiator}
use Rattle.fonnalich_c.specs.Given.{IsUrl, lines_of, nanos_of}
use Rattle.fonnalich_c.specs.Rules.{outcome_for_number}
use Rattle.fonnalich_c.specs.Started.{IsStarted, Receives, RefusesLines, Request}
use Rattle.fonnalich_c.specs.declared.refusal.Refusal.TheVariants as refusal

-- there is one for each line
as_many_from : (rules : Rules) (across : Bool) (list : List Rule) (rows : List Row) (url : Parts) (now : ℤ)
    (lines : List (List ℕ)) (outcomes : List OutcomeFor) (new : List Row)
    → TakesLinesFrom rules across list rows url now lines outcomes new → length outcomes ≡ length lines
as_many_from rules across list rows url now [] outcomes new taken = ap length taken.0
as_many_from rules across list rows url now (line ∷ lines) [] new taken = absurd taken
as_many_from rules across list rows url now (line ∷ lines) (outcome ∷ outcomes) new taken =
    let rest = as_many_from rules across list taken.0 url now lines outcomes new taken.2 in omega arith

pub as_many_for : (rules : Rules) (list : List Rule) (rows : List Row) (url : Parts) (initiator : Initiator) (now : ℤ)
    (lines : List (List ℕ)) (outcomes : List OutcomeFor) (new : List Row)
    → ReceivesFor rules list rows url initiator now lines outcomes new → length outcomes ≡ length lines
as_many_for rules list rows url initiator now lines outcomes new (inl (comes, taken)) =
    as_many_from rules true list rows url now lines outcomes new taken
as_many_for rules list rows url initiator now lines outcomes new (inr (isnt, taken)) =
    as_many_from rules false list rows url now lines outcomes new taken

-- ---- a line by itself

-- what holds by whether the answer comes across sites
by_request : (list : List Rule) (url : Parts) (initiator : Initiator) (across : Bool) (Holds : Bool → Type 0)
    → (IsTrue across ↔ ComesAcross list url initiator) → Holds across → ByRequest list url initiator Holds
by_request list url initiator true Holds is holds = inl (is.0 refl, holds)
by_request list url initiator false Holds is holds = inr (λ comes. absurd (cc (is.1 comes)), holds)

-- what becomes of it is told by its number
pub one_line_told : (rules : Rules) (request : Request) (text : List ℕ) (old new : Store) (url : Parts)
    (initiator : Initiator) (across : Bool) (now : ℤ) (outcome : OutcomeFor) (number : ℕ)
    → now ≡ nanos_of request.second → IsUrl request.url url → IsStarted request initiator
    → (IsTrue across ↔ ComesAcross old.suffixes url initiator) → lines_of text ≡ text ∷ []
    → new.suffixes ≡ old.suffixes
    → TakesLineFrom rules across old.suffixes old.rows url now text outcome new.rows
    → number ≡ outcome_for_number outcome → Receives rules request text old (number ∷ []) new
one_line_told rules request text old new url initiator across now outcome number moment at started comes one same taken
    told =
    let by_line : ReceivesFor rules old.suffixes old.rows url initiator now (text ∷ []) (outcome ∷ []) new.rows =
    by_request old.suffixes url initiator across
    (λ across. TakesLinesFrom rules across old.suffixes old.rows url now (text ∷ []) (outcome ∷ []) new.rows) comes
    (new.rows, taken, (refl, refl)) in
    let by_lines = subst (λ lines. ReceivesFor rules old.suffixes old.rows url initiator now lines (outcome ∷ [])
    new.rows) (sym one) by_line in
    let by_moment = subst (λ n. ReceivesFor rules old.suffixes old.rows url initiator n (lines_of text) (outcome ∷ [])
    new.rows) moment by_lines in
    (same, (url, initiator, outcome ∷ [], at, started, by_moment, ap (λ n. n ∷ []) told))

-- memory was refused at it
pub one_line_stopped : (rules : Rules) (request : Request) (text : List ℕ) (old new : Store) (url : Parts)
    (initiator : Initiator) (across : Bool) → IsUrl request.url url → IsStarted request initiator
    → (IsTrue across ↔ ComesAcross old.suffixes url initiator) → lines_of text ≡ text ∷ []
    → new.suffixes ≡ old.suffixes → new.rows ≡ old.rows → AsksForMemory rules url text
    → RefusesLines rules request text old (refusal.Stopped 1) new
one_line_stopped rules request text old new url initiator across at started comes one same rows asks =
    let now = nanos_of request.second in
    let stops : IsStoppedFor rules old.suffixes old.rows url initiator now (text ∷ []) 1 new.rows =
    by_request old.suffixes url initiator across
    (λ across. IsStoppedFrom rules across old.suffixes old.rows url now (text ∷ []) 1 new.rows) comes (inr (record {
      before = 0;
      outcomes = [];
      number = refl;
      within = omega arith;
      taken = (refl, rows);
      asks = asks;
    })) in
    let by_lines = subst (λ lines. IsStoppedFor rules old.suffixes old.rows url initiator now lines 1 new.rows)
    (sym one) stops in
    inr (1, refl, (same, (url, initiator, at, started, by_lines)))

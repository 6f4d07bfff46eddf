-- What becomes of the lines of an answer, by what started its request.
use Rattle.std.proofs.Common.{◌≡◌, ◌⊎◌, ◌↔◌, ◌∙◌, ℕ, ℤ, ◌+◌, ◌<◌, List, [], ◌∷◌, ◌++◌, ◌&&◌, Bool, true, false, cond}
use Rattle.std.proofs.Common.{Option, Some, None, Result, Ok, Err, ap, get_or, inl, inr, length, refl, subst, sym, take}
use Rattle.std.specs.Prelude.{IfErr, IfOk, IsTrue, MatchOption, map}
use Rattle.std.specs.List.{AllByRecursion}
use Rattle.std.specs.Str.{IsUtf8}
use Rattle.std.proofs.lemmas.Bool.{both_ways, false≢true}
use Rattle.std.proofs.lemmas.List.{length-map}
use Rattle.cookie_client.proofs.Texts.{some_is_not_none}
use Rattle.cookie_store.specs.Making.{IsMade}
use Rattle.cookie_store.specs.Rows.{Row, expired}
use Rattle.cookie_text.specs.Reading.{ReadsPlain}
use Rattle.cookie_text.specs.Record.{Record, Seen, unsliced}
use Rattle.cookie_text.specs.declared.error.ParseError.{ParseError}
use Rattle.publicsuffix.specs.Rules.{Rule}
use Rattle.url.specs.Parts.{Parts}
use Rattle.cookie_client.specs.Accept.{Accepts}
use Rattle.cookie_client.specs.HostPrefix.{IsAgainstHost}
use Rattle.cookie_client.specs.declared.outcome.LineEnd.{LineEnd}
use Rattle.user_agent.specs.Agent.{AsksForMemory, IsHandedOn, TakesHanded, TakesLine, TakesLines}
use Rattle.user_agent.specs.CrossAnswers.{AreJudged, ByRequest, ComesAcross, IsOneOf}
use Rattle.user_agent.specs.CrossAnswers.{JudgedLinesAreReceived, MaySet, NoBoundRowComes}
use Rattle.user_agent.specs.CrossAnswers.{OwnAnswersAreReceived, ReceivedLinesAreOwn, StopsAtLineFrom}
use Rattle.user_agent.specs.CrossAnswers.{TakesHandedFrom, TakesLineFrom, TakesLinesFrom, UnrestrictedRowsAreSecure}
use Rattle.user_agent.specs.CrossAnswers.{is_bound}
use Rattle.user_agent.specs.CrossAnswers.{is_unrestricted_without_secure, site_refusal}
use Rattle.user_agent.specs.Refusals.{IsLetIn, IsRefusedBy, is_on, of_no_request}
use Rattle.user_agent.specs.SecurePlaces.{ArePlacesOf, Places}
use Rattle.user_agent.specs.SecureRuns.{IsAny}
use Rattle.user_agent.specs.declared.cross_answer.OutcomeFor.{OutcomeFor}
use Rattle.user_agent.specs.declared.cross_answer.OutcomeFor.TheVariants.{Judged, KeptOut}
use Rattle.user_agent.specs.declared.cross_answer.SiteRefusal.{SiteRefusal}
use Rattle.user_agent.specs.declared.cross_answer.SiteRefusal.TheVariants.{CrossSite, NoneLacksSecure}
use Rattle.user_agent.specs.declared.rules.Outcome.{Outcome}
use Rattle.user_agent.specs.declared.rules.Outcome.TheVariants.{Taken, Refused}
use Rattle.user_agent.specs.declared.rules.Refusal.{Refusal}
use Rattle.user_agent.specs.declared.rules.Refusal.TheVariants.{Control, TooLong, SecurePrefix, HostPrefix}
use Rattle.user_agent.specs.declared.rules.Refusal.TheVariants.{SecureFromHttp, SecureOverlay, LacksSecure}
use Rattle.user_agent.specs.declared.rules.Rules.{Rules}
use Rattle.user_agent.specs.declared.sites.Initiator.{Initiator}
use Rattle.user_agent.proofs.AgentLemmas.{map_at, map_take}
use Rattle.user_agent.proofs.KnownLemmas.{OneOutcome}
use Rattle.user_agent.proofs.PlaceLemmas.{places_stay}
use Rattle.user_agent.proofs.RowLemmas.{all_accepts}

-- ---- line by line

from_push : (rules : Rules) (across : Bool) (list : List Rule) (rows mid new : List Row) (url : Parts) (now : ℤ)
    (lines : List (List ℕ)) (outcomes : List OutcomeFor) (line : List ℕ) (outcome : OutcomeFor)
    → TakesLinesFrom rules across list rows url now lines outcomes mid
    → TakesLineFrom rules across list mid url now line outcome new
    → TakesLinesFrom rules across list rows url now (lines ++ line ∷ []) (outcomes ++ outcome ∷ []) new
from_push rules across list rows mid new url now [] [] line outcome h a =
    (new, subst (λ rs. TakesLineFrom rules across list rs url now line outcome new) h.1 a, (refl, refl))
from_push rules across list rows mid new url now [] (o ∷ os) line outcome h a = absurd (not_nil o os h.0)
  where
    not_nil : (x : OutcomeFor) (xs : List OutcomeFor) → ¬ (x ∷ xs ≡ [])
    not_nil x xs p = cc
from_push rules across list rows mid new url now (l ∷ ls) [] line outcome h a = absurd h
from_push rules across list rows mid new url now (l ∷ ls) (o ∷ os) line outcome h a =
    (h.0, h.1, from_push rules across list h.0 mid new url now ls os line outcome h.2 a)

pub next_from : {A : Type 0} (f : A → List ℕ) (rules : Rules) (across : Bool) (list : List Rule)
    (start mid new : List Row) (old outcomes : List OutcomeFor) (outcome : OutcomeFor) (url : Parts) (now : ℤ)
    (xs : List A) (i : ℕ) (d : A) → i < length xs
    → TakesLinesFrom rules across list start url now (take i (map f xs)) old mid → (here : List Rule) → here ≡ list
    → TakesLineFrom rules across here mid url now (f (get_or xs i d)) outcome new → outcomes ≡ old ++ outcome ∷ []
    → TakesLinesFrom rules across list start url now (take (i + 1) (map f xs)) outcomes new
next_from f rules across list start mid new old outcomes outcome url now xs i d h all here same one is =
    subst (λ os. TakesLinesFrom rules across list start url now (take (i + 1) (map f xs)) os new) (sym is)
    (subst (λ ls. TakesLinesFrom rules across list start url now ls (old ++ outcome ∷ []) new)
    (sym (map_take f xs i d h))
    (from_push rules across list start mid new url now (take i (map f xs)) old (f (get_or xs i d)) outcome all
    (subst (λ l. TakesLineFrom rules across l mid url now (f (get_or xs i d)) outcome new) same one)))

pub stopped_from : {A : Type 0} (f : A → List ℕ) (rules : Rules) (across : Bool) (list : List Rule)
    (start mid new : List Row) (old : List OutcomeFor) (url : Parts) (now : ℤ) (xs : List A) (i : ℕ) (d : A)
    → i < length xs → TakesLinesFrom rules across list start url now (take i (map f xs)) old mid → new ≡ mid
    → AsksForMemory rules url (f (get_or xs i d))
    → StopsAtLineFrom rules across list start url now (map f xs) (i + 1) new
stopped_from f rules across list start mid new old url now xs i d h all same asks = record {
  before = i;
  outcomes = old;
  number = refl;
  within = subst (λ n. i < n) (sym (length-map xs f)) h;
  taken = subst (TakesLinesFrom rules across list start url now (take i (map f xs)) old) (sym same) all;
  asks = subst (AsksForMemory rules url) (sym (map_at f xs i d h)) asks;
}

-- ---- one line

-- what reads as this cookie may be set where that may
module _ (once : OneOutcome) (rules : Rules) (across : Bool) (line : List ℕ) (seen : Seen)
    (reads : ReadsPlain line (Ok seen)) where
  same_ok : (s t : Seen) → ◌≡◌ {A = Result Seen ParseError} (Ok s) (Ok t) → s ≡ t
  same_ok s t e = cc

  pub may_set : site_refusal rules across seen.cookie ≡ None → MaySet rules across line
  may_set none cause out =
      let same : out.1.0 ≡ seen = same_ok out.1.0 seen (once line (Ok out.1.0) (Ok seen) out.1.1 reads) in
      some_is_not_none cause
      (sym out.1.2 ∙ (ap (λ (s : Seen). site_refusal rules across s.cookie) same ∙ none))

-- one that may be set goes as the rules have it
module _ (rules : Rules) (across : Bool) (list : List Rule) (rows : List Row) (url : Parts) (now : ℤ) (line : List ℕ)
    (may : MaySet rules across line) where
  abbrev pub Found : Option Refusal → Type 0
  Found found =
      MatchOption found (IsLetIn rules rows url now line) (λ rule. IsRefusedBy rules rows url now line rule)

  pub read_refused : (found : Option Refusal) (rule : Refusal) → found ≡ Some rule → Found found
      → TakesHandedFrom rules across list rows url now line (Judged (Refused rule)) rows
  read_refused found rule is h = inr (may, (Refused rule, inl (rule, subst Found is h, refl, refl), refl))

  pub read_taken : (found : Option Refusal) (end : LineEnd) (new : List Row) → found ≡ None → Found found
      → Accepts list rows url now line end new
      → TakesHandedFrom rules across list rows url now line (Judged (Taken end)) new
  read_taken found end new is h accepts = inr (may, (Taken end, inr (subst Found is h, (end, accepts, refl)), refl))

-- a line either changes nothing, or is taken by the rules
judged_line : (rules : Rules) (across : Bool) (list : List Rule) (rows new : List Row) (url : Parts) (now : ℤ)
    (line : List ℕ) (outcome : OutcomeFor) → TakesLineFrom rules across list rows url now line outcome new
    → (new ≡ rows) ⊎ ((judged : Outcome) × TakesLine rules list rows url now line judged new)
judged_line rules across list rows new url now line outcome (inl (stopped, is, same)) = inl same
judged_line rules across list rows new url now line outcome
    (inr (free, (handed, is_handed, inl (cause, out, is, same)))) = inl same
judged_line rules across list rows new url now line outcome
    (inr (free, (handed, is_handed, inr (may, (judged, takes, is))))) =
    inr (judged, inr (free, (handed, is_handed, takes)))

pub places_from : (places : Places) (rules : Rules) (across : Bool) (list : List Rule) (rows new : List Row)
    (url : Parts) (now : ℤ) (line : List ℕ) (outcome : OutcomeFor) → ArePlacesOf places rules url now rows
    → TakesLineFrom rules across list rows url now line outcome new → ArePlacesOf places rules url now new
places_from places rules across list rows new url now line outcome h takes =
    by (judged_line rules across list rows new url now line outcome takes)
  where
    by : (new ≡ rows) ⊎ ((judged : Outcome) × TakesLine rules list rows url now line judged new)
        → ArePlacesOf places rules url now new
    by (inl same) = subst (ArePlacesOf places rules url now) (sym same) h
    by (inr (judged, one)) = places_stay places rules list rows new url now line judged h one

-- ---- what started the request

module _ (across : Bool) (list : List Rule) (url : Parts) (initiator : Initiator)
    (is : IsTrue across ↔ ComesAcross list url initiator) where
  by_request : (b : Bool) → across ≡ b → (Holds : Bool → Type 0) → Holds b → ByRequest list url initiator Holds
  by_request true e Holds h = inl (is.0 e, h)
  by_request false e Holds h = inr ((λ comes. false≢true (sym e ∙ is.1 comes)), h)

  pub ok_by_request : {A E : Type 0} (r : Result A E) (Holds : Bool → A → Type 0) → IfOk r (Holds across)
      → IfOk r (λ x. ByRequest list url initiator (λ b. Holds b x))
  ok_by_request (Ok x) Holds h = by_request across refl (λ b. Holds b x) h
  ok_by_request (Err e) Holds h = tt

  pub err_by_request : {A E : Type 0} (r : Result A E) (Holds : Bool → E → Type 0) → IfErr r (Holds across)
      → IfErr r (λ x. ByRequest list url initiator (λ b. Holds b x))
  err_by_request (Ok x) Holds h = tt
  err_by_request (Err e) Holds h = by_request across refl (λ b. Holds b e) h

-- ---- what is received of the lines

module _ (rules : Rules) (across : Bool) (list : List Rule) (url : Parts) (now : ℤ) where
  abbrev Theirs : List Row → List Row → List (List ℕ) → List OutcomeFor → Type 0
  Theirs rows new lines outcomes =
      (let_in : List (List ℕ)) × (judged : List Outcome) × AreJudged lines outcomes let_in judged
      × TakesLines rules list rows url now let_in judged new

  judged_next : (rows mid new : List Row) (line : List ℕ) (lines : List (List ℕ)) (outcome : OutcomeFor)
      (outcomes : List OutcomeFor) (judged : Outcome) → outcome ≡ Judged judged
      → TakesLine rules list rows url now line judged mid → Theirs mid new lines outcomes
      → Theirs rows new (line ∷ lines) (outcome ∷ outcomes)
  judged_next rows mid new line lines outcome outcomes judged is one (let_in, later, are, all) = (
    line ∷ let_in,
    judged ∷ later,
    subst (λ o. AreJudged (line ∷ lines) (o ∷ outcomes) (line ∷ let_in) (judged ∷ later)) (sym is)
        (let_in, later, refl, refl, are),
    (mid, one, all),
  )

  kept_next : (rows mid new : List Row) (line : List ℕ) (lines : List (List ℕ)) (outcome : OutcomeFor)
      (outcomes : List OutcomeFor) (cause : SiteRefusal) → outcome ≡ KeptOut cause → mid ≡ rows
      → Theirs mid new lines outcomes → Theirs rows new (line ∷ lines) (outcome ∷ outcomes)
  kept_next rows mid new line lines outcome outcomes cause is same (let_in, later, are, all) = (
    let_in,
    later,
    subst (λ o. AreJudged (line ∷ lines) (o ∷ outcomes) let_in later) (sym is) are,
    subst (λ rs. TakesLines rules list rs url now let_in later new) same all,
  )

  judged_all : (rows new : List Row) (lines : List (List ℕ)) (outcomes : List OutcomeFor)
      → TakesLinesFrom rules across list rows url now lines outcomes new → Theirs rows new lines outcomes
  judged_all rows new [] outcomes h = ([], [], (h.0, refl, refl), (refl, h.1))
  judged_all rows new (line ∷ lines) [] h = absurd h
  judged_all rows new (line ∷ lines) (outcome ∷ outcomes) (mid, one, rest) =
      by one (judged_all mid new lines outcomes rest)
    where
      by : TakesLineFrom rules across list rows url now line outcome mid → Theirs mid new lines outcomes
          → Theirs rows new (line ∷ lines) (outcome ∷ outcomes)
      by (inl (stopped, is, same)) later =
          judged_next rows mid new line lines outcome outcomes (Refused Control) is (inl (stopped, refl, same)) later
      by (inr (free, (handed, is_handed, inl (cause, out, is, same)))) later =
          kept_next rows mid new line lines outcome outcomes cause is same later
      by (inr (free, (handed, is_handed, inr (may, (judged, takes, is))))) later =
          judged_next rows mid new line lines outcome outcomes judged is
          (inr (free, (handed, is_handed, takes))) later

-- none of an answer that doesn't come across sites is kept out, where the rule is off
none_kept : (b x : Bool) (cause : SiteRefusal) → b ≡ false → ¬ (cond (b && x) (Some NoneLacksSecure) None ≡ Some cause)
none_kept true x cause e is = false≢true (sym e)
none_kept false x cause e is = some_is_not_none cause (sym is)

-- ---- where nothing is said of the request

-- the other rules are those that are on
own_on : (rules : Rules) (r : Refusal) → is_on (of_no_request rules) r ≡ is_on rules r
own_on rules Control = refl
own_on rules TooLong = refl
own_on rules SecurePrefix = refl
own_on rules HostPrefix = refl
own_on rules SecureFromHttp = refl
own_on rules SecureOverlay = refl
own_on rules LacksSecure = refl

module _ (rules : Rules) (list : List Rule) (rows new : List Row) (url : Parts) (now : ℤ) (line : List ℕ) where
  own_handed : (handed : List ℕ) → IsHandedOn (of_no_request rules) now line handed → IsHandedOn rules now line handed
  own_handed handed (inl (utf8, h)) = inl (
    utf8,
    record { short = h.short; known = h.known; shortened = h.shortened; dated = h.dated; cut = h.cut },
  )
  own_handed handed (inr as_it_came) = inr as_it_came

  own_taken : (handed : List ℕ) (outcome : Outcome)
      → TakesHanded (of_no_request rules) list rows url now handed outcome new
      → TakesHanded rules list rows url now handed outcome new
  own_taken handed outcome (inl (rule, h, is, same)) = inl (
    rule,
    record {
      on = subst (λ b. IsTrue b) (own_on rules rule) h.on;
      against = h.against;
      first = λ other below on. h.first other below (subst (λ b. IsTrue b) (sym (own_on rules other)) on);
    },
    is,
    same,
  )
  own_taken handed outcome (inr (let_in, end)) =
      inr ((λ rule on. let_in rule (subst (λ b. IsTrue b) (sym (own_on rules rule)) on)), end)

  judged_is : (a b : Outcome) → Judged a ≡ Judged b → a ≡ b
  judged_is a b e = cc

  -- none is kept out
  own_judged : (outcome : OutcomeFor) (judged : Outcome) → outcome ≡ Judged judged
      → TakesLineFrom (of_no_request rules) false list rows url now line outcome new
      → TakesLine rules list rows url now line judged new
  own_judged outcome judged e (inl (stopped, is, same)) =
      inl (stopped, judged_is judged (Refused Control) (sym e ∙ is), same)
  own_judged outcome judged e (inr (free, (handed, is_handed, inl (cause, out, is, same)))) =
      absurd (none_kept false (is_unrestricted_without_secure out.1.0.cookie) cause refl out.1.2)
  own_judged outcome judged e (inr (free, (handed, is_handed, inr (may, (by, takes, is))))) = inr (
    free,
    (
      handed,
      own_handed handed is_handed,
      own_taken handed judged
          (subst (λ o. TakesHanded (of_no_request rules) list rows url now handed o new) (judged_is by judged
          (sym is ∙ e)) takes),
    ),
  )

-- so by rules that are these
module _ (rules own : Rules) (are : own ≡ of_no_request rules) (list : List Rule) (rows new : List Row) (url : Parts)
    (now : ℤ) (line : List ℕ) where
  pub own_is_judged : (outcome : OutcomeFor) (judged : Outcome) → outcome ≡ Judged judged
      → TakesLineFrom own false list rows url now line outcome new → TakesLine rules list rows url now line judged new
  own_is_judged outcome judged e h =
      own_judged rules list rows new url now line outcome judged e
      (subst (λ (rs : Rules). TakesLineFrom rs false list rows url now line outcome new) are h)

  pub own_asks : AsksForMemory own url line → AsksForMemory rules url line
  own_asks h = subst (λ (rs : Rules). AsksForMemory rs url line) are h

module _ (rules : Rules) (off : rules.none_needs_secure ≡ false) (list : List Rule) (url : Parts) (now : ℤ) where
  abbrev Own : List Row → List Row → List (List ℕ) → List OutcomeFor → Type 0
  Own rows new lines outcomes =
      (judged : List Outcome) × AreJudged lines outcomes lines judged
      × TakesLines rules list rows url now lines judged new

  own_next : (rows mid new : List Row) (line : List ℕ) (lines : List (List ℕ)) (outcome : OutcomeFor)
      (outcomes : List OutcomeFor) (judged : Outcome) → outcome ≡ Judged judged
      → TakesLine rules list rows url now line judged mid → Own mid new lines outcomes
      → Own rows new (line ∷ lines) (outcome ∷ outcomes)
  own_next rows mid new line lines outcome outcomes judged is one (later, are, all) = (
    judged ∷ later,
    subst (λ o. AreJudged (line ∷ lines) (o ∷ outcomes) (line ∷ lines) (judged ∷ later)) (sym is)
        (lines, later, refl, refl, are),
    (mid, one, all),
  )

  own_all : (rows new : List Row) (lines : List (List ℕ)) (outcomes : List OutcomeFor)
      → TakesLinesFrom rules false list rows url now lines outcomes new → Own rows new lines outcomes
  own_all rows new [] outcomes h = ([], (h.0, refl, refl), (refl, h.1))
  own_all rows new (line ∷ lines) [] h = absurd h
  own_all rows new (line ∷ lines) (outcome ∷ outcomes) (mid, one, rest) = by one (own_all mid new lines outcomes rest)
    where
      by : TakesLineFrom rules false list rows url now line outcome mid → Own mid new lines outcomes
          → Own rows new (line ∷ lines) (outcome ∷ outcomes)
      by (inl (stopped, is, same)) later =
          own_next rows mid new line lines outcome outcomes (Refused Control) is (inl (stopped, refl, same)) later
      by (inr (free, (handed, is_handed, inl (cause, out, is, same)))) later =
          absurd (none_kept rules.none_needs_secure (is_unrestricted_without_secure out.1.0.cookie) cause off out.1.2)
      by (inr (free, (handed, is_handed, inr (may, (judged, takes, is))))) later =
          own_next rows mid new line lines outcome outcomes judged is (inr (free, (handed, is_handed, takes))) later

  own_line : (rows new : List Row) (line : List ℕ) (outcome : Outcome)
      → TakesLine rules list rows url now line outcome new
      → TakesLineFrom rules false list rows url now line (Judged outcome) new
  own_line rows new line outcome (inl (stopped, is, same)) = inl (stopped, ap Judged is, same)
  own_line rows new line outcome (inr (free, (handed, is_handed, takes))) =
      inr (free, (handed, is_handed, inr (may, (outcome, takes, refl))))
    where
      may : MaySet rules false handed
      may cause out =
          none_kept rules.none_needs_secure (is_unrestricted_without_secure out.1.0.cookie) cause off out.1.2

  own_lines : (rows new : List Row) (lines : List (List ℕ)) (outcomes : List Outcome)
      → TakesLines rules list rows url now lines outcomes new
      → TakesLinesFrom rules false list rows url now lines (map Judged outcomes) new
  own_lines rows new [] outcomes h = (ap (map Judged) h.0, h.1)
  own_lines rows new (line ∷ lines) [] h = absurd h
  own_lines rows new (line ∷ lines) (outcome ∷ outcomes) (mid, one, rest) =
      (mid, own_line rows mid line outcome one, own_lines mid new lines outcomes rest)

pub received_lines_are_own : ReceivedLinesAreOwn
received_lines_are_own rules list rows url initiator now lines outcomes new own off takes =
    inr (own, own_lines rules off list url now rows new lines outcomes takes)

pub judged_lines_are_received : JudgedLinesAreReceived
judged_lines_are_received rules list rows url initiator now lines outcomes new (inl is) =
    judged_all rules true list url now rows new lines outcomes is.1
judged_lines_are_received rules list rows url initiator now lines outcomes new (inr isnt) =
    judged_all rules false list url now rows new lines outcomes isnt.1

pub own_answers_are_received : OwnAnswersAreReceived
own_answers_are_received rules list rows url initiator now lines outcomes new own off (inl is) = absurd (own is.0)
own_answers_are_received rules list rows url initiator now lines outcomes new own off (inr isnt) =
    own_all rules off list url now rows new lines outcomes isnt.1

-- ---- rows that come

pub any_map : {A : Type 0} (P Q : A → Type 0) → ((x : A) → P x → Q x) → (xs : List A) → IsAny P xs → IsAny Q xs
any_map P Q f [] h = absurd h
any_map P Q f (x ∷ xs) (inl h) = inl (f x h)
any_map P Q f (x ∷ xs) (inr h) = inr (any_map P Q f xs h)

-- where of each cookie that such an answer may set this isn't so, each row after it that is so was there before
module _ (is : Record → Bool) (rules : Rules) (across : Bool)
    (out : (cookie : Record) → is cookie ≡ true → ¬ (site_refusal rules across cookie ≡ None)) (before : List Row) where
  abbrev Was : Row → Type 0
  Was row = IsTrue (is row.raw.cookie) → IsOneOf before row

  abbrev Is : Row → Type 0
  Is row = is row.raw.cookie ≡ false

  ended_was : (row : Row) → Was row → Was (expired row)
  ended_was row was so =
      any_map (λ other. (row ≡ other) ⊎ (row ≡ expired other))
      (λ other. (expired row ≡ other) ⊎ (expired row ≡ expired other)) one before (was so)
    where
      one : (other : Row) → (row ≡ other) ⊎ (row ≡ expired other)
          → (expired row ≡ other) ⊎ (expired row ≡ expired other)
      one other (inl same) = inr (ap expired same)
      one other (inr same) = inr (ap expired same)

  refusal_or : (o : Option SiteRefusal) → (o ≡ None) ⊎ ((cause : SiteRefusal) × (o ≡ Some cause))
  refusal_or None = inl refl
  refusal_or (Some cause) = inr (cause, refl)

  isnt : (b : Bool) (cookie : Record) → is cookie ≡ b → ((cause : SiteRefusal)
      → ¬ (site_refusal rules across cookie ≡ Some cause)) → is cookie ≡ false
  isnt false cookie e may = e
  isnt true cookie e may = absurd (by (refusal_or (site_refusal rules across cookie)))
    where
      by : (site_refusal rules across cookie ≡ None)
          ⊎ ((cause : SiteRefusal) × (site_refusal rules across cookie ≡ Some cause)) → ⊥
      by (inl none) = out cookie e none
      by (inr (cause, kept)) = may cause kept

  module _ (list : List Rule) (url : Parts) (now : ℤ) where
    line_was : (rows new : List Row) (line : List ℕ) (outcome : OutcomeFor) → AllByRecursion Was rows
        → TakesLineFrom rules across list rows url now line outcome new → AllByRecursion Was new
    line_was rows new line outcome h (inl (stopped, ended, same)) = subst (AllByRecursion Was) (sym same) h
    line_was rows new line outcome h (inr (free, (handed, is_handed, inl (cause, kept, ended, same)))) =
        subst (AllByRecursion Was) (sym same) h
    line_was rows new line outcome h
        (inr (free, (handed, is_handed, inr (may, (judged, inl (rule, against, ended, same), told))))) =
        subst (AllByRecursion Was) (sym same) h
    line_was rows new line outcome h
        (inr (free, (handed, is_handed, inr (may, (judged, inr (let_in, (end, accepts, ended)), told))))) =
        all_accepts Was Is ended_was (λ row e. e) url now
        (λ row lives e so. absurd (both_ways (is row.raw.cookie) e so)) handed made list rows new end h accepts
      where
        made : (seen : Seen) → ¬ (IsAgainstHost url handed) → IsUtf8 handed → ReadsPlain handed (Ok seen) → (row : Row)
            → IsMade (unsliced seen.cookie) url now row → Is row
        made seen unlike utf8 reads row is_made =
            subst (λ (s : Seen). is s.cookie ≡ false) (sym is_made.raw)
            (isnt (is seen.cookie) seen.cookie refl (λ cause kept. may cause (utf8, (seen, reads, kept))))

    lines_were : (rows new : List Row) (lines : List (List ℕ)) (outcomes : List OutcomeFor) → AllByRecursion Was rows
        → TakesLinesFrom rules across list rows url now lines outcomes new → AllByRecursion Was new
    lines_were rows new [] outcomes h takes = subst (AllByRecursion Was) (sym takes.1) h
    lines_were rows new (line ∷ lines) [] h takes = absurd takes
    lines_were rows new (line ∷ lines) (outcome ∷ outcomes) h (mid, one, rest) =
        lines_were mid new lines outcomes (line_was rows mid line outcome h one) rest

  own_rows : (rows : List Row) → ((row : Row) → IsAny (λ other. row ≡ other) rows
      → IsAny (λ other. row ≡ other) before) → AllByRecursion Was rows
  own_rows [] within = tt
  own_rows (row ∷ rows) within = (
    (λ so. any_map (λ other. row ≡ other) (λ other. (row ≡ other) ⊎ (row ≡ expired other)) (λ other same. inl same)
        before (within row (inl refl))),
    own_rows rows (λ other any. within other (inr any)),
  )

  pub rows_were : (list : List Rule) (url : Parts) (now : ℤ) (new : List Row) (lines : List (List ℕ))
      (outcomes : List OutcomeFor) → TakesLinesFrom rules across list before url now lines outcomes new
      → AllByRecursion Was new
  rows_were list url now new lines outcomes takes =
      lines_were list url now before new lines outcomes (own_rows before (λ row any. any)) takes

some_cond : (b : Bool) (other : Option SiteRefusal) → b ≡ true → ¬ (cond b (Some CrossSite) other ≡ None)
some_cond true other e none = some_is_not_none CrossSite none
some_cond false other e none = false≢true e

bound_out : (rules : Rules) (cookie : Record) → is_bound rules.lax_by_default cookie.same_site ≡ true
    → ¬ (site_refusal rules true cookie ≡ None)
bound_out rules cookie e = some_cond (is_bound rules.lax_by_default cookie.same_site) _ e

cond_none : (a b : Bool) → b ≡ true → ¬ (cond a (Some CrossSite) (cond b (Some NoneLacksSecure) None) ≡ None)
cond_none true b e none = some_is_not_none CrossSite none
cond_none false true e none = some_is_not_none NoneLacksSecure none
cond_none false false e none = false≢true e

and_both : (a b : Bool) → a ≡ true → b ≡ true → (a && b) ≡ true
and_both true b e f = f
and_both false b e f = e

unrestricted_out : (rules : Rules) (across : Bool) → IsTrue rules.none_needs_secure → (cookie : Record)
    → is_unrestricted_without_secure cookie ≡ true → ¬ (site_refusal rules across cookie ≡ None)
unrestricted_out rules across on cookie e =
    cond_none (across && is_bound rules.lax_by_default cookie.same_site)
    (rules.none_needs_secure && is_unrestricted_without_secure cookie)
    (and_both rules.none_needs_secure (is_unrestricted_without_secure cookie) on e)

pub no_bound_row_comes : NoBoundRowComes
no_bound_row_comes rules list rows url initiator now lines outcomes new comes (inl is) =
    rows_were (λ (cookie : Record). is_bound rules.lax_by_default cookie.same_site) rules true (bound_out rules) rows
    list url now new lines outcomes is.1
no_bound_row_comes rules list rows url initiator now lines outcomes new comes (inr isnt) = absurd (isnt.0 comes)

pub unrestricted_rows_are_secure : UnrestrictedRowsAreSecure
unrestricted_rows_are_secure rules list rows url initiator now lines outcomes new on (inl is) =
    rows_were is_unrestricted_without_secure rules true (unrestricted_out rules true on) rows list url now new lines
    outcomes is.1
unrestricted_rows_are_secure rules list rows url initiator now lines outcomes new on (inr isnt) =
    rows_were is_unrestricted_without_secure rules false (unrestricted_out rules false on) rows list url now new lines
    outcomes isnt.1

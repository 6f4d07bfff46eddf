-- What a line reads as, and the rules against it.
use Rattle.std.proofs.Common.{◌≡◌, ◌⊎◌, ◌<◌, ◌+◌, ◌==◌, ℕ, ℤ, List, cond, Result, Ok, Err, Option, Some, None, refl}
use Rattle.std.proofs.Common.{sym}
use Rattle.std.proofs.Common.{ap, subst, ◌∙◌, arith, IsTrue, inl, inr, ⊎_elim}
use Rattle.std.specs.Prelude.{MatchOption, IfOk, OnErr}
use Rattle.std.specs.List.{list_any}
use Rattle.std.specs.Str.{IsUtf8}
use Rattle.std.proofs.lemmas.Bool.{both_ways}
use Rattle.url.specs.Parts.{Parts}
use Rattle.cookie_text.specs.Reading.{ReadsPlain}
use Rattle.cookie_text.specs.Record.{Seen}
use Rattle.cookie_text.specs.declared.error.ParseError.{ParseError}
use Rattle.cookie_store.specs.Rows.{Row}
use Rattle.user_agent.specs.Refusals.{AsksForOverlay, IsFirstOf, IsLetIn, IsRefusedBy, MayOverlay, NoneOf, Refuses}
use Rattle.user_agent.specs.Refusals.{RefusesCookie, is_on}
use Rattle.user_agent.specs.Refusals.{place}
use Rattle.user_agent.specs.declared.rules.Refusal.{Refusal}
use Rattle.user_agent.specs.declared.rules.Refusal.TheVariants.{Control, TooLong, SecurePrefix, HostPrefix}
use Rattle.user_agent.specs.declared.rules.Refusal.TheVariants.{SecureFromHttp, SecureOverlay}
use Rattle.user_agent.specs.declared.rules.Rules.{Rules}
use Rattle.user_agent.proofs.KnownLemmas.{OneOutcome}

module _ (once : OneOutcome) (rules : Rules) (rows : List Row) (url : Parts) (now : ℤ) (line : List ℕ) where
  -- no rule refuses what is no text, or reads as no cookie
  pub let_in_unread : ((seen : Seen) → ¬ (IsUtf8 line × ReadsPlain line (Ok seen))) → IsLetIn rules rows url now line
  let_in_unread none rule on h = none h.1.0 (h.0, h.1.1)

  module _ (seen : Seen) (utf8 : IsUtf8 line) (reads : ReadsPlain line (Ok seen)) where
    same_ok : (s t : Seen) → ◌≡◌ {A = Result Seen ParseError} (Ok s) (Ok t) → s ≡ t
    same_ok s t e = cc

    down : (r : Refusal) → Refuses rows url now line r → RefusesCookie rows url now seen r
    down r h =
        subst (λ s. RefusesCookie rows url now s r)
        (same_ok h.1.0 seen (once line (Ok h.1.0) (Ok seen) h.1.1 reads)) h.1.2

    up : (r : Refusal) → RefusesCookie rows url now seen r → Refuses rows url now line r
    up r h = (utf8, (seen, reads, h))

    pub judged : {E : Type 0} (r : Result (Option Refusal) E)
        → IfOk r (λ found. MatchOption found (NoneOf rules (RefusesCookie rows url now seen))
        (IsFirstOf rules (RefusesCookie rows url now seen)))
        → IfOk r (λ found. MatchOption found (IsLetIn rules rows url now line) (IsRefusedBy rules rows url now line))
    judged (Err e) h = tt
    judged (Ok None) h = λ r on against. h r on (down r against)
    judged (Ok (Some rule)) h = record {
      on = h.on;
      against = up rule h.against;
      first = λ r less on against. h.first r less on (down r against);
    }

-- what wants memory for the cookie as which a line reads
pub asked_of : {E : Type 0} (r : Result (Option Refusal) E) (rules : Rules) (url : Parts) (line : List ℕ) (seen : Seen)
    → IsUtf8 line → ReadsPlain line (Ok seen) → OnErr r (IsTrue rules.secure_overlay × MayOverlay url seen.cookie)
    → OnErr r (IsTrue rules.secure_overlay × AsksForOverlay url line)
asked_of (Ok found) rules url line seen utf8 reads h = tt
asked_of (Err e) rules url line seen utf8 reads h = (h.0, (utf8, (seen, reads, h.1)))

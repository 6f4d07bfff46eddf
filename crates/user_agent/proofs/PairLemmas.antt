-- The pair of a line stays, whatever rules are on.
use Rattle.std.proofs.Common.{◌≡◌, ◌∙◌, ℕ, ℤ, Bool, true, false, List, ap, inl, inr}
use Rattle.cookie_text.specs.Reading.{first_piece}
use Rattle.user_agent.specs.Agent.{IsDoneIf, PairsStay}
use Rattle.user_agent.specs.CutLives.{IsCutLine}
use Rattle.user_agent.specs.KnownDates.{IsKnownLine}
use Rattle.user_agent.specs.LongAttributes.{IsShortLine}
use Rattle.user_agent.proofs.CutLemmas as cuts
use Rattle.user_agent.proofs.KnownLemmas as dates
use Rattle.user_agent.proofs.LongLemmas as attributes

done_keeps : (on : Bool) (Step : List ℕ → List ℕ → Type 0) (line new : List ℕ)
    → (Step line new → first_piece new ≡ first_piece line) → IsDoneIf on Step line new
    → first_piece new ≡ first_piece line
done_keeps true Step line new keeps done = keeps done
done_keeps false Step line new keeps done = ap first_piece done

pub pairs_stay : PairsStay
pairs_stay rules now line handed (inl (text, h)) =
    done_keeps rules.long_lives (IsCutLine now) h.known handed (cuts.same_first now h.known handed) h.cut
    ∙ (done_keeps rules.dates IsKnownLine h.short h.known (dates.same_first h.short h.known) h.dated
    ∙ done_keeps rules.long_attributes IsShortLine line h.short (attributes.same_first line h.short) h.shortened)
pairs_stay rules now line handed (inr (other, same)) = ap first_piece same

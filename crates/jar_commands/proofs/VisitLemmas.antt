-- Visits, one behind another.
use Rattle.std.proofs.Common.{◌≡◌, ◌+◌, ◌<◌, ℕ, ℤ, Bool, List, [], ◌∷◌, ◌++◌, ◌||◌, ◌∙◌}
use Rattle.std.proofs.Common.{ap, sym, subst, get_or, length, take}
use Rattle.std.specs.Prelude.{map}
use Rattle.std.proofs.Math.Bool.{false-or, or_assoc}
use Rattle.publicsuffix.specs.Rules.{Rule}
use Rattle.response_heads.specs.Visits.{VisitText}
use Rattle.cookie_store.specs.Rows.{Row}
use Rattle.cookie_jar.specs.declared.form.Form.{Form}
use Rattle.user_agent.specs.declared.rules.Rules.{Rules}
use Rattle.cookie_client.proofs.Receiving.{map_take}
use Rattle.jar_commands.specs.Receiving.{TakesVisits, is_any_refused}
use Rattle.jar_commands.specs.declared.plan.Start.{Start}

-- visits behind those that were taken
takes_behind : (form : Form) (rules : Rules) (start : Start) (list : List Rule) (rows : List Row) (now : ℤ)
    (visits others : List VisitText) (refused more : Bool) (mid new : List Row)
    → TakesVisits form rules start list rows now visits refused mid
    → TakesVisits form rules start list mid now others more new
    → TakesVisits form rules start list rows now (visits ++ others) (refused || more) new
takes_behind form rules start list rows now [] others refused more mid new takes rest =
    subst (λ b. TakesVisits form rules start list rows now others b new)
    (sym (ap (λ b. b || more) takes.0 ∙ false-or more))
    (subst (λ r. TakesVisits form rules start list r now others more new) takes.1 rest)
takes_behind form rules start list rows now (v ∷ visits) others refused more mid new takes rest = (
  takes.0,
  takes.1,
  takes.2 || more,
  takes.3,
  takes_behind form rules start list takes.1 now visits others takes.2 more mid new takes.4 rest,
  ap (λ b. b || more) takes.5 ∙ or_assoc (is_any_refused takes.0) takes.2 more,
)

-- so with the first of some visits, and then one more of them; the list of public suffixes stays
pub takes_next : {A : Type 0} (f : A → VisitText) (form : Form) (rules : Rules) (start : Start) (list here : List Rule)
    (rows mid new : List Row) (now : ℤ) (xs : List A) (i : ℕ) (d : A) (refused after : Bool) → i < length xs
    → TakesVisits form rules start list rows now (take i (map f xs)) refused mid → here ≡ list
    → (more : Bool) × TakesVisits form rules start here mid now (f (get_or xs i d) ∷ []) more new
    × (after ≡ (refused || more))
    → TakesVisits form rules start list rows now (take (i + 1) (map f xs)) after new
takes_next f form rules start list here rows mid new now xs i d refused after h takes same (more, one, is) =
    subst (λ visits. TakesVisits form rules start list rows now visits after new) (sym (map_take f xs i d h))
    (subst (λ b. TakesVisits form rules start list rows now (take i (map f xs) ++ f (get_or xs i d) ∷ []) b new)
    (sym is)
    (takes_behind form rules start list rows now (take i (map f xs)) (f (get_or xs i d) ∷ []) refused more mid new takes
    (subst (λ l. TakesVisits form rules start l mid now (f (get_or xs i d) ∷ []) more new) same one)))

-- What a user agent does with lines one after another.
use Rattle.std.proofs.Common.{◌≡◌, ℕ, ℤ, ◌+◌, ◌<◌, List, [], ◌∷◌, ◌++◌, length, take, get_or, sym, refl, ap, ◌∙◌}
use Rattle.std.proofs.Common.{subst, inl, inr, zero, suc, arith, Bool, true, false, true≢false}
use Rattle.std.specs.Prelude.{map, ◌||◌, IsTrue}
use Rattle.std.proofs.lemmas.List.{take_more, take-map, map-append, length-map}
use Rattle.publicsuffix.specs.Rules.{Rule}
use Rattle.url.specs.Parts.{Parts}
use Rattle.cookie_store.specs.Rows.{Row}
use Rattle.cookie_client.specs.Accept.{Accepts, AcceptsAll}
use Rattle.cookie_client.specs.declared.outcome.LineEnd.{LineEnd}
use Rattle.user_agent.specs.Agent.{AreGiven, AsksForMemory, ClientsTakeTheirs, IsDoneIf, IsHandedOn}
use Rattle.user_agent.specs.Agent.{NoRulesAreTheClient, StopsAtLine, TakesLine, TakesLines}
use Rattle.user_agent.specs.Refusals.{is_on, no_rules}
use Rattle.user_agent.specs.declared.rules.Outcome.{Outcome}
use Rattle.user_agent.specs.declared.rules.Outcome.TheVariants.{Taken, Refused}
use Rattle.user_agent.specs.declared.rules.Refusal.{Refusal}
use Rattle.user_agent.specs.declared.rules.Refusal.TheVariants.{Control, TooLong, SecurePrefix, HostPrefix}
use Rattle.user_agent.specs.declared.rules.Refusal.TheVariants.{SecureFromHttp, SecureOverlay, LacksSecure}
use Rattle.user_agent.specs.declared.rules.Rules.{Rules}

-- ---- line by line

lines_push : (rules : Rules) (list : List Rule) (rows mid new : List Row) (url : Parts) (now : ℤ)
    (lines : List (List ℕ)) (outcomes : List Outcome) (line : List ℕ) (outcome : Outcome)
    → TakesLines rules list rows url now lines outcomes mid → TakesLine rules list mid url now line outcome new
    → TakesLines rules list rows url now (lines ++ line ∷ []) (outcomes ++ outcome ∷ []) new
lines_push rules list rows mid new url now [] [] line outcome h a =
    (new, subst (λ rs. TakesLine rules list rs url now line outcome new) h.1 a, (refl, refl))
lines_push rules list rows mid new url now [] (o ∷ os) line outcome h a = absurd (not_nil o os h.0)
  where
    not_nil : (x : Outcome) (xs : List Outcome) → ¬ (x ∷ xs ≡ [])
    not_nil x xs p = cc
lines_push rules list rows mid new url now (l ∷ ls) [] line outcome h a = absurd h
lines_push rules list rows mid new url now (l ∷ ls) (o ∷ os) line outcome h a =
    (h.0, h.1, lines_push rules list h.0 mid new url now ls os line outcome h.2 a)

pub map_take : {A B : Type 0} (f : A → B) (xs : List A) (i : ℕ) (d : A) → i < length xs
    → take (i + 1) (map f xs) ≡ take i (map f xs) ++ f (get_or xs i d) ∷ []
map_take f xs i d h =
    take-map f (i + 1) xs ∙ (ap (map f) (take_more xs i d h) ∙ (map-append f (take i xs) (get_or xs i d ∷ [])
    ∙ ap (λ ys. ys ++ f (get_or xs i d) ∷ []) (sym (take-map f i xs))))

pub next_line : {A : Type 0} (f : A → List ℕ) (rules : Rules) (list : List Rule) (start mid new : List Row)
    (old outcomes : List Outcome) (outcome : Outcome) (url : Parts) (now : ℤ) (xs : List A) (i : ℕ) (d : A)
    → i < length xs → TakesLines rules list start url now (take i (map f xs)) old mid → (here : List Rule) → here ≡ list
    → TakesLine rules here mid url now (f (get_or xs i d)) outcome new → outcomes ≡ old ++ outcome ∷ []
    → TakesLines rules list start url now (take (i + 1) (map f xs)) outcomes new
next_line f rules list start mid new old outcomes outcome url now xs i d h all here same one is =
    subst (λ os. TakesLines rules list start url now (take (i + 1) (map f xs)) os new) (sym is)
    (subst (λ ls. TakesLines rules list start url now ls (old ++ outcome ∷ []) new) (sym (map_take f xs i d h))
    (lines_push rules list start mid new url now (take i (map f xs)) old (f (get_or xs i d)) outcome all
    (subst (λ l. TakesLine rules l mid url now (f (get_or xs i d)) outcome new) same one)))

pub map_at : {A : Type 0} (f : A → List ℕ) (xs : List A) (i : ℕ) (d : A) → i < length xs
    → get_or (map f xs) i [] ≡ f (get_or xs i d)
map_at f [] i d h = absurd (omega (arith, h))
map_at f (x ∷ xs) zero d h = refl
map_at f (x ∷ xs) (suc i) d h = map_at f xs i d (omega arith)

pub stopped_line : {A : Type 0} (f : A → List ℕ) (rules : Rules) (list : List Rule) (start mid new : List Row)
    (old : List Outcome) (url : Parts) (now : ℤ) (xs : List A) (i : ℕ) (d : A) → i < length xs
    → TakesLines rules list start url now (take i (map f xs)) old mid → new ≡ mid
    → AsksForMemory rules url (f (get_or xs i d)) → StopsAtLine rules list start url now (map f xs) (i + 1) new
stopped_line f rules list start mid new old url now xs i d h all same asks = record {
  before = i;
  outcomes = old;
  number = refl;
  within = subst (λ n. i < n) (sym (length-map xs f)) h;
  taken = subst (TakesLines rules list start url now (take i (map f xs)) old) (sym same) all;
  asks = subst (AsksForMemory rules url) (sym (map_at f xs i d h)) asks;
}

-- ---- one line

-- where no rule changes lines
pub or_false : (a b : Bool) → false ≡ (a || b) → (a ≡ false) × (b ≡ false)
or_false true b e = absurd (true≢false (sym e))
or_false false b e = (refl, sym e)

pub not_done : (b : Bool) (Step : List ℕ → List ℕ → Type 0) (line : List ℕ) → b ≡ false → IsDoneIf b Step line line
not_done b Step line e = subst (λ x. IsDoneIf x Step line line) (sym e) refl

-- ---- what the client gets

-- what the client gets of the lines, and the rows after it took that
abbrev Theirs : Rules → List Rule → Parts → ℤ → List Row → List Row → List (List ℕ) → List Outcome → Type 0
Theirs rules list url now rows new lines outcomes =
    (given : List (List ℕ)) × (ends : List LineEnd) × AreGiven rules now lines outcomes given ends
    × AcceptsAll list rows url now given ends new

pub clients_take_theirs : ClientsTakeTheirs
clients_take_theirs rules list rows url now [] outcomes new h = ([], [], (h.0, refl, refl), (refl, h.1))
clients_take_theirs rules list rows url now (line ∷ lines) [] new h = absurd h
clients_take_theirs rules list rows url now (line ∷ lines) (outcome ∷ outcomes) new (mid, one, rest) =
    by one (clients_take_theirs rules list mid url now lines outcomes new rest)
  where
    refused : (rule : Refusal) → outcome ≡ Refused rule → mid ≡ rows → Theirs rules list url now mid new lines outcomes
        → Theirs rules list url now rows new (line ∷ lines) (outcome ∷ outcomes)
    refused rule is same (given, ends, are, all) = (
      given,
      ends,
      subst (λ o. AreGiven rules now (line ∷ lines) (o ∷ outcomes) given ends) (sym is) are,
      subst (λ rs. AcceptsAll list rs url now given ends new) same all,
    )

    by : TakesLine rules list rows url now line outcome mid → Theirs rules list url now mid new lines outcomes
        → Theirs rules list url now rows new (line ∷ lines) (outcome ∷ outcomes)
    by (inl (stopped, is, same)) later = refused Control is same later
    by (inr (free, (handed, is_handed, inl (rule, against, is, same)))) later = refused rule is same later
    by (inr (free, (handed, is_handed, inr (let_in, (end, accepts, is))))) (given, ends, are, all) = (
      handed ∷ given,
      end ∷ ends,
      subst (λ o. AreGiven rules now (line ∷ lines) (o ∷ outcomes) (handed ∷ given) (end ∷ ends)) (sym is)
          (handed, given, ends, is_handed, refl, refl, are),
      (mid, accepts, all),
    )

-- ---- without rules

no_line : (list : List Rule) (rows new : List Row) (url : Parts) (now : ℤ) (line : List ℕ) (outcome : Outcome)
    → TakesLine no_rules list rows url now line outcome new
    → (end : LineEnd) × (outcome ≡ Taken end) × Accepts list rows url now line end new
no_line list rows new url now line outcome (inl (stopped, is, same)) = absurd (cc (stopped.0))
no_line list rows new url now line outcome (inr (free, (handed, is_handed, inl (rule, refused, is, same)))) =
    absurd (off rule refused.on)
  where
    off : (r : Refusal) → ¬ (IsTrue (is_on no_rules r))
    off Control on = cc on
    off TooLong on = cc on
    off SecurePrefix on = cc on
    off HostPrefix on = cc on
    off SecureFromHttp on = cc on
    off SecureOverlay on = cc on
    off LacksSecure on = cc on
no_line list rows new url now line outcome (inr (free, (handed, is_handed, inr (let_in, (end, accepts, is))))) =
    (end, is, subst (λ l. Accepts list rows url now l end new) (same is_handed) accepts)
  where
    same : IsHandedOn no_rules now line handed → handed ≡ line
    same (inl (text, h)) = h.cut ∙ h.dated ∙ h.shortened
    same (inr (none, e)) = e

pub without_rules : NoRulesAreTheClient
without_rules list rows url now [] outcomes new h = ([], h.0, (refl, h.1))
without_rules list rows url now (line ∷ lines) [] new h = absurd h
without_rules list rows url now (line ∷ lines) (outcome ∷ outcomes) new (mid, one, rest) =
    let (end, is, accepts) = no_line list rows mid url now line outcome one in
    let (ends, are, all) = without_rules list mid url now lines outcomes new rest in
    (end ∷ ends, (λ i. is i ∷ are i), (mid, accepts, all))

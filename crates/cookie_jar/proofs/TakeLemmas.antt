-- What a jar does with lines one after another.
use Rattle.std.proofs.Common.{◌≡◌, ◌+◌, ◌<◌, ◌∷◌, [], ◌++◌, ℕ, ℤ, Bool, true, false, List, length}
use Rattle.std.proofs.Common.{take, get_or, sym, refl, ap, subst, inl, inr, Result, Ok, Err, ⊎_elim}
use Rattle.std.specs.Prelude.{map, IfOk, IfErr}
use Rattle.std.specs.List.{AllByRecursion}
use Rattle.std.specs.Str.{IsUtf8}
use Rattle.std.proofs.lemmas.Bool.{cases_Bool}
use Rattle.std.proofs.lemmas.List.{length-map}
use Rattle.cookie_text.specs.Reading.{ReadsPlain}
use Rattle.cookie_text.specs.Record.{Seen}
use Rattle.cookie_text.specs.declared.error.ParseError.{ParseError}
use Rattle.publicsuffix.specs.Rules.{Rule}
use Rattle.store_parts.specs.declared.error.CookieError.{CookieError}
use Rattle.url.specs.Parts.{IsValid, Parts}
use Rattle.cookie_store.specs.Insertion.{InsertsRead}
use Rattle.cookie_store.specs.Rows.{Row}
use Rattle.cookie_store.specs.declared.action.StoreAction.{StoreAction}
use Rattle.cookie_client.specs.Accept.{Accepts, AcceptsAll}
use Rattle.cookie_client.specs.HostRows.{AnswersHoldRightly}
use Rattle.cookie_client.specs.declared.outcome.LineEnd.{LineEnd}
use Rattle.cookie_client.proofs.ClientRows.{received_pairs}
use Rattle.cookie_client.proofs.ComingBack.{inserts_from}
use Rattle.cookie_client.proofs.Receiving.{map_at, map_take}
use Rattle.user_agent.specs.Agent.{AsksForMemory, IsHandedOn, NoRulesAreTheClient, TakesHanded, TakesLine as AgentTakes}
use Rattle.user_agent.specs.Controls.{FreeLinesRead, FreeLinesStay}
use Rattle.user_agent.specs.CrossAnswers.{TakesLineFrom}
use Rattle.user_agent.specs.Refusals.{no_rules}
use Rattle.user_agent.specs.declared.cross_answer.OutcomeFor.{OutcomeFor}
use Rattle.user_agent.specs.declared.cross_answer.OutcomeFor.TheVariants.{Judged, KeptOut as IsKeptOut}
use Rattle.user_agent.specs.declared.cross_answer.SiteRefusal.{SiteRefusal}
use Rattle.user_agent.specs.declared.rules.Outcome.{Outcome}
use Rattle.user_agent.specs.declared.rules.Outcome.TheVariants.{Refused, Taken}
use Rattle.user_agent.specs.declared.rules.Refusal.TheVariants.{Control as ByControl}
use Rattle.user_agent.specs.declared.rules.Rules.{Rules}
use Rattle.user_agent.specs.declared.sites.Initiator.{Initiator}
use Rattle.cookie_jar.specs.Keeping.{AreKept, IsClean, has_control}
use Rattle.cookie_jar.specs.Laws.{WithoutRules}
use Rattle.cookie_jar.specs.Taking.{HasControl, IsStopped, IsStoppedFor, StopsAtLine, TakesAll}
use Rattle.cookie_jar.specs.Taking.{TakesFor, TakesLine}
use Rattle.cookie_jar.specs.declared.form.Form.{Form}
use Rattle.cookie_jar.specs.declared.taking.End.{End}
use Rattle.cookie_jar.specs.declared.taking.End.TheVariants.{Line, KeptOut, Control, Tab}
use Rattle.cookie_jar.proofs.ControlLemmas.{made_clean}
use Rattle.cookie_jar.proofs.KeepLemmas.{clean_of, held_of, kept_from, pairs_of}

-- ---- line by line

all_push : (form : Form) (rules : Rules) (across : Bool) (list : List Rule) (rows mid new : List Row)
    (url : Parts) (now : ℤ)
    (lines : List (List ℕ)) (ends : List End) (line : List ℕ) (end : End)
    → TakesAll form rules across list rows url now lines ends mid
    → TakesLine form rules across list mid url now line end new
    → TakesAll form rules across list rows url now (lines ++ line ∷ []) (ends ++ end ∷ []) new
all_push form rules across list rows mid new url now [] [] line end h a =
    (new, subst (λ rs. TakesLine form rules across list rs url now line end new) h.1 a, (refl, refl))
all_push form rules across list rows mid new url now [] (e ∷ ends) line end h a = absurd (not_nil e ends h.0)
  where
    not_nil : (e : End) (es : List End) → e ∷ es ≡ [] → ⊥
    not_nil e es p = cc
all_push form rules across list rows mid new url now (l ∷ lines) [] line end h a = absurd h
all_push form rules across list rows mid new url now (l ∷ lines) (e ∷ ends) line end h a =
    (h.0, h.1, all_push form rules across list h.0 mid new url now lines ends line end h.2 a)

pub next_line : {A : Type 0} (f : A → List ℕ) (form : Form) (rules : Rules) (across : Bool) (list : List Rule)
    (start mid new : List Row) (old ends : List End) (end : End) (url : Parts) (now : ℤ) (xs : List A) (i : ℕ)
    (d : A) → i < length xs → TakesAll form rules across list start url now (take i (map f xs)) old mid
    → (here : List Rule) → here ≡ list
    → TakesLine form rules across here mid url now (f (get_or xs i d)) end new → ends ≡ old ++ end ∷ []
    → TakesAll form rules across list start url now (take (i + 1) (map f xs)) ends new
next_line f form rules across list start mid new old ends end url now xs i d h all here same one is =
    subst (λ es. TakesAll form rules across list start url now (take (i + 1) (map f xs)) es new) (sym is)
    (subst (λ ls. TakesAll form rules across list start url now ls (old ++ end ∷ []) new) (sym (map_take f xs i d h))
    (all_push form rules across list start mid new url now (take i (map f xs)) old (f (get_or xs i d)) end all
    (subst (λ l. TakesLine form rules across l mid url now (f (get_or xs i d)) end new) same one)))

pub stopped_line : {A : Type 0} (f : A → List ℕ) (form : Form) (rules : Rules) (across : Bool) (list : List Rule)
    (start mid new : List Row) (old : List End) (url : Parts) (now : ℤ) (xs : List A) (i : ℕ) (d : A) → i < length xs
    → TakesAll form rules across list start url now (take i (map f xs)) old mid → new ≡ mid
    → AsksForMemory rules url (f (get_or xs i d))
    → StopsAtLine form rules across list start url now (map f xs) (i + 1) new
stopped_line f form rules across list start mid new old url now xs i d h all same asks = record {
  before = i;
  number = refl;
  within = subst (λ n. i < n) (sym (length-map xs f)) h;
  ends = old;
  taken = subst (TakesAll form rules across list start url now (take i (map f xs)) old) (sym same) all;
  asks = subst (AsksForMemory rules url) (sym (map_at f xs i d h)) asks;
}

-- ---- no row of a line has a control character

free_of : (line : List ℕ) → ¬ (HasControl line) → has_control line ≡ false
free_of line none =
    ⊎_elim (λ (e : has_control line ≡ true). absurd (none e)) (λ (e : has_control line ≡ false). e)
    (cases_Bool (has_control line))

same_clean : (rows new : List Row) → new ≡ rows → AllByRecursion IsClean rows → AllByRecursion IsClean new
same_clean rows new is all = subst (AllByRecursion IsClean) (sym is) all

module _ (read : FreeLinesRead) (list : List Rule) (url : Parts) (valid : IsValid url) (now : ℤ) (line : List ℕ)
    (free : has_control line ≡ false) where
  read_clean : (rows : List Row) (end : Result StoreAction CookieError) (new : List Row) (o : Result Seen ParseError)
      → IsUtf8 line → ReadsPlain line o → AllByRecursion IsClean rows → InsertsRead list rows url now o (end, new)
      → AllByRecursion IsClean new
  read_clean rows end new (Err e) utf8 reads all h = same_clean rows new (ap (λ p. p.1) h) all
  read_clean rows end new (Ok s) utf8 reads all (inl wrong) = same_clean rows new (ap (λ p. p.1) wrong.3) all
  read_clean rows end new (Ok s) utf8 reads all (inr made) =
      inserts_from IsClean (λ r h. h) (λ r h. h) list url now made.0 rows end new
      (made_clean s url now made.0 valid (read line s free utf8 reads) made.1) all made.2

  accepts_clean : (rows : List Row) (end : LineEnd) (new : List Row) → AllByRecursion IsClean rows
      → Accepts list rows url now line end new → AllByRecursion IsClean new
  accepts_clean rows end new all (inl against) = same_clean rows new against.2 all
  accepts_clean rows end new all (inr (other, inl wrong)) = same_clean rows new wrong.2 all
  accepts_clean rows end new all (inr (other, inr right)) =
      read_clean rows right.1.2.0 new right.1.0 right.0 right.1.1 all right.1.2.1

-- ---- the rows behind lines are kept

module _ (law : AnswersHoldRightly) (stay : FreeLinesStay) (read : FreeLinesRead) (form : Form) (rules : Rules)
    (across : Bool) (list : List Rule) (url : Parts) (valid : IsValid url) (now : ℤ) where
  accepts_kept : (line : List ℕ) (rows : List Row) (end : LineEnd) (new : List Row) → has_control line ≡ false
      → AreKept rows → Accepts list rows url now line end new → AreKept new
  accepts_kept line rows end new free kept accepts = kept_from new
      (accepts_clean read list url valid now line free rows end new (clean_of rows kept) accepts)
      (received_pairs list url now (line ∷ []) rows (end ∷ []) new (pairs_of rows kept) (new, accepts, (refl, refl)))
      (law list rows url now (line ∷ []) new (end ∷ [], (new, accepts, (refl, refl))) (held_of rows kept))

  handed_kept : (line handed : List ℕ) (rows : List Row) (outcome : Outcome) (new : List Row)
      → has_control line ≡ false → AreKept rows → IsHandedOn rules now line handed
      → TakesHanded rules list rows url now handed outcome new → AreKept new
  handed_kept line handed rows outcome new free kept is (inl (rule, refused, told, same)) =
      subst AreKept (sym same) kept
  handed_kept line handed rows outcome new free kept is (inr (let_in, (end, accepts, told))) =
      accepts_kept handed rows end new (stay rules now line handed free is) kept accepts

  from_kept : (line : List ℕ) (rows : List Row) (outcome : OutcomeFor) (new : List Row) → has_control line ≡ false
      → AreKept rows → TakesLineFrom rules across list rows url now line outcome new → AreKept new
  from_kept line rows outcome new free kept (inl (stopped, is, same)) = subst AreKept (sym same) kept
  from_kept line rows outcome new free kept (inr (passed, (handed, is, inl (cause, out, told, same)))) =
      subst AreKept (sym same) kept
  from_kept line rows outcome new free kept (inr (passed, (handed, is, inr (may, (judged, takes, told))))) =
      handed_kept line handed rows judged new free kept is takes

  line_kept : (line : List ℕ) (rows : List Row) (end : End) (new : List Row) → AreKept rows
      → TakesLine form rules across list rows url now line end new → AreKept new
  line_kept line rows Control new kept takes = subst AreKept (sym takes.1) kept
  line_kept line rows Tab new kept takes = subst AreKept (sym takes.2) kept
  line_kept line rows (Line outcome changes) new kept takes =
      from_kept line rows (Judged outcome) new (free_of line takes.0) kept takes.2
  line_kept line rows (KeptOut cause) new kept takes =
      from_kept line rows (IsKeptOut cause) new (free_of line takes.0) kept takes.2

  all_kept : (lines : List (List ℕ)) (rows : List Row) (ends : List End) (new : List Row) → AreKept rows
      → TakesAll form rules across list rows url now lines ends new → AreKept new
  all_kept [] rows ends new kept takes = subst AreKept (sym takes.1) kept
  all_kept (line ∷ lines) rows [] new kept takes = absurd takes
  all_kept (line ∷ lines) rows (end ∷ ends) new kept takes =
      all_kept lines takes.0 ends new (line_kept line rows end takes.0 kept takes.1) takes.2

  stopped_kept : (lines : List (List ℕ)) (rows : List Row) (n : ℕ) (new : List Row) → AreKept rows
      → IsStopped form rules across list rows url now lines n new → AreKept new
  stopped_kept lines rows n new kept (inl none) = subst AreKept (sym none.1) kept
  stopped_kept lines rows n new kept (inr stops) =
      all_kept (take stops.before lines) rows stops.ends new kept stops.taken

-- ---- by what started the request

module _ (law : AnswersHoldRightly) (stay : FreeLinesStay) (read : FreeLinesRead) (form : Form) (rules : Rules)
    (list : List Rule) (url : Parts) (valid : IsValid url) (now : ℤ) (initiator : Initiator) where
  pub received_kept : {A B : Type 0} (r : Result A B) (all : A → List End) (at : B → ℕ) (lines : List (List ℕ))
      (rows new : List Row) → AreKept rows
      → IfOk r (λ ends. TakesFor form rules list rows url initiator now lines (all ends) new)
      → IfErr r (λ stopped. IsStoppedFor form rules list rows url initiator now lines (at stopped) new) → AreKept new
  received_kept (Ok ends) all at lines rows new kept (inl takes) g =
      all_kept law stay read form rules true list url valid now lines rows (all ends) new kept takes.1
  received_kept (Ok ends) all at lines rows new kept (inr takes) g =
      all_kept law stay read form rules false list url valid now lines rows (all ends) new kept takes.1
  received_kept (Err stopped) all at lines rows new kept h (inl stops) =
      stopped_kept law stay read form rules true list url valid now lines rows (at stopped) new kept stops.1
  received_kept (Err stopped) all at lines rows new kept h (inr stops) =
      stopped_kept law stay read form rules false list url valid now lines rows (at stopped) new kept stops.1

-- ---- without rules

one_end : (list : List Rule) (rows new : List Row) (url : Parts) (now : ℤ) (line : List ℕ) (outcome : Outcome)
    (ends : List LineEnd) → outcome ∷ [] ≡ map Taken ends → AcceptsAll list rows url now (line ∷ []) ends new
    → (end : LineEnd) × (outcome ≡ Taken end) × Accepts list rows url now line end new
one_end list rows new url now line outcome [] same all = absurd all
one_end list rows new url now line outcome (end ∷ ends) same (mid, accepts, rest) =
    let first : outcome ≡ Taken end = cc in
    (end, first, subst (Accepts list rows url now line end) (sym rest.1) accepts)

judged_is : (a b : Outcome) → Judged a ≡ Judged b → a ≡ b
judged_is a b e = cc

judged_apart : (outcome : Outcome) (cause : SiteRefusal) → Judged outcome ≡ IsKeptOut cause → ⊥
judged_apart outcome cause e = cc

-- a line that isn't kept out is taken as where nothing is said of the request
judged_takes : (rules : Rules) (across : Bool) (list : List Rule) (rows new : List Row) (url : Parts) (now : ℤ)
    (line : List ℕ) (outcome : Outcome) → TakesLineFrom rules across list rows url now line (Judged outcome) new
    → AgentTakes rules list rows url now line outcome new
judged_takes rules across list rows new url now line outcome (inl (stopped, is, same)) =
    inl (stopped, judged_is outcome (Refused ByControl) is, same)
judged_takes rules across list rows new url now line outcome
    (inr (passed, (handed, is, inl (cause, out, told, same)))) = absurd (judged_apart outcome cause told)
judged_takes rules across list rows new url now line outcome
    (inr (passed, (handed, is, inr (may, (judged, takes, told))))) =
    inr (
      passed,
      (
        handed,
        is,
        subst (λ o. TakesHanded rules list rows url now handed o new)
            (sym (judged_is outcome judged told)) takes,
      ),
    )

pub without_rules : NoRulesAreTheClient → WithoutRules
without_rules law form across list rows url now line outcome changes new takes =
    let own = judged_takes no_rules across list rows new url now line outcome takes.2 in
    let (ends, same, all) = law list rows url now (line ∷ []) (outcome ∷ []) new (new, own, (refl, refl)) in
    one_end list rows new url now line outcome ends same all

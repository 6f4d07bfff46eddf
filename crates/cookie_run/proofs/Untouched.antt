-- Each header of a play is the one after those acts alone that concern its host.
use Rattle.std.proofs.Common.{Bool, ◌≡◌, ℕ, ℤ, List, [], ◌∷◌, ◌++◌, sym, refl, ◌∙◌, subst, inl, inr, append-nil}
use Rattle.std.specs.List.{AllByRecursion}
use Rattle.publicsuffix.specs.Rules.{Rule}
use Rattle.cookie_store.specs.Laws.{GivenOnce, OneOrder}
use Rattle.cookie_store.specs.Rows.{Row}
use Rattle.cookie_client.specs.Steps.{Act, Visits, Answers, Asks, Restarts, Arrival, Arrives, Never, GetTells}
use Rattle.cookie_client.specs.Steps.{CommandTells, Tells, OneStep}
use Rattle.cookie_run.specs.Acts.{arrival_in}
use Rattle.cookie_client.specs.Jar.{Keyed}
use Rattle.cookie_run.specs.Play.{ServesAll, ServesFront, Plays, ReadsAll, ReadsFront}
use Rattle.cookie_run.specs.Readings.{all_told}
use Rattle.cookie_run.specs.Stops.{StopsFrom, StopsInside}
use Rattle.cookie_run.specs.Strangers.{IsNoHeader, ReadsUntouched, EachReadsUntouched, EachPlayIsUntouched}
use Rattle.cookie_run.specs.Strangers.{EachStoppedPlayIsUntouched}
use Rattle.cookie_client.specs.declared.command.Command.{Command}
use Rattle.cookie_client.specs.declared.command.Command.TheVariants.{Set, Remove, Get}
use Rattle.cookie_run.specs.declared.step.FaultKind.{FaultKind}
use Rattle.cookie_client.specs.declared.command.Reading.{Reading}
use Rattle.cookie_client.specs.declared.way.Way.{Way}
use Rattle.cookie_client.proofs.ReadOnce.{ReadsOnce}
use Rattle.cookie_run.proofs.Strangers.{untouched}

-- ---- commands read no header

abbrev AreHeadless : List Reading → Type 0
AreHeadless told = AllByRecursion IsNoHeader told

headless_append : (xs ys : List Reading) → AreHeadless xs → AreHeadless ys → AreHeadless (xs ++ ys)
headless_append [] ys h g = g
headless_append (x ∷ xs) ys h g = (h.0, headless_append xs ys h.1 g)

get_headless : (session : Keyed) (way : Way) (name : List ℕ) (told : List Reading) → GetTells session way name told
    → AreHeadless told
get_headless session way [] told t = subst AreHeadless (sym t) (tt, tt)
get_headless session way (b ∷ bs) told t = subst AreHeadless (sym t.1) (tt, tt)

command_headless : (old new : Keyed) (at : ℤ) (c : Command) (told : List Reading) → CommandTells old at c told new
    → AreHeadless told
command_headless old new at (Set way cookie) told (inl t) = subst AreHeadless (sym t.0) tt
command_headless old new at (Set way cookie) told (inr t) = subst AreHeadless (sym t.1) (tt, tt)
command_headless old new at (Remove way name) told (moment, now, inl t) = subst AreHeadless (sym t.0) tt
command_headless old new at (Remove way name) told (moment, now, inr t) = subst AreHeadless (sym t.1) (tt, tt)
command_headless old new at (Get way name) told t = get_headless old way name told t.0

commands_headless : (old new : Keyed) (at : ℤ) (cs : List Command) (told : List Reading) → Tells old at cs told new
    → AreHeadless told
commands_headless old new at [] told t = subst AreHeadless (sym t.0) tt
commands_headless old new at (c ∷ cs) told t =
    subst AreHeadless (sym t.5) (headless_append t.0 t.1 (command_headless old t.2 at c t.0 t.3)
    (commands_headless t.2 new at cs t.1 t.4))

all_headless : {b : Bool} (key header : List ℕ) (at : ℤ) (cs : List Command) (told : List Reading)
    → ServesAll b key header at cs told → AreHeadless told
all_headless key header at cs told s = commands_headless s.1.0 s.0 at cs told s.1.2

front_headless : {b : Bool} (key header : List ℕ) (at : ℤ) (cs : List Command) (told : List Reading)
    → ServesFront b key header at cs told → AreHeadless told
front_headless key header at cs told (inl none) = subst AreHeadless (sym none) tt
front_headless key header at cs told (inr front) = all_headless key header at front.0 told front.3

-- ---- a play

plays_more : (b : Bool) (list : List Rule) (key : List ℕ) (start rows mid : List Row) (before : List Act) (act : Act)
    (told : List (List Reading)) (t : List Reading) → Plays b list key start before told rows
    → OneStep b list key rows act t mid → Plays b list key start (before ++ act ∷ []) (told ++ t ∷ []) mid
plays_more b list key start rows mid [] act [] t p s = (mid, subst (λ x. OneStep b list key x act t mid) p s, refl)
plays_more b list key start rows mid [] act (x ∷ xs) t p s = absurd p
plays_more b list key start rows mid (c ∷ cs) act [] t p s = absurd p
plays_more b list key start rows mid (c ∷ cs) act (x ∷ xs) t p s =
    (p.0, p.1, plays_more b list key p.0 rows mid cs act xs t p.2 s)

module _ (one : ReadsOnce) (given_once : GivenOnce) (order : OneOrder) (list : List Rule) (key : List ℕ) where
  act_untouched : (b : Bool) (before : List Act) (act : Act) (told : List (List Reading)) (t : List Reading)
      (rows mid : List Row) → Plays b list key [] before told rows → OneStep b list key rows act t mid
      → ReadsUntouched list key before act t
  act_untouched b before (Visits url at commands arrival) told t rows mid p s =
      commands_headless s.2.1.0 s.2.0 at commands t s.2.1.2
  act_untouched b before (Answers url lines at) told t rows mid p s = s.0
  act_untouched b before (Asks url at) told t rows mid p s =
      (s.0.0, s.0.2, untouched b one given_once order list key before told rows url at s.0.0 p s.0.1)
  act_untouched b before (Restarts at) told t rows mid p s = s.0

  each_untouched : (b : Bool) (before acts : List Act) (told later : List (List Reading)) (rows new : List Row)
      → Plays b list key [] before told rows → Plays b list key rows acts later new
      → EachReadsUntouched list key before acts later
  each_untouched b before [] told [] rows new p q = refl
  each_untouched b before [] told (t ∷ later) rows new p q = absurd q
  each_untouched b before (act ∷ acts) told [] rows new p q = absurd q
  each_untouched b before (act ∷ acts) told (t ∷ later) rows new p q = (
    act_untouched b before act told t rows q.0 p q.1,
    each_untouched b (before ++ act ∷ []) acts (told ++ t ∷ []) later q.0 new
        (plays_more b list key [] rows q.0 before act told t p q.1) q.2,
  )

-- ---- an act that the play stopped in

abbrev HasFront : List Reading → List Reading → Type 0
HasFront old readings = (front : List Reading) × (readings ≡ old ++ front) × AreHeadless front

inside_headless : (kind : FaultKind) (last : ℤ) (arrival : Arrival) (old readings : List Reading)
    (Front All : List Reading → Type 0) → ((told : List Reading) → Front told → AreHeadless told)
    → ((told : List Reading) → (at : ℤ) → arrival ≡ Arrives at → All told → AreHeadless told)
    → StopsInside kind last arrival old Front All readings → HasFront old readings
inside_headless kind last arrival old readings Front All f g (inl memory) =
    (memory.1.0, memory.1.2, f memory.1.0 memory.1.1)
inside_headless kind last (Arrives at) old readings Front All f g (inr delivery) =
    (delivery.1.0, delivery.1.2, g delivery.1.0 at refl delivery.1.1)
inside_headless kind last Never old readings Front All f g (inr delivery) = absurd delivery.0

past_headless : (b : Bool) (key : List ℕ) (rows : List Row) (act : Act) (kind : FaultKind) (last : ℤ)
    (old readings : List Reading) → StopsInside kind last (arrival_in act) old (ReadsFront b key rows act)
    (ReadsAll b key rows act) readings → HasFront old readings
past_headless b key rows (Visits url at commands arrival) kind last old readings s =
    inside_headless kind last arrival old readings _ _ (λ told front. fronts told front)
    (λ told at is all. all_headless key all.0 _ commands told all.2) s
  where
    fronts : {b : Bool} (told : List Reading) → ReadsFront b key rows (Visits url at commands arrival) told
        → AreHeadless told
    fronts told (inl none) = subst AreHeadless (sym none) tt
    fronts told (inr front) = front_headless key front.0 at commands told front.2
past_headless b key rows (Answers url lines at) kind last old readings s =
    inside_headless kind last Never old readings _ _ (λ told front. subst AreHeadless (sym front) tt)
    (λ told at is all. subst AreHeadless (sym all) tt) s
past_headless b key rows (Restarts at) kind last old readings s =
    inside_headless kind last Never old readings _ _ (λ told front. subst AreHeadless (sym front) tt)
    (λ told at is all. subst AreHeadless (sym all) tt) s
past_headless b key rows (Asks url at) kind last old readings s =
    inside_headless kind last Never old readings _ _ (λ told front. subst AreHeadless (sym front) tt)
    (λ told at is all. never at is) s
  where
    never : {A : Type 0} (at : ℤ) → Never ≡ Arrives at → A
    never at e = absurd (cc)

stops_headless : (b : Bool) (key : List ℕ) (rows : List Row) (act : Act) (kind : FaultKind) (last : ℤ)
    (old readings : List Reading) → StopsFrom kind last act old (ReadsFront b key rows act) (ReadsAll b key rows act)
    readings → HasFront old readings
stops_headless b key rows act kind last old readings (inl opening) = ([], opening.1 ∙ sym (append-nil old), tt)
stops_headless b key rows act kind last old readings (inr past) =
    past_headless b key rows act kind _ old readings past.1

-- ---- THE LAW

pub plays_untouched : ReadsOnce → GivenOnce → OneOrder → EachPlayIsUntouched
plays_untouched one given_once order b list key acts readings run = record {
  told = run.told;
  read = run.read;
  headers = each_untouched one given_once order list key b [] acts [] run.told [] run.rows refl run.ran;
}

pub stopped_untouched : ReadsOnce → GivenOnce → OneOrder → EachStoppedPlayIsUntouched
stopped_untouched one given_once order b list key acts step kind readings run =
    let front = stops_headless b key run.rows run.act kind _ (all_told run.told) readings run.stops in
    record {
      before = run.before;
      act = run.act;
      after = run.after;
      cut = run.cut;
      at_step = run.at_step;
      told = run.told;
      front = front.0;
      read = front.1;
      headers = each_untouched one given_once order list key b [] run.before [] run.told [] run.rows refl run.ran;
      headless = front.2;
    }

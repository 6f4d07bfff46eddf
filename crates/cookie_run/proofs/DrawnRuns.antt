-- A play by its draws goes on by one step, and is a play whatever the nonces.
use Rattle.std.proofs.Common.{false, ◌≡◌, ◌≢◌, ◌⊎◌, ℕ, ℤ, ◌+◌, ◌<◌, ◌≤◌, length, take, drop, get_or, inl, inr}
use Rattle.std.proofs.Common.{List, [], ◌∷◌, ◌++◌, sym, refl, ap, ◌∙◌, subst, append_assoc, Option, Some, None}
use Rattle.std.proofs.lemmas.List.{take_more, take_all, take-append-drop, drop_more}
use Rattle.url.specs.Parts.{Parts}
use Rattle.cookie_text.specs.Record.{Seen}
use Rattle.publicsuffix.specs.Rules.{Rule}
use Rattle.cookie_store.specs.Rows.{Row}
use Rattle.cookie_client.specs.Steps.{Act, Visits, Answers, Asks, Restarts, Arrival, CommandTells, Tells, OneStep}
use Rattle.cookie_client.specs.Header.{IsHeader}
use Rattle.cookie_client.specs.Jar.{Keyed, IsOpened, Sets}
use Rattle.cookie_run.specs.Play.{Plays, ReadsAll, ReadsFront}
use Rattle.cookie_run.specs.Drawn.{Draw, Fills, DrawsSo, drawn_at, SetDraws, CommandDraws, CommandsDraw, NeedsNonce}
use Rattle.cookie_run.specs.Drawn.{IsDrawnInVain, AllDraw, FrontDraws, StepBy, PlaysBy, ReadsAllBy, ReadsFrontBy}
use Rattle.cookie_client.specs.Ways.{Refuses, set_refusal}
use Rattle.cookie_run.specs.Stops.{GoesOnBy, StopsInside}
use Rattle.cookie_client.specs.declared.command.Command.{Command}
use Rattle.cookie_client.specs.declared.command.Command.TheVariants.{Set, Remove, Get}
use Rattle.cookie_run.specs.declared.step.FaultKind.{FaultKind}
use Rattle.cookie_client.specs.declared.command.Reading.{Reading}
use Rattle.cookie_client.specs.declared.command.Reading.TheVariants.{Refused}
use Rattle.cookie_client.specs.declared.outcome.SessionError.{SessionError}
use Rattle.cookie_client.specs.declared.outcome.SessionError.TheVariants.{EmptyName, Year, TooLong, Rng, OutOfMemory}
use Rattle.cookie_client.specs.declared.way.Way.{Way}
use Rattle.cookie_client.specs.declared.way.Way.TheVariants.{Plain, Host, Secure, Signed, Sealed}
use Rattle.cookie_run.proofs.Runs.{readings_nil, sets_any}

-- ---- draws

pub draws_nil : (ds : List Draw) → ds ++ [] ≡ ds
draws_nil [] = refl
draws_nil (d ∷ ds) = ap (λ xs. d ∷ xs) (draws_nil ds)

pub fills_more : {G : Type 0} (May : G → List ℕ → G → Type 0) (Error : Type 0) (old mid new : G) (ds es : List Draw)
    → Fills May Error old ds mid → Fills May Error mid es new → Fills May Error old (ds ++ es) new
fills_more May Error old mid new [] es f g = subst (λ x. Fills May Error x es new) f g
fills_more May Error old mid new (Some n ∷ ds) es f g =
    (f.0, f.1, f.2, fills_more May Error f.0 mid new ds es f.3 g)
fills_more May Error old mid new (None ∷ ds) es f g =
    (f.0, (f.1.0, fills_more May Error f.1.0 mid new ds es f.1.1 g))

pub draws_so : {G : Type 0} (May : G → List ℕ → G → Type 0) (Error : Type 0) (old new : G)
    (Are Others : List Draw → Type 0) → ((ds : List Draw) → Are ds → Others ds) → DrawsSo May Error old Are new
    → DrawsSo May Error old Others new
draws_so May Error old new Are Others f d = (d.0, d.1, f d.0 d.2)

-- ---- one set

plain_other : Plain ≡ Sealed → ⊥
plain_other e = cc

host_other : Host ≡ Sealed → ⊥
host_other e = cc

secure_other : Secure ≡ Sealed → ⊥
secure_other e = cc

signed_other : Signed ≡ Sealed → ⊥
signed_other e = cc

pub set_drawn : {G : Type 0} (May : G → List ℕ → G → Type 0) (Error : Type 0) (g h : G) (old : Keyed) (way : Way)
    (s : Seen) (new : Keyed) → Sets (λ nonce. May g nonce h) old way s new
    → ((way ≢ Sealed) ⊎ (set_refusal way s.cookie ≢ None) → h ≡ g)
    → DrawsSo May Error g (λ ds. SetDraws ds old way s [] new) h
set_drawn May Error g h old Plain s new k kept = (
  [],
  kept (inl plain_other),
  inl (
    refl,
    record {
      name = k.name;
      value = k.value;
      age = k.age;
      accepted = k.accepted;
      key_is = k.key_is;
      keeps = k.keeps;
    },
    λ e. refl,
  ),
)
set_drawn May Error g h old Host s new k kept = (
  [],
  kept (inl host_other),
  inl (
    refl,
    record {
      name = k.name;
      value = k.value;
      age = k.age;
      accepted = k.accepted;
      key_is = k.key_is;
      keeps = k.keeps;
    },
    λ e. refl,
  ),
)
set_drawn May Error g h old Secure s new k kept = (
  [],
  kept (inl secure_other),
  inl (
    refl,
    record {
      name = k.name;
      value = k.value;
      age = k.age;
      accepted = k.accepted;
      key_is = k.key_is;
      keeps = k.keeps;
    },
    λ e. refl,
  ),
)
set_drawn May Error g h old Signed s new k kept = (
  [],
  kept (inl signed_other),
  inl (
    refl,
    record {
      name = k.name;
      value = k.value;
      age = k.age;
      accepted = k.accepted;
      key_is = k.key_is;
      keeps = k.keeps;
    },
    λ e. refl,
  ),
)
set_drawn May Error g h old Sealed s new k kept =
    let nonce = k.keeps.1.0 in (
      Some nonce ∷ [],
      (h, k.keeps.1.2.1, k.keeps.1.1, refl),
      inl (
        refl,
        record {
          name = k.name;
          value = k.value;
          age = k.age;
          accepted = k.accepted;
          key_is = k.key_is;
          keeps = (k.keeps.0, (nonce, refl, k.keeps.1.2), k.keeps.2);
        },
        λ e. absurd (e refl),
      ),
    )

not_none : {x : Option SessionError} (e : SessionError) → x ≡ Some e → x ≡ None → ⊥
not_none e is none = cc

pub refused_drawn : {G : Type 0} (May : G → List ℕ → G → Type 0) (Error : Type 0) (g h : G) (old : Keyed) (way : Way)
    (s : Seen) (new : Keyed) (error : SessionError) → Refuses way s.cookie error → new ≡ old → (error ≡ Rng → Error)
    → ((way ≢ Sealed) ⊎ (set_refusal way s.cookie ≢ None) → h ≡ g)
    → DrawsSo May Error g (λ ds. SetDraws ds old way s (Refused error ∷ []) new) h
refused_drawn May Error g h old way s new EmptyName is same failed kept =
    ([], kept (inr (not_none EmptyName is)), inr (EmptyName, refl, is, same, refl))
refused_drawn May Error g h old way s new Year is same failed kept =
    ([], kept (inr (not_none Year is)), inr (Year, refl, is, same, refl))
refused_drawn May Error g h old way s new TooLong is same failed kept =
    ([], kept (inr (not_none TooLong is)), inr (TooLong, refl, is, same, refl))
refused_drawn May Error g h old way s new Rng is same failed kept =
    (None ∷ [], (failed refl, (h, refl)), inr (Rng, refl, is, same, refl))
refused_drawn May Error g h old way s new OutOfMemory is same failed kept = absurd is

-- memory was refused, by a set that has to be sealed behind its fill
pub vain_drawn : {G : Type 0} (May : G → List ℕ → G → Type 0) (Error : Type 0) (g h : G) (way : Way) (s : Seen)
    (cs : List Command) → set_refusal way s.cookie ≡ None
    → ((way ≢ Sealed) ⊎ (set_refusal way s.cookie ≢ None) → h ≡ g)
    → (way ≡ Sealed → (nonce : List ℕ) × (length nonce ≡ 12) × May g nonce h)
    → DrawsSo May Error g (IsDrawnInVain (Set way s ∷ cs)) h
vain_drawn May Error g h Plain s cs none kept asked = ([], kept (inl plain_other), inl refl)
vain_drawn May Error g h Host s cs none kept asked = ([], kept (inl host_other), inl refl)
vain_drawn May Error g h Secure s cs none kept asked = ([], kept (inl secure_other), inl refl)
vain_drawn May Error g h Signed s cs none kept asked = ([], kept (inl signed_other), inl refl)
vain_drawn May Error g h Sealed s cs none kept asked =
    let a = asked refl in (Some a.0 ∷ [], (h, a.1, a.2, refl), inr (Some a.0, refl, (refl, none)))

-- ---- whatever the nonces

pub command_any : (ds : List Draw) (old : Keyed) (at : ℤ) (c : Command) (told : List Reading) (new : Keyed)
    → CommandDraws ds old at c told new → CommandTells old at c told new
command_any ds old at (Set way s) told new (inl h) =
    inl (h.0, sets_any (λ nonce. ds ≡ Some nonce ∷ []) old way s new h.1)
command_any ds old at (Set way s) told new (inr h) = inr (h.0, h.1, h.2, h.3)
command_any ds old at (Remove way name) told new h = h.0
command_any ds old at (Get way name) told new h = h.0

pub commands_any : (ds : List Draw) (old : Keyed) (at : ℤ) (cs : List Command) (told : List Reading) (new : Keyed)
    → CommandsDraw ds old at cs told new → Tells old at cs told new
commands_any ds old at [] told new h = (h.0, h.1)
commands_any ds old at (c ∷ cs) told new h = (
  h.0,
  h.1,
  h.2,
  command_any h.3 old at c h.0 h.2 h.5,
  commands_any h.4 h.2 at cs h.1 new h.6,
  h.7,
)

step_any : (ds : List Draw) (list : List Rule) (key : List ℕ) (rows : List Row) (act : Act) (told : List Reading)
    (new : List Row) → StepBy ds list key rows act told new → OneStep false list key rows act told new
step_any ds list key rows (Visits url at cs arrival) told new h = (
  h.0,
  h.1,
  (h.2.2.0, (h.2.0, h.2.1, commands_any ds h.2.0 at cs told h.2.2.0 h.2.2.1), h.2.2.2),
)
step_any ds list key rows (Answers url lines at) told new h = h.0
step_any ds list key rows (Asks url at) told new h = h.0
step_any ds list key rows (Restarts at) told new h = h.0

pub plays_any : (ds : List Draw) (list : List Rule) (key : List ℕ) (rows : List Row) (acts : List Act)
    (told : List (List Reading)) (new : List Row) → PlaysBy ds list key rows acts told new
    → Plays false list key rows acts told new
plays_any ds list key rows [] [] new h = h.0
plays_any ds list key rows [] (t ∷ told) new h = absurd h
plays_any ds list key rows (a ∷ acts) [] new h = absurd h
plays_any ds list key rows (a ∷ acts) (t ∷ told) new h =
    (h.0, step_any h.1 list key rows a t h.0 h.3, plays_any h.2 list key h.0 acts told new h.4)

front_any : (ds : List Draw) (key : List ℕ) (rows : List Row) (act : Act) (told : List Reading)
    → ReadsFrontBy ds key rows act told → ReadsFront false key rows act told
front_any ds key rows (Visits url at cs arrival) told (inl h) = inl h.0
front_any ds key rows (Visits url at cs arrival) told (inr h) =
    let f = h.2.2 in
    inr (h.0, h.1, inr (f.0, f.1, f.2, (f.7.0, (h.2.0, h.2.1, commands_any f.3 h.2.0 at f.0 told f.7.0 f.7.1))))
front_any ds key rows (Answers url lines at) told h = h.0
front_any ds key rows (Asks url at) told h = h.0
front_any ds key rows (Restarts at) told h = h.0

all_any : (ds : List Draw) (key : List ℕ) (rows : List Row) (act : Act) (told : List Reading)
    → ReadsAllBy ds key rows act told → ReadsAll false key rows act told
all_any ds key rows (Visits url at cs arrival) told h =
    (h.0, h.1, (h.2.2.0, (h.2.0, h.2.1, commands_any ds h.2.0 at cs told h.2.2.0 h.2.2.1)))
all_any ds key rows (Answers url lines at) told h = h.0
all_any ds key rows (Asks url at) told h = h.0
all_any ds key rows (Restarts at) told h = h.0

pub stops_any : (ds : List Draw) (key : List ℕ) (rows : List Row) (kind : FaultKind) (last : ℤ) (arrival : Arrival)
    (act : Act) (old readings : List Reading)
    → StopsInside kind last arrival old (ReadsFrontBy ds key rows act) (ReadsAllBy ds key rows act) readings
    → StopsInside kind last arrival old (ReadsFront false key rows act) (ReadsAll false key rows act) readings
stops_any ds key rows kind last arrival act old readings (inl (e, g)) =
    inl (e, (g.0, front_any ds key rows act g.0 g.1, g.2))
stops_any ds key rows kind last arrival act old readings (inr (e, g)) =
    inr (e, (g.0, all_any ds key rows act g.0 g.1, g.2))

-- ---- one more step

pub steps_more : (ds es : List Draw) (list : List Rule) (key : List ℕ) (rows mid new : List Row) (acts : List Act)
    (told : List (List Reading)) (act : Act) (t : List Reading) → PlaysBy ds list key rows acts told mid
    → StepBy es list key mid act t new → PlaysBy (ds ++ es) list key rows (acts ++ act ∷ []) (told ++ t ∷ []) new
steps_more ds es list key rows mid new [] [] act t p s = (
  new,
  es,
  [],
  subst (λ rs. StepBy es list key rs act t new) p.0 s,
  (refl, refl),
  ap (λ x. x ++ es) p.1 ∙ sym (draws_nil es),
)
steps_more ds es list key rows mid new [] (u ∷ us) act t p s = absurd p
steps_more ds es list key rows mid new (a ∷ acts) [] act t p s = absurd p
steps_more ds es list key rows mid new (a ∷ acts) (u ∷ us) act t p s = (
  p.0,
  p.1,
  p.2 ++ es,
  p.3,
  steps_more p.2 es list key p.0 mid new acts us act t p.4 s,
  ap (λ x. x ++ es) p.5 ∙ append_assoc p.1 p.2 es,
)

-- ---- one more command

pub draw_more : (ds es : List Draw) (s mid new : Keyed) (at : ℤ) (cs : List Command) (c : Command)
    (told t : List Reading) → CommandsDraw ds s at cs told mid → CommandDraws es mid at c t new
    → CommandsDraw (ds ++ es) s at (cs ++ c ∷ []) (told ++ t) new
draw_more ds es s mid new at [] c told t p one = (
  t,
  [],
  new,
  es,
  [],
  subst (λ k. CommandDraws es k at c t new) p.1 one,
  (refl, refl, refl),
  ap (λ x. x ++ t) p.0 ∙ sym (readings_nil t),
  ap (λ x. x ++ es) p.2 ∙ sym (draws_nil es),
)
draw_more ds es s mid new at (d ∷ cs) c told t p one = (
  p.0,
  p.1 ++ t,
  p.2,
  p.3,
  p.4 ++ es,
  p.5,
  draw_more p.4 es p.2 mid new at cs c p.1 t p.6 one,
  ap (λ x. x ++ t) p.7 ∙ append_assoc p.0 p.1 t,
  ap (λ x. x ++ es) p.8 ∙ append_assoc p.3 p.4 es,
)

-- what was read and drawn by the first of the commands
abbrev pub DrawnBy : {G : Type 0} → (G → List ℕ → G → Type 0) → Type 0 → G → G → Keyed → ℤ → List Command → ℕ
    → List Reading → List Reading → Keyed → Type 0
DrawnBy May Error g h old at cs i start now new = (told : List Reading) × (now ≡ start ++ told)
    × DrawsSo May Error g (λ ds. CommandsDraw ds old at (take i cs) told new) h

pub drawn_first : {G : Type 0} (May : G → List ℕ → G → Type 0) (Error : Type 0) (g : G) (old : Keyed) (at : ℤ)
    (cs : List Command) (start : List Reading) → DrawnBy May Error g g old at cs 0 start start old
drawn_first May Error g old at cs start = ([], sym (readings_nil start), ([], refl, (refl, refl, refl)))

pub drawn_next : {G : Type 0} (May : G → List ℕ → G → Type 0) (Error : Type 0) (g m h : G) (old mid new : Keyed)
    (at : ℤ) (cs : List Command) (i : ℕ) (c : Command) (start now later t : List Reading) → i < length cs
    → c ≡ get_or cs i c → DrawnBy May Error g m old at cs i start now mid
    → DrawsSo May Error m (λ ds. CommandDraws ds mid at c t new) h → later ≡ now ++ t
    → DrawnBy May Error g h old at cs (i + 1) start later new
drawn_next May Error g m h old mid new at cs i c start now later t less is so one e = (
  so.0 ++ t,
  e ∙ (ap (λ x. x ++ t) so.1 ∙ append_assoc start so.0 t),
  (
    so.2.0 ++ one.0,
    fills_more May Error g m h so.2.0 one.0 so.2.1 one.1,
    subst (λ ds. CommandsDraw (so.2.0 ++ one.0) old at ds (so.0 ++ t) new)
        (sym (take_more cs i c less ∙ ap (λ d. take i cs ++ d ∷ []) (sym is)))
        (draw_more so.2.0 one.0 old mid new at (take i cs) c so.0 t so.2.2 one.2),
  ),
)

pub drawn_all : {G : Type 0} (May : G → List ℕ → G → Type 0) (Error : Type 0) (g h : G) (old new : Keyed) (at : ℤ)
    (cs : List Command) (i : ℕ) (start now : List Reading) → length cs ≤ i
    → DrawnBy May Error g h old at cs i start now new
    → DrawsSo May Error g (λ ds. (told : List Reading) × (now ≡ start ++ told) × CommandsDraw ds old at cs told new) h
drawn_all May Error g h old new at cs i start now less so = (
  so.2.0,
  so.2.1,
  (so.0, so.1, subst (λ xs. CommandsDraw so.2.0 old at xs so.0 new) (take_all i cs less) so.2.2),
)

drop_at : (cs : List Command) (i : ℕ) (c : Command) → i < length cs → c ≡ get_or cs i c
    → (later : List Command) × (drop i cs ≡ c ∷ later)
drop_at cs i c less is =
    (drop (i + 1) cs, drop_more cs i c less ∙ ap (λ x. x ∷ drop (i + 1) cs) (sym is))

vain_at : (c : Command) (later rest : List Command) (ds : List Draw) → rest ≡ c ∷ later
    → IsDrawnInVain (c ∷ []) ds → IsDrawnInVain rest ds
vain_at c later rest ds e (inl h) = subst (λ cs. IsDrawnInVain cs ds) (sym e) (inl h)
vain_at c later rest ds e (inr h) = subst (λ cs. IsDrawnInVain cs ds) (sym e) (inr h)

-- the next command wasn't done
pub drawn_front : {G : Type 0} (May : G → List ℕ → G → Type 0) (Error : Type 0) (g m h : G) (old mid : Keyed) (at : ℤ)
    (cs : List Command) (i : ℕ) (c : Command) (start now later : List Reading) → i < length cs → c ≡ get_or cs i c
    → DrawnBy May Error g m old at cs i start now mid → DrawsSo May Error m (IsDrawnInVain (c ∷ [])) h → later ≡ now
    → DrawsSo May Error g (λ ds. GoesOnBy start (FrontDraws ds old at cs) later) h
drawn_front May Error g m h old mid at cs i c start now later less is so vain e =
    let rest = drop_at cs i c less is in (
      so.2.0 ++ vain.0,
      fills_more May Error g m h so.2.0 vain.0 so.2.1 vain.1,
      (
        so.0,
        (
          take i cs,
          drop i cs,
          sym (take-append-drop i cs),
          so.2.0,
          vain.0,
          refl,
          vain_at c rest.0 (drop i cs) vain.0 rest.1 vain.2,
          (mid, so.2.2),
        ),
        e ∙ so.1,
      ),
    )

-- a command that has read something drew a fill that failed, or none
pub read_in_vain : (ds : List Draw) (old : Keyed) (at : ℤ) (c : Command) (r : Reading) (new : Keyed)
    → CommandDraws ds old at c (r ∷ []) new → IsDrawnInVain (c ∷ []) ds
read_in_vain ds old at (Set way s) r new (inl h) = absurd (not_empty r h.0)
  where
    not_empty : (r : Reading) → r ∷ [] ≡ [] → ⊥
    not_empty r e = cc
read_in_vain ds old at (Set way s) r new (inr (EmptyName, told, is, same, drawn)) = inl drawn
read_in_vain ds old at (Set way s) r new (inr (Year, told, is, same, drawn)) = inl drawn
read_in_vain ds old at (Set way s) r new (inr (TooLong, told, is, same, drawn)) = inl drawn
read_in_vain ds old at (Set way s) r new (inr (Rng, told, is, same, drawn)) = inr (None, drawn, is)
read_in_vain ds old at (Set way s) r new (inr (OutOfMemory, told, is, same, drawn)) = inl drawn
read_in_vain ds old at (Remove way name) r new h = inl h.1
read_in_vain ds old at (Get way name) r new h = inl h.1

-- by all of its commands, and so by the first of them
pub draws_whole : (ds : List Draw) (opened new : Keyed) (at : ℤ) (cs : List Command) (old readings : List Reading)
    → ((told : List Reading) × (readings ≡ old ++ told) × CommandsDraw ds opened at cs told new)
    → GoesOnBy old (FrontDraws ds opened at cs) readings
draws_whole ds opened new at cs old readings g =
    (g.0, (cs, [], sym (commands_nil cs), ds, [], sym (draws_nil ds), refl, (new, g.2)), g.1)
  where
    commands_nil : (xs : List Command) → xs ++ [] ≡ xs
    commands_nil [] = refl
    commands_nil (x ∷ xs) = ap (λ y. x ∷ y) (commands_nil xs)

pub draws_all : (ds : List Draw) (opened new : Keyed) (at : ℤ) (cs : List Command) (old readings : List Reading)
    → ((told : List Reading) × (readings ≡ old ++ told) × CommandsDraw ds opened at cs told new)
    → GoesOnBy old (AllDraw ds opened at cs) readings
draws_all ds opened new at cs old readings g = (g.0, (new, g.2), g.1)

-- ---- an exchange

pub reads_none_by : (key : List ℕ) (rows : List Row) (url : Parts) (at : ℤ) (cs : List Command) (arrival : Arrival)
    (old readings : List Reading) → readings ≡ old
    → GoesOnBy old (ReadsFrontBy [] key rows (Visits url at cs arrival)) readings
reads_none_by key rows url at cs arrival old readings e = ([], inl (refl, refl), e ∙ sym (readings_nil old))

pub stops_opened_by : (ds : List Draw) (key header : List ℕ) (rows : List Row) (url : Parts) (at : ℤ)
    (cs : List Command) (arrival : Arrival) (opened : Keyed) (kind : FaultKind) (last : ℤ) (old readings : List Reading)
    → IsHeader rows url at header → IsOpened key header opened
    → StopsInside kind last arrival old (FrontDraws ds opened at cs) (AllDraw ds opened at cs) readings
    → StopsInside kind last arrival old (ReadsFrontBy ds key rows (Visits url at cs arrival))
    (ReadsAllBy ds key rows (Visits url at cs arrival)) readings
stops_opened_by ds key header rows url at cs arrival opened kind last old readings is from (inl (e, g)) =
    inl (e, (g.0, inr (header, is, (opened, from, g.1)), g.2))
stops_opened_by ds key header rows url at cs arrival opened kind last old readings is from (inr (e, g)) =
    inr (e, (g.0, (header, is, (opened, from, g.1)), g.2))

-- A play on a ring by its draws goes on by one step, and is a play whatever the nonces.
use Rattle.std.proofs.Common.{false, ◌≡◌, ◌≢◌, ◌⊎◌, ℕ, inl, inr, List, [], ◌∷◌, ◌++◌, sym, refl, ap, ◌∙◌, subst}
use Rattle.std.proofs.Common.{append_assoc, Some, None}
use Rattle.jiff.specs.Types.{DateTime}
use Rattle.cookie.specs.KeyRing.{Ring}
use Rattle.cookie_text.specs.Record.{Seen}
use Rattle.publicsuffix.specs.Rules.{Rule}
use Rattle.cookie_store.specs.Rows.{Row}
use Rattle.cookie_run.specs.Drawn as drawn
use Rattle.cookie_run.specs.Drawn.{Draw, DrawsSo}
use Rattle.cookie_client.specs.Ending.{IsKeptUntil}
use Rattle.cookie_client.specs.Jar.{Sets}
use Rattle.cookie_client.specs.PlainSets.{any_nonce}
use Rattle.cookie_run.specs.RingDrawn.{RingSetDraws, SetUntilDraws, RingCommandDraws, RingCommandsDraw, RingStepBy}
use Rattle.cookie_run.specs.RingDrawn.{RingPlaysBy}
use Rattle.cookie_run.specs.RingPlay.{Answers, Asks, Restarts, RingAct, RingCommand, RingCommandTells, RingReading}
use Rattle.cookie_run.specs.RingPlay.{RingPlays, RingStep, RingTells, Rotates, Visits, Set, SetUntil, Remove, Get}
use Rattle.cookie_run.specs.RingPlay.{GetUntil, all_read}
use Rattle.cookie_client.specs.RingSession.{KeepsRing, Ringed, SetsUntil, keyed}
use Rattle.cookie_client.specs.Ways.{set_refusal}
use Rattle.cookie_client.specs.declared.ending.EndingWay.{EndingWay}
use Rattle.cookie_client.specs.declared.ending.EndingWay.TheVariants as ends
use Rattle.cookie_client.specs.declared.command.Reading.TheVariants as readings
use Rattle.cookie_client.specs.declared.outcome.SessionError.{SessionError}
use Rattle.cookie_client.specs.declared.way.Way.{Way}
use Rattle.cookie_client.specs.declared.way.Way.TheVariants.{Sealed}
use Rattle.cookie_run.proofs.DrawnRuns.{draws_nil, set_drawn}
use Rattle.cookie_run.proofs.Runs.{sets_any}

-- ---- readings

readings_nil : (xs : List RingReading) → xs ++ [] ≡ xs
readings_nil [] = refl
readings_nil (x ∷ xs) = ap (λ ys. x ∷ ys) (readings_nil xs)

pub told_more : (told : List (List RingReading)) (t : List RingReading) → all_read (told ++ t ∷ []) ≡ all_read told ++ t
told_more [] t = readings_nil t
told_more (u ∷ us) t = ap (λ x. u ++ x) (told_more us t) ∙ sym (append_assoc u (all_read us) t)

-- ---- one set

-- the set of a session with the current key, as one on the ring
ring_set : (ds : List Draw) (old new : Ringed) (way : Way) (s : Seen) → KeepsRing old new
    → drawn.SetDraws ds (keyed old) way s [] (keyed new) → RingSetDraws ds old way s [] new
ring_set ds old new way s keeps (inl h) = inl (refl, h.1, keeps, h.2)
ring_set ds old new way s keeps (inr h) = absurd (no_reading h.0 h.1)
  where
    no_reading : (error : SessionError) → [] ≡ readings.Refused error ∷ [] → ⊥
    no_reading error e = cc

pub ring_set_drawn : {G : Type 0} (May : G → List ℕ → G → Type 0) (Error : Type 0) (g h : G) (old : Ringed) (way : Way)
    (s : Seen) (new : Ringed) → Sets (λ nonce. May g nonce h) (keyed old) way s (keyed new) → KeepsRing old new
    → ((way ≢ Sealed) ⊎ (set_refusal way s.cookie ≢ None) → h ≡ g)
    → DrawsSo May Error g (λ ds. RingSetDraws ds old way s [] new) h
ring_set_drawn May Error g h old way s new sets keeps kept =
    let d = set_drawn May Error g h (keyed old) way s (keyed new) sets kept in
    (d.0, d.1, ring_set d.0 old new way s keeps d.2)

signed_other : ends.Signed ≡ ends.Sealed → ⊥
signed_other e = cc

-- one that ends
pub until_drawn : {G : Type 0} (May : G → List ℕ → G → Type 0) (Error : Type 0) (g h : G) (old : Ringed)
    (way : EndingWay) (s : Seen) (until : DateTime) (new : Ringed)
    → SetsUntil (λ nonce. May g nonce h) old way s until new → (way ≡ ends.Signed → h ≡ g)
    → DrawsSo May Error g (λ ds. SetUntilDraws ds old way s until [] new) h
until_drawn May Error g h old ends.Signed s until new k same = (
  [],
  same refl,
  inl (
    refl,
    record {
      ending = k.ending;
      ends = k.ends;
      accepted = k.accepted;
      kept = k.kept;
      is_kept = k.is_kept;
      parts = k.parts;
      sets = k.sets;
    },
    λ e. refl,
  ),
)
until_drawn May Error g h old ends.Sealed s until new k same =
    let of_text = k.is_kept.1 in
    let nonce = of_text.0 in (
      Some nonce ∷ [],
      (h, of_text.1, of_text.2, refl),
      inl (
        refl,
        record {
          ending = k.ending;
          ends = k.ends;
          accepted = k.accepted;
          kept = k.kept;
          is_kept = (k.is_kept.0, (nonce, of_text.1, refl, of_text.3), k.is_kept.2);
          parts = k.parts;
          sets = k.sets;
        },
        λ e. absurd (e refl),
      ),
    )

-- ---- whatever the nonces

kept_any : (May : List ℕ → Type 0) (way : EndingWay) (key name value : List ℕ) (until : DateTime) (text : List ℕ)
    → IsKeptUntil May way key name value until text → IsKeptUntil any_nonce way key name value until text
kept_any May ends.Signed key name value until text h = h
kept_any May ends.Sealed key name value until text h = (h.0, h.1, tt, h.3)

until_any : (May : List ℕ → Type 0) (old : Ringed) (way : EndingWay) (s : Seen) (until : DateTime) (new : Ringed)
    → SetsUntil May old way s until new → SetsUntil any_nonce old way s until new
until_any May old way s until new k = record {
  ending = k.ending;
  ends = k.ends;
  accepted = k.accepted;
  kept = k.kept;
  is_kept = (
    k.is_kept.0,
    kept_any May way old.ring.current k.ending.cookie.name k.ending.cookie.value until k.is_kept.0 k.is_kept.1,
    k.is_kept.2,
  );
  parts = k.parts;
  sets = k.sets;
}

command_any : (ds : List Draw) (old : Ringed) (c : RingCommand) (told : List RingReading) (new : Ringed)
    → RingCommandDraws ds old c told new → RingCommandTells old c told new
command_any ds old (Set way s) told new (inl h) =
    inl (h.0, sets_any (λ nonce. ds ≡ Some nonce ∷ []) (keyed old) way s (keyed new) h.1, h.2)
command_any ds old (Set way s) told new (inr h) = inr (h.0, h.1, h.2, h.3)
command_any ds old (SetUntil way s until) told new (inl h) =
    inl (h.0, until_any (λ nonce. ds ≡ Some nonce ∷ []) old way s until new h.1)
command_any ds old (SetUntil way s until) told new (inr h) = inr (h.0, h.1, h.2, h.3, h.4)
command_any ds old (Remove way name) told new h = h.0
command_any ds old (Get way name) told new h = h.0
command_any ds old (GetUntil way name) told new h = h.0

pub commands_any : (ds : List Draw) (old : Ringed) (cs : List RingCommand) (told : List RingReading) (new : Ringed)
    → RingCommandsDraw ds old cs told new → RingTells old cs told new
commands_any ds old [] told new h = (h.0, h.1)
commands_any ds old (c ∷ cs) told new h =
    (h.0, h.1, h.2, command_any h.3 old c h.0 h.2 h.5, commands_any h.4 h.2 cs h.1 new h.6, h.7)

step_any : (ds : List Draw) (list : List Rule) (ring : Ring) (rows : List Row) (act : RingAct)
    (told : List RingReading) (left : Ring) (new : List Row) → RingStepBy ds list ring rows act told left new
    → RingStep false list ring rows act told left new
step_any ds list ring rows (Visits url at cs arrival) told left new h = (
  h.0,
  h.1,
  (h.2.0, h.2.1, (h.2.2.0, commands_any ds h.2.0 cs told h.2.2.0 h.2.2.1, h.2.2.2)),
  h.3,
)
step_any ds list ring rows (Answers url lines at) told left new h = h.0
step_any ds list ring rows (Asks url at) told left new h = h.0
step_any ds list ring rows (Restarts at) told left new h = h.0
step_any ds list ring rows (Rotates key at keep_until) told left new h = h.0

pub plays_any : (ds : List Draw) (list : List Rule) (ring : Ring) (rows : List Row) (acts : List RingAct)
    (told : List (List RingReading)) (left : Ring) (new : List Row)
    → RingPlaysBy ds list ring rows acts told left new → RingPlays false list ring rows acts told left new
plays_any ds list ring rows [] [] left new h = (h.0, h.1)
plays_any ds list ring rows [] (t ∷ told) left new h = absurd h
plays_any ds list ring rows (a ∷ acts) [] left new h = absurd h
plays_any ds list ring rows (a ∷ acts) (t ∷ told) left new h = (
  h.0,
  h.1,
  step_any h.2 list ring rows a t h.0 h.1 h.4,
  plays_any h.3 list h.0 h.1 acts told left new h.5,
)

-- ---- one more step

pub steps_more : (ds es : List Draw) (list : List Rule) (ring turned left : Ring) (rows mid new : List Row)
    (acts : List RingAct) (told : List (List RingReading)) (act : RingAct) (t : List RingReading)
    → RingPlaysBy ds list ring rows acts told turned mid → RingStepBy es list turned mid act t left new
    → RingPlaysBy (ds ++ es) list ring rows (acts ++ act ∷ []) (told ++ t ∷ []) left new
steps_more ds es list ring turned left rows mid new [] [] act t p s = (
  left,
  new,
  es,
  [],
  subst (λ k. RingStepBy es list k rows act t left new) p.0
      (subst (λ rs. RingStepBy es list turned rs act t left new) p.1 s),
  (refl, refl, refl),
  ap (λ x. x ++ es) p.2 ∙ sym (draws_nil es),
)
steps_more ds es list ring turned left rows mid new [] (u ∷ us) act t p s = absurd p
steps_more ds es list ring turned left rows mid new (a ∷ acts) [] act t p s = absurd p
steps_more ds es list ring turned left rows mid new (a ∷ acts) (u ∷ us) act t p s = (
  p.0,
  p.1,
  p.2,
  p.3 ++ es,
  p.4,
  steps_more p.3 es list p.0 turned left p.1 mid new acts us act t p.5 s,
  ap (λ x. x ++ es) p.6 ∙ append_assoc p.2 p.3 es,
)

-- ---- one more command

pub draw_more : (ds es : List Draw) (s mid new : Ringed) (cs : List RingCommand) (c : RingCommand)
    (told t : List RingReading) → RingCommandsDraw ds s cs told mid → RingCommandDraws es mid c t new
    → RingCommandsDraw (ds ++ es) s (cs ++ c ∷ []) (told ++ t) new
draw_more ds es s mid new [] c told t p one = (
  t,
  [],
  new,
  es,
  [],
  subst (λ k. RingCommandDraws es k c t new) p.1 one,
  (refl, refl, refl),
  ap (λ x. x ++ t) p.0 ∙ sym (readings_nil t),
  ap (λ x. x ++ es) p.2 ∙ sym (draws_nil es),
)
draw_more ds es s mid new (d ∷ cs) c told t p one = (
  p.0,
  p.1 ++ t,
  p.2,
  p.3,
  p.4 ++ es,
  p.5,
  draw_more p.4 es p.2 mid new cs c p.1 t p.6 one,
  ap (λ x. x ++ t) p.7 ∙ append_assoc p.0 p.1 t,
  ap (λ x. x ++ es) p.8 ∙ append_assoc p.3 p.4 es,
)

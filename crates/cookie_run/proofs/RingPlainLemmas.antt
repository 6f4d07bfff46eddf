-- The commands of a session on a ring as commands of a session that signs and seals nothing.
use Rattle.std.proofs.Common.{Bool, ◌≡◌, ◌≢◌, ◌∙◌, inl, inr, ℕ, ℤ, List, [], ◌∷◌, ◌++◌, refl, ap, sym, subst}
use Rattle.std.proofs.Common.{append_assoc}
use Rattle.std.specs.List.{AllByRecursion}
use Rattle.std.specs.Str.{IsUtf8}
use Rattle.jiff.specs.Words.{civil_nanos}
use Rattle.cookie_text.specs.Record.{Seen}
use Rattle.cookie_text.specs.Setting.{with_value}
use Rattle.cookie.specs.Sealing.{IsSealing}
use Rattle.cookie.specs.Signing.{signing}
use Rattle.jiff.specs.Types.{DateTime}
use Rattle.cookie_store.specs.Rows.{Row}
use Rattle.cookie.specs.KeyRing.{Ring}
use Rattle.cookie_client.specs.Steps as acts
use Rattle.cookie_client.specs.Jar.{IsOpenedBy, Keyed, Sets}
use Rattle.cookie_client.specs.Steps.{CommandTells, GetTells, RemoveTells, Serves, Tells}
use Rattle.cookie_run.specs.Play.{Plays}
use Rattle.cookie_client.specs.PlainSets.{any_nonce}
use Rattle.cookie_run.specs.RingPlain.{IsPlainCommand, RingCommandsArePlain, RingPlaysArePlain}
use Rattle.cookie_run.specs.RingPlay as ring
use Rattle.cookie_run.specs.RingPlay.{RingCommand, RingCommandTells, RingReading, RingTells}
use Rattle.cookie_client.specs.RingSession.{IsOpenedOnBy, KeepsRing, Ringed, keyed}
use Rattle.cookie_client.specs.declared.command.Command.{Command}
use Rattle.cookie_client.specs.declared.command.Command.TheVariants.{Set, Remove, Get}
use Rattle.cookie_client.specs.declared.command.Reading.{Reading}
use Rattle.cookie_client.specs.declared.command.Reading.TheVariants.{Header}
use Rattle.cookie_client.specs.declared.way.Way.{Way}
use Rattle.cookie_client.specs.declared.way.Way.TheVariants.{Plain, Host, Secure, Signed, Sealed}
use Rattle.cookie_client.proofs.PlainSetLemmas.{signed_plain, sealed_plain}

-- commands that do it
abbrev pub Does : Ringed → Ringed → Type 0
Does old new = (plain : List Command) × (read : List Reading) × AllByRecursion IsPlainCommand plain
    × Tells (keyed old) (civil_nanos old.moment) plain read (keyed new) × KeepsRing old new

nothing : (old new : Ringed) → new ≡ old → Does old new
nothing old new is =
    ([], [], tt, (refl, ap keyed is), (ap (λ (s : Ringed). s.ring) is, ap (λ (s : Ringed). s.moment) is))

one : (old new : Ringed) (c : Command) → IsPlainCommand c
    → CommandTells (keyed old) (civil_nanos old.moment) c [] (keyed new) → KeepsRing old new → Does old new
one old new c is tells keeps = (c ∷ [], [], (is, tt), ([], [], keyed new, tells, (refl, refl), refl), keeps)

set_one : ((k value : List ℕ) → IsUtf8 value → IsUtf8 (signing k value))
    → ((k name value text : List ℕ) → IsSealing k name value text → IsUtf8 text) → (old new : Ringed) (way : Way)
    (s : Seen) → Sets any_nonce (keyed old) way s (keyed new) → KeepsRing old new → Does old new
set_one signed sealed old new Plain s sets keeps =
    one old new (Set Plain s) ((λ e. cc e), (λ e. cc e)) (inl (refl, sets)) keeps
set_one signed sealed old new Host s sets keeps =
    one old new (Set Host s) ((λ e. cc e), (λ e. cc e)) (inl (refl, sets)) keeps
set_one signed sealed old new Secure s sets keeps =
    one old new (Set Secure s) ((λ e. cc e), (λ e. cc e)) (inl (refl, sets)) keeps
set_one signed sealed old new Signed s sets keeps =
    one old new (Set Plain (with_value s (signing old.ring.current s.cookie.value))) ((λ e. cc e), (λ e. cc e))
    (inl (refl, signed_plain signed (keyed old) (keyed new) s sets)) keeps
set_one signed sealed old new Sealed s sets keeps =
    let p = sealed_plain sealed (keyed old) (keyed new) s sets in
    one old new (Set Plain (with_value s p.0)) ((λ e. cc e), (λ e. cc e)) (inl (refl, p.2)) keeps

-- a plain set keeps no nonce
pub any_set : (old new : Keyed) (s : Seen) → Sets (λ nonce. ⊥) old Plain s new → Sets any_nonce old Plain s new
any_set old new s h = record {
  name = h.name;
  value = h.value;
  age = h.age;
  accepted = h.accepted;
  key_is = h.key_is;
  keeps = h.keeps;
}

command : ((k value : List ℕ) → IsUtf8 value → IsUtf8 (signing k value))
    → ((k name value text : List ℕ) → IsSealing k name value text → IsUtf8 text) → (old new : Ringed) (c : RingCommand)
    (told : List RingReading) → RingCommandTells old c told new → Does old new
command signed sealed old new (ring.Set way s) told (inl h) = set_one signed sealed old new way s h.1 h.2
command signed sealed old new (ring.Set way s) told (inr h) = nothing old new h.3
command signed sealed old new (ring.SetUntil way s until) told (inl h) =
    one old new (Set Plain h.1.kept) ((λ e. cc e), (λ e. cc e))
    (inl (refl, any_set (keyed old) (keyed new) h.1.kept h.1.sets)) h.1.parts
command signed sealed old new (ring.SetUntil way s until) told (inr h) = nothing old new h.4
command signed sealed old new (ring.Remove way name) told (inl h) =
    one old new (Remove way name) tt (old.moment, refl, inl (refl, h.1)) h.2
command signed sealed old new (ring.Remove way name) told (inr h) = nothing old new h.3
command signed sealed old new (ring.Get way name) told h = nothing old new h.1
command signed sealed old new (ring.GetUntil way name) told h = nothing old new h.1

-- one after another
pub all_append : (cs ds : List Command) → AllByRecursion IsPlainCommand cs → AllByRecursion IsPlainCommand ds
    → AllByRecursion IsPlainCommand (cs ++ ds)
all_append [] ds a b = b
all_append (c ∷ cs) ds a b = (a.0, all_append cs ds a.1 b)

pub tells_append : (cs ds : List Command) (old mid new : Keyed) (at : ℤ) (read later : List Reading)
    → Tells old at cs read mid → Tells mid at ds later new → Tells old at (cs ++ ds) (read ++ later) new
tells_append [] ds old mid new at read later h k =
    subst (λ (r : List Reading). Tells old at ds (r ++ later) new) (sym h.0)
    (subst (λ (s : Keyed). Tells s at ds later new) h.1 k)
tells_append (c ∷ cs) ds old mid new at read later h k = (
  h.0,
  h.1 ++ later,
  h.2,
  h.3,
  tells_append cs ds h.2 mid new at h.1 later h.4 k,
  ap (λ (r : List Reading). r ++ later) h.5 ∙ append_assoc h.0 h.1 later,
)

then : (old mid new : Ringed) → Does old mid → Does mid new → Does old new
then old mid new a b =
    let same : civil_nanos mid.moment ≡ civil_nanos old.moment = ap civil_nanos a.4.1 in
    let moved = subst (λ (at : ℤ). Tells (keyed mid) at b.0 b.1 (keyed new)) same b.3 in (
      a.0 ++ b.0,
      a.1 ++ b.1,
      all_append a.0 b.0 a.2 b.2,
      tells_append a.0 b.0 (keyed old) (keyed mid) (keyed new) (civil_nanos old.moment) a.1 b.1 a.3 moved,
      (b.4.0 ∙ a.4.0, b.4.1 ∙ a.4.1),
    )

pub commands_plain : ((k value : List ℕ) → IsUtf8 value → IsUtf8 (signing k value))
    → ((k name value text : List ℕ) → IsSealing k name value text → IsUtf8 text) → RingCommandsArePlain
commands_plain signed sealed old new [] told h = nothing old new h.1
commands_plain signed sealed old new (c ∷ cs) told h =
    then old h.2 new (command signed sealed old h.2 c h.0 h.3) (commands_plain signed sealed h.2 new cs h.1 h.4)

-- ---- under another key

abbrev pub rekey : List ℕ → Keyed → Keyed
rekey key s = record { key = key; jar = s.jar }

rekeyed_set : (key : List ℕ) (old new : Keyed) (way : Way) (s : Seen) → way ≢ Signed → way ≢ Sealed
    → Sets any_nonce old way s new → Sets any_nonce (rekey key old) way s (rekey key new)
rekeyed_set key old new Plain s unsigned unsealed h = record {
  name = h.name;
  value = h.value;
  age = h.age;
  accepted = h.accepted;
  key_is = refl;
  keeps = h.keeps;
}
rekeyed_set key old new Host s unsigned unsealed h = record {
  name = h.name;
  value = h.value;
  age = h.age;
  accepted = h.accepted;
  key_is = refl;
  keeps = h.keeps;
}
rekeyed_set key old new Secure s unsigned unsealed h = record {
  name = h.name;
  value = h.value;
  age = h.age;
  accepted = h.accepted;
  key_is = refl;
  keeps = h.keeps;
}
rekeyed_set key old new Signed s unsigned unsealed h = absurd (unsigned refl)
rekeyed_set key old new Sealed s unsigned unsealed h = absurd (unsealed refl)

rekeyed_get : (key : List ℕ) (s : Keyed) (way : Way) (name : List ℕ) (told : List Reading) → way ≢ Signed
    → way ≢ Sealed → GetTells s way name told → GetTells (rekey key s) way name told
rekeyed_get key s way [] told unsigned unsealed h = h
rekeyed_get key s Plain (b ∷ bs) told unsigned unsealed h = h
rekeyed_get key s Host (b ∷ bs) told unsigned unsealed h = h
rekeyed_get key s Secure (b ∷ bs) told unsigned unsealed h = h
rekeyed_get key s Signed (b ∷ bs) told unsigned unsealed h = absurd (unsigned refl)
rekeyed_get key s Sealed (b ∷ bs) told unsigned unsealed h = absurd (unsealed refl)

rekeyed_removal : (key : List ℕ) (old new : Keyed) (at : ℤ) (way : Way) (name : List ℕ) (told : List Reading)
    → RemoveTells old at way name told new → RemoveTells (rekey key old) at way name told (rekey key new)
rekeyed_removal key old new at way name told (now, is, inl h) = (
  now,
  is,
  inl (
    h.0,
    record {
      accepted = h.1.accepted;
      key_is = refl;
      removes = h.1.removes;
    },
  ),
)
rekeyed_removal key old new at way name told (now, is, inr h) =
    (now, is, inr (h.0, h.1, h.2, ap (rekey key) h.3))

rekeyed : (key : List ℕ) (old new : Keyed) (at : ℤ) (c : Command) (told : List Reading) → IsPlainCommand c
    → CommandTells old at c told new → CommandTells (rekey key old) at c told (rekey key new)
rekeyed key old new at (Set way s) told is (inl h) = inl (h.0, rekeyed_set key old new way s is.0 is.1 h.1)
rekeyed key old new at (Set way s) told is (inr h) = inr (h.0, h.1, h.2, ap (rekey key) h.3)
rekeyed key old new at (Remove way name) told is h = rekeyed_removal key old new at way name told h
rekeyed key old new at (Get way name) told is h =
    (rekeyed_get key old way name told is.0 is.1 h.0, ap (rekey key) h.1)

pub rekeyed_all : (key : List ℕ) (old new : Keyed) (at : ℤ) (cs : List Command) (told : List Reading)
    → AllByRecursion IsPlainCommand cs → Tells old at cs told new → Tells (rekey key old) at cs told (rekey key new)
rekeyed_all key old new at [] told is h = (h.0, ap (rekey key) h.1)
rekeyed_all key old new at (c ∷ cs) told is h = (
  h.0,
  h.1,
  rekey key h.2,
  rekeyed key old h.2 at c h.0 is.0 h.3,
  rekeyed_all key h.2 new at cs h.1 is.1 h.4,
  h.5,
)

-- ---- a play

pub rekeyed_opening : {b : Bool} (key own header : List ℕ) (s : Keyed) → IsOpenedBy b own header s
    → IsOpenedBy b key header (rekey key s)
rekeyed_opening key own header s h =
    record { cookies = h.cookies; read = h.read; key_is = refl; holds = h.holds }

module _ (signed : (k value : List ℕ) → IsUtf8 value → IsUtf8 (signing k value))
    (sealed : (k name value text : List ℕ) → IsSealing k name value text → IsUtf8 text) where
  serves : {b : Bool} (key header : List ℕ) (r : Ring) (at : DateTime) (commands : List RingCommand)
      (told : List RingReading)
      (opened session : Ringed) → IsOpenedOnBy b r at header opened → RingTells opened commands told session
      → (cs : List Command) × (read : List Reading) × AllByRecursion IsPlainCommand cs
      × Serves b key header (civil_nanos at) cs read (rekey key (keyed session))
  serves key header r at commands told opened session is tells =
      let d = commands_plain signed sealed opened session commands told tells in
      let moved =
      subst (λ (m : DateTime). Tells (keyed opened) (civil_nanos m) d.0 d.1 (keyed session)) is.moment_is d.3 in (
        d.0,
        d.1,
        d.2,
        (
          rekey key (keyed opened),
          rekeyed_opening key r.current header (keyed opened) is.opened,
          rekeyed_all key (keyed opened) (keyed session) (civil_nanos at) d.0 d.1 d.2 moved,
        ),
      )

  pub plays_plain : RingPlaysArePlain
  plays_plain b key list r rows [] [] left new h = ([], [], refl, h.1)
  plays_plain b key list r rows [] (t ∷ ts) left new h = absurd h
  plays_plain b key list r rows (a ∷ rest) [] left new h = absurd h
  plays_plain b key list r rows (ring.Visits url at cs arrival ∷ rest) (t ∷ ts) left new h =
      let step = h.2 in
      let s = serves key step.0 r at cs t step.2.0 step.2.2.0 step.2.1 step.2.2.1 in
      let later = plays_plain b key list h.0 h.1 rest ts left new h.3 in (
        acts.Visits url (civil_nanos at) s.0 arrival ∷ later.0,
        s.1 ∷ later.1,
        (s.0, later.0, refl, s.2, later.2),
        (h.1, (step.0, step.1, (rekey key (keyed step.2.2.0), s.3, step.2.2.2)), later.3),
      )
  plays_plain b key list r rows (ring.Answers url lines at ∷ rest) (t ∷ ts) left new h =
      let later = plays_plain b key list h.0 h.1 rest ts left new h.3 in (
        acts.Answers url lines at ∷ later.0,
        [] ∷ later.1,
        (later.0, refl, later.2),
        (h.1, (refl, h.2.1), later.3),
      )
  plays_plain b key list r rows (ring.Asks url at ∷ rest) (t ∷ ts) left new h =
      let later = plays_plain b key list h.0 h.1 rest ts left new h.3 in (
        acts.Asks url at ∷ later.0,
        (Header h.2.0.0 ∷ []) ∷ later.1,
        (later.0, refl, later.2),
        (h.1, ((h.2.0.0, h.2.0.1, refl), h.2.1), later.3),
      )
  plays_plain b key list r rows (ring.Restarts at ∷ rest) (t ∷ ts) left new h =
      let later = plays_plain b key list h.0 h.1 rest ts left new h.3 in (
        acts.Restarts at ∷ later.0,
        [] ∷ later.1,
        (later.0, refl, later.2),
        (h.1, (refl, h.2.1), later.3),
      )
  plays_plain b key list r rows (ring.Rotates k at keep ∷ rest) (t ∷ ts) left new h =
      let later = plays_plain b key list h.0 h.1 rest ts left new h.3 in (
        later.0,
        later.1,
        later.2,
        subst (λ (q : List Row). Plays b list key q later.0 later.1 new) h.2.1 later.3,
      )

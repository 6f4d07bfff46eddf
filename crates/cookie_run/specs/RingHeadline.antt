-- At each request a site whose sessions open on a ring reads what its own delivered commands leave, under the ring of
-- that request: `Headline` with a ring in the place of the key (own: docs/DEFINITIONS.md).
use Rattle.std.specs.Prelude.{◌≡◌, ◌≢◌, ◌≤ℤ◌, ⊤, ℕ, ℤ, Bool, List, [], ◌∷◌, Some, length}
use Rattle.std.specs.List.{AllByRecursion}
use Rattle.std.specs.Str.{IsUtf8}
use Rattle.jiff.specs.Types.{DateTime}
use Rattle.jiff.specs.Words.{civil_nanos}
use Rattle.cookie_text.specs.Normal.{normal}
use Rattle.cookie_text.specs.Record.{Seen}
use Rattle.cookie_text.specs.Setting.{latest_end}
use Rattle.cookie.specs.KeyRing.{Ring, rotated}
use Rattle.publicsuffix.specs.Rules.{Rule}
use Rattle.saved_text.specs.PrintedDates.{without_fraction}
use Rattle.store_parts.specs.Expiry.{death}
use Rattle.cookie_store.specs.Rows.{Row}
use Rattle.cookie_client.specs.Steps as acts
use Rattle.cookie_client.specs.Steps.{Act}
use Rattle.cookie_run.specs.Headline.{IsSite}
use Rattle.cookie_run.specs.HostHeadline.{HasHostPrefix, IsHostSite}
use Rattle.cookie_run.specs.HostLines.{IsHostSetter}
use Rattle.cookie_client.specs.Hosts.{secure_host}
use Rattle.cookie_run.specs.Moments.{AllFollow, the_beginning}
use Rattle.cookie_run.specs.RingPlay.{Answers, Asks, Restarts, RingAct, RingCommand, RingPlays, RingReading}
use Rattle.cookie_run.specs.RingPlay.{Rotates, Visits, Set, SetUntil, Remove, Get, GetUntil, ring_moments_of}
use Rattle.cookie_client.specs.RingSession.{EndsAt}
use Rattle.cookie_run.specs.RingSite.{RingExchangeOn, RingSite, no_entry, ring_restarted}

-- ---- the premises

-- the acts without their commands and rotations: those of which a host is a site, as `Headline` says
abbrev pub without_commands : List RingAct → List Act
without_commands [] = []
without_commands (Visits url at commands arrival ∷ later) =
    acts.Visits url (civil_nanos at) [] arrival ∷ without_commands later
without_commands (Answers url lines at ∷ later) = acts.Answers url lines at ∷ without_commands later
without_commands (Asks url at ∷ later) = acts.Asks url at ∷ without_commands later
without_commands (Restarts at ∷ later) = acts.Restarts at ∷ without_commands later
without_commands (Rotates key at keep_until ∷ later) = without_commands later

-- a key has 64 bytes
abbrev pub IsKey : List ℕ → Type 0
IsKey key = length key ≡ 64

-- a value that is set until a moment is text
abbrev pub HasText : RingCommand → Type 0
HasText (Set way cookie) = ⊤
HasText (SetUntil way cookie until) = IsUtf8 cookie.cookie.value
HasText (Remove way name) = ⊤
HasText (Get way name) = ⊤
HasText (GetUntil way name) = ⊤

-- values are text, and new keys are keys
abbrev pub AreFit : List RingAct → Type 0
AreFit [] = ⊤
AreFit (Visits url at commands arrival ∷ later) = AllByRecursion HasText commands × AreFit later
AreFit (Answers url lines at ∷ later) = AreFit later
AreFit (Asks url at ∷ later) = AreFit later
AreFit (Restarts at ∷ later) = AreFit later
AreFit (Rotates key at keep_until ∷ later) = IsKey key × AreFit later

-- ---- the site through a play, under the names that count

-- an exchange of the host at https reads what its commands read on its site, under the ring as it is then; a restart
-- leaves of that site what has a death that is to come; other acts leave it as it is
abbrev pub RingReadsOn : (List ℕ → Type 0) → List ℕ → Ring → RingSite → RingAct → List RingReading → RingSite → Type 0
RingReadsOn Counts host ring site (Visits url at commands arrival) told new =
    (secure_host url ≡ Some host → RingExchangeOn Counts ring site at commands arrival told new)
    × (secure_host url ≢ Some host → new ≡ site)
RingReadsOn Counts host ring site (Answers url lines at) told new = new ≡ site
RingReadsOn Counts host ring site (Asks url at) told new = new ≡ site
RingReadsOn Counts host ring site (Restarts at) told new = new ≡ ring_restarted site at
RingReadsOn Counts host ring site (Rotates key at keep_until) told new = new ≡ site

-- the ring after an act: a rotation puts a new key in front
abbrev pub ring_after : Ring → RingAct → Ring
ring_after ring (Visits url at commands arrival) = ring
ring_after ring (Answers url lines at) = ring
ring_after ring (Asks url at) = ring
ring_after ring (Restarts at) = ring
ring_after ring (Rotates key at keep_until) = rotated key at keep_until ring

-- so does each of the acts, each with its own readings
abbrev pub EachRingReadsOn : (List ℕ → Type 0) → List ℕ → Ring → RingSite → List RingAct → List (List RingReading)
    → RingSite → Type 0
EachRingReadsOn Counts host ring site [] told end = end ≡ site
EachRingReadsOn Counts host ring site (act ∷ acts) [] end = ⊥
EachRingReadsOn Counts host ring site (act ∷ acts) (told ∷ later) end =
    (mid : RingSite) × RingReadsOn Counts host ring site act told mid
    × EachRingReadsOn Counts host (ring_after ring act) mid acts later end

-- ---- the headlines

abbrev pub every_name : List ℕ → Type 0
every_name name = ⊤

-- a play by a reading that begins with no row and this ring, whose moments are in order
pub record IsRingPlay (shown : Bool) (list : List Rule) (ring : Ring) (acts : List RingAct)
    (told : List (List RingReading)) (left : Ring) (rows : List Row) : Type 0 where
  pub is_key : IsKey ring.current
  pub fit : AreFit acts
  pub in_order : AllFollow the_beginning (ring_moments_of acts)
  pub plays : RingPlays shown list ring [] acts told left rows

-- THE HEADLINE ON A RING: each host that is a site as the headline of one key asks reads at each of its exchanges at
-- https what its own delivered commands before it leave, after a restart only what had a death, and what its own
-- commands so far set and removed, under the ring as the rotations before it left it.
abbrev pub EachRingPlayIsRead : Type 0
EachRingPlayIsRead = (shown : Bool) (list : List Rule) (ring : Ring) (acts : List RingAct)
    (told : List (List RingReading)) (left : Ring) (rows : List Row) → IsRingPlay shown list ring acts told left rows
    → (host : List ℕ) → IsSite list host (without_commands acts)
    → (end : RingSite) × EachRingReadsOn every_name host ring no_entry acts told end

-- THE SAME BY `__Host-`: so does under the names that are stored with `__Host-` in front each host that is a site by
-- them, whatever other hosts answer.
abbrev pub EachRingPlayIsReadByHost : Type 0
EachRingPlayIsReadByHost = (shown : Bool) (list : List Rule) (ring : Ring) (acts : List RingAct)
    (told : List (List RingReading)) (left : Ring) (rows : List Row) → IsRingPlay shown list ring acts told left rows
    → (host : List ℕ) → IsHostSite host (without_commands acts)
    → (end : RingSite) × EachRingReadsOn HasHostPrefix host ring no_entry acts told end

-- so does each host that sets its `__Host-` cookies alone by sessions
abbrev pub EachRingPlayIsReadBySetters : Type 0
EachRingPlayIsReadBySetters = (shown : Bool) (list : List Rule) (ring : Ring) (acts : List RingAct)
    (told : List (List RingReading)) (left : Ring) (rows : List Row) → IsRingPlay shown list ring acts told left rows
    → (host : List ℕ) → IsHostSetter host (without_commands acts)
    → (end : RingSite) × EachRingReadsOn HasHostPrefix host ring no_entry acts told end

-- ---- values that end

-- A cookie that is set until a moment, 9999-12-31T23:59:59.999999 at the latest, dies with the whole second of that
-- moment, whenever it is delivered.
abbrev pub EndsAreDeaths : Type 0
EndsAreDeaths = (s ending : Seen) (until : DateTime) (at : ℤ) → EndsAt s until ending
    → civil_nanos until ≤ℤ latest_end → death (normal ending.cookie) at ≡ Some (without_fraction until)

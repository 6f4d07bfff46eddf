-- A site whose sessions open on a ring of keys, as its own delivered commands leave it, and what a request reads of it
-- under the ring of the moment (own: docs/DEFINITIONS.md). Nothing here knows a header, a line or a row.
use Rattle.std.specs.Prelude.{◌≡◌, ◌≢◌, ◌⊎◌, ◌<◌, ◌≤ℤ◌, ⊤, ℕ, ℤ, pos, List, [], ◌∷◌, ◌++◌, Option, Some, None}
use Rattle.std.specs.Prelude.{MatchOption, if◌then◌else◌}
use Rattle.std.specs.Str.{IsUtf8}
use Rattle.jiff.specs.Types.{DateTime}
use Rattle.jiff.specs.Words.{civil_nanos}
use Rattle.cookie_text.specs.Normal.{normal}
use Rattle.cookie_text.specs.Record.{Record, Seen}
use Rattle.cookie.specs.KeyRing.{Ring, GivesUnder, key_at}
use Rattle.cookie.specs.Sealing.{IsSealing}
use Rattle.cookie.specs.Signing.{signing}
use Rattle.store_parts.specs.Expiry.{death, is_dead}
use Rattle.cookie_client.specs.Steps.{Arrival, Arrives, Never}
use Rattle.cookie_client.specs.Ending.{IsReadBefore, StandsFor, dated_text}
use Rattle.cookie_client.specs.EndingLaws.{IsReadTill}
use Rattle.cookie_run.specs.RingPlay.{RingCommand, RingReading, Set, SetUntil, Remove, Get, GetUntil, Read, Refused}
use Rattle.cookie_run.specs.RingPlay.{ReadUntil}
use Rattle.cookie_client.specs.RingSession.{EndsAt, RefusesUntil, until_refusal}
use Rattle.cookie_client.specs.Ways.{Refuses, set_refusal, stored_name}
use Rattle.cookie_run.specs.Site.{is_lasting, with_at}
use Rattle.cookie_client.specs.declared.ending.EndingWay.{EndingWay}
use Rattle.cookie_client.specs.declared.ending.EndingWay.TheVariants as ends
use Rattle.cookie_client.specs.declared.outcome.SessionError.{SessionError}
use Rattle.cookie_client.specs.declared.outcome.SessionError.TheVariants.{EmptyName, OutOfMemory}
use Rattle.cookie_client.specs.declared.way.Way.{Way}
use Rattle.cookie_client.specs.declared.way.Way.TheVariants as ways

-- ---- what is held

-- how a value is kept: as it is, signed, sealed, or until a moment in a way
pub data Form : Type 0 where
  Plain : Form
  Signed : Form
  Sealed : Form
  Until : (way : EndingWay) → Form

abbrev pub form_of : Way → Form
form_of ways.Plain = Plain
form_of ways.Host = Plain
form_of ways.Secure = Plain
form_of ways.Signed = Signed
form_of ways.Sealed = Sealed

-- by this key the text stands under the name for this content, in this form
abbrev pub StandsBy : Form → List ℕ → List ℕ → List ℕ → List ℕ → Type 0
StandsBy Plain name text key content = text ≡ content
StandsBy Signed name text key content = text ≡ signing key content
StandsBy Sealed name text key content = IsUtf8 content × IsSealing key name content text
StandsBy (Until way) name text key content = StandsFor way name text key content

-- the text shows its content, so that it stands for no other, whatever the key
abbrev pub ShowsContent : Form → Type 0
ShowsContent Plain = ⊤
ShowsContent Signed = ⊤
ShowsContent Sealed = ⊥
ShowsContent (Until ends.Signed) = ⊤
ShowsContent (Until ends.Sealed) = ⊥

-- no text is of both forms: one of a value until a moment, and a signing or a sealing without one
abbrev pub AreFormsApart : Form → Form → Type 0
AreFormsApart Plain other = ⊥
AreFormsApart Signed (Until way) = ⊤
AreFormsApart Signed Plain = ⊥
AreFormsApart Signed Signed = ⊥
AreFormsApart Signed Sealed = ⊥
AreFormsApart Sealed (Until way) = ⊤
AreFormsApart Sealed Plain = ⊥
AreFormsApart Sealed Signed = ⊥
AreFormsApart Sealed Sealed = ⊥
AreFormsApart (Until way) Signed = ⊤
AreFormsApart (Until way) Sealed = ⊤
AreFormsApart (Until way) Plain = ⊥
AreFormsApart (Until way) (Until other) = ⊥

-- how something is kept, the key that was the current one then, and what: a value, or one until a moment as its dated
-- text
pub record RingEntry : Type 0 where
  pub form : Form
  pub key : List ℕ
  pub content : List ℕ

-- an entry, and its death, where it has one
pub record RingHeld : Type 0 where
  pub entry : RingEntry
  pub death : Option ℤ

-- what a site holds under each stored name, and what a request finds there
abbrev pub RingSite : Type 0
RingSite = List ℕ → Option RingHeld

abbrev pub RingView : Type 0
RingView = List ℕ → Option RingEntry

abbrev pub no_entry : RingSite
no_entry name = None

-- what is held, where it isn't dead at the moment
abbrev pub ring_live_at : ℤ → Option RingHeld → Option RingHeld
ring_live_at now None = None
ring_live_at now (Some held) = if is_dead now held.death then None else Some held

abbrev pub ring_entry_in : Option RingHeld → Option RingEntry
ring_entry_in None = None
ring_entry_in (Some held) = Some held.entry

-- what a request at the moment finds
abbrev pub ring_live_view : RingSite → ℤ → RingView
ring_live_view site now = λ name. ring_entry_in (ring_live_at now (site name))

-- ---- what is read of it

-- something is given at a place before this one
abbrev pub IsGivenBefore : ℕ → Option (List ℕ × ℕ) → Type 0
IsGivenBefore place given = MatchOption given ⊥ (λ g. g.1 < place)

-- What a ring gives at the moment of an entry, in a form, with the place of the key. Nothing is given but what its
-- keys that count give of a text that stands for the entry: of the first that gives any. In the entry's own form that
-- is its content, at place 0, where it was kept under the current key. Where it was kept under the key of another
-- place that counts, it is its content at that place, or else the key of a place before it gives some: so it is its
-- content where no key before it gives any. In a form that shows its content no other content is given at any place.
-- Of a value until a moment nothing is given as of one that is signed or sealed without, nor the reverse.
pub record IsGivenOf (now : DateTime) (ring : Ring) (form : Form) (name : List ℕ) (entry : RingEntry)
    (given : Option (List ℕ × ℕ)) : Type 0 where
  pub text : List ℕ
  pub stands : StandsBy entry.form name text entry.key entry.content
  pub only : GivesUnder (StandsBy form name text) now ring given
  pub current :
      entry.form ≡ form → (form ≡ Plain) ⊎ (ring.current ≡ entry.key) → given ≡ Some (entry.content, 0)
  pub found :
      entry.form ≡ form → (place : ℕ) → key_at now ring place ≡ Some entry.key
      → (given ≡ Some (entry.content, place)) ⊎ IsGivenBefore place given
  pub alone :
      entry.form ≡ form → (place : ℕ) → key_at now ring place ≡ Some entry.key
      → ((p : ℕ) (k content : List ℕ) → p < place → key_at now ring p ≡ Some k → ¬ (StandsBy form name text k content))
      → given ≡ Some (entry.content, place)
  pub shown : entry.form ≡ form → ShowsContent form → MatchOption given ⊤ (λ g. g.0 ≡ entry.content)
  pub apart : AreFormsApart entry.form form → given ≡ None

-- the same of what there may be
abbrev pub IsReadOf : DateTime → Ring → Form → List ℕ → Option RingEntry → Option (List ℕ × ℕ) → Type 0
IsReadOf now ring form name None read = read ≡ None
IsReadOf now ring form name (Some entry) read = IsGivenOf now ring form name entry read

-- What is read as a value until a moment: of the dated text that is given the value, before the moment in it. Of a
-- text with a moment of the years from 0 on that is its value, till the whole second of that moment, and nothing from
-- then on.
pub record IsEndingReadOf (now : DateTime) (ring : Ring) (way : EndingWay) (name : List ℕ) (entry : Option RingEntry)
    (read : Option (List ℕ × ℕ)) : Type 0 where
  pub given : Option (List ℕ × ℕ)
  pub is_given : IsReadOf now ring (Until way) name entry given
  pub read_is : MatchOption given (read ≡ None) (λ g. IsReadBefore (civil_nanos now) g.0 g.1 read)
  pub till :
      (until : DateTime) (value : List ℕ) (place : ℕ) → pos 0 ≤ℤ until.date.year
      → given ≡ Some (dated_text until value, place) → IsReadTill (civil_nanos now) until value place read

-- ---- what a request reads by its commands, on a ring

-- an accepted set or removal, under its stored name; of a set its entry, and the cookie whose expiry and max-age count
pub data Change : Type 0 where
  Put : (name : List ℕ) (entry : RingEntry) (cookie : Record) → Change
  Take : (name : List ℕ) → Change

-- kept by the current key
abbrev pub ring_entry_of : Ring → Way → Record → RingEntry
ring_entry_of ring way c = record { form = form_of way; key = ring.current; content = c.value }

abbrev pub ending_entry : Ring → EndingWay → Record → DateTime → RingEntry
ending_entry ring way c until =
    record { form = Until way; key = ring.current; content = dated_text until c.value }

-- An accepted set reads nothing and writes its entry, dead or not; a refused one reads its refusal and leaves all as it
-- is. Accepted changes are noted.
abbrev pub RingSetOn : Ring → RingView → Way → Record → List RingReading → List Change → RingView → Type 0
RingSetOn ring view way c told noted new =
    ((told ≡ []) × (set_refusal way c ≡ None)
    × (noted ≡ Put (stored_name way c.name) (ring_entry_of ring way c) c ∷ [])
    × (new ≡ with_at view (stored_name way c.name) (Some (ring_entry_of ring way c))))
    ⊎ ((error : SessionError) × (told ≡ Refused error ∷ []) × Refuses way c error × (noted ≡ []) × (new ≡ view))

-- one until a moment has the moment as its expiry, and no max-age
abbrev pub SetUntilOn : Ring → RingView → EndingWay → Seen → DateTime → List RingReading → List Change → RingView
    → Type 0
SetUntilOn ring view way s until told noted new =
    ((ending : Seen) × EndsAt s until ending × (told ≡ []) × (until_refusal way ending.cookie ≡ None)
    × (noted ≡ Put s.cookie.name (ending_entry ring way s.cookie until) ending.cookie ∷ [])
    × (new ≡ with_at view s.cookie.name (Some (ending_entry ring way s.cookie until))))
    ⊎ ((error : SessionError) × (told ≡ Refused error ∷ []) × RefusesUntil way s until error × (error ≢ OutOfMemory)
    × (noted ≡ []) × (new ≡ view))

-- a removal takes out, but for an empty name
abbrev pub RingRemoveOn : RingView → Way → List ℕ → List RingReading → List Change → RingView → Type 0
RingRemoveOn view way [] told noted new = (told ≡ Refused EmptyName ∷ []) × (noted ≡ []) × (new ≡ view)
RingRemoveOn view way (b ∷ bs) told noted new = (told ≡ []) × (noted ≡ Take (stored_name way (b ∷ bs)) ∷ [])
    × (new ≡ with_at view (stored_name way (b ∷ bs)) None)

-- a get reads what is found under its stored name, where that counts; under another name all that is told of what it
-- reads is that it reads something or none
abbrev pub RingGetOn : (List ℕ → Type 0) → Ring → DateTime → RingView → Way → List ℕ → List RingReading → Type 0
RingGetOn Counts ring now view way [] told = told ≡ Refused EmptyName ∷ []
RingGetOn Counts ring now view way (b ∷ bs) told =
    (read : Option (List ℕ × ℕ)) × (told ≡ Read way (b ∷ bs) read ∷ []) × (Counts (stored_name way (b ∷ bs))
    → IsReadOf now ring (form_of way) (stored_name way (b ∷ bs)) (view (stored_name way (b ∷ bs))) read)

abbrev pub GetUntilOn : (List ℕ → Type 0) → Ring → DateTime → RingView → EndingWay → List ℕ → List RingReading
    → Type 0
GetUntilOn Counts ring now view way [] told = told ≡ Refused EmptyName ∷ []
GetUntilOn Counts ring now view way (b ∷ bs) told =
    (read : Option (List ℕ × ℕ)) × (told ≡ ReadUntil way (b ∷ bs) read ∷ [])
    × (Counts (b ∷ bs) → IsEndingReadOf now ring way (b ∷ bs) (view (b ∷ bs)) read)

abbrev pub RingCommandOn : (List ℕ → Type 0) → Ring → DateTime → RingView → RingCommand → List RingReading
    → List Change → RingView → Type 0
RingCommandOn Counts ring now view (Set way cookie) told noted new =
    RingSetOn ring view way cookie.cookie told noted new
RingCommandOn Counts ring now view (SetUntil way cookie until) told noted new =
    SetUntilOn ring view way cookie until told noted new
RingCommandOn Counts ring now view (Remove way name) told noted new = RingRemoveOn view way name told noted new
RingCommandOn Counts ring now view (Get way name) told noted new =
    RingGetOn Counts ring now view way name told × (noted ≡ []) × (new ≡ view)
RingCommandOn Counts ring now view (GetUntil way name) told noted new =
    GetUntilOn Counts ring now view way name told × (noted ≡ []) × (new ≡ view)

-- the commands, one after another
abbrev pub RingCommandsOn : (List ℕ → Type 0) → Ring → DateTime → RingView → List RingCommand → List RingReading
    → List Change → RingView → Type 0
RingCommandsOn Counts ring now view [] told noted new = (told ≡ []) × (noted ≡ []) × (new ≡ view)
RingCommandsOn Counts ring now view (c ∷ cs) told noted new =
    (first : List RingReading) × (later : List RingReading) × (noted_first : List Change)
    × (noted_later : List Change) × (mid : RingView) × RingCommandOn Counts ring now view c first noted_first mid
    × RingCommandsOn Counts ring now mid cs later noted_later new × (told ≡ first ++ later)
    × (noted ≡ noted_first ++ noted_later)

-- ---- what they leave

-- what a set that is delivered at the moment leaves: Max-Age counts from then, in whole seconds
abbrev pub put_from : ℤ → RingEntry → Record → Option RingHeld
put_from at entry cookie = ring_live_at at (Some (record { entry = entry; death = death (normal cookie) at }))

-- the site after a change that is delivered at the moment
abbrev pub changed : ℤ → RingSite → Change → RingSite
changed at site (Put name entry cookie) = with_at site name (put_from at entry cookie)
changed at site (Take name) = with_at site name None

abbrev pub changed_all : ℤ → RingSite → List Change → RingSite
changed_all at site [] = site
changed_all at site (change ∷ changes) = changed_all at (changed at site change) changes

-- the site after an exchange: a lost answer leaves it
abbrev pub ring_after_arrival : Arrival → RingSite → List Change → RingSite
ring_after_arrival (Arrives at) site noted = changed_all at site noted
ring_after_arrival Never site noted = site

-- an exchange that is opened at the moment, on this ring
abbrev pub RingExchangeOn : (List ℕ → Type 0) → Ring → RingSite → DateTime → List RingCommand → Arrival
    → List RingReading → RingSite → Type 0
RingExchangeOn Counts ring site now commands arrival told new =
    (noted : List Change) × (after : RingView)
    × RingCommandsOn Counts ring now (ring_live_view site (civil_nanos now)) commands told noted after
    × (new ≡ ring_after_arrival arrival site noted)

-- what is held, where it has a death that is past the moment
abbrev pub ring_lasting_at : ℤ → Option RingHeld → Option RingHeld
ring_lasting_at now None = None
ring_lasting_at now (Some held) = if is_lasting now held.death then Some held else None

-- the site after a restart at the moment
abbrev pub ring_restarted : RingSite → ℤ → RingSite
ring_restarted site now = λ name. ring_lasting_at now (site name)

-- A site as its own delivered commands leave it. Nothing here knows a header, a line, a row, a signing or a sealing.
use Rattle.std.specs.Prelude.{◌≡◌, ◌⊎◌, ℕ, ℤ, List, [], ◌∷◌, ◌++◌, Bool, not, ◌&&◌, Option, Some, None, is_some}
use Rattle.std.specs.Prelude.{if◌then◌else◌}
use Rattle.std.specs.Str.{bytes_eq}
use Rattle.cookie_text.specs.Normal.{normal}
use Rattle.cookie_text.specs.Record.{Record}
use Rattle.store_parts.specs.Expiry.{death, is_dead}
use Rattle.cookie_client.specs.Steps.{Arrival, Arrives, Never}
use Rattle.cookie_client.specs.declared.command.Command.{Command}
use Rattle.cookie_client.specs.declared.command.Command.TheVariants.{Set, Remove, Get}
use Rattle.cookie_client.specs.declared.command.Reading.{Reading}
use Rattle.cookie_client.specs.declared.command.Reading.TheVariants.{Value, Refused}
use Rattle.cookie_client.specs.declared.outcome.SessionError.{SessionError}
use Rattle.cookie_client.specs.declared.outcome.SessionError.TheVariants.{EmptyName}
use Rattle.cookie_client.specs.declared.way.Way.{Way}
use Rattle.cookie_client.specs.Ways.{Kind, kind_of, stored_name, set_refusal, Refuses}

-- what is held under a name: a value, and how it is kept
pub record Entry : Type 0 where
  pub kind : Kind
  pub value : List ℕ

-- an entry, and its death, where it has one
pub record Held : Type 0 where
  pub entry : Entry
  pub death : Option ℤ

-- what a site holds under each stored name
abbrev pub Site : Type 0
Site = List ℕ → Option Held

abbrev pub nothing : Site
nothing name = None

-- what a request reads of a site under each stored name
abbrev pub View : Type 0
View = List ℕ → Option Entry

-- with this under a name
abbrev pub with_at : {A : Type 0} → (List ℕ → Option A) → List ℕ → Option A → List ℕ → Option A
with_at old name here = λ other. if bytes_eq other name then here else old other

-- ---- what a request reads by its commands

-- what is held, where it isn't dead at the moment
abbrev pub live_at : ℤ → Option Held → Option Held
live_at now None = None
live_at now (Some held) = if is_dead now held.death then None else Some held

abbrev pub entry_in : Option Held → Option Entry
entry_in None = None
entry_in (Some held) = Some held.entry

-- what a request at the moment finds
abbrev pub live_view : Site → ℤ → View
live_view site now = λ name. entry_in (live_at now (site name))

abbrev pub entry_of : Way → Record → Entry
entry_of way c = record { kind = kind_of way; value = c.value }

-- An accepted set reads nothing and writes its entry, dead or not; a refused one reads its refusal and leaves all as it
-- is. Accepted commands are noted.
abbrev pub SetOn : View → Command → Way → Record → List Reading → List Command → View → Type 0
SetOn view command way c told noted new =
    ((told ≡ []) × (set_refusal way c ≡ None) × (noted ≡ command ∷ [])
    × (new ≡ with_at view (stored_name way c.name) (Some (entry_of way c))))
    ⊎ ((error : SessionError) × (told ≡ Refused error ∷ []) × Refuses way c error × (noted ≡ []) × (new ≡ view))

-- a removal takes out, but for an empty name
abbrev pub RemoveOn : View → Command → Way → List ℕ → List Reading → List Command → View → Type 0
RemoveOn view command way [] told noted new = (told ≡ Refused EmptyName ∷ []) × (noted ≡ []) × (new ≡ view)
RemoveOn view command way (b ∷ bs) told noted new =
    (told ≡ []) × (noted ≡ command ∷ []) × (new ≡ with_at view (stored_name way (b ∷ bs)) None)

-- what is read of an entry of this kind, and where there is none; of an entry of another kind nothing is said
abbrev pub IsReadAt : Kind → Option Entry → Option (List ℕ) → Type 0
IsReadAt kind None value = value ≡ None
IsReadAt kind (Some entry) value = entry.kind ≡ kind → value ≡ Some entry.value

abbrev pub GetOn : View → Way → List ℕ → List Reading → Type 0
GetOn view way [] told = told ≡ Refused EmptyName ∷ []
GetOn view way (b ∷ bs) told =
    (value : Option (List ℕ)) × (told ≡ Value way (b ∷ bs) value ∷ [])
    × IsReadAt (kind_of way) (view (stored_name way (b ∷ bs))) value

abbrev pub CommandOn : View → Command → List Reading → List Command → View → Type 0
CommandOn view (Set way cookie) told noted new = SetOn view (Set way cookie) way cookie.cookie told noted new
CommandOn view (Remove way name) told noted new = RemoveOn view (Remove way name) way name told noted new
CommandOn view (Get way name) told noted new = GetOn view way name told × (noted ≡ []) × (new ≡ view)

-- the commands, one after another
abbrev pub CommandsOn : View → List Command → List Reading → List Command → View → Type 0
CommandsOn view [] told noted new = (told ≡ []) × (noted ≡ []) × (new ≡ view)
CommandsOn view (c ∷ cs) told noted new =
    (first : List Reading) × (later : List Reading) × (noted_first : List Command) × (noted_later : List Command)
    × (mid : View) × CommandOn view c first noted_first mid × CommandsOn mid cs later noted_later new
    × (told ≡ first ++ later) × (noted ≡ noted_first ++ noted_later)

-- ---- what they leave

-- what a set that is delivered at the moment leaves under its name: Max-Age counts from then, in whole seconds
abbrev pub held_from : ℤ → Way → Record → Option Held
held_from now way c = live_at now (Some (record { entry = entry_of way c; death = death (normal c) now }))

-- the site after an accepted command that is delivered at the moment
abbrev pub left_by : ℤ → Site → Command → Site
left_by now site (Set way cookie) =
    with_at site (stored_name way cookie.cookie.name) (held_from now way cookie.cookie)
left_by now site (Remove way name) = with_at site (stored_name way name) None
left_by now site (Get way name) = site

abbrev pub left_by_all : ℤ → Site → List Command → Site
left_by_all now site [] = site
left_by_all now site (c ∷ cs) = left_by_all now (left_by now site c) cs

-- the site after an exchange: a lost answer leaves it
abbrev pub after_arrival : Arrival → Site → List Command → Site
after_arrival (Arrives at) site noted = left_by_all at site noted
after_arrival Never site noted = site

-- an exchange that is opened at the moment
abbrev pub ExchangeOn : Site → ℤ → List Command → Arrival → List Reading → Site → Type 0
ExchangeOn site now commands arrival told new =
    (noted : List Command) × (after : View) × CommandsOn (live_view site now) commands told noted after
    × (new ≡ after_arrival arrival site noted)

-- ---- a restart

-- it has a death, and isn't dead at the moment
abbrev pub is_lasting : ℤ → Option ℤ → Bool
is_lasting now death = not (is_dead now death) && is_some death

-- what is held, where it lasts past the moment
abbrev pub lasting_at : ℤ → Option Held → Option Held
lasting_at now None = None
lasting_at now (Some held) = if is_lasting now held.death then Some held else None

-- the site after a restart at the moment: what has a death that is to come
abbrev pub restarted : Site → ℤ → Site
restarted site now = λ name. lasting_at now (site name)

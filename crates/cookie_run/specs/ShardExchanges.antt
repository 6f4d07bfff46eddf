-- Sessions' exchanges as a client makes them: looks at headers, and answers of the lines that are handed to it (own:
-- docs/DEFINITIONS.md).
use Rattle.std.specs.Prelude.{◌≡◌, ℕ, Bool, false, List, [], ◌∷◌, ◌++◌, map}
use Rattle.cookie.specs.ByName.{Lists}
use Rattle.cookie.specs.Jar.{Jar, delta, under_names}
use Rattle.cookie_text.specs.Record.{Seen}
use Rattle.publicsuffix.specs.Rules.{Rule}
use Rattle.url.specs.Parts.{Parts}
use Rattle.cookie_store.specs.Rows.{Row}
use Rattle.cookie_client.specs.Steps.{Act, Visits, Answers, Asks, Restarts, Arrival, Arrives, Never, Serves}
use Rattle.cookie_run.specs.Headline.{Each}
use Rattle.cookie_client.specs.Jar.{Keyed, lines_of}
use Rattle.cookie_run.specs.Play.{Plays}
use Rattle.cookie_client.specs.declared.command.Reading.{Reading}
use Rattle.cookie_client.specs.declared.command.Reading.TheVariants.{Header}
use Rattle.cookie_run.specs.ShardCut.{AnswersByName, IsCut}

-- ---- an act

-- the lines that a session closes with, nonces and all, come as an answer at this moment, or don't
abbrev pub Hands : Parts → Jar → Arrival → List Act → Type 0
Hands url jar (Arrives at) acts =
    (cookies : List Seen) × Lists (under_names cookies) (delta jar)
    × (acts ≡ Answers url (lines_of cookies) at ∷ [])
Hands url jar Never acts = acts ≡ []

-- An exchange that read this is, for its client, a look at the header on which its session was opened, and then those
-- lines; every other act is itself. So are the readings: the header, and nothing of the lines.
abbrev pub IsMade : Bool → List ℕ → Act → List Reading → List Act → List (List Reading) → Type 0
IsMade shown key (Visits url at commands arrival) told made read =
    (header : List ℕ) × (session : Keyed) × (later : List Act) × Serves shown key header at commands told session
    × Hands url session.jar arrival later × (made ≡ Asks url at ∷ later)
    × (read ≡ (Header header ∷ []) ∷ map (λ act. []) later)
IsMade shown key (Answers url lines at) told made read = (made ≡ Answers url lines at ∷ []) × (read ≡ told ∷ [])
IsMade shown key (Asks url at) told made read = (made ≡ Asks url at ∷ []) × (read ≡ told ∷ [])
IsMade shown key (Restarts at) told made read = (made ≡ Restarts at ∷ []) × (read ≡ told ∷ [])

-- so are all of them, in their order
abbrev pub AreMade : Bool → List ℕ → List Act → List (List Reading) → List Act → List (List Reading) → Type 0
AreMade shown key [] told made read = (told ≡ []) × (made ≡ []) × (read ≡ [])
AreMade shown key (act ∷ acts) [] made read = ⊥
AreMade shown key (act ∷ acts) (told ∷ later) made read =
    (first : List Act) × (rest : List Act) × (first_read : List (List Reading)) × (rest_read : List (List Reading))
    × IsMade shown key act told first first_read × AreMade shown key acts later rest rest_read × (made ≡ first ++ rest)
    × (read ≡ first_read ++ rest_read)

-- ---- the law

-- THE SHARDS ARE THE CLIENT, with sessions too: a play's exchanges made so leave the rows that it leaves, and of that
-- the clients of the shards are cut, which are handed the same lines
abbrev pub ShardsServeSessions : Type 0
ShardsServeSessions =
    (shown : Bool) (list : List Rule) (key : List ℕ) (acts : List Act) (told : List (List Reading)) (rows : List Row)
    → Plays shown list key [] acts told rows → Each AnswersByName acts
    → (made : List Act) × (read : List (List Reading)) × AreMade shown key acts told made read
    × Plays false list key [] made read rows × ((shard : List ℕ) → IsCut list key made rows shard)

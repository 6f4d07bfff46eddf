-- What holds of the lines of an answer and the rows of a client.
use Rattle.std.specs.Prelude.{◌≡◌, ◌≤ℤ◌, pos, ℕ, ℤ, List, Some, ⊤}
use Rattle.cookie_text.specs.Printing.{encoded}
use Rattle.cookie_text.specs.Record.{Record}
use Rattle.publicsuffix.specs.Rules.{Rule}
use Rattle.url.specs.Parts.{Parts}
use Rattle.cookie_store.specs.Confined.{IsConfined}
use Rattle.cookie_store.specs.Rows.{Row}
use Rattle.store_parts.specs.Schemes.{host_of}
use Rattle.cookie_client.specs.Hosts.{secure_host}
use Rattle.cookie_client.specs.Accept.{Accepts, Takes}
use Rattle.cookie_client.specs.declared.outcome.LineEnd.{LineEnd}
use Rattle.cookie_client.specs.declared.outcome.LineEnd.TheVariants.{Stored, Refused, NotText, HostPrefix}
use Rattle.cookie_client.specs.Jar.{IsSent}
use Rattle.cookie_client.specs.Sent.{IsRowFor, IsTaken}

-- an answer touches the rows that its host may, and no other
abbrev pub AnswersAreConfined : Type 0
AnswersAreConfined =
    (list : List Rule) (rows : List Row) (url : Parts) (now : ℤ) (lines : List (List ℕ)) (new : List Row)
    → Takes list rows url now lines new → IsConfined list (host_of url) rows new

-- the line of a session's cookie is taken as its row
abbrev pub SentLinesAreTaken : Type 0
SentLinesAreTaken =
    (list : List Rule) (host : List ℕ) (url : Parts) (now : ℤ) (c : Record) (rows : List Row) (end : LineEnd)
    (new : List Row) → IsSent c → secure_host url ≡ Some host → pos 0 ≤ℤ now
    → Accepts list rows url now (encoded c) end new
    → (row : Row) × IsRowFor host c now row × IsTaken rows now row end new

-- a line that isn't stored changes nothing
abbrev pub IsStored : LineEnd → Type 0
IsStored (Stored action) = ⊤
IsStored (Refused cause) = ⊥
IsStored NotText = ⊥
IsStored HostPrefix = ⊥

abbrev pub RefusedLinesChangeNothing : Type 0
RefusedLinesChangeNothing =
    (list : List Rule) (rows : List Row) (url : Parts) (now : ℤ) (line : List ℕ) (end : LineEnd) (new : List Row)
    → Accepts list rows url now line end new → ¬ (IsStored end) → new ≡ rows

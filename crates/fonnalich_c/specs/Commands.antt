-- The commands of a site's exchange, a line each, with a single key or on a ring of keys (own: docs/DEFINITIONS.md).
use Rattle.std.specs.Prelude.{ℕ, ◌≡◌, ◌≢◌, ◌⊎◌, ◌==◌, List, [], ◌∷◌, Option, Some, None, Ok, Err, ⊤, if◌then◌else◌}
use Rattle.std.specs.Prelude.{Bool, true, false}
use Rattle.std.specs.Str.{IsUtf8, bytes_eq}
use Rattle.jiff.specs.Types.{DateTime}
use Rattle.percent_encoding.specs.Percent.{percent_decode}
use Rattle.store_parts.specs.PathMatch.{slash}
use Rattle.cookie_text.specs.Decoding.{ReadsEncoded}
use Rattle.cookie_text.specs.Record.{Seen, domain_of, moment_of, unsliced}
use Rattle.cookie_text.specs.declared.error.ParseError.{ParseError}
use Rattle.cookie_text.specs.declared.error.ParseError.TheVariants.{OutOfMemory}
use Rattle.cookie_client.specs.declared.command.Command.{Command}
use Rattle.cookie_client.specs.declared.command.Command.TheVariants as commands
use Rattle.cookie_client.specs.declared.ending.EndingWay.{EndingWay}
use Rattle.cookie_client.specs.declared.ending.EndingWay.TheVariants as ends
use Rattle.cookie_client.specs.declared.way.Way.{Way}
use Rattle.cookie_client.specs.declared.way.Way.TheVariants as ways
use Rattle.fonnalich_c.specs.declared.command.RingCommand.{RingCommand}
use Rattle.fonnalich_c.specs.declared.command.RingCommand.TheVariants.{Kept, SetUntil, GetUntil}
use Rattle.fonnalich_c.specs.declared.command.Verb.{Verb}
use Rattle.fonnalich_c.specs.declared.command.Verb.TheVariants.{Set, Remove, Get}

-- `S`, `R` and `G`
abbrev pub verb_of : ℕ → Option Verb
verb_of letter =
    if letter == 83 then Some Set
    else if letter == 82 then Some Remove
    else if letter == 71 then Some Get
    else None

-- `0` to `4`
abbrev pub way_of : ℕ → Option Way
way_of digit =
    if digit == 48 then Some ways.Plain
    else if digit == 49 then Some ways.Host
    else if digit == 50 then Some ways.Secure
    else if digit == 51 then Some ways.Signed
    else if digit == 52 then Some ways.Sealed
    else None

-- the name that a text stands for, percent-decoded (RFC 3986, section 2.1)
abbrev pub IsNamed : List ℕ → List ℕ → Type 0
IsNamed text name = (name ≡ percent_decode text) × IsUtf8 (percent_decode text)

abbrev pub IsNoName : List ℕ → Type 0
IsNoName text = ¬ IsUtf8 (percent_decode text)

-- by a Domain and a Path: the cookie goes to its host alone, under each path, as a session's does
abbrev pub is_of_host : Option (List ℕ) → Option (List ℕ) → Bool
is_of_host None None = true
is_of_host None (Some path) = bytes_eq path (slash ∷ [])
is_of_host (Some domain) path = false

-- a `Set-Cookie` line (RFC 6265, section 5.2) reads as this, its name and value percent-decoded
abbrev pub ReadsAsCookie : List ℕ → Seen → Type 0
ReadsAsCookie text read = IsUtf8 text × ReadsEncoded text (Ok read)

-- the cookie of a line, where it is of its host
unfoldable pub IsCookieOf : List ℕ → Seen → Type 0
IsCookieOf text cookie =
    (read : Seen) × ReadsAsCookie text read × (is_of_host (domain_of read.cookie) read.cookie.path ≡ true)
    × (cookie ≡ unsliced read.cookie)

unfoldable pub IsNoCookie : List ℕ → Type 0
IsNoCookie text =
    (¬ IsUtf8 text)
    ⊎ (((error : ParseError) × (error ≢ OutOfMemory) × ReadsEncoded text (Err error))
    ⊎ ((read : Seen) × ReadsAsCookie text read × (is_of_host (domain_of read.cookie) read.cookie.path ≡ false)))

-- what a verb, a way and a text ask for, where the first two are there
abbrev pub Asks : Option Verb → Option Way → List ℕ → Command → Type 0
Asks None way text command = ⊥
Asks (Some verb) None text command = ⊥
Asks (Some Set) (Some way) text command =
    (cookie : Seen) × IsCookieOf text cookie × (command ≡ commands.Set way cookie)
Asks (Some Remove) (Some way) text command =
    (name : List ℕ) × IsNamed text name × (command ≡ commands.Remove way name)
Asks (Some Get) (Some way) text command =
    (name : List ℕ) × IsNamed text name × (command ≡ commands.Get way name)

abbrev pub AskNothing : Option Verb → Option Way → List ℕ → Type 0
AskNothing None way text = ⊤
AskNothing (Some verb) None text = ⊤
AskNothing (Some Set) (Some way) text = IsNoCookie text
AskNothing (Some Remove) (Some way) text = IsNoName text
AskNothing (Some Get) (Some way) text = IsNoName text

-- a line is a letter, a digit and a text: `S4cart=3; HttpOnly`
abbrev pub IsCommand : List ℕ → Command → Type 0
IsCommand [] command = ⊥
IsCommand (verb ∷ []) command = ⊥
IsCommand (verb ∷ way ∷ text) command = Asks (verb_of verb) (way_of way) text command

abbrev pub IsNoCommand : List ℕ → Type 0
IsNoCommand [] = ⊤
IsNoCommand (verb ∷ []) = ⊤
IsNoCommand (verb ∷ way ∷ text) = AskNothing (verb_of verb) (way_of way) text

-- ---- on a ring of keys

-- `5` and `6`
abbrev pub ending_way_of : ℕ → Option EndingWay
ending_way_of digit =
    if digit == 53 then Some ends.Signed
    else if digit == 54 then Some ends.Sealed
    else None

-- the way in which the cookie of a value that ends is removed
abbrev pub kept_way : EndingWay → Way
kept_way ends.Signed = ways.Signed
kept_way ends.Sealed = ways.Sealed

-- the value ends when the cookie expires
abbrev pub SetsToExpiry : EndingWay → Seen → RingCommand → Type 0
SetsToExpiry way cookie command =
    (until : DateTime) × (moment_of cookie.cookie.expires ≡ Some until) × (command ≡ SetUntil way cookie until)

abbrev pub HasNoExpiry : Seen → Type 0
HasNoExpiry cookie = moment_of cookie.cookie.expires ≡ None

-- what a verb, where it is one, and a text ask for of a value that ends
abbrev pub AsksEnding : Option Verb → EndingWay → List ℕ → RingCommand → Type 0
AsksEnding None way text command = ⊥
AsksEnding (Some Set) way text command = (cookie : Seen) × IsCookieOf text cookie × SetsToExpiry way cookie command
AsksEnding (Some Remove) way text command =
    (name : List ℕ) × IsNamed text name × (command ≡ Kept (commands.Remove (kept_way way) name))
AsksEnding (Some Get) way text command = (name : List ℕ) × IsNamed text name × (command ≡ GetUntil way name)

abbrev pub AsksNoEnding : Option Verb → List ℕ → Type 0
AsksNoEnding None text = ⊤
AsksNoEnding (Some Set) text = IsNoCookie text ⊎ ((cookie : Seen) × IsCookieOf text cookie × HasNoExpiry cookie)
AsksNoEnding (Some Remove) text = IsNoName text
AsksNoEnding (Some Get) text = IsNoName text

-- a line by the way of values that end which its digit says, and where it says none a line as for a single key
abbrev pub AsksBy : Option EndingWay → ℕ → ℕ → List ℕ → RingCommand → Type 0
AsksBy None verb digit text command =
    (kept : Command) × IsCommand (verb ∷ digit ∷ text) kept × (command ≡ Kept kept)
AsksBy (Some way) verb digit text command = AsksEnding (verb_of verb) way text command

abbrev pub AsksNothingBy : Option EndingWay → ℕ → ℕ → List ℕ → Type 0
AsksNothingBy None verb digit text = IsNoCommand (verb ∷ digit ∷ text)
AsksNothingBy (Some way) verb digit text = AsksNoEnding (verb_of verb) text

-- a line is a letter, a digit and a text: `S6user=7; Expires=Sat, 28 Nov 2026 12:00:00 GMT`
abbrev pub IsRingCommand : List ℕ → RingCommand → Type 0
IsRingCommand [] command = ⊥
IsRingCommand (verb ∷ []) command = ⊥
IsRingCommand (verb ∷ digit ∷ text) command = AsksBy (ending_way_of digit) verb digit text command

abbrev pub IsNoRingCommand : List ℕ → Type 0
IsNoRingCommand [] = ⊤
IsNoRingCommand (verb ∷ []) = ⊤
IsNoRingCommand (verb ∷ digit ∷ text) = AsksNothingBy (ending_way_of digit) verb digit text

-- ---- on a ring or with a single key

abbrev pub IsCommandBy : Bool → List ℕ → RingCommand → Type 0
IsCommandBy false line command = (kept : Command) × IsCommand line kept × (command ≡ Kept kept)
IsCommandBy true line command = IsRingCommand line command

abbrev pub IsNoCommandBy : Bool → List ℕ → Type 0
IsNoCommandBy false line = IsNoCommand line
IsNoCommandBy true line = IsNoRingCommand line

-- A script: its lines up to the first faulty one as steps of a play, what is printed for them, and what they leave
-- (own: docs/DEFINITIONS.md).
use Rattle.std.specs.Prelude.{ℕ, zero, suc, ℤ, ◌+◌, List, [], ◌∷◌, ◌++◌, length, Bool, ◌||◌, ◌==◌, nat_lt, codes}
use Rattle.std.specs.Prelude.{decimal, Option, Some, None, Result, Ok, Err, ◌≡◌, ◌⊎◌, ⊤, true, false, if◌then◌else◌}
use Rattle.std.specs.List.{flat_map, AllByRecursion}
use Rattle.std.specs.Str.{bytes_eq}
use Rattle.std.specs.Str.Lines.{lines}
use Rattle.std.specs.Ordering.{int_cmp, is_lt}
use Rattle.percent_encoding.specs.Percent.{percent_encode_byte}
use Rattle.url.specs.Parts.{Parts}
use Rattle.jiff.specs.Types.{DateTime}
use Rattle.jiff.specs.Words.{civil_nanos}
use Rattle.cookie_text.specs.Record.{Record, Seen}
use Rattle.cookie_text.specs.declared.expiration.Expiration.TheVariants.{DateTime as At}
use Rattle.cookie.specs.ByName.{Lists}
use Rattle.cookie.specs.Jar.{delta, under_names}
use Rattle.cookie.specs.KeyRing.{Ring, kept, rotated}
use Rattle.publicsuffix.specs.Rules.{Rule}
use Rattle.cookie_store.specs.Rows.{Row}
use Rattle.cookie_client.specs.Accept.{IsStopped}
use Rattle.cookie_client.specs.Header.{IsHeader}
use Rattle.cookie_client.specs.Jar.{lines_of}
use Rattle.cookie_client.specs.Ways.{set_refusal}
use Rattle.cookie_client.specs.Steps.{Arrives, Never}
use Rattle.cookie_run.specs.RingPlay as steps
use Rattle.cookie_run.specs.RingPlay.{RingAct, RingCommand, RingPlays, RingReading, RingTells, all_read}
use Rattle.cookie_run.specs.RingPlay.{Visits, Answers, Asks, Set, SetUntil, Remove, Get, GetUntil}
use Rattle.cookie_run.specs.RingPlay.{Read, ReadUntil, Refused, Header}
use Rattle.cookie_client.specs.RingSession.{IsOpenedOn, Ringed, until_refusal}
use Rattle.cookie_run.specs.ScriptLine.{Line, Opens, Commands, Delivers, Loses, Receives, Heads, Restarts, Rotates}
use Rattle.cookie_run.specs.ScriptLine.{read_line}
use Rattle.cookie_client.specs.declared.ending.EndingWay.{EndingWay}
use Rattle.cookie_client.specs.declared.ending.EndingWay.TheVariants as ends
use Rattle.cookie_client.specs.declared.way.Way.{Way}
use Rattle.cookie_client.specs.declared.way.Way.TheVariants.{Plain, Host, Secure, Signed, Sealed}
use Rattle.cookie_client.specs.declared.outcome.SessionError.{SessionError}
use Rattle.cookie_client.specs.declared.outcome.SessionError.TheVariants as refusals
use Rattle.cookie_run.specs.declared.script.ended.Ended.{Ended}
use Rattle.cookie_run.specs.declared.script.ended.Ended.TheVariants.{Whole, Faulty}
use Rattle.cookie_run.specs.declared.script.ended.RunError.{RunError}
use Rattle.cookie_run.specs.declared.script.cause.Cause.{Cause}
use Rattle.cookie_run.specs.declared.script.cause.Cause.TheVariants.{Word, Text, Fields, Url, Moment, Back, NoSession}
use Rattle.cookie_run.specs.declared.script.cause.Cause.TheVariants.{Open, EmptyName, Year, TooLong, Rng, Memory}
use Rattle.cookie_run.specs.declared.script.cause.Cause.TheVariants.{Keys, Restart}

-- ---- where a script is after some of its lines

-- the session that is open, with the commands that it was given
pub data Now : Type 0 where
  Closed : Now
  Within : (url : Parts) (at : DateTime) (commands : List RingCommand) → Now

-- the steps that have ended, the ring that they left, the session that is open, and the last moment
pub record Reached : Type 0 where
  pub acts : List RingAct
  pub ring : Ring
  pub now : Now
  pub last : ℤ

abbrev pub begun : Ring → ℤ → Reached
begun ring last = record { acts = []; ring = ring; now = Closed; last = last }

-- the cookie with the moment as its expiry, and no Max-Age
abbrev pub ending_at : Record → DateTime → Record
ending_at c until = record c { max_age = None; expires = Some (At until) }

-- Why a command is refused, but for a generator that fails. A removal ends a year before its moment, which is of 1971
-- or later, so it is never refused for its year.
abbrev pub command_refusal : RingCommand → Option SessionError
command_refusal (Set way cookie) = set_refusal way cookie.cookie
command_refusal (SetUntil way cookie until) = until_refusal way (ending_at cookie.cookie until)
command_refusal (Remove way name) = if bytes_eq name [] then Some refusals.EmptyName else None
command_refusal (Get way name) = if bytes_eq name [] then Some refusals.EmptyName else None
command_refusal (GetUntil way name) = if bytes_eq name [] then Some refusals.EmptyName else None

abbrev pub cause_of : SessionError → Cause
cause_of refusals.EmptyName = EmptyName
cause_of refusals.Year = Year
cause_of refusals.TooLong = TooLong
cause_of refusals.Rng = Rng
cause_of refusals.OutOfMemory = Memory

abbrev pub unless_refused : Option SessionError → Reached → Result Reached Cause
unless_refused (Some error) next = Err (cause_of error)
unless_refused None next = Ok next

-- the most earlier keys that a ring has
abbrev pub most_earlier : ℕ
most_earlier = 16

abbrev pub unless_many : Bool → Reached → Result Reached Cause
unless_many true next = Err Keys
unless_many false next = Ok next

-- A line whose moment isn't before an earlier one. A command is refused for its name, its expiry or its lengths, and a
-- rotation where over 16 earlier keys would be left.
abbrev pub obeyed : List RingAct → Ring → ℤ → Now → Line → Result Reached Cause
obeyed acts ring last Closed (Opens url at) = Ok (record {
  acts = acts;
  ring = ring;
  now = Within url at [];
  last = civil_nanos at;
})
obeyed acts ring last (Within u m cs) (Opens url at) = Err Open
obeyed acts ring last Closed (Commands command) = Err NoSession
obeyed acts ring last (Within url at cs) (Commands command) =
    unless_refused (command_refusal command) (record {
      acts = acts;
      ring = ring;
      now = Within url at (cs ++ command ∷ []);
      last = last;
    })
obeyed acts ring last Closed (Delivers at) = Err NoSession
obeyed acts ring last (Within url start cs) (Delivers at) = Ok (record {
  acts = acts ++ Visits url start cs (Arrives at) ∷ [];
  ring = ring;
  now = Closed;
  last = at;
})
obeyed acts ring last Closed Loses = Err NoSession
obeyed acts ring last (Within url start cs) Loses = Ok (record {
  acts = acts ++ Visits url start cs Never ∷ [];
  ring = ring;
  now = Closed;
  last = last;
})
obeyed acts ring last Closed (Receives url lines at) = Ok (record {
  acts = acts ++ Answers url lines at ∷ [];
  ring = ring;
  now = Closed;
  last = at;
})
obeyed acts ring last (Within u m cs) (Receives url lines at) = Err Open
obeyed acts ring last Closed (Heads url at) = Ok (record {
  acts = acts ++ Asks url at ∷ [];
  ring = ring;
  now = Closed;
  last = at;
})
obeyed acts ring last (Within u m cs) (Heads url at) = Err Open
obeyed acts ring last Closed (Restarts at) = Ok (record {
  acts = acts ++ steps.Restarts at ∷ [];
  ring = ring;
  now = Closed;
  last = at;
})
obeyed acts ring last (Within u m cs) (Restarts at) = Err Open
obeyed acts ring last Closed (Rotates key at keep_until) =
    unless_many (nat_lt most_earlier (length (kept at keep_until ring))) (record {
      acts = acts ++ steps.Rotates key at keep_until ∷ [];
      ring = rotated key at keep_until ring;
      now = Closed;
      last = civil_nanos at;
    })
obeyed acts ring last (Within u m cs) (Rotates key at keep_until) = Err Open

abbrev pub is_before : ℤ → ℤ → Bool
is_before at last = is_lt (int_cmp at last)

-- the moment of the line, where it has one, is before the last
abbrev pub goes_back : ℤ → Line → Bool
goes_back last (Opens url at) = is_before (civil_nanos at) last
goes_back last (Commands command) = false
goes_back last (Delivers at) = is_before at last
goes_back last Loses = false
goes_back last (Receives url lines at) = is_before at last
goes_back last (Heads url at) = is_before at last
goes_back last (Restarts at) = is_before at last
goes_back last (Rotates key at keep_until) = is_before (civil_nanos at) last

abbrev pub done : Reached → Result Line Cause → Result Reached Cause
done r (Err cause) = Err cause
done r (Ok line) = if goes_back r.last line then Err Back else obeyed r.acts r.ring r.last r.now line

-- where one more line leads, or its fault; an empty line is passed over
abbrev pub after_line : Reached → List ℕ → Result Reached Cause
after_line r line = if bytes_eq line [] then Ok r else done r (read_line line)

-- each of the lines is done in turn, without a fault
abbrev pub LeadsTo : Reached → List (List ℕ) → Reached → Type 0
LeadsTo r [] end = end ≡ r
LeadsTo r (line ∷ later) end = (mid : Reached) × (after_line r line ≡ Ok mid) × LeadsTo mid later end

-- a set that is sealed, until a moment or not
abbrev pub IsSealedSet : RingCommand → Type 0
IsSealedSet (Set way cookie) = way ≡ Sealed
IsSealedSet (SetUntil way cookie until) = way ≡ ends.Sealed
IsSealedSet (Remove way name) = ⊥
IsSealedSet (Get way name) = ⊥
IsSealedSet (GetUntil way name) = ⊥

-- a line that is done so was such a set
abbrev pub AddsSealed : Reached → Reached → Type 0
AddsSealed r next = (url : Parts) × (at : DateTime) × (cs : List RingCommand) × (command : RingCommand)
    × IsSealedSet command × (r.now ≡ Within url at cs) × (next.now ≡ Within url at (cs ++ command ∷ []))

-- a line has a fault: its own, or that the generator, whose error type is this one, failed at a set that has to be
-- sealed and that nothing else stands against
abbrev pub HasFault : Type 0 → Reached → Result Reached Cause → Cause → Type 0
HasFault Error r led cause = (led ≡ Err cause) ⊎ ((cause ≡ Rng) × Error
    × ((next : Reached) × (led ≡ Ok next) × AddsSealed r next))

-- ---- what is printed

-- every byte that isn't graphic ASCII, and `%`
abbrev pub is_shown_escaped : ℕ → Bool
is_shown_escaped b = nat_lt b 33 || nat_lt 126 b || b == 37

-- the text with each such byte as `%` and two upper-case digits
abbrev pub shown_escaped : List ℕ → List ℕ
shown_escaped text = flat_map (λ b. if is_shown_escaped b then percent_encode_byte b else b ∷ []) text

-- a further field with the place of the key in the ring, where that isn't 0
abbrev pub shown_place : ℕ → List ℕ
shown_place zero = []
shown_place (suc n) = 9 ∷ decimal (suc n)

abbrev pub shown_read : Option (List ℕ × ℕ) → List ℕ
shown_read None = codes "-"
shown_read (Some read) = codes "=" ++ shown_escaped read.0 ++ shown_place read.1

abbrev pub way_text : Way → List ℕ
way_text Plain = codes "plain"
way_text Host = codes "host"
way_text Secure = codes "secure"
way_text Signed = codes "signed"
way_text Sealed = codes "sealed"

abbrev pub ending_way_text : EndingWay → List ℕ
ending_way_text ends.Signed = codes "signed-until"
ending_way_text ends.Sealed = codes "sealed-until"

-- no command of a script is refused: that would be a fault
abbrev pub IsAnswered : RingReading → Type 0
IsAnswered (Read way name read) = ⊤
IsAnswered (ReadUntil way name read) = ⊤
IsAnswered (Refused error) = ⊥
IsAnswered (Header header) = ⊤

-- the line of a value that was read, its fields parted by tabs
abbrev pub read_text : List ℕ → List ℕ → Option (List ℕ × ℕ) → List ℕ
read_text word name read = word ++ 9 ∷ shown_escaped name ++ 9 ∷ shown_read read ++ 10 ∷ []

-- the line of a reading
abbrev pub reading_text : RingReading → List ℕ
reading_text (Read way name read) = read_text (way_text way) name read
reading_text (ReadUntil way name read) = read_text (ending_way_text way) name read
reading_text (Refused error) = []
reading_text (Header header) = codes "header" ++ 9 ∷ shown_escaped header ++ 10 ∷ []

abbrev pub readings_text : List RingReading → List ℕ
readings_text readings = flat_map reading_text readings

abbrev pub cause_text : Cause → List ℕ
cause_text Word = codes "Word"
cause_text Text = codes "Text"
cause_text Fields = codes "Fields"
cause_text Url = codes "Url"
cause_text Moment = codes "Moment"
cause_text Back = codes "Back"
cause_text NoSession = codes "NoSession"
cause_text Open = codes "Open"
cause_text EmptyName = codes "EmptyName"
cause_text Year = codes "Year"
cause_text TooLong = codes "TooLong"
cause_text Rng = codes "Rng"
cause_text Keys = codes "Keys"
cause_text Restart = codes "Restart"
cause_text Memory = codes "Memory"

-- `line N: Name`
abbrev pub fault_text : ℕ → Cause → List ℕ
fault_text n cause = codes "line " ++ decimal n ++ codes ": " ++ cause_text cause ++ 10 ∷ []

-- ---- a whole script

-- a session that is open in the end is an exchange whose answer never comes
abbrev pub left_open : Now → List RingAct
left_open Closed = []
left_open (Within url at commands) = Visits url at commands Never ∷ []

abbrev pub all_acts : Reached → List RingAct
all_acts r = r.acts ++ left_open r.now

-- the steps, played on these rows with this list of public suffixes, and begun on this ring, print this and leave those
-- rows
abbrev pub Prints : List Rule → Ring → List Row → Reached → List ℕ → List Row → Type 0
Prints list ring rows r output new = (told : List (List RingReading))
    × RingPlays false list ring rows (all_acts r) told r.ring new × AllByRecursion IsAnswered (all_read told)
    × (output ≡ readings_text (all_read told))

-- where line n stands in a text, counted from 1
pub record IsLine (all : List (List ℕ)) (n : ℕ) (before : List (List ℕ)) (line : List ℕ) : Type 0 where
  pub after : List (List ℕ)
  pub whole : all ≡ before ++ line ∷ after
  pub number : n ≡ length before + 1

-- each line is done
pub record IsWhole (list : List Rule) (ring : Ring) (rows : List Row) (last : ℤ) (all : List (List ℕ))
    (output : List ℕ) (new : List Row) (end : ℤ) : Type 0 where
  pub r : Reached
  pub leads : LeadsTo (begun ring last) all r
  pub prints : Prints list ring rows r output new
  pub moment : end ≡ r.last

-- the lines before line n are done, and line n is the first faulty one
pub record IsFaulty (Error : Type 0) (list : List Rule) (ring : Ring) (rows : List Row) (last : ℤ)
    (all : List (List ℕ)) (output : List ℕ) (new : List Row) (end : ℤ) (n : ℕ) : Type 0 where
  pub r : Reached
  pub before : List (List ℕ)
  pub line : List ℕ
  pub cause : Cause
  pub readings : List ℕ
  pub place : IsLine all n before line
  pub leads : LeadsTo (begun ring last) before r
  pub fault : HasFault Error r (after_line r line) cause
  pub prints : Prints list ring rows r readings new
  pub text : output ≡ readings ++ fault_text n cause
  pub moment : end ≡ r.last

-- From this ring, these rows and this last moment a script prints this, leaves those rows and that moment, and ends so.
abbrev pub ScriptText : Type 0 → List Rule → Ring → List Row → ℤ → List ℕ → List ℕ → List Row → ℤ → Ended → Type 0
ScriptText Error list ring rows last input output new end Whole =
    IsWhole list ring rows last (lines input) output new end
ScriptText Error list ring rows last input output new end (Faulty n) =
    IsFaulty Error list ring rows last (lines input) output new end n

-- ---- where memory is refused in a line

-- an answer's lines are taken up to one at which memory is refused
abbrev pub TakesFront : List Rule → List Row → Parts → ℤ → List (List ℕ) → List Row → Type 0
TakesFront list rows url at answer new = (n : ℕ) × IsStopped list rows url at answer n new

-- the step reads so, and its answer is taken up to a line, whatever the nonces and the order of a session's lines
abbrev pub HalfStep : List Rule → Ring → List Row → RingAct → List RingReading → List Row → Type 0
HalfStep list ring rows (Visits url at commands (Arrives moment)) told new =
    (header : List ℕ) × IsHeader rows url (civil_nanos at) header
    × ((opened : Ringed) × IsOpenedOn ring at header opened × ((session : Ringed)
    × RingTells opened commands told session
    × ((cookies : List Seen) × Lists (under_names cookies) (delta session.jar)
    × TakesFront list rows url moment (lines_of cookies) new)))
HalfStep list ring rows (Visits url at commands Never) told new = ⊥
HalfStep list ring rows (Answers url answer at) told new = (told ≡ []) × TakesFront list rows url at answer new
HalfStep list ring rows (Asks url at) told new = ⊥
HalfStep list ring rows (steps.Restarts at) told new = ⊥
HalfStep list ring rows (steps.Rotates key at keep_until) told new = ⊥

-- the steps, which leave the first ring turned so, and behind them one whose answer is taken up to a line, print this
-- and leave those rows
abbrev pub PrintsHalf : List Rule → Ring → List Row → List RingAct → Ring → RingAct → List ℕ → List Row → Type 0
PrintsHalf list ring rows acts turned act output new =
    (told : List (List RingReading)) × (mid : List Row) × (more : List RingReading)
    × RingPlays false list ring rows acts told turned mid × HalfStep list turned mid act more new
    × AllByRecursion IsAnswered (all_read told ++ more) × (output ≡ readings_text (all_read told ++ more))

-- a line that isn't done: the lines before it print this and leave those rows, or the step that it ends is half taken,
-- and is the one that was printed
abbrev pub PrintsUntil : List Rule → Ring → List Row → Reached → Result Reached Cause → List ℕ → List Row → Type 0
PrintsUntil list ring rows r led output new = Prints list ring rows r output new
    ⊎ ((next : Reached) × (act : RingAct) × (led ≡ Ok next) × (next.acts ≡ r.acts ++ act ∷ [])
    × PrintsHalf list ring rows r.acts r.ring act output new)

-- The lines before line n are done and print what they print alone; then comes the fault. An empty line takes no
-- memory; reading the script does, which counts as line 1.
pub record MemoryText (list : List Rule) (ring : Ring) (rows : List Row) (last : ℤ) (input : List ℕ)
    (output : List ℕ) (new : List Row) (end : ℤ) (n : ℕ) : Type 0 where
  pub r : Reached
  pub before : List (List ℕ)
  pub line : List ℕ
  pub readings : List ℕ
  pub place : IsLine (lines input) n before line
  pub asks : line ≡ [] → n ≡ 1
  pub leads : LeadsTo (begun ring last) before r
  pub prints : PrintsUntil list ring rows r (after_line r line) readings new
  pub text : output ≡ readings ++ fault_text n Memory
  pub moment : end ≡ r.last

abbrev pub EndsForMemory : List Rule → Ring → List Row → ℤ → List ℕ → List ℕ → List Row → ℤ → Ended → Type 0
EndsForMemory list ring rows last input output new end Whole = ⊥
EndsForMemory list ring rows last input output new end (Faulty n) =
    MemoryText list ring rows last input output new end n

-- what a run of the script prints and leaves, and how it ends, by a generator with this error type
abbrev pub Runs : Type 0 → List Rule → Ring → List Row → ℤ → List ℕ → List ℕ → List Row → ℤ → Ended → Type 0
Runs Error list ring rows last input output new end ended =
    ScriptText Error list ring rows last input output new end ended
    ⊎ EndsForMemory list ring rows last input output new end ended

-- ---- what is left, however a run ends

-- these lines were done, and those weren't: all of them, or those before line n, or any
abbrev pub IsDoneUpTo : Result Ended RunError → List (List ℕ) → List (List ℕ) → Type 0
IsDoneUpTo (Ok Whole) before after = after ≡ []
IsDoneUpTo (Ok (Faulty n)) before after = n ≡ length before + 1
IsDoneUpTo (Err error) before after = ⊤

-- the lines that are done leave those rows; or memory was refused in the next one, and its answer was taken up to a
-- line
abbrev pub LeavesRows : List Rule → Ring → List Row → Reached → List (List ℕ) → List Row → Type 0
LeavesRows list ring rows r [] new = (output : List ℕ) × Prints list ring rows r output new
LeavesRows list ring rows r (line ∷ later) new =
    (output : List ℕ) × PrintsUntil list ring rows r (after_line r line) output new

-- The first of the lines of what was read, each done once, leave those rows and that last moment, whether or not what
-- they print was written.
pub record LeavesFront (list : List Rule) (ring : Ring) (rows : List Row) (last : ℤ) (input : List ℕ)
    (new : List Row) (end : ℤ) (result : Result Ended RunError) : Type 0 where
  pub r : Reached
  pub before : List (List ℕ)
  pub after : List (List ℕ)
  pub cut : lines input ≡ before ++ after
  pub leads : LeadsTo (begun ring last) before r
  pub leaves : LeavesRows list ring rows r after new
  pub moment : end ≡ r.last
  pub done_up_to : IsDoneUpTo result before after

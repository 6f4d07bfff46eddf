-- What the code reads of a line, beside the definition: for private contracts alone (own: docs/DEFINITIONS.md).
use Rattle.std.specs.Prelude.{map, Result, Ok, Err, ◌≡◌, ◌⊎◌}
use Rattle.jiff.specs.Words.{civil_nanos}
use Rattle.cookie_run.specs.RingPlay as commands
use Rattle.cookie_run.specs.ScriptLine as spec
use Rattle.cookie_run.specs.declared.script.cause.Cause.{Cause}
use Rattle.cookie_run.specs.declared.script.cause.Cause.TheVariants.{Memory}
use Rattle.cookie_run.specs.declared.script.line.Line.{Line}
use Rattle.cookie_run.specs.declared.script.line.Line.TheVariants.{Open, Set, Remove, Get, Deliver, Lose, Receive}
use Rattle.cookie_run.specs.declared.script.line.Line.TheVariants.{Header, Restart, Rotate, SetUntil, GetUntil}

-- the line as a plain value
abbrev pub line_of : Line → spec.Line
line_of (Open url at) = spec.Opens url at.date
line_of (Set way cookie) = spec.Commands (commands.Set way cookie)
line_of (Remove way name) = spec.Commands (commands.Remove way name)
line_of (Get way name) = spec.Commands (commands.Get way name)
line_of (Deliver at) = spec.Delivers (civil_nanos at.date)
line_of Lose = spec.Loses
line_of (Receive url lines at) = spec.Receives url (map (λ line. line.items) lines.items) (civil_nanos at.date)
line_of (Header url at) = spec.Heads url (civil_nanos at.date)
line_of (Restart at) = spec.Restarts (civil_nanos at.date)
line_of (Rotate key at keep_until) = spec.Rotates key at.date keep_until
line_of (SetUntil way cookie until) = spec.Commands (commands.SetUntil way cookie until)
line_of (GetUntil way name) = spec.Commands (commands.GetUntil way name)

-- the line that its text gives, or that text's fault, or want of memory
abbrev pub ReadsLine : Result Line Cause → Result spec.Line Cause → Type 0
ReadsLine (Ok line) read = read ≡ Ok (line_of line)
ReadsLine (Err cause) read = (read ≡ Err cause) ⊎ (cause ≡ Memory)

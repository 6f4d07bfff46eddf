-- A script says of moments and removals what a play says of them.
use Rattle.std.specs.Prelude.{◌≡◌, ◌*◌, ◌≤ℤ◌, pos, ℕ, ℤ, List, true, false, Option, option_map}
use Rattle.std.specs.Option.{option_to_list}
use Rattle.jiff.specs.Types.{DateTime}
use Rattle.jiff.specs.Words.{civil_nanos}
use Rattle.cookie_client.specs.Jar.{IsRemovalRefusal}
use Rattle.cookie_run.specs.Moments.{IsMoment, IsWrong, Follows}
use Rattle.cookie_client.specs.Moment.{second_1971}
use Rattle.cookie_run.specs.Readings.{IsRemovalAnswer}
use Rattle.cookie_run.specs.RingPlay.{Remove}
use Rattle.cookie_run.specs.ScriptText.{command_refusal, is_before}
use Rattle.cookie_run.specs.declared.step.FaultKind.TheVariants.{Back}
use Rattle.cookie_client.specs.declared.command.Reading.{Reading}
use Rattle.cookie_client.specs.declared.command.Reading.TheVariants.{Refused}
use Rattle.cookie_client.specs.declared.outcome.SessionError.{SessionError}
use Rattle.cookie_client.specs.declared.way.Way.{Way}

-- a line whose moment is before the last has what a play calls `Back`, and else its moment follows
abbrev pub LinesGoBack : Type 0
LinesGoBack = (last at : ℤ) → IsMoment at
    → (is_before at last ≡ true → IsWrong Back last at) × (is_before at last ≡ false → Follows last at)

-- a session that was opened in 1971 or later refuses a removal as its line is refused
abbrev pub RemovalsAreRefused : Type 0
RemovalsAreRefused = (way : Way) (name : List ℕ) (now : DateTime) (refusal : Option SessionError)
    → pos (second_1971 * 1_000_000_000) ≤ℤ civil_nanos now → IsRemovalRefusal name now refusal
    → refusal ≡ command_refusal (Remove way name)

-- and that refusal is what a play reads
abbrev pub RemovalsRead : Type 0
RemovalsRead = (way : Way) (name : List ℕ) (told : List Reading) → IsRemovalAnswer name told
    → told ≡ option_to_list (option_map (λ error. Refused error) (command_refusal (Remove way name)))

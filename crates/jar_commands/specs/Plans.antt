-- What a command is given, read: the moment, the form of the jar's text, the rules, the jar's name, and the command
-- with its URLs (this repository's own).
use Rattle.std.specs.Prelude.{◌&&◌, ℕ, ℤ, Bool, false, not, List, Option, Some, None, codes, if◌then◌else◌}
use Rattle.std.specs.Str.{bytes_eq}
use Rattle.jiff.specs.Words.{civil_nanos}
use Rattle.url.specs.Parts.{Parts}
use Rattle.plain_url.specs.Plain.{is_own_text}
use Rattle.cookie_jar.specs.declared.form.Form.{Form}
use Rattle.cookie_client.specs.Hosts.{url_of}
use Rattle.user_agent.specs.declared.rules.Rules.{Rules}
use Rattle.jar_commands.specs.declared.plan.Command.{Command}
use Rattle.jar_commands.specs.declared.plan.Command.TheVariants as command
use Rattle.jar_commands.specs.declared.plan.Plan.{Plan}

-- a plan; the moment in nanoseconds since 1970
pub record PlanText : Type 0 where
  pub now : ℤ
  pub form : Form
  pub rules : Rules
  pub jar : List ℕ
  pub command : Command

abbrev pub plan_text : Plan → PlanText
plan_text plan = record {
  now = civil_nanos plan.at;
  form = plan.form;
  rules = plan.rules;
  jar = plan.jar.now;
  command = plan.command;
}

-- the URL of a text, where the text is its own
abbrev pub plain_at : List ℕ → Option Parts → Option Parts
plain_at text None = None
plain_at text (Some url) = if is_own_text text url then Some url else None

abbrev pub plain_of : List ℕ → Option Parts
plain_of text = plain_at text (url_of text)

-- a file of this name is the jar's own: `-` is the output's, and no file's
abbrev pub is_own : List ℕ → List ℕ → Bool
is_own file jar = bytes_eq file jar && not (bytes_eq file (codes "-"))

-- an export to the name of the jar
abbrev pub is_onto : Command → List ℕ → Bool
is_onto (command.Export file form reader) jar = is_own file.now jar
is_onto other jar = false

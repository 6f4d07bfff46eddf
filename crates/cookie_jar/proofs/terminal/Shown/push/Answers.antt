use Rattle.std.proofs.Common.{rules}
use Rattle.std.proofs.lemmas.Str.{IsUtf8-string_bytes}
use Rattle.cookie_jar.proofs.TerminalLemmas.{shows_if, shows_char}
use Rattle.cookie_jar.proofs.terminal.Shown.push.Goals as goal

pub invariant_of-self : goal.invariant_of-self
invariant_of-self c =
    shows_if _ _ _ _ c.push.ensures.bytes (IsUtf8-string_bytes c.self.inside.text) c.self.invariant
    (shows_char c.args.c c.ranges.c.0 (search rules))

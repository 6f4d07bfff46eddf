use Rattle.std.proofs.lemmas.Str.{IsUtf8-string_bytes}
use Rattle.cookie_jar.proofs.TerminalLemmas.{shows_if, shows_words}
use Rattle.cookie_jar.proofs.terminal.Shown.words.Goals as goal

pub invariant_of-self : goal.invariant_of-self
invariant_of-self c =
    shows_if _ _ _ _ c.push_str.ensures.bytes (IsUtf8-string_bytes c.self.inside.text) c.self.invariant
    (shows_words _ c.requires)

use denote.Shadow.{shadow}
use denote.Text.{Utf8}
use Rattle.jar_commands.proofs.about.without_user.Given as goal

abbrev pub invariant-loop-part : goal.invariant-loop-part
invariant-loop-part l = shadow (Utf8 l.last)

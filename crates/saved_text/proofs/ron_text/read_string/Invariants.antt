use denote.Shadow.{shadow}
use denote.Text.{Utf8}
use Rattle.std.proofs.Common.{length, string_bytes}
use Rattle.saved_text.specs.Grammar.{letters}
use Rattle.saved_text.specs.Ron.{string}
use Rattle.saved_text.proofs.RonLemmas.{Goes, inside}
use Rattle.saved_text.proofs.ron_text.read_string.Given as goal

abbrev pub invariant-loop-value : goal.invariant-loop-value
invariant-loop-value l = shadow (Utf8 l.rest) × Goes string l.fn.text (letters (string_bytes l.value)) inside l.rest

abbrev pub decreases-loop-value : goal.decreases-loop-value
decreases-loop-value l = length l.rest

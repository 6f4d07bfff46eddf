use denote.Shadow.{shadow}
use denote.Text.{Utf8}
use Rattle.std.proofs.Common.{length}
use Rattle.saved_text.specs.Drafts.{IsListed}
use Rattle.saved_text.specs.Grammar.Grammar.{seq}
use Rattle.saved_text.proofs.ListLemmas.{item, others}
use Rattle.saved_text.proofs.ron_list.read_list.Given as goal

abbrev pub invariant-loop-draft : goal.invariant-loop-draft
invariant-loop-draft l = shadow (Utf8 l.rest) × IsListed l.fn.text l.rows.items l.unread (seq item others) l.rest

abbrev pub decreases-loop-draft : goal.decreases-loop-draft
decreases-loop-draft l = length l.rest

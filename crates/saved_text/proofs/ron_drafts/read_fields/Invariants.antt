use denote.Shadow.{shadow}
use denote.Text.{Utf8}
use Rattle.std.proofs.Common.{length}
use Rattle.saved_text.specs.Drafts.{IsDrafted, IsLacking, left}
use Rattle.saved_text.specs.Ron.{fields}
use Rattle.saved_text.proofs.ron_drafts.read_fields.Given as goal

abbrev pub invariant-loop-next : goal.invariant-loop-next
invariant-loop-next l = shadow (Utf8 l.rest) ×
    (IsDrafted fields l.fn.text l.draft l.unread (left l.draft) l.rest × IsLacking l.draft)

abbrev pub decreases-loop-next : goal.decreases-loop-next
decreases-loop-next l = length l.rest

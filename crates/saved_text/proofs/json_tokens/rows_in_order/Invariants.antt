use Rattle.std.proofs.Common.{length}
use Rattle.saved_text.proofs.TokenLemmas.{Ordered}
use Rattle.saved_text.proofs.json_tokens.rows_in_order.Given as goal

abbrev pub invariant-loop-alloc : goal.invariant-loop-alloc
invariant-loop-alloc l = Ordered l.fn.text l.rows.items l.reader

abbrev pub decreases-loop-alloc : goal.decreases-loop-alloc
decreases-loop-alloc l = length l.reader

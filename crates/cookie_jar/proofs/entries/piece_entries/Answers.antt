use Rattle.std.proofs.Common.{◌+◌, ℕ, List, refl}
use Rattle.std.specs.Borrow.{Bor}
use Rattle.cookie_jar.specs.Entries.{GivesPiece}
use Rattle.cookie_jar.proofs.EntryLemmas.{next_entry}
use Rattle.cookie_jar.proofs.entries.piece_entries.Goals as goal

pub loop-index-preserved : goal.loop-index-preserved
loop-index-preserved c =
    next_entry GivesPiece (λ (item : Bor (List ℕ)). item.now) c.args.items.now c.loop-index.index _ _
    c.loop-index.entries.items c.push.new.self.items (record { number = c.loop-index.index + 1; row = c.in_ok-row.row })
    c.loop-index-test.true refl c.loop-index.invariant c.in_ok-row.ensures c.in_ok-push.ensures.items

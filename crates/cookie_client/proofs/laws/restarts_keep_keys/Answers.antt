use Rattle.cookie_client.proofs.RowsKept.{but_for_memory, keys_kept}
use Rattle.cookie_client.proofs.laws.restarts_keep_keys.Goals as goal

pub returns-clause-keys : goal.returns-clause-keys
returns-clause-keys c = λ rows saving loading kept own keeps.
    keys_kept c.pairs_read_again.ensures.again rows saving loading kept own keeps

pub returns-clause-memory : goal.returns-clause-memory
returns-clause-memory c = λ rows now e late fault. but_for_memory now rows e late fault

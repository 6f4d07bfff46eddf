-- What a contract sees of a file of the system that is kept: its lock (this repository's own).
use Rattle.kept_file.specs.Locks.{Lock, lock_of}
use Rattle.kept_file.specs.declared.locked.Locked.{Locked}

abbrev pub lock_in : {H : Type 0} → Locked H → Lock
lock_in k = lock_of k.lock

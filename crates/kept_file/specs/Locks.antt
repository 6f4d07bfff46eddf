-- How it stands with the lock of a kept file, and what was done under it (this repository's own).
use Rattle.std.specs.Prelude.{ℕ, List, Option, Some, None, option_map, string_bytes, ◌≡◌, ◌⊎◌}
use Rattle.kept_file.specs.declared.lock.Holding.{Holding as Record}
use Rattle.kept_file.specs.declared.lock.Lock.{Lock as Stage}
use Rattle.kept_file.specs.declared.lock.Lock.TheVariants as stage

-- What was done to a file under its lock: which file it is, what was read of it, its bytes or none where it isn't
-- there, and which text was to take its place.
pub record Holding : Type 0 where
  pub path : List ℕ
  pub seen : Option (Option (List ℕ))
  pub put : Option (List ℕ)

-- the lock wasn't taken; it is held; it was given back
pub data Lock : Type 0 where
  Free : Lock
  Held : Holding → Lock
  Given : Holding → Lock

-- it was taken, and nothing is read yet
abbrev pub taken : List ℕ → Lock
taken path = Held (record { path = path; seen = None; put = None })

-- the file was read, to these bytes
abbrev pub with_seen : Option (List ℕ) → Lock → Lock
with_seen bytes Free = Free
with_seen bytes (Held holding) = Held (record holding { seen = Some bytes })
with_seen bytes (Given holding) = Given holding

-- the text was to take the file's place
abbrev pub with_put : List ℕ → Lock → Lock
with_put text Free = Free
with_put text (Held holding) = Held (record holding { put = Some text })
with_put text (Given holding) = Given holding

-- the lock was given back
abbrev pub given_back : Lock → Lock
given_back Free = Free
given_back (Held holding) = Given holding
given_back (Given holding) = Given holding

-- the bytes that were read, or none
abbrev pub bytes_in : Option (Option (List ℕ)) → Option (List ℕ)
bytes_in None = None
bytes_in (Some bytes) = bytes

abbrev pub bytes_of : Lock → Option (List ℕ)
bytes_of Free = None
bytes_of (Held holding) = bytes_in holding.seen
bytes_of (Given holding) = bytes_in holding.seen

-- ---- behind a call

-- The lock of a file, given back: these bytes were read while it was held, and then this text was to take the file's
-- place, or none.
abbrev pub kept_so : List ℕ → Option (List ℕ) → Option (List ℕ) → Lock
kept_so path stored put = Given (record { path = path; seen = Some stored; put = put })

-- the file wasn't read, and nothing was to take its place: its lock wasn't taken, or is given back
abbrev pub IsUnread : Lock × Lock → Type 0
IsUnread lock =
    (lock.1 ≡ lock.0) ⊎ ((path : List ℕ) × (lock.1 ≡ Given (record { path = path; seen = None; put = None })))

-- ---- of the values that a device holds

abbrev pub holding_of : Record → Holding
holding_of r = record {
  path = string_bytes r.path;
  seen = option_map (λ bytes. option_map (λ all. all.items) bytes) r.seen;
  put = option_map (λ text. text.items) r.put;
}

abbrev pub lock_of : Stage → Lock
lock_of stage.Free = Free
lock_of (stage.Held holding) = Held (holding_of holding)
lock_of (stage.Given holding) = Given (holding_of holding)

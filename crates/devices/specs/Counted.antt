-- What a counting reader or writer holds (own: docs/DEFINITIONS.md).
use Rattle.std.specs.Prelude.{ℕ}
use Rattle.devices.specs.declared.device.Counting.{Counting}

abbrev pub inner_of : {T : Type 0} → Counting T → T
inner_of c = c.inner

abbrev pub failures_of : {T : Type 0} → Counting T → ℕ
failures_of c = c.failed

abbrev pub reads_of : {T : Type 0} → Counting T → ℕ
reads_of c = c.made

abbrev pub flushes_of : {T : Type 0} → Counting T → ℕ
flushes_of c = c.flushed

abbrev pub unflushed_of : {T : Type 0} → Counting T → ℕ
unflushed_of c = c.unflushed

use Rattle.std.proofs.Common.{◌≡◌, map}
use Rattle.std.specs.Prelude.{string_bytes}
use Rattle.cookie_store.specs.Given.{pair_of, lent_row}
use Rattle.cookie_client.specs.Header.{header_of}
use Rattle.cookie_client.proofs.client.header_of.Given as goal

abbrev pub invariant-loop-cookie : goal.invariant-loop-cookie
invariant-loop-cookie l = string_bytes l.text ≡ header_of (map pair_of (map lent_row l.yielded))

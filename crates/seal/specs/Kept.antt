-- A key of HMAC with SHA-256 whose pads are hashed (RFC 2104, section 4).
use Rattle.std.specs.Prelude.{ℕ, List}
use Rattle.sha2.specs.Hashers.{Holds256}
use Rattle.seal.specs.Hmac.{key_block, padded_by, ipad, opad}
use Rattle.seal.specs.declared.mac.MacKey.{MacKey}

-- it is kept of this key: its hashers hold the key's block with the inner and with the outer pad added
pub record KeepsPads (kept : MacKey) (key : List ℕ) : Type 0 where
  pub inner : Holds256 kept.inner (padded_by ipad (key_block key))
  pub outer : Holds256 kept.outer (padded_by opad (key_block key))

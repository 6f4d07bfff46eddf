-- Base64 with the standard alphabet and padding (RFC 4648, section 4).
use Rattle.std.specs.Prelude.{◌≡◌, ℕ, List}
use Rattle.base64.specs.Engines.{standard}
use Rattle.base64.specs.GeneralPurpose.{encode_of, IsBytes}

-- the base64 of the bytes: `Zg==` of `f`
abbrev pub base64 : List ℕ → List ℕ
base64 bytes = encode_of standard bytes

-- text is the base64 of bytes, each below 256: of one list of bytes there is this text alone, with no bits left over
-- and all of its padding; `Zh==` and `Zg` are that of none
abbrev pub IsBase64 : List ℕ → List ℕ → Type 0
IsBase64 bytes text = IsBytes bytes × (text ≡ base64 bytes)

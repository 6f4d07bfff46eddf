-- The text of a signed value.
use Rattle.std.specs.Prelude.{ℕ, List, ◌++◌}
use Rattle.seal.specs.Hmac.{hmac}
use Rattle.cookie.specs.Key.{signing_half}
use Rattle.cookie.specs.Base64.{base64}

-- The value's code under the half of the key that signs (HMAC with SHA-256, RFC 2104), in base64, and then the value:
-- `W9zBRr9gdU5qBCQmCJV1x1oAPwidJzmDnexYuWTsOEM=what do ya want for nothing?` of `what do ya want for nothing?` under
-- the key `Jefe` filled with zeros (RFC 4231, section 4.3).
abbrev pub signing : List ℕ → List ℕ → List ℕ
signing key value = base64 (hmac (signing_half key) value) ++ value

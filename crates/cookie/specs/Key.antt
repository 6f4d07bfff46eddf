-- A key, as the list of its 64 bytes.
use Rattle.std.specs.Prelude.{ℕ, List, take, drop, codes}
use Rattle.seal.specs.Hkdf.{expansion}

-- the half that signs: the bytes 0 to 31 of the key 0, 1, .., 63
abbrev pub signing_half : List ℕ → List ℕ
signing_half key = take 32 key

-- the half that encrypts: the bytes 32 to 63 of that key
abbrev pub encryption_half : List ℕ → List ℕ
encryption_half key = drop 32 key

-- the info that a key is derived with
abbrev pub info : List ℕ
info = codes "COOKIE;SIGNED:HMAC-SHA256;PRIVATE:AEAD-AES-256-GCM"

-- the key that is derived from a pseudorandom key: its expansion to 64 bytes (RFC 5869, section 2.3)
abbrev pub derived : List ℕ → List ℕ
derived prk = expansion prk info 64

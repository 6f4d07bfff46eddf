-- The text of a sealed value: AES-256-GCM (SP 800-38D) with a nonce of 12 bytes and a tag of 16, the cookie's name as
-- the additional data, and the base64 of nonce, ciphertext and tag.
use Rattle.std.specs.Prelude.{◌≡◌, ℕ, List, ◌++◌, length, Bool, ◌&&◌, ◌^◌, ◌-◌, nat_le, nat_lt}
use Rattle.seal.specs.Gcm.{Sealed}
use Rattle.cookie_text.specs.Record.{Seen}
use Rattle.cookie_text.specs.Setting.{with_value}
use Rattle.cookie.specs.Key.{encryption_half}
use Rattle.cookie.specs.Base64.{IsBase64}

-- a value of this length can be sealed under a name of this one (SP 800-38D, section 5.2.1.1): `seal`'s IsSealable as a
-- truth value, which the contract of the call `is_sealable` joins
abbrev pub is_sealable : List ℕ → List ℕ → Bool
is_sealable name value = nat_le (length value) (2 ^ 36 - 32) && nat_lt (length name) (2 ^ 61)

-- the bytes are nonce, ciphertext and tag of the value, sealed under the half of the key that encrypts
pub record IsSealedAs (key name value nonce bytes : List ℕ) : Type 0 where
  pub ciphertext : List ℕ
  pub tag : List ℕ
  pub sealed : Sealed (encryption_half key) nonce name value ciphertext tag
  pub bytes_are : bytes ≡ nonce ++ (ciphertext ++ tag)

-- Text is the sealing of the value under the nonce. Of the empty value under the empty name, the zero key and the zero
-- nonce that is `AAAAAAAAAAAAAAAAUw+K+8dFNrmpY7TxxMtziw==` (test case 13 of the GCM specification).
abbrev pub IsSealingUnder : List ℕ → List ℕ → List ℕ → List ℕ → List ℕ → Type 0
IsSealingUnder key name value nonce text = (bytes : List ℕ) × IsSealedAs key name value nonce bytes
    × IsBase64 bytes text

-- text is a sealing of the value: the one under some nonce of 12 bytes
abbrev pub IsSealing : List ℕ → List ℕ → List ℕ → List ℕ → Type 0
IsSealing key name value text = (nonce : List ℕ) × (length nonce ≡ 12) × IsSealingUnder key name value nonce text

-- a cookie is stored with a sealing in the place of its value: the one under its name and this nonce of 12 bytes
abbrev pub SealsAs : List ℕ → List ℕ → Seen → Seen → Type 0
SealsAs key nonce c stored = (text : List ℕ) × (length nonce ≡ 12)
    × IsSealingUnder key c.cookie.name c.cookie.value nonce text × (stored ≡ with_value c text)

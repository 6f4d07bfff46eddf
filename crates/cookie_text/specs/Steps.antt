-- What private functions of the reader give, step by step. No contract of a public call cites a word of this file.
use Rattle.std.specs.Prelude.{◌≡◌, ◌≢◌, ◌↔◌, ◌⊎◌, ℕ, List, [], true, Option, Some, None, pos, ◌*ℤ◌, MatchOption, Result}
use Rattle.std.specs.Prelude.{IfOk, IsOk, OnOk, IfErr, IsErrOf, string_bytes}
use Rattle.std.specs.Borrow.{Bor}
use Rattle.std.specs.Str.{IsUtf8}
use Rattle.std.specs.declared.string.String.{String}
use Rattle.percent_encoding.specs.Percent.{percent_decode}
use Rattle.cookie_text.specs.declared.error.ParseError.{ParseError}
use Rattle.cookie_text.specs.declared.error.ParseError.TheVariants.{MissingPair, EmptyName, Utf8Error, OutOfMemory}
use Rattle.cookie_text.specs.declared.expiration.Expiration.TheVariants.{DateTime as At}
use Rattle.cookie_text.specs.declared.part.Part.{Part}
use Rattle.cookie_text.specs.Attribute.{Attribute, HttpOnly, Secure, Partitioned, OfSite, MaxAge, Path, Domain, Expires}
use Rattle.cookie_text.specs.Decoding.{AreUtf8, IsUndecoded, ReadsEncodedWith}
use Rattle.cookie_text.specs.PartText.{part_text, raw_text}
use Rattle.cookie_text.specs.Pieces.{HasEquals, HasNoPercent, name_of, text_after}
use Rattle.cookie_text.specs.Reading.{HasAttributes, HasSlices, IsPair, ReadsWith}
use Rattle.cookie_text.specs.Record.{Record, Raw, Seen, without_dot}

-- what reading a pair gives: name and value, or the one error that fits
pub record ReadsPair (piece : List ℕ) (r : Result (Bor (List ℕ) × Bor (List ℕ)) ParseError) : Type 0 where
  pub accepted : IsOk r ↔ IsPair piece
  pub read : IfOk r (λ p. (p.0.now ≡ name_of piece) × (p.1.now ≡ text_after piece))
  pub missing_pair : IsErrOf r MissingPair ↔ (¬ (HasEquals piece))
  pub empty_name : IsErrOf r EmptyName ↔ (HasEquals piece × (name_of piece ≡ []))

-- what reading the first piece gives: no attribute
abbrev pub ReadsFirst : List ℕ → Result Seen ParseError → Type 0
ReadsFirst piece r = ReadsWith (HasAttributes []) piece r

-- the same with decoding
abbrev pub ReadsFirstEncoded : List ℕ → Result Seen ParseError → Type 0
ReadsFirstEncoded piece r = ReadsEncodedWith (HasAttributes []) piece r

-- the cookie has the attributes of these pieces, and the pair that it had
pub record ReadsFurther (pieces : List (List ℕ)) (old new : Seen) : Type 0 where
  pub name : new.cookie.name ≡ old.cookie.name
  pub value : new.cookie.value ≡ old.cookie.value
  pub name_raw : new.raw.name ≡ old.raw.name
  pub value_raw : new.raw.value ≡ old.raw.value
  pub attributes : HasAttributes pieces new.cookie
  pub sliced : HasSlices new

-- a record, and its slices, with one more attribute of the text that it is read from
abbrev pub with_attribute : Record → Attribute → Record
with_attribute r HttpOnly = record r { http_only = Some true }
with_attribute r Secure = record r { secure = Some true }
with_attribute r Partitioned = record r { partitioned = Some true }
with_attribute r (OfSite s) = record r { same_site = Some s }
with_attribute r (MaxAge z) = record r { max_age = Some (z *ℤ pos 1_000_000_000) }
with_attribute r (Path text) = record r { path = Some text }
with_attribute r (Domain text) = record r { domain = Some text }
with_attribute r (Expires d) = record r { expires = Some (At d) }

abbrev pub with_slice : Raw → Attribute → Raw
with_slice r (Path text) = record r { path = Some text }
with_slice r (Domain text) = record r { domain = Some (without_dot text) }
with_slice r _ = r

-- a text decoded, or None where that changes nothing
pub record Decodes {Z : Type 0} (text : List ℕ) (r : Result (Option (String Z)) ParseError) : Type 0 where
  pub decoded : IfOk r (λ o. MatchOption o (percent_decode text ≡ text)
      (λ s. (string_bytes s ≡ percent_decode text) × (percent_decode text ≢ text)))
  pub utf8 : OnOk r (IsUtf8 (percent_decode text))
  pub refused : IfErr r (λ e. ((e ≡ Utf8Error) × (¬ (IsUtf8 (percent_decode text)))) ⊎ (e ≡ OutOfMemory))
  pub no_memory : HasNoPercent text → ¬ (IsErrOf r OutOfMemory)

-- a pair decoded, as parts of a cookie
pub record DecodesPair (name value : List ℕ) (r : Result (Part × Part) ParseError) : Type 0 where
  pub utf8 : OnOk r (AreUtf8 name value)
  pub texts : IfOk r (λ p. (part_text p.0 ≡ percent_decode name) × (part_text p.1 ≡ percent_decode value))
  pub kept : IfOk r (λ p. IsUndecoded name value → (raw_text p.0 ≡ Some name) × (raw_text p.1 ≡ Some value))
  pub changed : IfOk r (λ p. ¬ (IsUndecoded name value) → (raw_text p.0 ≡ None) × (raw_text p.1 ≡ None))
  pub refused : IfErr r (λ e. ((e ≡ Utf8Error) × (¬ (AreUtf8 name value))) ⊎ (e ≡ OutOfMemory))
  pub no_memory : HasNoPercent name → HasNoPercent value → ¬ (IsErrOf r OutOfMemory)

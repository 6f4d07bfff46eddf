-- Whether a text is a plain URL, as a number (own: docs/DEFINITIONS.md).
use Rattle.std.specs.Prelude.{ℕ, ℤ, pos, ◌≡◌, ◌⊎◌, List}
use Rattle.std.specs.Str.{IsUtf8}
use Rattle.plain_url.specs.Plain.{IsPlain}
use Rattle.fonnalich_c.specs.Numbers.{refusal_number}
use Rattle.fonnalich_c.specs.declared.refusal.Refusal.TheVariants as refusal

-- 1 of a plain URL and 0 of another text, or want of memory
abbrev pub TellsPlain : List ℕ → ℤ → Type 0
TellsPlain text number =
    ((number ≡ pos 1) × IsUtf8 text × IsPlain text)
    ⊎ ((number ≡ pos 0) × (¬ (IsUtf8 text × IsPlain text)))
    ⊎ (number ≡ refusal_number refusal.Memory)

-- The texts that a client begins with: a suffix list and a saved text (own: docs/DEFINITIONS.md).
use Rattle.std.specs.Prelude.{ℕ, List, ◌≢◌, ◌⊎◌}
use Rattle.std.specs.Str.{IsUtf8}
use Rattle.publicsuffix.specs.Rules.{Rule, HasRules, HasFirstFault}
use Rattle.store_parts.specs.declared.error.Error.{Error}
use Rattle.store_parts.specs.declared.error.Error.TheVariants.{OutOfMemory}
use Rattle.cookie_store.specs.SavedTexts.{IsRonRefusal}

-- the text is a suffix list, of these rules
abbrev pub IsSuffixList : List ℕ → List Rule → Type 0
IsSuffixList text list = IsUtf8 text × HasRules text list

-- the text is no suffix list
abbrev pub IsNoSuffixList : List ℕ → Type 0
IsNoSuffixList text = (¬ IsUtf8 text) ⊎ ((number : ℕ) × HasFirstFault text number)

-- the text is no saved text
abbrev pub IsNoSavedText : List ℕ → Type 0
IsNoSavedText text = (cause : Error) × (cause ≢ OutOfMemory) × IsRonRefusal text cause

-- What private functions answer. No public contract names a word of this file.
use Rattle.std.specs.Prelude.{◌≡◌, ℕ, List, Option, Some, Result, MatchResult}
use Rattle.std.specs.Cow.{cow_str_bytes}
use Rattle.std.specs.declared.borrow.CowStr.{CowStr}
use Rattle.store_parts.specs.DomainText.{IsIdnaRefusal}
use Rattle.store_parts.specs.declared.error.Error.{Error}

-- the IDNA form of a text, or `Idna` where there is none; want of memory aside
abbrev pub GivesForm : {Z : Type 0} → Option (List ℕ) → Result (CowStr Z) Error → Type 0
GivesForm form answer =
    MatchResult answer (λ text. form ≡ Some (cow_str_bytes text)) (IsIdnaRefusal form)

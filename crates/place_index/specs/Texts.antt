-- Texts of which some are in a table.
use Rattle.std.specs.Prelude.{ℕ, List, [], Option, Some, None}

-- the texts of what may be there
abbrev pub texts_of : {A : Type 0} → (A → List (List ℕ)) → Option A → List (List ℕ)
texts_of texts None = []
texts_of texts (Some a) = texts a

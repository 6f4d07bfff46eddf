-- What the printed text of a cookie reads as.
use Rattle.std.specs.Prelude.{◌≡◌, ℕ, ◌<◌, List, [], ◌∷◌, ◌++◌, codes, length, Result, IfOk, IsOk, IsOkUnless}
use Rattle.std.specs.List.{flat_map}
use Rattle.std.specs.Str.{IsUtf8}
use Rattle.cookie_text.specs.declared.error.ParseError.{ParseError}
use Rattle.cookie_text.specs.declared.error.ParseError.TheVariants.{OutOfMemory}
use Rattle.cookie_text.specs.Normal.{normal}
use Rattle.cookie_text.specs.Pieces.{equals}
use Rattle.cookie_text.specs.Printing.{encoded_pair, escaped}
use Rattle.cookie_text.specs.Record.{Record, Seen, bare}

-- a cookie: the normal form, with name and value still escaped
pub record ReadsBack (r : Record) (outcome : Result Seen ParseError) : Type 0 where
  pub accepted : IsOk outcome
  pub normal : IfOk outcome (λ s. s.cookie ≡ normal (encoded_pair r))

-- a name that isn't empty and a value, both of UTF-8
pub record IsNamed (name value : List ℕ) : Type 0 where
  pub some : 0 < length name
  pub text : IsUtf8 name
  pub value_text : IsUtf8 value

-- a cookie of this name and value with no attribute, or want of memory
pub record GivesPair (name value : List ℕ) (outcome : Result Seen ParseError) : Type 0 where
  pub owed : IsOkUnless outcome OutOfMemory
  pub cookie : IfOk outcome (λ s. s.cookie ≡ bare name value)

-- `name=value`, both escaped: `a%20b=1` of `a b` and `1`
abbrev pub pair_text : List ℕ → List ℕ → List ℕ
pair_text name value = escaped name ++ equals ∷ escaped value

-- such texts of names and their values, joined by `; `: `a=1; b=2`
abbrev pub joined : List (List ℕ × List ℕ) → List ℕ
joined [] = []
joined (p ∷ ps) = pair_text p.0 p.1 ++ flat_map (λ q. codes "; " ++ pair_text q.0 q.1) ps

-- the lists are of one length, and P holds of what stands at one place
abbrev pub Pairwise : {A B : Type 0} → (A → B → Type 0) → List A → List B → Type 0
Pairwise P [] [] = Unit {0}
Pairwise P [] (b ∷ bs) = ⊥
Pairwise P (a ∷ rest) [] = ⊥
Pairwise P (a ∷ rest) (b ∷ bs) = P a b × Pairwise P rest bs

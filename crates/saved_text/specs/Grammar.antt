-- Grammars: which texts are of one and what they say, and which are a front of one.
use Rattle.std.specs.Prelude.{
  ℕ,
  ◌≡◌,
  ◌≤◌,
  ◌<◌,
  ◌⊎◌,
  Bool,
  List,
  [],
  ◌∷◌,
  ◌++◌,
  map,
  flat_map,
  encode_utf8,
  IsTrue,
  length,
  take,
}
use Rattle.std.specs.List.{AllByRecursion}
use Rattle.std.specs.Char.{IsScalar}
use Rattle.saved_text.specs.Letters.{AreSpaces, AreDigits, number_after}

-- What a text says: names, and the bytes and ends of strings.
pub data Word : Type 0 where
  the_name : List ℕ → Word
  letter : ℕ → Word
  the_end : Word

abbrev pub letters : List ℕ → List Word
letters bytes = map letter bytes

pub data Grammar : Type 0 where
  -- no byte, saying nothing, or that word
  nothing : Grammar
  say : Word → Grammar
  -- any white space
  space : Grammar
  -- these bytes
  sign : List ℕ → Grammar
  -- one byte that passes the test, saying these bytes
  one : (ℕ → Bool) → (ℕ → List ℕ) → Grammar
  -- from so many to so many hexadecimal digits, which end the number of a character that was begun with v; it says
  -- the character
  number : ℕ → ℕ → ℕ → Grammar
  seq : Grammar → Grammar → Grammar
  either : Grammar → Grammar → Grammar
  many : Grammar → Grammar

-- x begins text
abbrev pub IsFrontOf : List ℕ → List ℕ → Type 0
IsFrontOf x text = (rest : List ℕ) × (text ≡ x ++ rest)

-- The text is of the grammar, and says these words.
abbrev pub IsOf : Grammar → List ℕ → List Word → Type 0
IsOf nothing text said = (text ≡ []) × (said ≡ [])
IsOf (say w) text said = (text ≡ []) × (said ≡ w ∷ [])
IsOf space text said = AreSpaces text × (said ≡ [])
IsOf (sign s) text said = (text ≡ s) × (said ≡ [])
IsOf (one p f) text said = (b : ℕ) × IsTrue (p b) × (text ≡ b ∷ []) × (said ≡ letters (f b))
IsOf (number low high v) text said = AreDigits text × (low ≤ length text) × (length text ≤ high)
    × IsScalar (number_after v text) × (said ≡ letters (encode_utf8 (number_after v text)))
IsOf (seq g h) text said = (x y : List ℕ) × (s t : List Word) × IsOf g x s × IsOf h y t × (text ≡ x ++ y)
    × (said ≡ s ++ t)
IsOf (either g h) text said = IsOf g text said ⊎ IsOf h text said
IsOf (many g) text said = (parts : List (List ℕ × List Word)) × AllByRecursion (λ p. IsOf g p.0 p.1) parts
    × (text ≡ flat_map (λ p. p.0) parts) × (said ≡ flat_map (λ p. p.1) parts)

-- The text is a front of the grammar: what a text of it may begin with, as far as the grammar's cases tell.
abbrev pub IsFront : Grammar → List ℕ → Type 0
IsFront nothing text = text ≡ []
IsFront (say w) text = text ≡ []
IsFront space text = AreSpaces text
IsFront (sign s) text = IsFrontOf text s
IsFront (one p f) text = (text ≡ []) ⊎ ((b : ℕ) × IsTrue (p b) × (text ≡ b ∷ []))
IsFront (number low high v) text = (text ≡ []) ⊎
    (AreDigits text × ((length text < high) ⊎ ((length text ≡ high) × IsScalar (number_after v text))))
IsFront (seq g h) text = IsFront g text ⊎
    ((x y : List ℕ) × (s : List Word) × IsOf g x s × IsFront h y × (text ≡ x ++ y))
IsFront (either g h) text = IsFront g text ⊎ IsFront h text
IsFront (many g) text = (text ≡ []) ⊎
    ((x y : List ℕ) × (s : List Word) × IsOf (many g) x s × IsFront g y × (text ≡ x ++ y))

-- n bytes of the text are its longest beginning that is a front.
pub record IsLongestFront (g : Grammar) (text : List ℕ) (n : ℕ) : Type 0 where
  pub fits : n ≤ length text
  pub front : IsFront g (take n text)
  pub longest : (m : ℕ) → m ≤ length text → IsFront g (take m text) → m ≤ n

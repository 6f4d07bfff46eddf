-- The registrable domain of a name (https://publicsuffix.org/list/; the URL standard, 3.2): its public suffix and the
-- label before it. A full stop at the name's end stays.
use Rattle.std.specs.Prelude.{◌≡◌, ℕ, ◌+◌, ◌<◌, ◌⊎◌, List, ◌++◌, length, Option, MatchOption}
use Rattle.std.specs.Borrow.{Bor}
use Rattle.idna.specs.Labels.{labels_of}
use Rattle.publicsuffix.specs.Prevailing.{IsEnd, IsName, NoneMatches, Prevails, covered, without_last_dot}
use Rattle.publicsuffix.specs.Rules.{Rule}

-- the public suffix of the name has so many labels: those that the prevailing rule covers, or one where no rule of the
-- list matches
abbrev pub HasSuffixOf : List Rule → List ℕ → ℕ → Type 0
HasSuffixOf rules name count =
    ((rule : Rule) × Prevails rules (labels_of name) rule × (count ≡ covered rule))
    ⊎ (NoneMatches rules (labels_of name) × (count ≡ 1))

-- the domain is an end of the text, and without a full stop at both ends so many of its last labels
pub record IsEndOf (text : List ℕ) (count : ℕ) (domain : List ℕ) : Type 0 where
  pub front : List ℕ
  pub split : text ≡ front ++ domain
  pub labels : IsEnd (without_last_dot text) count (without_last_dot domain)

-- the text is a name, its public suffix has fewer labels than it, and the domain has one more than that
pub record IsRegistrable (rules : List Rule) (text domain : List ℕ) : Type 0 where
  pub is_name : IsName (without_last_dot text)
  pub count : ℕ
  pub suffix : HasSuffixOf rules (without_last_dot text) count
  pub longer : count < length (labels_of (without_last_dot text))
  pub end : IsEndOf text (count + 1) domain

-- the text is a name that is its own public suffix
pub record IsSuffixItself (rules : List Rule) (text : List ℕ) : Type 0 where
  pub is_name : IsName (without_last_dot text)
  pub suffix : HasSuffixOf rules (without_last_dot text) (length (labels_of (without_last_dot text)))

-- the registrable domain of a text, which has one exactly where it is a name and no public suffix itself
abbrev pub GivesRegistrable : List Rule → List ℕ → Option (Bor (List ℕ)) → Type 0
GivesRegistrable rules text found =
    MatchOption found ((¬ (IsName (without_last_dot text))) ⊎ IsSuffixItself rules text)
    (λ domain. IsRegistrable rules text domain.now)

-- ---- laws

-- a text has one registrable domain at most
abbrev pub OneIsRegistrable : Type 0
OneIsRegistrable =
    (rules : List Rule) (text one other : List ℕ) → IsRegistrable rules text one → IsRegistrable rules text other
    → one ≡ other

-- a public suffix has none
abbrev pub NoSuffixHasOne : Type 0
NoSuffixHasOne =
    (rules : List Rule) (text domain : List ℕ) → IsSuffixItself rules text → ¬ (IsRegistrable rules text domain)

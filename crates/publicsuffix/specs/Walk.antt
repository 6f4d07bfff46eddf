-- What a walk down the tree finds. No public contract names a word of this file.
use Rattle.std.specs.Prelude.{◌≡◌, ℕ, ◌-◌, ◌≤◌, ◌⊎◌, if◌then◌else◌, Bool, true, false, List, [], ◌++◌, length, get_or}
use Rattle.std.specs.Prelude.{Option, None, Some, Contains, MatchOption}
use Rattle.std.specs.Borrow.{Bor}
use Rattle.idna.specs.Labels.{labels_of}
use Rattle.publicsuffix.specs.Rules.{Label, Wildcard, Text, Rule}
use Rattle.publicsuffix.specs.Tree.{child, paths, rules_of}
use Rattle.publicsuffix.specs.declared.tree.Node.{Node}
use Rattle.publicsuffix.specs.Prevailing.{GoesBefore, Matches, Prevails}
use Rattle.publicsuffix.specs.declared.walk.Found.{Found}

-- the rule is of the list, matches the name, and ends in these labels
pub record Reaches (rules : List Rule) (name : List (List ℕ)) (path : List Label) (rule : Rule) : Type 0 where
  pub of_list : Contains rules rule
  pub matches : Matches rule name
  pub more : List Label
  pub ends : rule.labels ≡ more ++ path

-- what is told of the rule
abbrev pub Tells : Found → Rule → Type 0
Tells found rule = (found.exception ≡ rule.is_exception) × (found.labels ≡ length rule.labels)

-- what is told is told of the rule that prevails
abbrev pub TellsPrevailing : List Rule → List (List ℕ) → Found → Type 0
TellsPrevailing rules name found = (rule : Rule) × Prevails rules name rule × Tells found rule

-- one of these rules is found that is put before each other, if there is any
abbrev pub IsFirst : (Rule → Type 0) → Option Found → Type 0
IsFirst S found =
    MatchOption found ((rule : Rule) → ¬ (S rule))
    (λ f. (rule : Rule) × S rule × Tells f rule × ((other : Rule) → S other → GoesBefore rule other))

abbrev pub FoundBefore : Found → Found → Type 0
FoundBefore a b = ((a.exception ≡ true) × (b.exception ≡ false)) ⊎ ((a.exception ≡ b.exception) × (b.labels ≤ a.labels))

-- the one of the two that is put before the other
abbrev pub IsFirstOf : Option Found → Option Found → Option Found → Type 0
IsFirstOf one other first =
    MatchOption one (first ≡ other)
    (λ a. MatchOption other (first ≡ Some a)
    (λ b. ((first ≡ Some a) × FoundBefore a b) ⊎ ((first ≡ Some b) × FoundBefore b a)))

-- the node that stands for these labels, or none where no rule ends in them
abbrev pub IsAt : List Node → Option ℕ → List Label → Type 0
IsAt nodes None path = (rule : Rule) (more : List Label) → Contains (rules_of nodes) rule → rule.labels ≡ more ++ path
    → ⊥
IsAt nodes (Some at) path = get_or (paths nodes) at [] ≡ path

abbrev pub labels_left : Option (Bor (List ℕ)) → List (List ℕ)
labels_left None = []
labels_left (Some text) = labels_of text.now

-- what is told of the rule that is put first of those at a node
abbrev pub own_of : Bool → Bool → ℕ → Option Found
own_of plain true depth = Some (record { exception = true; labels = depth })
own_of true false depth = Some (record { exception = false; labels = depth })
own_of false false depth = None

-- how many labels a rule covers of which this is told
abbrev pub covered_by : Found → ℕ
covered_by found = if found.exception then found.labels - 1 else found.labels

-- the ways down that a name's label fits: the first is the one to go on by
abbrev pub ways_by : Option ℕ → Option ℕ → Option ℕ × Option ℕ
ways_by None wildcard = (wildcard, None)
ways_by (Some text) wildcard = (Some text, wildcard)

abbrev pub ways_of : List Node → ℕ → List ℕ → Option ℕ × Option ℕ
ways_of nodes at label = ways_by (child nodes at (Text label)) (child nodes at Wildcard)

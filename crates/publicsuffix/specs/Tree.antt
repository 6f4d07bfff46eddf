-- What a tree of labels stands for.
use Rattle.std.specs.Prelude.{◌≡◌, ◌≢◌, ℕ, ◌+◌, ◌*◌, ◌^◌, ◌%◌, ◌<◌, ◌⊎◌, ◌↔◌, Bool, true, false, ◌&&◌, ◌||◌, nat_eq}
use Rattle.std.specs.Prelude.{List, []}
use Rattle.std.specs.Prelude.{◌∷◌, ◌++◌, map, length, get_or, slice_get, Option, Some, None, Contains, if◌then◌else◌}
use Rattle.std.specs.Option.{option_and_then}
use Rattle.std.specs.Str.{bytes_eq}
use Rattle.publicsuffix.specs.Prevailing.{covered}
use Rattle.publicsuffix.specs.Rules.{Label, Wildcard, Text, Rule}
use Rattle.publicsuffix.specs.View.{label_view}
use Rattle.publicsuffix.specs.declared.tree.Edge.{Edge}
use Rattle.publicsuffix.specs.declared.tree.Node.{Node}
use Rattle.publicsuffix.specs.declared.tree.Tree.{Tree}

-- the labels that a node stands for, by those of the nodes before it
abbrev pub labels_at : List (List Label) → Option (ℕ × Label) → List Label
labels_at before None = []
labels_at before (Some edge) = edge.1 ∷ get_or before edge.0 []

-- the labels of each node
abbrev pub grow : List (List Label) → List (Option (ℕ × Label)) → List (List Label)
grow before [] = before
grow before (edge ∷ edges) = grow (before ++ labels_at before edge ∷ []) edges

abbrev pub edge_view : Option Edge → Option (ℕ × Label)
edge_view None = None
edge_view (Some edge) = Some (edge.parent, label_view edge.label)

unfoldable pub edges_of : List Node → List (Option (ℕ × Label))
edges_of nodes = map (λ n. edge_view n.up) nodes

unfoldable pub paths : List Node → List (List Label)
paths nodes = grow [] (edges_of nodes)

abbrev pub is_text : List ℕ → Label → Bool
is_text form Wildcard = false
is_text form (Text other) = bytes_eq form other

-- whether a node hangs below another at a text
abbrev pub hangs_at : ℕ → List ℕ → Option (ℕ × Label) → Bool
hangs_at at form None = false
hangs_at at form (Some edge) = nat_eq at edge.0 && is_text form edge.1

abbrev pub one_later : Option ℕ → Bool → Option ℕ
one_later (Some place) here = Some (place + 1)
one_later None true = Some 0
one_later None false = None

-- the last place whose element passes a test
abbrev pub latest : {X : Type 0} → (X → Bool) → List X → Option ℕ
latest test [] = None
latest test (x ∷ xs) = one_later (latest test xs) (test x)

abbrev pub wildcard_at : List Node → ℕ → Option ℕ
wildcard_at nodes at = option_and_then (λ n. n.wildcard) (slice_get nodes at)

-- the node below a node at a label
unfoldable pub child : List Node → ℕ → Label → Option ℕ
child nodes at Wildcard = wildcard_at nodes at
child nodes at (Text form) = latest (hangs_at at form) (edges_of nodes)

-- each way down leads to one label more, each node but the root has a way to it, and no two stand for the same labels
pub record Grown (paths : List (List Label)) (child : ℕ → Label → Option ℕ) : Type 0 where
  pub some : 0 < length paths
  pub root : get_or paths 0 [] ≡ []
  pub sound : (i j : ℕ) (l : Label) → i < length paths → child i l ≡ Some j → (j < length paths)
      × (get_or paths j [] ≡ l ∷ get_or paths i [])
  pub complete : (j : ℕ) (l : Label) (p : List Label) → j < length paths → get_or paths j [] ≡ l ∷ p → (i : ℕ)
      × (i < length paths) × (get_or paths i [] ≡ p) × (child i l ≡ Some j)
  pub unique : (i j : ℕ) → i < length paths → j < length paths → get_or paths i [] ≡ get_or paths j [] → i ≡ j

abbrev pub IsGrown : List Node → Type 0
IsGrown nodes = Grown (paths nodes) (child nodes)

-- the rules that are marked at one node
abbrev pub rules_at : List Label → Bool × Bool → List Rule
rules_at labels marks =
    (if marks.0 then record { is_exception = false; labels = labels } ∷ [] else [])
    ++ (if marks.1 then record { is_exception = true; labels = labels } ∷ [] else [])

-- whether the marks have a rule
abbrev pub is_marked : Bool × Bool → Bool
is_marked marks = marks.0 || marks.1

abbrev pub marked : List (List Label) → List (Bool × Bool) → List Rule
marked [] marks = []
marked (labels ∷ paths) [] = []
marked (labels ∷ paths) (mark ∷ marks) = rules_at labels mark ++ marked paths marks

unfoldable pub marks_of : List Node → List (Bool × Bool)
marks_of nodes = map (λ n. (n.plain, n.exception)) nodes

-- the rules that a tree stands for
unfoldable pub rules_of : List Node → List Rule
rules_of nodes = marked (paths nodes) (marks_of nodes)

-- ---- how the node at a text is found

unfoldable pub mixed : ℕ → ℕ → ℕ
mixed hash byte = (((hash + byte) % 2 ^ 64) * 0x9E3779B97F4A7C15) % 2 ^ 64

-- the hash of a text, from a first value
unfoldable pub hashed : ℕ → List ℕ → ℕ
hashed hash [] = hash
hashed hash (byte ∷ bytes) = hashed (mixed hash byte) bytes

abbrev pub bucket_at : ℕ → ℕ → Label → ℕ
bucket_at size at Wildcard = size
bucket_at size at (Text form) = hashed at form % size

-- the bucket of so many that a node falls into: the root and a node at the label `*` fall into none
abbrev pub bucket_of : ℕ → Option (ℕ × Label) → ℕ
bucket_of size None = size
bucket_of size (Some edge) = bucket_at size edge.0 edge.1

-- the last node before a bound that falls into a bucket; it is the root where there is none
pub record Leads (edges : List (Option (ℕ × Label))) (size bucket bound from : ℕ) : Type 0 where
  pub within : from < bound
  pub inside : (from ≡ 0) ⊎ (bucket_of size (get_or edges from None) ≡ bucket)
  pub last : (j : ℕ) → from < j → j < bound → bucket_of size (get_or edges j None) ≢ bucket

-- each bucket leads to the last node that falls into it, and each such node to the one before it
pub record Linked (size : ℕ) (edges : List (Option (ℕ × Label))) (links firsts : List ℕ) : Type 0 where
  pub some : 0 < size
  pub root : get_or edges 0 None ≡ None
  pub above : (j i : ℕ) (l : Label) → j < length edges → get_or edges j None ≡ Some (i, l) → i < length edges
  pub heads : (b : ℕ) → b < size → Leads edges size b (length edges) (get_or firsts b 0)
  pub nexts : (i : ℕ) → i < length edges → bucket_of size (get_or edges i None) < size
      → Leads edges size (bucket_of size (get_or edges i None)) i (get_or links i 0)

unfoldable pub nexts_of : List Node → List ℕ
nexts_of nodes = map (λ n. n.next) nodes

abbrev pub IsLinked : Tree → Type 0
IsLinked tree =
    Linked (length tree.heads.items) (edges_of tree.nodes.items) (nexts_of tree.nodes.items) tree.heads.items

-- a node with nothing below it, which is no rule
pub record IsLeaf (node : Node) (up : Option (ℕ × Label)) (link : ℕ) : Type 0 where
  pub hangs : edge_view node.up ≡ up
  pub wildcard : node.wildcard ≡ None
  pub plain : node.plain ≡ false
  pub exception : node.exception ≡ false
  pub next : node.next ≡ link

-- at the label `*` the node has another below it now
pub record HasWildcard (old new : Node) (next : ℕ) : Type 0 where
  pub up : new.up ≡ old.up
  pub plain : new.plain ≡ old.plain
  pub exception : new.exception ≡ old.exception
  pub link : new.next ≡ old.next
  pub wildcard : new.wildcard ≡ Some next

-- whether the marks have an exception, or a rule that is none
abbrev pub mark_of : Bool × Bool → Bool → Bool
mark_of marks true = marks.1
mark_of marks false = marks.0

-- the node has this mark besides
pub record Marks (old new : Node) (kind : Bool) : Type 0 where
  pub up : new.up ≡ old.up
  pub link : new.next ≡ old.next
  pub wildcard : new.wildcard ≡ old.wildcard
  pub here : mark_of (new.plain, new.exception) kind ≡ true
  pub added : (other : Bool) → mark_of (new.plain, new.exception) other ≡ true → (other ≡ kind)
      ⊎ (mark_of (old.plain, old.exception) other ≡ true)
  pub kept : (other : Bool) → mark_of (old.plain, old.exception) other ≡ true
      → mark_of (new.plain, new.exception) other ≡ true

-- each rule covers one label of a name or more
abbrev pub CoverSome : List Rule → Type 0
CoverSome rules = (rule : Rule) → Contains rules rule → 0 < covered rule

-- the tree has no rule
abbrev pub HasNone : List Node → Type 0
HasNone nodes = (rule : Rule) → ¬ (Contains (rules_of nodes) rule)

-- the tree has now the node of one label more, and the rules that it had
pub record IsBelow (old new : List Node) (at : ℕ) (label : Label) (found : ℕ) : Type 0 where
  pub grown : IsGrown new
  pub within : found < length new
  pub here : get_or (paths new) found [] ≡ label ∷ get_or (paths old) at []
  pub same : (rule : Rule) → Contains (rules_of new) rule ↔ Contains (rules_of old) rule

-- the tree has the rules that it had, and this one
pub record HasMore (old new : List Node) (rule : Rule) : Type 0 where
  pub grown : IsGrown new
  pub exact : (other : Rule) → Contains (rules_of new) other ↔ (Contains (rules_of old) other ⊎ (other ≡ rule))

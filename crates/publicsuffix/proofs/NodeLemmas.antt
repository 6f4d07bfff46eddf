-- A tree after one of its nodes changed and another was pushed.
use Rattle.std.proofs.Common.{◌≡◌, ◌≢◌, ℕ, ◌<◌, ◌+◌, ◌%◌, ◌↔◌, ◌⊎◌, Bool, true, false, List, [], ◌∷◌, ◌++◌, length, map}
use Rattle.std.proofs.Common.{Option, Some, None, Contains, refl, sym, ap, subst, ◌∙◌, inl, inr, arith}
use Rattle.std.specs.Prelude.{get_or, set}
use Rattle.std.specs.Option.{option_and_then}
use Rattle.std.proofs.lemmas.Bool.{cases_Bool, cases_lt, cases_eq, false≢true}
use Rattle.std.proofs.lemmas.Option.{slice_get-get_or}
use Rattle.std.proofs.lemmas.List.{append-nil, append_assoc, get_or_append_left, get_or_push, get_or-map}
use Rattle.std.proofs.lemmas.List.{get_or-set_same, get_or-set_other, length-map, length-set, length_push, map-set}
use Rattle.std.proofs.lemmas.List.{map_push, set-get_or}
use Rattle.publicsuffix.specs.Rules.{Label, Wildcard, Text, Rule}
use Rattle.publicsuffix.specs.Tree.{Grown, HasMore, HasWildcard, IsBelow, IsGrown, IsLeaf, Linked, Marks, child}
use Rattle.publicsuffix.specs.Tree.{edge_view, edges_of, grow, hangs_at, hashed, labels_at, latest, mark_of, marked}
use Rattle.publicsuffix.specs.Tree.{marks_of, nexts_of, paths, rules_of, wildcard_at}
use Rattle.publicsuffix.specs.declared.tree.Node.{Node}
use Rattle.publicsuffix.proofs.TableLemmas.{Linked-text, Linked-wildcard, hangs_here, hangs_there, latest_hit}
use Rattle.publicsuffix.proofs.TableLemmas.{latest_miss, none_below, not_at_wildcard, same_edge}
use Rattle.publicsuffix.proofs.TreeLemmas.{Grown-hangs, Hangs, from_marked, grow_push, length_grow, to_marked}

abbrev pub edge_of : Node → Option (ℕ × Label)
edge_of n = edge_view n.up

abbrev pub marks_at : Node → Bool × Bool
marks_at n = (n.plain, n.exception)

pub length_edges : (nodes : List Node) → length (edges_of nodes) ≡ length nodes
unfolding edges_of
length_edges nodes = length-map nodes (λ n. edge_view n.up)

pub length_nexts : (nodes : List Node) → length (nexts_of nodes) ≡ length nodes
unfolding nexts_of
length_nexts nodes = length-map nodes (λ n. n.next)

pub length_paths : (nodes : List Node) → length (paths nodes) ≡ length nodes
unfolding paths
length_paths nodes = omega (arith, length_grow [] (edges_of nodes), length_edges nodes)

pub length_marks : (nodes : List Node) → length (marks_of nodes) ≡ length nodes
unfolding marks_of
length_marks nodes = length-map nodes (λ n. (n.plain, n.exception))

edges_push : (nodes : List Node) (new : Node) → edges_of (nodes ++ new ∷ []) ≡ edges_of nodes ++ edge_view new.up ∷ []
unfolding edges_of
edges_push nodes new = map_push (λ n. edge_view n.up) nodes new

nexts_push : (nodes : List Node) (new : Node) → nexts_of (nodes ++ new ∷ []) ≡ nexts_of nodes ++ new.next ∷ []
unfolding nexts_of
nexts_push nodes new = map_push (λ n. n.next) nodes new

paths_more : (nodes all : List Node) (e : Option (ℕ × Label)) → edges_of all ≡ edges_of nodes ++ e ∷ []
    → paths all ≡ paths nodes ++ labels_at (paths nodes) e ∷ []
unfolding paths
paths_more nodes all e are = ap (grow []) are ∙ grow_push (edges_of nodes) e

pub paths_same : (old new : List Node) → edges_of new ≡ edges_of old → paths new ≡ paths old
unfolding paths
paths_same old new are = ap (grow []) are

marks_push : (nodes : List Node) (new : Node) → marks_of (nodes ++ new ∷ []) ≡ marks_of nodes ++
    (new.plain, new.exception) ∷ []
unfolding marks_of
marks_push nodes new = map_push (λ n. (n.plain, n.exception)) nodes new

-- a function of the nodes that a changed node leaves
map_same : {X : Type 0} (f : Node → X) (nodes : List Node) (at : ℕ) (old new : Node) → old ≡ get_or nodes at old
    → f new ≡ f old → map f (set nodes at new) ≡ map f nodes
map_same f nodes at old new is same =
    map-set f nodes at new ∙ ap (set (map f nodes) at) (same ∙ ap f is) ∙ sym (map-set f nodes at (get_or nodes at old))
    ∙ ap (map f) (set-get_or nodes at old)

pub edges_set : (nodes : List Node) (at : ℕ) (old new : Node) → old ≡ get_or nodes at old → new.up ≡ old.up
    → edges_of (set nodes at new) ≡ edges_of nodes
unfolding edges_of
edges_set nodes at old new is same = map_same (λ n. edge_view n.up) nodes at old new is (ap edge_view same)

pub nexts_set : (nodes : List Node) (at : ℕ) (old new : Node) → old ≡ get_or nodes at old → new.next ≡ old.next
    → nexts_of (set nodes at new) ≡ nexts_of nodes
unfolding nexts_of
nexts_set nodes at old new is same = map_same (λ n. n.next) nodes at old new is same

marks_same : (nodes : List Node) (at : ℕ) (old new : Node) → old ≡ get_or nodes at old → new.plain ≡ old.plain
    → new.exception ≡ old.exception → marks_of (set nodes at new) ≡ marks_of nodes
unfolding marks_of
marks_same nodes at old new is plain exception = map_same (λ n. (n.plain, n.exception)) nodes at old new is
    (ap (λ p. (p, new.exception)) plain ∙ ap (λ e. (old.plain, e)) exception)

pub wildcard_get : (nodes : List Node) (at : ℕ) (d : Node) → at < length nodes
    → wildcard_at nodes at ≡ (get_or nodes at d).wildcard
wildcard_get nodes at d within = ap (option_and_then (λ n. n.wildcard)) (slice_get-get_or nodes at d within)

pub child_wildcard : (nodes : List Node) (at : ℕ) → child nodes at Wildcard ≡ wildcard_at nodes at
unfolding child
child_wildcard nodes at = refl

pub child_text : (nodes : List Node) (at : ℕ) (form : List ℕ) → child nodes at (Text form)
    ≡ latest (hangs_at at form) (edges_of nodes)
unfolding child
child_text nodes at form = refl

pub edges_get : (nodes : List Node) (at : ℕ) (n : Node) → at < length nodes → n ≡ get_or nodes at n
    → get_or (edges_of nodes) at None ≡ edge_view n.up
unfolding edges_of
edges_get nodes at n within is = get_or-map (λ m. edge_view m.up) nodes at n None within
    ∙ ap (λ m. edge_view m.up) (sym is)

pub nexts_get : (nodes : List Node) (at : ℕ) (n : Node) → at < length nodes → n ≡ get_or nodes at n
    → get_or (nexts_of nodes) at 0 ≡ n.next
unfolding nexts_of
nexts_get nodes at n within is = get_or-map (λ m. m.next) nodes at n 0 within ∙ ap (λ m. m.next) (sym is)

-- where nodes hang as before, and lead to the same by `*`, the ways down are the same
pub child_same : (old new : List Node) (at : ℕ) (l : Label) → edges_of new ≡ edges_of old
    → wildcard_at new at ≡ wildcard_at old at → child new at l ≡ child old at l
unfolding child
child_same old new at Wildcard edges wildcard = wildcard
child_same old new at (Text form) edges wildcard = ap (latest (hangs_at at form)) edges

-- the node was there
pub IsBelow-found : (nodes : List Node) (at : ℕ) (l : Label) (found : ℕ) → IsGrown nodes
    → at < length nodes → child nodes at l ≡ Some found → IsBelow nodes nodes at l found
IsBelow-found nodes at l found grown within below =
    let long = length_paths nodes in
    let held = grown.sound at found l (omega arith) below in
    record { grown = grown; within = omega (arith, held.0); here = held.1; same = λ rule. (λ x. x, λ x. x) }

same_marked : (ps qs : List (List Label)) (ms ns : List (Bool × Bool)) (p : List Label) → qs ≡ ps ++ p ∷ []
    → ns ≡ ms ++ (false, false) ∷ [] → length ps ≡ length ms → (rule : Rule) → Contains (marked qs ns) rule
    ↔ Contains (marked ps ms) rule
same_marked ps qs ms ns p paths_are marks_are long rule = rw (paths_are, marks_are) (
  λ held.
      let is = from_marked (ps ++ p ∷ []) (ms ++ (false, false) ∷ []) rule held in
      elim (cases_lt is.place (length ps)) [
        | inl earlier ↦
            to_marked ps ms rule (record {
              place = is.place;
              in_paths = earlier;
              in_marks = omega arith;
              labels = sym (get_or_append_left ps (p ∷ []) [] is.place earlier) ∙ is.labels;
              mark = ap (λ m. mark_of m rule.is_exception) (sym
                  (get_or_append_left ms ((false, false) ∷ []) (false, false) is.place (omega arith))) ∙ is.mark;
            })
        | inr last ↦
            let here : is.place ≡ length ms = omega (arith, is.in_marks, length_push ms (false, false)) in
            let none : get_or (ms ++ (false, false) ∷ []) is.place (false, false) ≡ (false, false) =
            get_or_push ms (false, false) (false, false) is.place (sym here) in
            absurd (false≢true (sym (unmarked rule.is_exception) ∙ ap (λ m. mark_of m rule.is_exception) (sym none)
            ∙ is.mark))
      ],
  λ held.
      let is = from_marked ps ms rule held in
      to_marked (ps ++ p ∷ []) (ms ++ (false, false) ∷ []) rule (record {
        place = is.place;
        in_paths = omega (arith, is.in_paths, length_push ps p);
        in_marks = omega (arith, is.in_marks, length_push ms (false, false));
        labels = get_or_append_left ps (p ∷ []) [] is.place is.in_paths ∙ is.labels;
        mark = ap (λ m. mark_of m rule.is_exception) (get_or_append_left ms ((false, false) ∷ [])
            (false, false) is.place is.in_marks) ∙ is.mark;
      }),
)
  where
    unmarked : (kind : Bool) → mark_of (false, false) kind ≡ false
    unmarked true = refl
    unmarked false = refl

-- the node was made
IsBelow-made : (nodes all : List Node) (at : ℕ) (l : Label) → IsGrown nodes → at < length nodes
    → length all ≡ length nodes + 1 → edges_of all ≡ edges_of nodes ++ Some (at, l) ∷ []
    → marks_of all ≡ marks_of nodes ++ (false, false) ∷ []
    → Hangs (paths nodes) (child nodes) (child all) at l → IsBelow nodes all at l (length nodes)
unfolding rules_of
IsBelow-made nodes all at l grown within whole edges marks hangs =
    let long = length_paths nodes in
    let are : paths all ≡ paths nodes ++ (l ∷ get_or (paths nodes) at []) ∷ [] =
    paths_more nodes all (Some (at, l)) edges in
    record {
      grown = subst (λ ps. Grown ps (child all)) (sym are) (Grown-hangs (paths nodes) (child nodes)
          (child all) at l grown (omega arith) hangs);
      within = omega (arith, whole);
      here = ap (λ ps. get_or ps (length nodes) []) are ∙ get_or_push (paths nodes)
          (l ∷ get_or (paths nodes) at []) [] (length nodes) long;
      same = same_marked (paths nodes) (paths all) (marks_of nodes) (marks_of all)
          (l ∷ get_or (paths nodes) at []) are marks (omega (arith, length_marks nodes));
    }

-- the marks of a leaf more
marks_leaf : (nodes : List Node) (leaf : Node) (up : Option (ℕ × Label)) (next : ℕ) → IsLeaf leaf up next
    → marks_of (nodes ++ leaf ∷ []) ≡ marks_of nodes ++ (false, false) ∷ []
marks_leaf nodes leaf up next bare =
    marks_push nodes leaf ∙ ap (λ b. marks_of nodes ++ (b, leaf.exception) ∷ []) bare.plain
    ∙ ap (λ b. marks_of nodes ++ (false, b) ∷ []) bare.exception

-- a leaf has no way down by `*`, and takes none from others
wildcard_leaf : (nodes : List Node) (leaf : Node) → leaf.wildcard ≡ None
    → wildcard_at (nodes ++ leaf ∷ []) (length nodes) ≡ None
wildcard_leaf nodes leaf bare =
    wildcard_get (nodes ++ leaf ∷ []) (length nodes) leaf (omega (arith, length_push nodes leaf))
    ∙ ap (λ n. n.wildcard) (get_or_push nodes leaf leaf (length nodes) refl) ∙ bare

wildcard_before : (nodes : List Node) (leaf : Node) (i : ℕ) → i < length nodes
    → wildcard_at (nodes ++ leaf ∷ []) i ≡ wildcard_at nodes i
wildcard_before nodes leaf i less =
    wildcard_get (nodes ++ leaf ∷ []) i leaf (omega (arith, length_push nodes leaf))
    ∙ ap (λ n. n.wildcard) (get_or_append_left nodes (leaf ∷ []) leaf i less) ∙ sym (wildcard_get nodes i leaf less)

module _ (nodes : List Node) (heads : List ℕ) (at : ℕ) (grown : IsGrown nodes)
    (linked : Linked (length heads) (edges_of nodes) (nexts_of nodes) heads) (within : at < length nodes) where
  -- nothing hangs below the node that is made
  last_text : (all : List Node) (l : Label) (form : List ℕ) → edges_of all ≡ edges_of nodes ++ Some (at, l) ∷ []
      → child all (length (paths nodes)) (Text form) ≡ None
  last_text all l form edges =
      child_text all (length (paths nodes)) form ∙ ap (latest (hangs_at (length (paths nodes)) form)) edges
      ∙ none_below (edges_of nodes) (nexts_of nodes) heads form (Some (at, l)) (length heads)
      (length (paths nodes)) linked (omega (arith, length_edges nodes, length_paths nodes))
      (λ i k e. omega (arith, within, same_edge at i l k e, length_paths nodes))

  -- the node at a text was made
  module _ (form : List ℕ) (leaf : Node) (next : ℕ) (free : child nodes at (Text form) ≡ None)
      (bare : IsLeaf leaf (Some (at, Text form)) next) where
    abbrev all : List Node
    all = nodes ++ leaf ∷ []

    text_edges : edges_of all ≡ edges_of nodes ++ Some (at, Text form) ∷ []
    text_edges = edges_push nodes leaf ∙ ap (λ e. edges_of nodes ++ e ∷ []) bare.hangs

    text_apart : (i : ℕ) (k : Label) → i < length (paths nodes) → ((i ≡ at) × (Text form ≡ k))
        ⊎ (child all i k ≡ child nodes i k)
    text_apart i Wildcard less =
        inr (child_wildcard all i ∙ wildcard_before nodes leaf i (omega (arith, less, length_paths nodes))
        ∙ sym (child_wildcard nodes i))
    text_apart i (Text other) less =
        elim (cases_Bool (hangs_at i other (Some (at, Text form)))) [
          | inl is ↦
              let there = hangs_there i other at (Text form) is in
              inl (there.0, sym there.1)
          | inr not ↦
              inr (child_text all i other ∙ ap (latest (hangs_at i other)) text_edges
              ∙ latest_miss (hangs_at i other) (edges_of nodes) (Some (at, Text form)) not
              ∙ sym (child_text nodes i other))
        ]

    text_last : (k : Label) → child all (length (paths nodes)) k ≡ None
    text_last Wildcard =
        child_wildcard all (length (paths nodes)) ∙ ap (wildcard_at all) (length_paths nodes)
        ∙ wildcard_leaf nodes leaf bare.wildcard
    text_last (Text other) = last_text all (Text form) other text_edges

    pub IsBelow-text : IsBelow nodes all at (Text form) (length nodes)
    IsBelow-text =
        IsBelow-made nodes all at (Text form) grown within (length_push nodes leaf) text_edges
        (marks_leaf nodes leaf (Some (at, Text form)) next bare) (record {
          free = free;
          hit = child_text all at form ∙ ap (latest (hangs_at at form)) text_edges
              ∙ latest_hit (hangs_at at form) (edges_of nodes) (Some (at, Text form)) (hangs_here at form)
              ∙ ap Some (length_edges nodes ∙ sym (length_paths nodes));
          apart = text_apart;
          last = text_last;
        })

    pub IsLinked-text : (b : ℕ) → b ≡ hashed at form % length heads → next ≡ get_or heads b 0
        → Linked (length (set heads b (length nodes))) (edges_of all) (nexts_of all) (set heads b (length nodes))
    IsLinked-text b is link =
        let long : length (set heads b (length nodes)) ≡ length heads = length-set heads b (length nodes) in
        let nexts : nexts_of all ≡ nexts_of nodes ++ get_or heads b 0 ∷ [] =
        nexts_push nodes leaf ∙ ap (λ x. nexts_of nodes ++ x ∷ []) (bare.next ∙ link) in
        subst (λ size. Linked size (edges_of all) (nexts_of all) (set heads b (length nodes))) (sym long)
        (subst (λ es. Linked (length heads) es (nexts_of all) (set heads b (length nodes))) (sym text_edges)
        (subst (λ ns. Linked (length heads) (edges_of nodes ++ Some (at, Text form) ∷ []) ns
        (set heads b (length nodes))) (sym nexts)
        (subst (λ n. Linked (length heads) (edges_of nodes ++ Some (at, Text form) ∷ [])
        (nexts_of nodes ++ get_or heads b 0 ∷ []) (set heads b n)) (length_edges nodes)
        (Linked-text (edges_of nodes) (nexts_of nodes) heads at form b linked
        (omega (arith, length_edges nodes, length_nexts nodes)) (omega (arith, within, length_edges nodes)) is))))

  -- the node at the label `*` was made
  module _ (old new leaf : Node) (is : old ≡ get_or nodes at old) (free : child nodes at Wildcard ≡ None)
      (has : HasWildcard old new (length nodes)) (bare : IsLeaf leaf (Some (at, Wildcard)) 0) where
    abbrev now : List Node
    now = set nodes at new

    abbrev more : List Node
    more = now ++ leaf ∷ []

    size : length now ≡ length nodes
    size = length-set nodes at new

    wildcard_edges : edges_of more ≡ edges_of nodes ++ Some (at, Wildcard) ∷ []
    wildcard_edges =
        edges_push now leaf ∙ ap (λ e. edges_of now ++ e ∷ []) bare.hangs
        ∙ ap (λ es. es ++ Some (at, Wildcard) ∷ []) (edges_set nodes at old new is has.up)

    wildcard_here : wildcard_at more at ≡ Some (length nodes)
    wildcard_here =
        wildcard_before now leaf at (omega (arith, within, size))
        ∙ wildcard_get now at new (omega (arith, within, size))
        ∙ ap (λ n. n.wildcard) (get_or-set_same nodes at new new within) ∙ has.wildcard

    wildcard_other : (i : ℕ) → i < length nodes → i ≢ at → wildcard_at more i ≡ wildcard_at nodes i
    wildcard_other i less other =
        wildcard_before now leaf i (omega (arith, less, size)) ∙ wildcard_get now i new (omega (arith, less, size))
        ∙ ap (λ n. n.wildcard) (get_or-set_other nodes at i new new other) ∙ sym (wildcard_get nodes i new less)

    wildcard_apart : (i : ℕ) (k : Label) → i < length (paths nodes) → ((i ≡ at) × (Wildcard ≡ k))
        ⊎ (child more i k ≡ child nodes i k)
    wildcard_apart i Wildcard less =
        elim (cases_eq i at) [
          | inl same ↦ inl (same, refl)
          | inr other ↦
              inr (child_wildcard more i ∙ wildcard_other i (omega (arith, less, length_paths nodes)) other
              ∙ sym (child_wildcard nodes i))
        ]
    wildcard_apart i (Text other) less =
        inr (child_text more i other ∙ ap (latest (hangs_at i other)) wildcard_edges
        ∙ latest_miss (hangs_at i other) (edges_of nodes) (Some (at, Wildcard)) (not_at_wildcard i other at)
        ∙ sym (child_text nodes i other))

    wildcard_last : (k : Label) → child more (length (paths nodes)) k ≡ None
    wildcard_last Wildcard =
        child_wildcard more (length (paths nodes)) ∙ ap (wildcard_at more) (length_paths nodes ∙ sym size)
        ∙ wildcard_leaf now leaf bare.wildcard
    wildcard_last (Text other) = last_text more Wildcard other wildcard_edges

    pub IsBelow-wildcard : IsBelow nodes more at Wildcard (length nodes)
    IsBelow-wildcard =
        IsBelow-made nodes more at Wildcard grown within (length_push now leaf ∙ ap (λ n. n + 1) size) wildcard_edges
        (marks_leaf now leaf (Some (at, Wildcard)) 0 bare
        ∙ ap (λ ms. ms ++ (false, false) ∷ []) (marks_same nodes at old new is has.plain has.exception)) (record {
          free = free;
          hit = child_wildcard more at ∙ wildcard_here ∙ ap Some (sym (length_paths nodes));
          apart = wildcard_apart;
          last = wildcard_last;
        })

    pub IsLinked-wildcard : Linked (length heads) (edges_of more) (nexts_of more) heads
    IsLinked-wildcard =
        let nexts : nexts_of more ≡ nexts_of nodes ++ 0 ∷ [] =
        nexts_push now leaf ∙ ap (λ x. nexts_of now ++ x ∷ []) bare.next
        ∙ ap (λ ns. ns ++ 0 ∷ []) (nexts_set nodes at old new is has.link) in
        subst (λ es. Linked (length heads) es (nexts_of more) heads) (sym wildcard_edges)
        (subst (λ ns. Linked (length heads) (edges_of nodes ++ Some (at, Wildcard) ∷ []) ns heads) (sym nexts)
        (Linked-wildcard (edges_of nodes) (nexts_of nodes) heads at linked
        (omega (arith, length_edges nodes, length_nexts nodes)) (omega (arith, within, length_edges nodes))))

-- ---- one rule after the other

-- the tree grew up to a node, with these labels of the rule left
pub record GrowsTo (old new : List Node) (at : ℕ) (left labels : List Label) : Type 0 where
  pub grown : IsGrown new
  pub within : at < length new
  pub here : left ++ get_or (paths new) at [] ≡ labels
  pub same : (rule : Rule) → Contains (rules_of new) rule ↔ Contains (rules_of old) rule

pub GrowsTo-none : (nodes : List Node) (labels : List Label) → IsGrown nodes → GrowsTo nodes nodes 0 labels labels
GrowsTo-none nodes labels grown = record {
  grown = grown;
  within = omega (arith, grown.some, length_paths nodes);
  here = ap (λ p. labels ++ p) grown.root ∙ append-nil labels;
  same = λ rule. (λ x. x, λ x. x);
}

pub GrowsTo-more : (old now new : List Node) (at next : ℕ) (left rest labels : List Label) (l : Label)
    → GrowsTo old now at left labels → left ≡ rest ++ l ∷ [] → IsBelow now new at l next
    → GrowsTo old new next rest labels
GrowsTo-more old now new at next left rest labels l so_far split below = record {
  grown = below.grown;
  within = below.within;
  here =
      ap (λ p. rest ++ p) below.here ∙ sym (append_assoc rest (l ∷ []) (get_or (paths now) at []))
      ∙ ap (λ xs. xs ++ get_or (paths now) at []) (sym split) ∙ so_far.here;
  same = λ rule.
      (λ x. (so_far.same rule).0 ((below.same rule).0 x), λ x. (below.same rule).1 ((so_far.same rule).1 x));
}

-- one node is marked
marks_set : (nodes : List Node) (at : ℕ) (new : Node) → marks_of (set nodes at new) ≡ set (marks_of nodes) at
    (new.plain, new.exception)
unfolding marks_of
marks_set nodes at new = map-set (λ n. (n.plain, n.exception)) nodes at new

pub marks_get : (nodes : List Node) (at : ℕ) (n : Node) → at < length nodes → n ≡ get_or nodes at n
    → get_or (marks_of nodes) at (false, false) ≡ (n.plain, n.exception)
unfolding marks_of
marks_get nodes at n within is = get_or-map (λ m. (m.plain, m.exception)) nodes at n (false, false) within
    ∙ ap (λ m. (m.plain, m.exception)) (sym is)

-- a node that leads to the same node by `*`
wildcard_set : (nodes : List Node) (at : ℕ) (old new : Node) → at < length nodes → old ≡ get_or nodes at old
    → new.wildcard ≡ old.wildcard → (i : ℕ) → i < length nodes → wildcard_at (set nodes at new) i ≡ wildcard_at nodes i
wildcard_set nodes at old new within is same i less =
    let size : length (set nodes at new) ≡ length nodes = length-set nodes at new in
    elim (cases_eq i at) [
      | inl here ↦
          ap (wildcard_at (set nodes at new)) here
          ∙ wildcard_get (set nodes at new) at new (omega (arith, within, size))
          ∙ ap (λ n. n.wildcard) (get_or-set_same nodes at new new within) ∙ same ∙ ap (λ n. n.wildcard) is
          ∙ sym (wildcard_get nodes at old within) ∙ ap (wildcard_at nodes) (sym here)
      | inr other ↦
          wildcard_get (set nodes at new) i new (omega (arith, less, size))
          ∙ ap (λ n. n.wildcard) (get_or-set_other nodes at i new new other) ∙ sym (wildcard_get nodes i new less)
    ]

pub Grown-same : (ps : List (List Label)) (old new : ℕ → Label → Option ℕ) → Grown ps old
    → ((i : ℕ) (k : Label) → i < length ps → new i k ≡ old i k) → Grown ps new
Grown-same ps old new was same = record {
  some = was.some;
  root = was.root;
  sound = λ i j k less is. was.sound i j k less (sym (same i k less) ∙ is);
  complete = λ j k p less is.
      let held = was.complete j k p less is in
      (held.0, held.1, held.2, same held.0 k held.1 ∙ held.3);
  unique = was.unique;
}

same_rule : (a b : Rule) → a.is_exception ≡ b.is_exception → a.labels ≡ b.labels → a ≡ b
same_rule a b kinds labels = ap (λ e. record { is_exception = e; labels = a.labels }) kinds
    ∙ ap (λ l. record { is_exception = b.is_exception; labels = l }) labels

set_marked : (ps : List (List Label)) (ms : List (Bool × Bool)) (at : ℕ) (old new : Bool
    × Bool) (kind : Bool) (labels : List Label) → length ps ≡ length ms → at < length ms
    → get_or ms at (false, false) ≡ old → get_or ps at [] ≡ labels → mark_of new kind ≡ true
    → ((other : Bool) → mark_of new other ≡ true → (other ≡ kind) ⊎ (mark_of old other ≡ true))
    → ((other : Bool) → mark_of old other ≡ true → mark_of new other ≡ true) → (rule : Rule)
    → Contains (marked ps (set ms at new)) rule ↔ (Contains (marked ps ms) rule
    ⊎ (rule ≡ record { is_exception = kind; labels = labels }))
set_marked ps ms at old new kind labels long within was path hit from keeps rule = (
  λ held.
      let is = from_marked ps (set ms at new) rule held in
      elim (cases_eq is.place at) [
        | inl here ↦
            let marks : get_or (set ms at new) is.place (false, false) ≡ new =
            ap (λ x. get_or (set ms at new) x (false, false)) here
            ∙ get_or-set_same ms at new (false, false) within in
            elim (from rule.is_exception (ap (λ m. mark_of m rule.is_exception) (sym marks) ∙ is.mark)) [
              | inl same ↦ inr (same_rule rule (record { is_exception = kind; labels = labels }) same (sym is.labels
                  ∙ ap (λ x. get_or ps x []) here ∙ path))
              | inr before ↦ inl (to_marked ps ms rule (record {
                place = is.place;
                in_paths = is.in_paths;
                in_marks = omega arith;
                labels = is.labels;
                mark = ap (λ x. mark_of (get_or ms x (false, false)) rule.is_exception) here
                    ∙ ap (λ m. mark_of m rule.is_exception) was ∙ before;
              }))
            ]
        | inr other ↦ inl (to_marked ps ms rule (record {
          place = is.place;
          in_paths = is.in_paths;
          in_marks = omega (arith, is.in_paths);
          labels = is.labels;
          mark = ap (λ m. mark_of m rule.is_exception) (sym (get_or-set_other ms at is.place new
              (false, false) other)) ∙ is.mark;
        }))
      ],
  λ held.
      elim held [
        | inl earlier ↦
            let is = from_marked ps ms rule earlier in
            to_marked ps (set ms at new) rule (record {
              place = is.place;
              in_paths = is.in_paths;
              in_marks = omega (arith, is.in_marks, length-set ms at new);
              labels = is.labels;
              mark =
                  elim (cases_eq is.place at) [
                    | inl here ↦
                        ap (λ x. mark_of (get_or (set ms at new) x (false, false)) rule.is_exception) here
                        ∙ ap (λ m. mark_of m rule.is_exception) (get_or-set_same ms at new (false, false) within)
                        ∙ keeps rule.is_exception (ap (λ m. mark_of m rule.is_exception) (sym was)
                        ∙ ap (λ x. mark_of (get_or ms x (false, false)) rule.is_exception) (sym here) ∙ is.mark)
                    | inr other ↦ ap (λ m. mark_of m rule.is_exception)
                        (get_or-set_other ms at is.place new (false, false) other) ∙ is.mark
                  ];
            })
        | inr same ↦
            subst (λ r. Contains (marked ps (set ms at new)) r) (sym same)
            (to_marked ps (set ms at new) (record { is_exception = kind; labels = labels }) (record {
              place = at;
              in_paths = omega arith;
              in_marks = omega (arith, length-set ms at new);
              labels = path;
              mark = ap (λ m. mark_of m kind) (get_or-set_same ms at new (false, false) within) ∙ hit;
            }))
      ],
)

HasMore-marks : (first nodes : List Node) (at : ℕ) (labels : List Label) (old new : Node) (kind : Bool)
    → GrowsTo first nodes at [] labels → old ≡ get_or nodes at old → Marks old new kind
    → HasMore first (set nodes at new) (record { is_exception = kind; labels = labels })
unfolding rules_of
HasMore-marks first nodes at labels old new kind to is marks =
    let edges = edges_set nodes at old new is marks.up in
    let kept : paths (set nodes at new) ≡ paths nodes = paths_same nodes (set nodes at new) edges in
    let set_is = marks_set nodes at new in
    let all : (rule : Rule) → Contains (marked (paths nodes) (set (marks_of nodes) at
    (new.plain, new.exception))) rule ↔ (Contains (marked (paths nodes) (marks_of nodes)) rule
    ⊎ (rule ≡ record { is_exception = kind; labels = labels })) =
    set_marked (paths nodes) (marks_of nodes) at (old.plain, old.exception) (new.plain, new.exception) kind labels
    (omega (arith, length_paths nodes, length_marks nodes)) (omega (arith, to.within, length_marks nodes))
    (marks_get nodes at old to.within is) to.here marks.here marks.added marks.kept in
    record {
      grown = subst (λ ps. Grown ps (child (set nodes at new))) (sym kept)
          (Grown-same (paths nodes) (child nodes) (child (set nodes at new)) to.grown
          (λ i k less. child_same nodes (set nodes at new) i k edges
          (wildcard_set nodes at old new to.within is marks.wildcard i (omega (arith, less, length_paths nodes)))));
      exact = λ rule. rw (kept, set_is) (
        λ held. elim ((all rule).0 held) [ inl earlier ↦ inl ((to.same rule).0 earlier) | inr same ↦ inr same ],
        λ held. elim held [
          | inl earlier ↦ (all rule).1 (inl ((to.same rule).1 earlier))
          | inr same ↦
              (all rule).1 (inr same)
        ],
      );
    }

pub HasMore-marked : (first nodes : List Node) (at : ℕ) (rule : Rule) (old new : Node) (kind : Bool)
    → rule.is_exception ≡ kind → GrowsTo first nodes at [] rule.labels → old ≡ get_or nodes at old
    → Marks old new kind → HasMore first (set nodes at new) rule
HasMore-marked first nodes at rule old new kind kinds to is marks =
    subst (HasMore first (set nodes at new))
    (same_rule (record { is_exception = kind; labels = rule.labels }) rule (sym kinds) refl)
    (HasMore-marks first nodes at rule.labels old new kind to is marks)

-- a mark leaves the table
pub IsLinked-marked : (nodes : List Node) (heads : List ℕ) (at : ℕ) (old new : Node) (kind : Bool)
    → old ≡ get_or nodes at old → Marks old new kind
    → Linked (length heads) (edges_of nodes) (nexts_of nodes) heads
    → Linked (length heads) (edges_of (set nodes at new)) (nexts_of (set nodes at new)) heads
IsLinked-marked nodes heads at old new kind is marks linked =
    subst (λ es. Linked (length heads) es (nexts_of (set nodes at new)) heads)
    (sym (edges_set nodes at old new is marks.up))
    (subst (λ ns. Linked (length heads) (edges_of nodes) ns heads)
    (sym (nexts_set nodes at old new is marks.link)) linked)

pub Marks-plain : (old new : Node) → new.up ≡ old.up → new.next ≡ old.next → new.wildcard ≡ old.wildcard
    → new.exception ≡ old.exception → new.plain ≡ true → Marks old new false
Marks-plain old new up link wildcard kept hit = record {
  up = up;
  link = link;
  wildcard = wildcard;
  here = hit;
  added = other_kind;
  kept = keeps;
}
  where
    other_kind : (other : Bool) → mark_of (new.plain, new.exception) other ≡ true → (other ≡ false)
        ⊎ (mark_of (old.plain, old.exception) other ≡ true)
    other_kind true e = inr (sym kept ∙ e)
    other_kind false e = inl refl

    keeps : (other : Bool) → mark_of (old.plain, old.exception) other ≡ true
        → mark_of (new.plain, new.exception) other ≡ true
    keeps true e = kept ∙ e
    keeps false e = hit

pub Marks-exception : (old new : Node) → new.up ≡ old.up → new.next ≡ old.next → new.wildcard ≡ old.wildcard
    → new.plain ≡ old.plain → new.exception ≡ true → Marks old new true
Marks-exception old new up link wildcard kept hit = record {
  up = up;
  link = link;
  wildcard = wildcard;
  here = hit;
  added = other_kind;
  kept = keeps;
}
  where
    other_kind : (other : Bool) → mark_of (new.plain, new.exception) other ≡ true → (other ≡ true)
        ⊎ (mark_of (old.plain, old.exception) other ≡ true)
    other_kind false e = inr (sym kept ∙ e)
    other_kind true e = inl refl

    keeps : (other : Bool) → mark_of (old.plain, old.exception) other ≡ true
        → mark_of (new.plain, new.exception) other ≡ true
    keeps false e = kept ∙ e
    keeps true e = hit

-- A walk down the tree, a label of the name a step.
use Rattle.std.proofs.Common.{◌≡◌, ℕ, ◌<◌, ◌≤◌, ◌+◌, ◌⊎◌, Bool, true, false, List, [], ◌∷◌, ◌++◌, length, Option, Some}
use Rattle.std.proofs.Common.{None, Contains, MatchOption, refl, sym, ap, subst, ◌∙◌, inl, inr, arith}
use Rattle.std.specs.Prelude.{get_or, IfSome}
use Rattle.std.specs.List.{AllZip}
use Rattle.std.proofs.lemmas.Bool.{false≢true}
use Rattle.std.proofs.lemmas.Option.{none-some}
use Rattle.std.proofs.lemmas.List.{append-nil, append_assoc, get_or_at, length-append, nil_from_length}
use Rattle.std.proofs.lemmas.Slice.Zip.{AllZip-long}
use Rattle.publicsuffix.specs.Prevailing.{Fits, GoesBefore, Matches, NoneMatches, Prevails}
use Rattle.publicsuffix.specs.Rules.{Label, Wildcard, Text, Rule}
use Rattle.publicsuffix.specs.Tree.{Grown, IsGrown, IsLeaf, Linked, child, edges_of, hangs_at, labels_at, mark_of}
use Rattle.publicsuffix.specs.Tree.{marks_of, nexts_of, one_later, paths, rules_of}
use Rattle.publicsuffix.proofs.TableLemmas.{Linked-root}
use Rattle.publicsuffix.specs.Walk.{FoundBefore, IsAt, IsFirst, IsFirstOf, Reaches, Tells, own_of, ways_by, ways_of}
use Rattle.publicsuffix.specs.declared.walk.Found.{Found}
use Rattle.publicsuffix.specs.declared.tree.Node.{Node}
use Rattle.publicsuffix.proofs.NodeLemmas.{length_marks, length_paths, marks_get}
use Rattle.publicsuffix.proofs.TreeLemmas.{from_marked, to_marked}

-- a list has a last element, or none
cases_push : {X : Type 0} (xs : List X) → (xs ≡ []) ⊎ ((ys : List X) × (y : X) × (xs ≡ ys ++ y ∷ []))
cases_push [] = inl refl
cases_push (x ∷ xs) =
    elim (cases_push xs) [
      | inl none ↦ inr ([], x, ap (λ ys. x ∷ ys) none)
      | inr some ↦ inr (x ∷ some.0, some.1, ap (λ ys. x ∷ ys) some.2)
    ]

-- the element that a place of the first list is paired with
zip_at : {A B : Type 0} (R : A → B → Type 0) (xs : List A) (x : A) (ys : List A) (bs : List B)
    → AllZip R (xs ++ x ∷ ys) bs → (front : List B) × (b : B) × (back : List B) × (bs ≡ front ++ b ∷ back) × R x b
    × (length back ≡ length ys)
zip_at R [] x ys [] all = absurd all
zip_at R [] x ys (b ∷ bs) all = ([], b, bs, refl, all.0, AllZip-long R ys bs all.1)
zip_at R (a ∷ xs) x ys [] all = absurd all
zip_at R (a ∷ xs) x ys (b ∷ bs) all =
    let rest = zip_at R xs x ys bs all.1 in
    (b ∷ rest.0, rest.1, rest.2, ap (λ zs. b ∷ zs) rest.3, rest.4, rest.5)

-- two cuts of a list with as much behind them
same_cut : {X : Type 0} (xs : List X) (x : X) (ys zs : List X) (z : X) (ws : List X) → xs ++ x ∷ ys ≡ zs ++ z ∷ ws
    → length ys ≡ length ws → x ≡ z
same_cut xs x ys zs z ws same long =
    let all = ap length same in
    let front : length xs ≡ length zs = omega (arith, all, length-append xs (x ∷ ys), length-append zs (z ∷ ws)) in
    sym (get_or_at xs x ys x (length xs) refl) ∙ ap (λ l. get_or l (length xs) x) same
    ∙ get_or_at zs z ws x (length xs) (sym front)

-- the next label of a rule that matches fits the name's
fits_next : (rule : Rule) (name : List (List ℕ)) (more : List Label) (l : Label) (path : List Label)
    (front : List (List ℕ)) (m : List ℕ) (back : List (List ℕ)) → Matches rule name → rule.labels ≡ more ++ l ∷ path
    → name ≡ front ++ m ∷ back → length back ≡ length path → Fits l m
fits_next rule name more l path front m back matches ends split long =
    let all = zip_at Fits more l path matches.back (subst (λ ls. AllZip Fits ls matches.back) ends matches.fit) in
    let whole : (matches.front ++ all.0) ++ all.1 ∷ all.2 ≡ front ++ m ∷ back =
    append_assoc matches.front all.0 (all.1 ∷ all.2) ∙ ap (λ xs. matches.front ++ xs) (sym all.3) ∙ sym matches.split
    ∙ split in
    subst (Fits l) (same_cut (matches.front ++ all.0) all.1 all.2 front m back whole (all.5 ∙ sym long)) all.4

abbrev pub Ends : List Rule → List (List ℕ) → List Label → Rule → Type 0
Ends rules name path rule = Reaches rules name path rule × (rule.labels ≡ path)

-- a rule that reaches a node ends there, or goes on by one of two labels
pub cases_reach : (rules : List Rule) (name : List (List ℕ)) (path : List Label) (front : List (List ℕ)) (m : List ℕ)
    (back : List (List ℕ)) → name ≡ front ++ m ∷ back → length back ≡ length path → (rule : Rule)
    → Reaches rules name path rule → Ends rules name path rule
    ⊎ (Reaches rules name (Text m ∷ path) rule ⊎ Reaches rules name (Wildcard ∷ path) rule)
cases_reach rules name path front m back split long rule to =
    elim (cases_push to.more) [
      | inl none ↦ inl (to, to.ends ∙ ap (λ ls. ls ++ path) none)
      | inr some ↦
          let ends : rule.labels ≡ some.0 ++ some.1 ∷ path = to.ends ∙ ap (λ ls. ls ++ path) some.2
          ∙ append_assoc some.0 (some.1 ∷ []) path in
          inr (by_label some.0 some.1 ends
          (fits_next rule name some.0 some.1 path front m back to.matches ends split long))
    ]
  where
    by_label : (more : List Label) (l : Label) → rule.labels ≡ more ++ l ∷ path → Fits l m
        → Reaches rules name (Text m ∷ path) rule ⊎ Reaches rules name (Wildcard ∷ path) rule
    by_label more Wildcard ends fits = inr (record {
      of_list = to.of_list;
      matches = to.matches;
      more = more;
      ends =
          ends;
    })
    by_label more (Text form) ends fits =
        inl (record {
          of_list = to.of_list;
          matches = to.matches;
          more = more;
          ends = ends
              ∙ ap (λ f. more ++ Text f ∷ path) (sym fits);
        })

pub reach_back : (rules : List Rule) (name : List (List ℕ)) (l : Label) (path : List Label) (rule : Rule)
    → Reaches rules name (l ∷ path) rule → Reaches rules name path rule
reach_back rules name l path rule to = record {
  of_list = to.of_list;
  matches = to.matches;
  more = to.more ++ l ∷ [];
  ends = to.ends ∙ sym (append_assoc to.more (l ∷ []) path);
}

-- where labels go on to a node, each end of them has a node
node_at : (ps : List (List Label)) (below : ℕ → Label → Option ℕ) (more path : List Label) (j : ℕ) → Grown ps below
    → j < length ps → get_or ps j [] ≡ more ++ path → (i : ℕ) × (i < length ps) × (get_or ps i [] ≡ path)
node_at ps below [] path j grown within is = (j, within, is)
node_at ps below (l ∷ more) path j grown within is =
    let above = grown.complete j l (more ++ path) within is in
    node_at ps below more path above.0 grown above.1 above.2

-- where there is no way down, no rule goes on
pub no_way : (nodes : List Node) (at : ℕ) (l : Label) (path : List Label) (rule : Rule) → IsGrown nodes
    → at < length (paths nodes) → get_or (paths nodes) at [] ≡ path → child nodes at l ≡ None
    → Contains (rules_of nodes) rule → (more : List Label) → rule.labels ≡ more ++ l ∷ path → ⊥
unfolding rules_of
no_way nodes at l path rule grown within here none held more ends =
    let is = from_marked (paths nodes) (marks_of nodes) rule held in
    let node = node_at (paths nodes) (child nodes) more (l ∷ path) is.place grown is.in_paths (is.labels ∙ ends) in
    let above = grown.complete node.0 l path node.1 node.2 in
    let same = grown.unique above.0 at above.1 within (above.2 ∙ sym here) in
    none-some node.0 (sym none ∙ ap (λ i. child nodes i l) (sym same) ∙ above.3)

-- ---- the first of two

-- the rule that is found is put before this one
abbrev pub IsBefore : Option Found → Rule → Type 0
IsBefore None rule = ⊥
IsBefore (Some found) rule =
    ((found.exception ≡ true) × (rule.is_exception ≡ false))
    ⊎ ((found.exception ≡ rule.is_exception) × (length rule.labels ≤ found.labels))

before_told : (f : Found) (r rule : Rule) → Tells f r → GoesBefore r rule → IsBefore (Some f) rule
before_told f r rule told (inl p) = inl (told.0 ∙ p.0, p.1)
before_told f r rule told (inr p) = inr (told.0 ∙ p.0, omega (arith, told.1, p.1))

told_before : (f : Found) (r rule : Rule) → Tells f r → IsBefore (Some f) rule → GoesBefore r rule
told_before f r rule told (inl p) = inl (sym told.0 ∙ p.0, p.1)
told_before f r rule told (inr p) = inr (sym told.0 ∙ p.0, omega (arith, told.1, p.1))

before_first : (S : Rule → Type 0) (found : Option Found) (rule : Rule) → IsFirst S found → S rule → IsBefore found rule
before_first S None rule none held = absurd (none rule held)
before_first S (Some f) rule is held = before_told f is.0 rule is.2 (is.3 rule held)

found_trans : (a b : Found) (rule : Rule) → FoundBefore a b → IsBefore (Some b) rule → IsBefore (Some a) rule
found_trans a b rule (inl p) (inl q) = inl (p.0, q.1)
found_trans a b rule (inl p) (inr q) = inl (p.0, sym q.0 ∙ p.1)
found_trans a b rule (inr p) (inl q) = inl (p.0 ∙ q.0, q.1)
found_trans a b rule (inr p) (inr q) = inr (p.0 ∙ q.0, omega (arith, p.1, q.1))

before_one : (one other first : Option Found) (rule : Rule) → IsFirstOf one other first → IsBefore one rule
    → IsBefore first rule
before_one None other first rule is before = absurd before
before_one (Some a) None first rule is before = subst (λ f. IsBefore f rule) (sym is) before
before_one (Some a) (Some b) first rule (inl p) before = subst (λ f. IsBefore f rule) (sym p.0) before
before_one (Some a) (Some b) first rule (inr p) before =
    subst (λ f. IsBefore f rule) (sym p.0) (found_trans b a rule p.1 before)

before_other : (one other first : Option Found) (rule : Rule) → IsFirstOf one other first → IsBefore other rule
    → IsBefore first rule
before_other None other first rule is before = subst (λ f. IsBefore f rule) (sym is) before
before_other (Some a) None first rule is before = absurd before
before_other (Some a) (Some b) first rule (inl p) before =
    subst (λ f. IsBefore f rule) (sym p.0) (found_trans a b rule p.1 before)
before_other (Some a) (Some b) first rule (inr p) before = subst (λ f. IsBefore f rule) (sym p.0) before

-- what is found is told of one of these rules
abbrev pub IsTold : (Rule → Type 0) → Option Found → Type 0
IsTold S found = IfSome found (λ f. (rule : Rule) × S rule × Tells f rule)

told_of_either : (S : Rule → Type 0) (one other first : Option Found) → IsFirstOf one other first → IsTold S one
    → IsTold S other → IsTold S first
told_of_either S None other first is a b = subst (IsTold S) (sym is) b
told_of_either S (Some f) None first is a b = subst (IsTold S) (sym is) a
told_of_either S (Some f) (Some g) first (inl p) a b = subst (IsTold S) (sym p.0) a
told_of_either S (Some f) (Some g) first (inr p) a b = subst (IsTold S) (sym p.0) b

told_first : (S T : Rule → Type 0) (found : Option Found) → ((rule : Rule) → S rule → T rule) → IsFirst S found
    → IsTold T found
told_first S T None to none = tt
told_first S T (Some f) to is = (is.0, to is.0 is.1, is.2)

first_told : (S : Rule → Type 0) (found : Option Found) → IsTold S found
    → ((rule : Rule) → S rule → IsBefore found rule) → IsFirst S found
first_told S None told before = before
first_told S (Some f) told before =
    (told.0, told.1, told.2, λ rule held. told_before f told.0 rule told.2 (before rule held))

-- the whole tree
pub Prevails-first : (rules : List Rule) (name : List (List ℕ)) (found : Found)
    → IsFirst (Reaches rules name []) (Some found) → (rule : Rule) × Prevails rules name rule × Tells found rule
Prevails-first rules name found is = (
  is.0,
  record {
    of_list = is.1.of_list;
    matches = is.1.matches;
    first = λ other held matches. is.3 other (record {
      of_list = held;
      matches = matches;
      more = other.labels;
      ends =
          sym (append-nil other.labels);
    });
  },
  is.2,
)

pub NoneMatches-first : (rules : List Rule) (name : List (List ℕ)) → IsFirst (Reaches rules name []) None
    → NoneMatches rules name
NoneMatches-first rules name none = λ rule held matches. none rule (record {
  of_list = held;
  matches = matches;
  more =
      rule.labels;
  ends = sym (append-nil rule.labels);
})

-- ---- one step

-- the way down at a label
pub IsAt-below : (nodes : List Node) (at : ℕ) (l : Label) (path : List Label) (found : Option ℕ)
    → IsGrown nodes → at < length nodes → get_or (paths nodes) at [] ≡ path
    → found ≡ child nodes at l → IsAt nodes found (l ∷ path)
unfolding rules_of
IsAt-below nodes at l path None grown within here way =
    λ rule more held ends.
    no_way nodes at l path rule grown (omega (arith, length_paths nodes)) here (sym way) held more ends
IsAt-below nodes at l path (Some j) grown within here way =
    (grown.sound at j l (omega (arith, length_paths nodes)) (sym way)).1 ∙ ap (λ p. l ∷ p) here

pub within-below : (nodes : List Node) (at : ℕ) (l : Label) (found : Option ℕ) → IsGrown nodes
    → at < length nodes → found ≡ child nodes at l → IfSome found (λ i. i < length nodes)
within-below nodes at l None grown within way = tt
within-below nodes at l (Some j) grown within way =
    let held = (grown.sound at j l (omega (arith, length_paths nodes)) (sym way)).0 in
    omega (arith, held, length_paths nodes)

-- the rules that end at a node
own_held : (nodes : List Node) (at : ℕ) (path : List Label) (n : Node) (rule : Rule) → IsGrown nodes
    → at < length nodes → n ≡ get_or nodes at n → get_or (paths nodes) at [] ≡ path → Contains (rules_of nodes) rule
    → rule.labels ≡ path → mark_of (n.plain, n.exception) rule.is_exception ≡ true
unfolding rules_of
own_held nodes at path n rule grown within is here held ends =
    let marks = from_marked (paths nodes) (marks_of nodes) rule held in
    let same = grown.unique marks.place at marks.in_paths (omega (arith, length_paths nodes)) (marks.labels ∙ ends
    ∙ sym here) in
    ap (λ m. mark_of m rule.is_exception) (sym (marks_get nodes at n within is))
    ∙ ap (λ i. mark_of (get_or (marks_of nodes) i (false, false)) rule.is_exception) (sym same) ∙ marks.mark

own_is : (nodes : List Node) (at : ℕ) (path : List Label) (n : Node) (kind : Bool) → at < length nodes
    → n ≡ get_or nodes at n → get_or (paths nodes) at [] ≡ path → mark_of (n.plain, n.exception) kind ≡ true
    → Contains (rules_of nodes) (record { is_exception = kind; labels = path })
unfolding rules_of
own_is nodes at path n kind within is here mark =
    to_marked (paths nodes) (marks_of nodes) (record { is_exception = kind; labels = path }) (record {
      place = at;
      in_paths = omega (arith, length_paths nodes);
      in_marks = omega (arith, length_marks nodes);
      labels = here;
      mark = ap (λ m. mark_of m kind) (marks_get nodes at n within is) ∙ mark;
    })

own_found : (S : Rule → Type 0) (path : List Label) (plain exception : Bool) (depth : ℕ) → depth ≡ length path
    → ((rule : Rule) → S rule → rule.labels ≡ path) → ((rule : Rule) → S rule
    → mark_of (plain, exception) rule.is_exception ≡ true) → ((kind : Bool) → mark_of (plain, exception) kind ≡ true
    → S (record { is_exception = kind; labels = path })) → IsFirst S (own_of plain exception depth)
own_found S path plain true depth long ends marks is = (
  record { is_exception = true; labels = path },
  is true refl,
  (refl, long),
  λ rule held. by_kind rule rule.is_exception refl (ends rule held),
)
  where
    by_kind : (rule : Rule) (kind : Bool) → rule.is_exception ≡ kind → rule.labels ≡ path
        → GoesBefore (record { is_exception = true; labels = path }) rule
    by_kind rule true e same = inr (sym e, omega (arith, ap length same))
    by_kind rule false e same = inl (refl, e)
own_found S path true false depth long ends marks is = (
  record { is_exception = false; labels = path },
  is false refl,
  (refl, long),
  λ rule held. by_kind rule rule.is_exception refl (ends rule held) (marks rule held),
)
  where
    by_kind : (rule : Rule) (kind : Bool) → rule.is_exception ≡ kind → rule.labels ≡ path
        → mark_of (true, false) rule.is_exception ≡ true → GoesBefore (record {
          is_exception = false;
          labels =
              path;
        }) rule
    by_kind rule true e same mark = absurd (false≢true (ap (mark_of (true, false)) (sym e) ∙ mark))
    by_kind rule false e same mark = inr (sym e, omega (arith, ap length same))
own_found S path false false depth long ends marks is =
    λ rule held. unmarked rule.is_exception (marks rule held)
  where
    unmarked : (kind : Bool) → mark_of (false, false) kind ≡ true → ⊥
    unmarked true e = false≢true e
    unmarked false e = false≢true e

-- the rule at a node that is put first there
pub IsFirst-own : (nodes : List Node) (at : ℕ) (front back : List (List ℕ)) (path : List Label) (n : Node) (depth : ℕ)
    → IsGrown nodes → at < length nodes → n ≡ get_or nodes at n → get_or (paths nodes) at [] ≡ path
    → AllZip Fits path back → depth ≡ length path → IsFirst (Ends (rules_of nodes) (front ++ back) path)
    (own_of n.plain n.exception depth)
IsFirst-own nodes at front back path n depth grown within is here fits long =
    own_found (Ends (rules_of nodes) (front ++ back) path) path n.plain n.exception depth long (λ rule held. held.1)
    (λ rule held. own_held nodes at path n rule grown within is here held.0.of_list held.1)
    (λ kind mark. (
      record {
        of_list = own_is nodes at path n kind within is here mark;
        matches = record { front = front; back = back; split = refl; fit = fits };
        more = [];
        ends = refl;
      },
      refl,
    ))

ends_here : (rules : List Rule) (back : List (List ℕ)) (path : List Label) → AllZip Fits path back → (rule : Rule)
    → Reaches rules back path rule → rule.labels ≡ path
ends_here rules back path fits rule to =
    let long = AllZip-long Fits path back fits in
    let fit = AllZip-long Fits rule.labels to.matches.back to.matches.fit in
    let none : to.more ≡ [] =
    nil_from_length to.more
    (omega (
      arith,
      long,
      fit,
      ap length to.matches.split,
      length-append to.matches.front to.matches.back,
      ap
          length to.ends,
      length-append to.more path,
    )) in
    to.ends ∙ ap (λ ls. ls ++ path) none

-- ---- the walk so far

-- The walk stands at a node for these labels of the rules that it goes on to, which the name's last labels fit. Of the
-- rules that match and end in the labels where it began, what is found is told of one and put before all but those
-- that it goes on to.
pub record Walked (nodes : List Node) (name : List (List ℕ)) (from : List Label) (way : Option ℕ) (depth : ℕ)
    (rest : List (List ℕ)) (found : Option Found) : Type 0 where
  pub path : List Label
  pub back : List (List ℕ)
  pub here : IsAt nodes way path
  pub fits : AllZip Fits path back
  pub long : depth ≡ length path
  pub split : name ≡ rest ++ back
  pub told : IsTold (Reaches (rules_of nodes) name from) found
  pub before : (rule : Rule) → Reaches (rules_of nodes) name from rule → IsBefore found rule
      ⊎ Reaches (rules_of nodes) name path rule
  pub of_from : (rule : Rule) → Reaches (rules_of nodes) name path rule → Reaches (rules_of nodes) name from rule

-- the walk so far, and what keeps it in bounds
pub record IsOnWay (nodes : List Node) (start : Option ℕ) (begin : ℕ) (labels : List (List ℕ)) (way : Option ℕ)
    (depth : ℕ) (rest : List (List ℕ)) (found : Option Found) : Type 0 where
  pub within : IfSome way (λ i. i < length nodes)
  pub counted : depth + length rest ≡ begin + length labels
  pub fewer : length rest ≤ length labels
  pub walked : (path : List Label) (back : List (List ℕ)) → IsAt nodes start path → AllZip Fits path back
      → begin ≡ length path → Walked nodes (labels ++ back) path way depth rest found

pub Walked-begin : (nodes : List Node) (rest back : List (List ℕ)) (path : List Label) (way : Option ℕ) (depth : ℕ)
    → IsAt nodes way path → AllZip Fits path back → depth ≡ length path
    → Walked nodes (rest ++ back) path way depth rest None
Walked-begin nodes rest back path way depth here fits long = record {
  path = path;
  back = back;
  here = here;
  fits = fits;
  long = long;
  split = refl;
  told = tt;
  before = λ rule to. inr to;
  of_from = λ rule to. to;
}

-- no way is left
pub IsFirst-nowhere : (nodes : List Node) (name : List (List ℕ)) (from : List Label) (depth : ℕ)
    (rest : List (List ℕ)) (found : Option Found) → Walked nodes name from None depth rest found
    → IsFirst (Reaches (rules_of nodes) name from) found
IsFirst-nowhere nodes name from depth rest found walked =
    first_told (Reaches (rules_of nodes) name from) found walked.told
    (λ rule to. elim (walked.before rule to) [
      | inl before ↦ before
      | inr on ↦ absurd (walked.here rule on.more on.of_list on.ends)
    ])

-- the two ways that a label of the name fits, each with the labels of the node that it leads to
record Parts (nodes : List Node) (m : List ℕ) (path : List Label) (next other : Option ℕ) : Type 0 where
  first : Label
  second : Label
  next_at : IsAt nodes next (first ∷ path)
  other_at : IsAt nodes other (second ∷ path)
  first_fits : Fits first m
  second_fits : Fits second m
  all : (rules : List Rule) (name : List (List ℕ)) (rule : Rule) → Reaches rules name (Text m ∷ path) rule
      ⊎ Reaches rules name (Wildcard ∷ path) rule → Reaches rules name (first ∷ path) rule
      ⊎ Reaches rules name (second ∷ path) rule

first_alone : (found : Option Found) → IsFirstOf found None found
first_alone None = refl
first_alone (Some f) = refl

turn : {A B : Type 0} → A ⊎ B → B ⊎ A
turn (inl a) = inr a
turn (inr b) = inl b

ways_part : (nodes : List Node) (m : List ℕ) (path : List Label) (text wildcard : Option ℕ)
    → IsAt nodes text (Text m ∷ path) → IsAt nodes wildcard (Wildcard ∷ path)
    → Parts nodes m path (ways_by text wildcard).0 (ways_by text wildcard).1
ways_part nodes m path None wildcard at_text at_wildcard = record {
  first = Wildcard;
  second = Text m;
  next_at = at_wildcard;
  other_at = at_text;
  first_fits = tt;
  second_fits = refl;
  all = λ rules name rule either. turn either;
}
ways_part nodes m path (Some text) wildcard at_text at_wildcard = record {
  first = Text m;
  second = Wildcard;
  next_at = at_text;
  other_at = at_wildcard;
  first_fits = refl;
  second_fits = tt;
  all = λ rules name rule either. either;
}

ways_within : (nodes : List Node) (text wildcard : Option ℕ) → IfSome text (λ i. i < length nodes)
    → IfSome wildcard (λ i. i < length nodes) → IfSome (ways_by text wildcard).0 (λ i. i < length nodes)
    × IfSome (ways_by text wildcard).1 (λ i. i < length nodes)
ways_within nodes None wildcard of_text of_wildcard = (of_wildcard, tt)
ways_within nodes (Some text) wildcard of_text of_wildcard = (of_text, of_wildcard)

module _ (nodes : List Node) (at : ℕ) (n : Node) (grown : IsGrown nodes) (within : at < length nodes)
    (is : n ≡ get_or nodes at n) where
  abbrev rules : List Rule
  rules = rules_of nodes

  -- the rules that end at the node
  own_first : (name : List (List ℕ)) (path : List Label) (front back : List (List ℕ)) (depth : ℕ)
      → name ≡ front ++ back → get_or (paths nodes) at [] ≡ path → AllZip Fits path back → depth ≡ length path
      → IsFirst (Ends rules name path) (own_of n.plain n.exception depth)
  own_first name path front back depth split here fits long =
      subst (λ x. IsFirst (Ends rules x path) (own_of n.plain n.exception depth)) (sym split)
      (IsFirst-own nodes at front back path n depth grown within is here fits long)

  -- the two ways lead to nodes
  pub within-ways : (m : List ℕ) (ways : Option ℕ × Option ℕ) → ways ≡ ways_of nodes at m
      → IfSome ways.0 (λ i. i < length nodes) × IfSome ways.1 (λ i. i < length nodes)
  within-ways m ways are =
      subst (λ w. IfSome w.0 (λ i. i < length nodes) × IfSome w.1 (λ i. i < length nodes)) (sym are)
      (ways_within nodes (child nodes at (Text m)) (child nodes at Wildcard)
      (within-below nodes at (Text m) (child nodes at (Text m)) grown within refl)
      (within-below nodes at Wildcard (child nodes at Wildcard) grown within refl))

  -- the name has no label left
  pub IsFirst-end : (name : List (List ℕ)) (from : List Label) (depth : ℕ) (found last : Option Found)
      → Walked nodes name from (Some at) depth [] found → IsFirstOf found (own_of n.plain n.exception depth) last
      → IsFirst (Reaches rules name from) last
  IsFirst-end name from depth found last walked is_last =
      let own = own_first name walked.path [] walked.back depth walked.split walked.here walked.fits walked.long in
      first_told (Reaches rules name from) last
      (told_of_either (Reaches rules name from) found (own_of n.plain n.exception depth) last is_last walked.told
      (told_first (Ends rules name walked.path) (Reaches rules name from) (own_of n.plain n.exception depth)
      (λ rule ends. walked.of_from rule ends.0) own))
      (λ rule to. elim (walked.before rule to) [
        | inl before ↦ before_one found (own_of n.plain n.exception depth) last rule is_last before
        | inr on ↦
            before_other found (own_of n.plain n.exception depth) last rule is_last
            (before_first (Ends rules name walked.path) (own_of n.plain n.exception depth) rule own (
              on,
              ends_here rules name walked.path (subst (AllZip Fits walked.path)
                  (sym walked.split) walked.fits) rule on,
            ))
      ])

  -- one label of the name
  pub Walked-step : (name : List (List ℕ)) (from : List Label) (depth : ℕ) (rest front : List (List ℕ)) (m : List ℕ)
      (found middle aside last : Option Found) (ways : Option ℕ × Option ℕ) → rest ≡ front ++ m ∷ []
      → Walked nodes name from (Some at) depth rest found → ways ≡ ways_of nodes at m
      → IsFirstOf found (own_of n.plain n.exception depth) middle
      → ((path : List Label) (back : List (List ℕ)) → IsAt nodes ways.1 path → AllZip Fits path back
      → depth + 1 ≡ length path → IsFirst (Reaches rules (front ++ back) path) aside) → IsFirstOf middle aside last
      → Walked nodes name from ways.0 (depth + 1) front last
  Walked-step name from depth rest front m found middle aside last ways cut walked are is_middle of_aside is_last =
      let path = walked.path in
      let back = walked.back in
      let split : name ≡ front ++ m ∷ back = walked.split ∙ ap (λ xs. xs ++ back) cut
      ∙ append_assoc front (m ∷ []) back in
      let own_found = own_of n.plain n.exception depth in
      let own = own_first name path rest back depth walked.split walked.here walked.fits walked.long in
      let parts : Parts nodes m path ways.0 ways.1 =
      subst (λ w. Parts nodes m path w.0 w.1) (sym are)
      (ways_part nodes m path (child nodes at (Text m)) (child nodes at Wildcard)
      (IsAt-below nodes at (Text m) path (child nodes at (Text m)) grown within walked.here refl)
      (IsAt-below nodes at Wildcard path (child nodes at Wildcard) grown within walked.here refl)) in
      let beside : IsFirst (Reaches rules name (parts.second ∷ path)) aside =
      subst (λ x. IsFirst (Reaches rules x (parts.second ∷ path)) aside) (sym split)
      (of_aside (parts.second ∷ path) (m ∷ back) parts.other_at (parts.second_fits, walked.fits)
      (omega (arith, walked.long))) in
      let fine : length back ≡ length path = AllZip-long Fits path back walked.fits in
      let From : Rule → Type 0 = Reaches rules name from in
      let one : (rule : Rule) → IsBefore middle rule → IsBefore last rule =
      λ rule before. before_one middle aside last rule is_last before in
      record {
        path = parts.first ∷ path;
        back = m ∷ back;
        here = parts.next_at;
        fits = (parts.first_fits, walked.fits);
        long = omega (arith, walked.long);
        split = split;
        told =
            told_of_either From middle aside last is_last
            (told_of_either From found own_found middle is_middle walked.told
            (told_first (Ends rules name path) From own_found (λ rule ends. walked.of_from rule ends.0) own))
            (told_first (Reaches rules name (parts.second ∷ path)) From aside
            (λ rule on. walked.of_from rule (reach_back rules name parts.second path rule on)) beside);
        before = λ rule to.
            elim (walked.before rule to) [
              | inl before ↦ inl (one rule (before_one found own_found middle rule is_middle before))
              | inr on ↦
                  elim (cases_reach rules name path front m back split fine rule on) [
                    | inl ends ↦ inl (one rule (before_other found own_found middle rule is_middle
                        (before_first (Ends rules name path) own_found rule own ends)))
                    | inr further ↦
                        elim (parts.all rules name rule further) [
                          | inl along ↦ inr along
                          | inr away ↦ inl (before_other middle aside last rule is_last
                              (before_first (Reaches rules name (parts.second ∷ path)) aside rule beside away))
                        ]
                  ]
            ];
        of_from = λ rule on. walked.of_from rule (reach_back rules name parts.first path rule on);
      }

-- the whole walk
pub prevails_from_walk : (nodes : List Node) (name left : List (List ℕ)) (found : Option Found) → left ≡ name
    → IsFirst (Reaches (rules_of nodes) (left ++ []) []) found
    → MatchOption found (NoneMatches (rules_of nodes) name) (λ f. (rule : Rule) × Prevails (rules_of nodes) name rule
    × Tells f rule)
prevails_from_walk nodes name left found is first =
    by_found found (subst (λ n. IsFirst (Reaches (rules_of nodes) n []) found) (append-nil left ∙ is) first)
  where
    by_found : (f : Option Found) → IsFirst (Reaches (rules_of nodes) name []) f
        → MatchOption f (NoneMatches (rules_of nodes) name) (λ g. (rule : Rule) × Prevails (rules_of nodes) name rule
        × Tells g rule)
    by_found None none = NoneMatches-first (rules_of nodes) name none
    by_found (Some f) some = Prevails-first (rules_of nodes) name f some

-- the root alone
pub root_grown : (leaf : Node) → IsLeaf leaf None 0 → IsGrown (leaf ∷ [])
    × ((rule : Rule) → Contains (rules_of (leaf ∷ [])) rule → ⊥)
unfolding paths child rules_of marks_of edges_of
root_grown leaf is =
    let here : paths (leaf ∷ []) ≡ [] ∷ [] = ap (λ e. labels_at [] e ∷ []) is.hangs in
    let nothing : (i j : ℕ) (l : Label) → i < 1 → child (leaf ∷ []) i l ≡ Some j → ⊥ = λ i j l less way.
    let first : i ≡ 0 = omega arith in
    none-some j (sym (bare l) ∙ ap (λ x. child (leaf ∷ []) x l) (sym first) ∙ way) in (
      subst (λ ps. Grown ps (child (leaf ∷ []))) (sym here) (record {
        some = omega arith;
        root = refl;
        sound = λ i j l less way. absurd (nothing i j l less way);
        complete = λ j l p less same.
            let first : j ≡ 0 = omega arith in
            absurd (nil_or l p (ap (λ x. get_or ([] ∷ []) x []) (sym first) ∙ same));
        unique = λ i j less more same. omega arith;
      }),
      λ rule held.
          let marks = from_marked (paths (leaf ∷ [])) (marks_of (leaf ∷ [])) rule held in
          let first : marks.place ≡ 0 = omega (arith, marks.in_marks) in
          unmarked rule.is_exception (ap (λ b. mark_of (b, leaf.exception) rule.is_exception) (sym is.plain)
          ∙ ap (λ x. mark_of (get_or (marks_of (leaf ∷ [])) x (false, false)) rule.is_exception) (sym first)
          ∙ marks.mark),
    )
  where
    bare : (l : Label) → child (leaf ∷ []) 0 l ≡ None
    bare Wildcard = is.wildcard
    bare (Text form) = ap (λ e. one_later None (hangs_at 0 form e)) is.hangs

    nil_or : (l : Label) (p : List Label) → [] ≡ l ∷ p → ⊥
    nil_or l p e = absurd (omega (arith, ap length e))

    unmarked : (kind : Bool) → mark_of (false, leaf.exception) kind ≡ true → ⊥
    unmarked true e = false≢true (sym is.exception ∙ e)
    unmarked false e = false≢true e

pub root_linked : (leaf : Node) (heads : List ℕ) → IsLeaf leaf None 0 → 0 < length heads
    → ((b : ℕ) → b < length heads → get_or heads b 0 ≡ 0)
    → Linked (length heads) (edges_of (leaf ∷ [])) (nexts_of (leaf ∷ [])) heads
unfolding edges_of nexts_of
root_linked leaf heads is some none =
    subst (λ e. Linked (length heads) (e ∷ []) (leaf.next ∷ []) heads) (sym is.hangs)
    (subst (λ x. Linked (length heads) (None ∷ []) (x ∷ []) heads) (sym is.next)
    (Linked-root (length heads) heads some none))

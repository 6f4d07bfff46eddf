-- A tree of labels: what each node stands for, and the rules that are marked.
use Rattle.std.proofs.Common.{◌≡◌, ℕ, ◌<◌, ◌+◌, ◌⊎◌, Bool, true, false, ◌||◌, List, [], ◌∷◌, ◌++◌, map, length, Option}
use Rattle.std.proofs.Common.{Some, None, nat_lt}
use Rattle.std.specs.List.{list_any}
use Rattle.std.proofs.Common.{Contains, suc, zero, refl, sym, ap, subst, ◌∙◌, inl, inr, arith}
use Rattle.std.specs.Prelude.{get_or}
use Rattle.std.proofs.lemmas.Bool.{cases_lt, false≢true, lt-ltb}
use Rattle.std.proofs.lemmas.Option.{none-some, same_Some}
use Rattle.std.proofs.lemmas.List.{get_or_append_left, get_or_push, length_push}
use Rattle.std.proofs.lemmas.List.Elements.{Contains-append_left, Contains-append_right, Contains-append_cases}
use Rattle.std.proofs.lemmas.List.Elements.{Contains-push, Contains-push_cases}
use Rattle.publicsuffix.specs.Rules.{Label, Rule}
use Rattle.publicsuffix.specs.Tree.{Grown, grow, is_marked, labels_at, mark_of, marked, rules_at}
use Rattle.publicsuffix.specs.declared.tree.Node.{Node}

grow_append : (ps : List (List Label)) (es fs : List (Option (ℕ × Label))) → grow ps (es ++ fs) ≡ grow (grow ps es) fs
grow_append ps [] fs = refl
grow_append ps (e ∷ es) fs = grow_append (ps ++ labels_at ps e ∷ []) es fs

pub length_grow : (ps : List (List Label)) (es : List (Option (ℕ × Label)))
    → length (grow ps es) ≡ length ps + length es
length_grow ps [] = omega arith
length_grow ps (e ∷ es) = omega (arith, length_grow (ps ++ labels_at ps e ∷ []) es, length_push ps (labels_at ps e))

pub grow_push : (es : List (Option (ℕ × Label))) (e : Option (ℕ × Label))
    → grow [] (es ++ e ∷ []) ≡ grow [] es ++ labels_at (grow [] es) e ∷ []
grow_push es e = grow_append [] es (e ∷ [])

same_head : {X : Type 0} (x y : X) (xs ys : List X) → x ∷ xs ≡ y ∷ ys → x ≡ y
same_head x y xs ys e = cc

same_tail : {X : Type 0} (x y : X) (xs ys : List X) → x ∷ xs ≡ y ∷ ys → xs ≡ ys
same_tail x y xs ys e = cc

-- what one look-up gives after a new node hangs at a label of another
pub record Hangs (ps : List (List Label)) (old new : ℕ → Label → Option ℕ) (at : ℕ) (l : Label) : Type 0 where
  pub free : old at l ≡ None
  pub hit : new at l ≡ Some (length ps)
  pub apart : (i : ℕ) (k : Label) → i < length ps → ((i ≡ at) × (l ≡ k)) ⊎ (new i k ≡ old i k)
  pub last : (k : Label) → new (length ps) k ≡ None

cases_last : (i n : ℕ) → i < n + 1 → (i < n) ⊎ (i ≡ n)
cases_last i n below =
    elim (cases_lt i n) [
      | inl less ↦ inl less
      | inr more ↦ inr (omega arith)
    ]

module _ (ps : List (List Label)) (old new : ℕ → Label → Option ℕ) (at : ℕ) (l : Label) (was : Grown ps old)
    (within : at < length ps) (hangs : Hangs ps old new at l) where
  abbrev labels : List Label
  labels = l ∷ get_or ps at []

  abbrev now : List (List Label)
  now = ps ++ labels ∷ []

  before : (i : ℕ) → i < length ps → get_or now i [] ≡ get_or ps i []
  before i less = get_or_append_left ps (labels ∷ []) [] i less

  here : get_or now (length ps) [] ≡ labels
  here = get_or_push ps labels [] (length ps) refl

  longer : length now ≡ length ps + 1
  longer = length_push ps labels

  sound_at : (i j : ℕ) (k : Label) → i < length ps → new i k ≡ Some j → (j < length now)
      × (get_or now j [] ≡ k ∷ get_or now i [])
  sound_at i j k less is =
      elim (hangs.apart i k less) [
        | inl new_one ↦
            let at_last : length ps ≡ j = same_Some (length ps) j (sym hangs.hit ∙ ap (λ x. new x l) (sym new_one.0)
            ∙ ap (new i) new_one.1 ∙ is) in (
              omega (arith, longer, at_last),
              ap (λ x. get_or now x []) (sym at_last) ∙ here ∙ ap (λ x. x ∷ get_or ps at []) new_one.1
                  ∙ ap (λ x. k ∷ get_or ps x []) (sym new_one.0) ∙ ap (λ x. k ∷ x) (sym (before i less)),
            )
        | inr kept ↦
            let held = was.sound i j k less (sym kept ∙ is) in
            (omega (arith, longer, held.0), before j held.0 ∙ held.1 ∙ ap (λ x. k ∷ x) (sym (before i less)))
      ]

  complete_at : (j : ℕ) (k : Label) (p : List Label) → j < length ps → get_or now j [] ≡ k ∷ p → (i : ℕ)
      × (i < length now) × (get_or now i [] ≡ p) × (new i k ≡ Some j)
  complete_at j k p less is =
      let held = was.complete j k p less (sym (before j less) ∙ is) in
      let way : new held.0 k ≡ Some j =
      elim (hangs.apart held.0 k held.1) [
        | inl new_one ↦ absurd (none-some j (sym hangs.free ∙ ap (λ x. old x l) (sym new_one.0)
            ∙ ap (old held.0) new_one.1 ∙ held.3))
        | inr kept ↦ kept ∙ held.3
      ] in
      (held.0, omega (arith, longer, held.1), before held.0 held.1 ∙ held.2, way)

  only : (j : ℕ) → j < length ps → get_or ps j [] ≡ labels → ⊥
  only j less is =
      let held = was.complete j l (get_or ps at []) less is in
      let same = was.unique held.0 at held.1 within held.2 in
      none-some j (sym hangs.free ∙ ap (λ x. old x l) (sym same) ∙ held.3)

  pub Grown-hangs : Grown now new
  Grown-hangs = record {
    some = omega (arith, longer);
    root = before 0 was.some ∙ was.root;
    sound = λ i j k less is.
        elim (cases_last i (length ps) (omega (arith, longer, less))) [
          | inl earlier ↦ sound_at i j k earlier is
          | inr last ↦ absurd (none-some j (sym (hangs.last k) ∙ ap (λ x. new x k) (sym last) ∙ is))
        ];
    complete = λ j k p less is.
        elim (cases_last j (length ps) (omega (arith, longer, less))) [
          | inl earlier ↦ complete_at j k p earlier is
          | inr last ↦
              let whole : labels ≡ k ∷ p = sym here ∙ ap (λ x. get_or now x []) (sym last) ∙ is in (
                at,
                omega (arith, longer),
                before at within ∙ same_tail l k (get_or ps at []) p whole,
                ap (new at) (sym (same_head l k (get_or ps at []) p whole)) ∙ hangs.hit ∙ ap Some (sym last),
              )
        ];
    unique = λ i j less_i less_j same.
        elim (cases_last i (length ps) (omega (arith, longer, less_i))) [
          | inl i_earlier ↦
              elim (cases_last j (length ps) (omega (arith, longer, less_j))) [
                | inl j_earlier ↦ was.unique i j i_earlier j_earlier (sym (before i i_earlier) ∙ same
                    ∙ before j j_earlier)
                | inr j_last ↦ absurd (only i i_earlier (sym (before i i_earlier) ∙ same
                    ∙ ap (λ x. get_or now x []) j_last ∙ here))
              ]
          | inr i_last ↦
              elim (cases_last j (length ps) (omega (arith, longer, less_j))) [
                | inl j_earlier ↦ absurd (only j j_earlier (sym (before j j_earlier) ∙ sym same
                    ∙ ap (λ x. get_or now x []) i_last ∙ here))
                | inr j_last ↦ i_last ∙ sym j_last
              ]
        ];
  }

-- ---- the rules that are marked

-- the rule is marked at a node that stands for its labels
pub record IsMarked (ps : List (List Label)) (marks : List (Bool × Bool)) (rule : Rule) : Type 0 where
  pub place : ℕ
  pub in_paths : place < length ps
  pub in_marks : place < length marks
  pub labels : get_or ps place [] ≡ rule.labels
  pub mark : mark_of (get_or marks place (false, false)) rule.is_exception ≡ true

one_element : {X : Type 0} (x y : X) → Contains (x ∷ []) y → x ≡ y
one_element x y held =
    elim (Contains-push_cases [] x y held) [
      | inl none ↦ absurd (omega (arith, none.1))
      | inr same ↦ same
    ]

from_rules_at : (p : List Label) (plain exception : Bool) (rule : Rule)
    → Contains (rules_at p (plain, exception)) rule → (p ≡ rule.labels)
    × (mark_of (plain, exception) rule.is_exception ≡ true)
from_rules_at p true true rule held =
    elim (Contains-append_cases (record { is_exception = false; labels = p } ∷ []) (record {
      is_exception =
          true;
      labels = p;
    } ∷ []) rule held) [
      | inl one ↦ let e = one_element _ rule one in (
        ap (λ r. r.labels) e,
        ap
            (λ r. mark_of (true, true) r.is_exception) (sym e),
      )
      | inr other ↦ let e = one_element _ rule other in (
        ap (λ r. r.labels) e,
        ap
            (λ r. mark_of (true, true) r.is_exception) (sym e),
      )
    ]
from_rules_at p true false rule held =
    let e = one_element (record { is_exception = false; labels = p }) rule held in
    (ap (λ r. r.labels) e, ap (λ r. mark_of (true, false) r.is_exception) (sym e))
from_rules_at p false true rule held =
    let e = one_element (record { is_exception = true; labels = p }) rule held in
    (ap (λ r. r.labels) e, ap (λ r. mark_of (false, true) r.is_exception) (sym e))
from_rules_at p false false rule held = absurd (omega (arith, held.1))

to_rules_at : (p : List Label) (plain exception kind : Bool) → mark_of (plain, exception) kind ≡ true
    → Contains (rules_at p (plain, exception)) (record { is_exception = kind; labels = p })
to_rules_at p true true true e = Contains-push (record {
  is_exception = false;
  labels =
      p;
} ∷ []) (record { is_exception = true; labels = p })
to_rules_at p false true true e = Contains-push [] (record { is_exception = true; labels = p })
to_rules_at p true true false e = Contains-append_left (record {
  is_exception = false;
  labels =
      p;
} ∷ []) (record { is_exception = true; labels = p } ∷ []) (record {
  is_exception = false;
  labels =
      p;
}) (Contains-push [] (record { is_exception = false; labels = p }))
to_rules_at p true false false e = Contains-push [] (record { is_exception = false; labels = p })
to_rules_at p plain false true e = absurd (false≢true e)
to_rules_at p false exception false e = absurd (false≢true e)

pub from_marked : (ps : List (List Label)) (marks : List (Bool × Bool)) (rule : Rule)
    → Contains (marked ps marks) rule → IsMarked ps marks rule
from_marked [] marks rule held = absurd (omega (arith, held.1))
from_marked (p ∷ ps) [] rule held = absurd (omega (arith, held.1))
from_marked (p ∷ ps) (m ∷ ms) rule held =
    elim (Contains-append_cases (rules_at p m) (marked ps ms) rule held) [
      | inl first ↦
          let is = from_rules_at p m.0 m.1 rule first in
          record { place = 0; in_paths = omega arith; in_marks = omega arith; labels = is.0; mark = is.1 }
      | inr later ↦
          let is = from_marked ps ms rule later in
          record {
            place = suc is.place;
            in_paths = omega (arith, is.in_paths);
            in_marks =
                omega (arith, is.in_marks);
            labels = is.labels;
            mark = is.mark;
          }
    ]

to_marked_at : (ps : List (List Label)) (marks : List (Bool × Bool)) (kind : Bool) (place : ℕ) → place < length ps
    → place < length marks → mark_of (get_or marks place (false, false)) kind ≡ true
    → Contains (marked ps marks) (record { is_exception = kind; labels = get_or ps place [] })
to_marked_at [] marks kind place in_paths in_marks is = absurd (omega arith)
to_marked_at (p ∷ ps) [] kind place in_paths in_marks is = absurd (omega arith)
to_marked_at (p ∷ ps) (m ∷ ms) kind zero in_paths in_marks is =
    Contains-append_left (rules_at p m) (marked ps ms) _ (to_rules_at p m.0 m.1 kind is)
to_marked_at (p ∷ ps) (m ∷ ms) kind (suc place) in_paths in_marks is =
    Contains-append_right (rules_at p m) (marked ps ms) _ (to_marked_at ps ms kind place (omega arith) (omega arith) is)

pub to_marked : (ps : List (List Label)) (marks : List (Bool × Bool)) (rule : Rule) → IsMarked ps marks rule
    → Contains (marked ps marks) rule
to_marked ps marks rule is =
    subst (λ x. Contains (marked ps marks) (record { is_exception = rule.is_exception; labels = x })) is.labels
    (to_marked_at ps marks rule.is_exception is.place is.in_paths is.in_marks is.mark)

one_more : (rule : Rule) (rules : List Rule) → true ≡ nat_lt 0 (length (rule ∷ rules))
one_more rule rules = sym (lt-ltb 0 (length (rule ∷ rules)) (omega arith))

some_here : (p : List Label) (plain exception rest : Bool) (others : List Rule) → rest ≡ nat_lt 0 (length others)
    → (is_marked (plain, exception) || rest) ≡ nat_lt 0 (length (rules_at p (plain, exception) ++ others))
some_here p false false rest others e = e
some_here p false true rest others e = one_more (record { is_exception = true; labels = p }) others
some_here p true false rest others e = one_more (record { is_exception = false; labels = p }) others
some_here p true true rest others e =
    one_more (record { is_exception = false; labels = p }) (record { is_exception = true; labels = p } ∷ others)

-- there is a rule where a node is marked
pub some_marked : (ps : List (List Label)) (nodes : List Node) → length ps ≡ length nodes
    → list_any (λ n. is_marked (n.plain, n.exception)) nodes
    ≡ nat_lt 0 (length (marked ps (map (λ n. (n.plain, n.exception)) nodes)))
some_marked [] [] e = refl
some_marked [] (n ∷ ns) e = absurd (omega (arith, e))
some_marked (p ∷ ps) [] e = absurd (omega (arith, e))
some_marked (p ∷ ps) (n ∷ ns) e = some_here p (n.plain) (n.exception)
    (list_any (λ n. is_marked (n.plain, n.exception)) ns) (marked ps (map (λ n. (n.plain, n.exception)) ns))
    (some_marked ps ns (omega (arith, e)))

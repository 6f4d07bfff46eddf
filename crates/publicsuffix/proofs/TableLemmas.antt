-- The table of a tree: its buckets lead to each node that falls into them.
use Rattle.std.proofs.Common.{◌≡◌, ◌≢◌, ℕ, ◌<◌, ◌+◌, ◌%◌, ◌==◌, ◌⊎◌, ◌&&◌, Bool, true, false, List, [], ◌∷◌, ◌++◌}
use Rattle.std.proofs.Common.{length, drop, Option, Some, None, suc, zero, refl, sym, ap, subst, ◌∙◌, inl, inr, arith}
use Rattle.std.specs.Prelude.{get_or, set}
use Rattle.std.proofs.lemmas.Bool.{cases_Bool, cases_eq, cases_lt, false≢true}
use Rattle.std.proofs.lemmas.Option.{none-some}
use Rattle.std.proofs.lemmas.Bool.Decides.{Decides-eqb}
use Rattle.std.proofs.lemmas.List.{drop_more, get_or_append_left, get_or_push, get_or-set_same, get_or-set_other}
use Rattle.std.proofs.lemmas.List.{length_push}
use Rattle.std.proofs.lemmas.Slice.Eq.{bytes_eq-Decides}
use Rattle.std.proofs.Math.Nat.{mod-lt}
use Rattle.std.specs.Str.{bytes_eq}
use Rattle.publicsuffix.specs.Rules.{Label, Wildcard, Text}
use Rattle.publicsuffix.specs.Tree.{Leads, Linked, bucket_at, bucket_of, hangs_at, hashed, is_text, latest, mixed}
use Rattle.publicsuffix.specs.Tree.{one_later}

-- ---- the last place that passes

pub latest_hit : {X : Type 0} (test : X → Bool) (xs : List X) (x : X) → test x ≡ true
    → latest test (xs ++ x ∷ []) ≡ Some (length xs)
latest_hit test [] x is = ap (one_later None) is
latest_hit test (y ∷ xs) x is =
    let long : length xs + 1 ≡ length (y ∷ xs) = omega arith in
    ap (λ o. one_later o (test y)) (latest_hit test xs x is) ∙ ap Some long

pub latest_miss : {X : Type 0} (test : X → Bool) (xs : List X) (x : X) → test x ≡ false
    → latest test (xs ++ x ∷ []) ≡ latest test xs
latest_miss test [] x is = ap (one_later None) is
latest_miss test (y ∷ xs) x is = ap (λ o. one_later o (test y)) (latest_miss test xs x is)

pub latest_none : {X : Type 0} (test : X → Bool) (xs : List X) (d : X)
    → ((j : ℕ) → j < length xs → test (get_or xs j d) ≡ false) → latest test xs ≡ None
latest_none test [] d none = refl
latest_none test (y ∷ xs) d none =
    ap (λ o. one_later o (test y)) (latest_none test xs d (λ j less. none (suc j) (omega (arith, less))))
    ∙ ap (one_later None) (none 0 (omega arith))

pub latest_at : {X : Type 0} (test : X → Bool) (xs : List X) (d : X) (i : ℕ) → i < length xs
    → test (get_or xs i d) ≡ true → ((j : ℕ) → i < j → j < length xs → test (get_or xs j d) ≡ false)
    → latest test xs ≡ Some i
latest_at test [] d i within is last = absurd (omega (arith, within))
latest_at test (y ∷ xs) d zero within is last =
    ap (λ o. one_later o (test y)) (latest_none test xs d (λ j less. last (suc j) (omega arith) (omega (arith, less))))
    ∙ ap (one_later None) is
latest_at test (y ∷ xs) d (suc i) within is last =
    let next : i + 1 ≡ suc i = omega arith in
    ap (λ o. one_later o (test y)) (latest_at test xs d i (omega (arith, within)) is (λ j more less.
    last (suc j) (omega (arith, more)) (omega (arith, less)))) ∙ ap Some next

-- ---- a node below another at a text

both_true : (a b : Bool) → (a && b) ≡ true → (a ≡ true) × (b ≡ true)
both_true true b e = (refl, e)
both_true false b e = absurd (false≢true e)

text_of : (form : List ℕ) (l : Label) → is_text form l ≡ true → Text form ≡ l
text_of form Wildcard e = absurd (false≢true e)
text_of form (Text other) e = ap Text ((bytes_eq-Decides form other).0 e)

pub hangs_there : (at : ℕ) (form : List ℕ) (i : ℕ) (l : Label) → hangs_at at form (Some (i, l)) ≡ true
    → (at ≡ i) × (Text form ≡ l)
hangs_there at form i l e =
    let both = both_true (at == i) (is_text form l) e in
    ((Decides-eqb at i).0 both.0, text_of form l both.1)

pub hangs_here : (at : ℕ) (form : List ℕ) → hangs_at at form (Some (at, Text form)) ≡ true
hangs_here at form =
    ap (λ b. b && bytes_eq form form) ((Decides-eqb at at).1 refl) ∙ (bytes_eq-Decides form form).1 refl

pub not_at_wildcard : (at : ℕ) (form : List ℕ) (i : ℕ) → hangs_at at form (Some (i, Wildcard)) ≡ false
not_at_wildcard at form i =
    elim (cases_Bool (at == i)) [
      | inl same ↦ ap (λ b. b && false) same
      | inr other ↦ ap (λ b. b && false) other
    ]

-- a node that hangs at a text falls into the text's bucket
in_bucket : (size at : ℕ) (form : List ℕ) (e : Option (ℕ × Label)) → hangs_at at form e ≡ true
    → bucket_of size e ≡ hashed at form % size
in_bucket size at form None is = absurd (false≢true is)
in_bucket size at form (Some e) is =
    let there = hangs_there at form e.0 e.1 is in
    ap (λ l. bucket_at size e.0 l) (sym there.1) ∙ ap (λ i. hashed i form % size) (sym there.0)

pub apart_from_bucket : (size at : ℕ) (form : List ℕ) (e : Option (ℕ × Label))
    → bucket_of size e ≢ hashed at form % size → hangs_at at form e ≡ false
apart_from_bucket size at form e other =
    elim (cases_Bool (hangs_at at form e)) [
      | inl is ↦ absurd (other (in_bucket size at form e is))
      | inr not ↦ not
    ]

-- nothing hangs below a node that isn't there
pub none_below : (edges : List (Option (ℕ × Label))) (nexts heads : List ℕ) (form : List ℕ) (e : Option (ℕ × Label))
    (size at : ℕ) → Linked size edges nexts heads → length edges ≡ at
    → ((i : ℕ) (l : Label) → e ≡ Some (i, l) → i < at) → latest (hangs_at at form) (edges ++ e ∷ []) ≡ None
none_below edges nexts heads form e size at linked long below =
    latest_miss (hangs_at at form) edges e (apart e below)
    ∙ latest_none (hangs_at at form) edges None (λ j less. apart (get_or edges j None)
    (λ i l is. omega (arith, linked.above j i l less is, long)))
  where
    apart : (f : Option (ℕ × Label)) → ((i : ℕ) (l : Label) → f ≡ Some (i, l) → i < at) → hangs_at at form f ≡ false
    apart None all = refl
    apart (Some f) all =
        elim (cases_Bool (hangs_at at form (Some f))) [
          | inl is ↦
              let there = hangs_there at form f.0 f.1 is in
              absurd (omega (arith, there.0, all f.0 f.1 refl))
          | inr not ↦ not
        ]

-- ---- the way along a bucket

-- what is left of a bucket: no node from the place on hangs there
pub record IsAlong (edges : List (Option (ℕ × Label))) (size at : ℕ) (form : List ℕ) (place : ℕ) : Type 0 where
  pub within : place < length edges
  pub inside : (place ≡ 0) ⊎ (bucket_of size (get_or edges place None) ≡ hashed at form % size)
  pub passed : (j : ℕ) → place < j → j < length edges → hangs_at at form (get_or edges j None) ≡ false

pub IsAlong-head : (edges : List (Option (ℕ × Label))) (nexts heads : List ℕ) (size at : ℕ) (form : List ℕ)
    → Linked size edges nexts heads → IsAlong edges size at form (get_or heads (hashed at form % size) 0)
IsAlong-head edges nexts heads size at form linked =
    let leads = linked.heads (hashed at form % size) (mod-lt (hashed at form) linked.some) in
    record {
      within = leads.within;
      inside = leads.inside;
      passed = λ j more less. apart_from_bucket size at form (get_or edges j None) (leads.last j more less);
    }

pub IsAlong-next : (edges : List (Option (ℕ × Label))) (nexts heads : List ℕ) (size at : ℕ) (form : List ℕ)
    (place : ℕ) → Linked size edges nexts heads → IsAlong edges size at form place → 0 < place
    → hangs_at at form (get_or edges place None) ≡ false
    → IsAlong edges size at form (get_or nexts place 0) × (get_or nexts place 0 < place)
IsAlong-next edges nexts heads size at form place linked along some missed =
    let fits : bucket_of size (get_or edges place None) ≡ hashed at form % size =
    elim along.inside [ inl first ↦ absurd (omega (arith, first, some)) | inr is ↦ is ] in
    let leads = linked.nexts place along.within (subst (λ b. b < size) (sym fits)
    (mod-lt (hashed at form) linked.some)) in (
      record {
        within = omega (arith, leads.within, along.within);
        inside = elim leads.inside [ inl first ↦ inl first | inr is ↦ inr (is ∙ fits) ];
        passed = λ j more less.
            elim (cases_lt place j) [
              | inl later ↦ along.passed j later less
              | inr earlier ↦
                  elim (cases_eq j place) [
                    | inl same ↦ ap (λ k. hangs_at at form (get_or edges k None)) same ∙ missed
                    | inr other ↦
                        apart_from_bucket size at form (get_or edges j None) (λ is.
                        leads.last j more (omega (arith, earlier, other)) (is ∙ sym fits))
                  ]
            ];
      },
      leads.within,
    )

pub IsAlong-found : (edges : List (Option (ℕ × Label))) (size at : ℕ) (form : List ℕ) (place : ℕ)
    → IsAlong edges size at form place → hangs_at at form (get_or edges place None) ≡ true
    → latest (hangs_at at form) edges ≡ Some place
IsAlong-found edges size at form place along is =
    latest_at (hangs_at at form) edges None place along.within is along.passed

pub IsAlong-end : (edges : List (Option (ℕ × Label))) (nexts heads : List ℕ) (size at : ℕ) (form : List ℕ)
    → Linked size edges nexts heads → IsAlong edges size at form 0 → latest (hangs_at at form) edges ≡ None
IsAlong-end edges nexts heads size at form linked along =
    latest_none (hangs_at at form) edges None (λ j less. elim (cases_eq j 0) [
      | inl first ↦
          ap (λ k. hangs_at at form (get_or edges k None)) first ∙ ap (hangs_at at form) linked.root
      | inr other ↦ along.passed j (omega (arith, other)) less
    ])

-- ---- one node more

module _ (edges : List (Option (ℕ × Label))) (nexts heads after : List ℕ) (size : ℕ) (e : Option (ℕ × Label)) (x : ℕ)
    (was : Linked size edges nexts heads) (long : length nexts ≡ length edges) (first : 0 < length edges)
    (below : (i : ℕ) (l : Label) → e ≡ Some (i, l) → i < length edges)
    (now_heads : (b : ℕ) → b < size → ((get_or after b 0 ≡ length edges) × (bucket_of size e ≡ b))
    ⊎ ((get_or after b 0 ≡ get_or heads b 0) × (bucket_of size e ≢ b)))
    (now_next : bucket_of size e < size → x ≡ get_or heads (bucket_of size e) 0) where
  abbrev all : List (Option (ℕ × Label))
  all = edges ++ e ∷ []

  longer : length all ≡ length edges + 1
  longer = length_push edges e

  before : (j : ℕ) → j < length edges → get_or all j None ≡ get_or edges j None
  before j less = get_or_append_left edges (e ∷ []) None j less

  here : get_or all (length edges) None ≡ e
  here = get_or_push edges e None (length edges) refl

  cases_all : (j : ℕ) → j < length all → (j < length edges) ⊎ (j ≡ length edges)
  cases_all j less =
      elim (cases_lt j (length edges)) [
        | inl earlier ↦ inl earlier
        | inr last ↦ inr (omega (arith, longer))
      ]

  still : (b bound from : ℕ) → bound < length edges + 1 → Leads edges size b bound from → Leads all size b bound from
  still b bound from within leads = record {
    within = leads.within;
    inside =
        elim leads.inside [
          | inl root ↦ inl root
          | inr is ↦ inr (ap (bucket_of size) (before from (omega (arith, leads.within))) ∙ is)
        ];
    last = λ j more less is. leads.last j more less (ap (bucket_of size) (sym (before j (omega arith))) ∙ is);
  }

  head_new : (b : ℕ) → bucket_of size e ≡ b → Leads all size b (length all) (length edges)
  head_new b is = record {
    within = omega (arith, longer);
    inside = inr (ap (bucket_of size) here ∙ is);
    last = λ j more less. absurd (omega (arith, longer));
  }

  head_old : (b : ℕ) → b < size → bucket_of size e ≢ b → Leads all size b (length all) (get_or heads b 0)
  head_old b within other =
      let leads = still b (length edges) (get_or heads b 0) (omega arith) (was.heads b within) in
      record {
        within = omega (arith, leads.within, longer);
        inside = leads.inside;
        last = λ j more less is.
            elim (cases_all j less) [
              | inl earlier ↦ leads.last j more earlier is
              | inr last ↦
                  other (ap (bucket_of size) (sym here) ∙ ap (λ k. bucket_of size (get_or all k None)) (sym last) ∙ is)
            ];
      }

  next_at : (i : ℕ) → i < length all → bucket_of size (get_or all i None) < size
      → Leads all size (bucket_of size (get_or all i None)) i (get_or (nexts ++ x ∷ []) i 0)
  next_at i less fits =
      elim (cases_all i less) [
        | inl earlier ↦
            let same = before i earlier in
            let link : get_or (nexts ++ x ∷ []) i 0 ≡ get_or nexts i 0 =
            get_or_append_left nexts (x ∷ []) 0 i (omega (arith, earlier, long)) in
            subst (λ y. Leads all size (bucket_of size y) i (get_or (nexts ++ x ∷ []) i 0)) (sym same)
            (subst (λ y. Leads all size (bucket_of size (get_or edges i None)) i y) (sym link)
            (still (bucket_of size (get_or edges i None)) i (get_or nexts i 0) (omega (arith, earlier))
            (was.nexts i earlier (subst (λ y. bucket_of size y < size) same fits))))
        | inr last ↦
            let is : get_or all i None ≡ e = ap (λ k. get_or all k None) last ∙ here in
            let within : bucket_of size e < size = subst (λ y. bucket_of size y < size) is fits in
            let link : get_or (nexts ++ x ∷ []) i 0 ≡ get_or heads (bucket_of size e) 0 =
            get_or_push nexts x 0 i (long ∙ sym last) ∙ now_next within in
            subst (λ y. Leads all size (bucket_of size y) i (get_or (nexts ++ x ∷ []) i 0)) (sym is)
            (subst (λ y. Leads all size (bucket_of size e) i y) (sym link)
            (subst (λ k. Leads all size (bucket_of size e) k (get_or heads (bucket_of size e) 0)) (sym last)
            (still (bucket_of size e) (length edges) (get_or heads (bucket_of size e) 0) (omega arith)
            (was.heads (bucket_of size e) within))))
      ]

  pub Linked-push : Linked size all (nexts ++ x ∷ []) after
  Linked-push = record {
    some = was.some;
    root = before 0 first ∙ was.root;
    above = λ j i l less is.
        elim (cases_all j less) [
          | inl earlier ↦ omega (arith, was.above j i l earlier (sym (before j earlier) ∙ is), longer)
          | inr last ↦ omega (arith, below i l (sym here ∙ ap (λ k. get_or all k None) (sym last) ∙ is), longer)
        ];
    heads = λ b within.
        elim (now_heads b within) [
          | inl new ↦ subst (λ y. Leads all size b (length all) y) (sym new.0) (head_new b new.1)
          | inr old ↦ subst (λ y. Leads all size b (length all) y) (sym old.0) (head_old b within old.1)
        ];
    nexts = next_at;
  }

pub same_edge : (at i : ℕ) (m l : Label) → ◌≡◌ {A = Option (ℕ × Label)} (Some (at, m)) (Some (i, l)) → at ≡ i
same_edge at i m l e = ap place e
  where
    place : Option (ℕ × Label) → ℕ
    place None = 0
    place (Some edge) = edge.0

pub Linked-text : (edges : List (Option (ℕ × Label))) (nexts heads : List ℕ) (at : ℕ) (form : List ℕ) (b : ℕ)
    → Linked (length heads) edges nexts heads → length nexts ≡ length edges → at < length edges
    → b ≡ hashed at form % length heads → Linked (length heads) (edges ++ Some (at, Text form) ∷ [])
    (nexts ++ get_or heads b 0 ∷ []) (set heads b (length edges))
Linked-text edges nexts heads at form b was long within is =
    Linked-push edges nexts heads (set heads b (length edges)) (length heads) (Some (at, Text form)) (get_or heads b 0)
    was long (omega (arith, within)) (λ i l e. omega (arith, within, same_edge at i (Text form) l e))
    (λ c less. elim (cases_eq c b) [
      | inl same ↦
          inl (
            ap (λ k. get_or (set heads b (length edges)) k 0) same
                ∙ get_or-set_same heads b (length edges) 0 (omega (arith, same, less)),
            sym is ∙ sym same,
          )
      | inr other ↦
          inr (get_or-set_other heads b c (length edges) 0 other, λ e. other (sym e ∙ sym is))
    ])
    (λ less. ap (λ k. get_or heads k 0) is)

pub Linked-wildcard : (edges : List (Option (ℕ × Label))) (nexts heads : List ℕ) (at : ℕ)
    → Linked (length heads) edges nexts heads → length nexts ≡ length edges → at < length edges
    → Linked (length heads) (edges ++ Some (at, Wildcard) ∷ []) (nexts ++ 0 ∷ []) heads
Linked-wildcard edges nexts heads at was long within =
    Linked-push edges nexts heads heads (length heads) (Some (at, Wildcard)) 0
    was long (omega (arith, within)) (λ i l e. omega (arith, within, same_edge at i Wildcard l e))
    (λ c less. inr (refl, λ e. absurd (omega (arith, less, e))))
    (λ less. absurd (omega (arith, less)))

-- a table of no node but the root
pub Linked-root : (size : ℕ) (heads : List ℕ) → 0 < size → ((b : ℕ) → b < size → get_or heads b 0 ≡ 0)
    → Linked size (None ∷ []) (0 ∷ []) heads
Linked-root size heads some none = record {
  some = some;
  root = refl;
  above = λ j i l less is. absurd (root_only j i l less is);
  heads = λ b within. record {
    within = omega (arith, none b within);
    inside = inl (none b within);
    last = λ j more less. absurd (omega (arith, more, less));
  };
  nexts = λ i less fits. absurd (unbound i less fits);
}
  where
    root_only : (j i : ℕ) (l : Label) → j < 1
        → ◌≡◌ {A = Option (ℕ × Label)} (get_or (None ∷ []) j None) (Some (i, l)) → ⊥
    root_only zero i l less is =
        let edge : ℕ × Label = (i, l) in
        none-some edge is
    root_only (suc j) i l less is = omega (arith, less)

    unbound : (i : ℕ) → i < 1 → bucket_of size (get_or (None ∷ []) i None) < size → ⊥
    unbound zero less fits = omega (arith, fits)
    unbound (suc i) less fits = omega (arith, less)

-- ---- a hash, byte by byte

pub hashed_more : (hash : ℕ) (text : List ℕ) (at d : ℕ) → at < length text
    → hashed hash (drop at text) ≡ hashed (mixed hash (get_or text at d)) (drop (at + 1) text)
unfolding hashed
hashed_more hash text at d within = ap (hashed hash) (drop_more text at d within)

pub hashed_end : (hash : ℕ) → hashed hash [] ≡ hash
unfolding hashed
hashed_end hash = refl

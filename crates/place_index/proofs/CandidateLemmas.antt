-- Which texts a host and a request-path can meet.
use Rattle.std.proofs.Common.{◌≡◌, ◌≤◌, ◌↔◌, ◌⊎◌, ◌++◌, ◌+◌, ◌-◌, ◌*◌, ◌||◌, ℕ, Bool, true, false, cond, eqb, List, []}
use Rattle.std.proofs.Common.{◌∷◌, length, map, refl, sym, ap, subst, ◌∙◌, inl, inr, arith, true≢false, suc}
use Rattle.std.specs.Prelude.{Some, slice_get}
use Rattle.std.specs.List.{list_any}
use Rattle.std.specs.Str.{bytes_eq}
use Rattle.std.proofs.lemmas.Bool.{or_left, or_right, or_parts, cond-false, cond-true}
use Rattle.std.proofs.lemmas.List.{append-nil, length-map}
use Rattle.std.proofs.lemmas.Grind.{common_steps}
use Rattle.std.proofs.lemmas.Option.{none-some, same_Some}
use Rattle.matching.specs.Domains.{dot, EndsAfterDot}
use Rattle.matching.specs.Paths.{slash, PathMatches, MeetAtSlash}
use Rattle.place_index.proofs.EntryLemmas.{same_text, text_is}
use Rattle.place_index.specs.Candidates.{is_among, after_dots, beginnings, domains_of, paths_of, count_of}

pub same_nat : (a b : ℕ) → eqb a b ≡ true → a ≡ b
same_nat a b e = grind (arith, common_steps)

pub nat_is : (a b : ℕ) → a ≡ b → eqb a b ≡ true
nat_is a b e = grind (arith, common_steps)

-- one way or the other
pub or_split : (x y : Bool) → (x || y) ≡ true → (x ≡ true) ⊎ (y ≡ true)
or_split true y e = inl refl
or_split false y e = inr e

-- ---- membership

pub among_head : (text t : List ℕ) (ts : List (List ℕ)) → t ≡ text → is_among text (t ∷ ts) ≡ true
among_head text t ts e = or_left (bytes_eq text t) (is_among text ts) (text_is text t (sym e))

pub among_tail : (text t : List ℕ) (ts : List (List ℕ)) → is_among text ts ≡ true → is_among text (t ∷ ts) ≡ true
among_tail text t ts e = or_right (bytes_eq text t) (is_among text ts) e

pub among_case : (text t : List ℕ) (ts : List (List ℕ)) → is_among text (t ∷ ts) ≡ true
    → (t ≡ text) ⊎ (is_among text ts ≡ true)
among_case text t ts e = by (or_split (bytes_eq text t) (is_among text ts) e)
  where
    by : ((bytes_eq text t ≡ true) ⊎ (is_among text ts ≡ true)) → (t ≡ text) ⊎ (is_among text ts ≡ true)
    by (inl is) = inl (sym (same_text text t is))
    by (inr is) = inr is

among_map : (b : ℕ) (text : List ℕ) (ts : List (List ℕ)) → is_among text ts ≡ true
    → is_among (b ∷ text) (map (λ t. b ∷ t) ts) ≡ true
among_map b text [] e = absurd (true≢false (sym e))
among_map b text (t ∷ ts) e = by (among_case text t ts e) (λ h. among_map b text ts h)
  where
    by : ((t ≡ text) ⊎ (is_among text ts ≡ true)) → (is_among text ts ≡ true
        → is_among (b ∷ text) (map (λ s. b ∷ s) ts) ≡ true)
        → is_among (b ∷ text) (map (λ s. b ∷ s) (t ∷ ts)) ≡ true
    by (inl is) rest = among_head (b ∷ text) (b ∷ t) (map (λ s. b ∷ s) ts) (ap (λ l. b ∷ l) is)
    by (inr is) rest = among_tail (b ∷ text) (b ∷ t) (map (λ s. b ∷ s) ts) (rest is)

among_unmap : (b : ℕ) (text : List ℕ) (ts : List (List ℕ)) → is_among text (map (λ t. b ∷ t) ts) ≡ true
    → (rest : List ℕ) × (text ≡ b ∷ rest) × (is_among rest ts ≡ true)
among_unmap b text [] e = absurd (true≢false (sym e))
among_unmap b text (t ∷ ts) e = by (among_case text (b ∷ t) (map (λ s. b ∷ s) ts) e) (λ h. among_unmap b text ts h)
  where
    by : ((b ∷ t ≡ text) ⊎ (is_among text (map (λ s. b ∷ s) ts) ≡ true))
        → (is_among text (map (λ s. b ∷ s) ts) ≡ true → (rest : List ℕ) × (text ≡ b ∷ rest) × (is_among rest ts ≡ true))
        → (rest : List ℕ) × (text ≡ b ∷ rest) × (is_among rest (t ∷ ts) ≡ true)
    by (inl is) more = (t, sym is, among_head t t ts refl)
    by (inr is) more = let m = more is in (m.0, m.1, among_tail m.0 t ts m.2)

-- ---- domains

after_dots-ends : (host before text : List ℕ) → host ≡ before ++ dot ∷ text → is_among text (after_dots host) ≡ true
after_dots-ends host [] text e =
    ap (λ h. is_among text (after_dots h)) e ∙ among_head text text (after_dots text) refl
after_dots-ends host (b ∷ before) text e =
    ap (λ h. is_among text (after_dots h)) e ∙ by (eqb b dot) (after_dots-ends (before ++ dot ∷ text) before text refl)
  where
    by : (c : Bool) → is_among text (after_dots (before ++ dot ∷ text)) ≡ true
        → is_among text
        (cond c ((before ++ dot ∷ text) ∷ after_dots (before ++ dot ∷ text))
        (after_dots (before ++ dot ∷ text))) ≡ true
    by true rest = among_tail text (before ++ dot ∷ text) (after_dots (before ++ dot ∷ text)) rest
    by false rest = rest

ends-after_dots : (host text : List ℕ) → is_among text (after_dots host) ≡ true → EndsAfterDot host text
ends-after_dots [] text e = absurd (true≢false (sym e))
ends-after_dots (b ∷ bs) text e = by (eqb b dot) refl e (λ h. ends-after_dots bs text h)
  where
    deeper : EndsAfterDot bs text → EndsAfterDot (b ∷ bs) text
    deeper (before, is) = (b ∷ before, ap (λ l. b ∷ l) is)

    first : eqb b dot ≡ true → (bs ≡ text) ⊎ (is_among text (after_dots bs) ≡ true)
        → (is_among text (after_dots bs) ≡ true → EndsAfterDot bs text) → EndsAfterDot (b ∷ bs) text
    first is (inl same) rest = ([], (λ i. same_nat b dot is i ∷ same i))
    first is (inr more) rest = deeper (rest more)

    by : (c : Bool) → eqb b dot ≡ c → is_among text (cond c (bs ∷ after_dots bs) (after_dots bs)) ≡ true
        → (is_among text (after_dots bs) ≡ true → EndsAfterDot bs text) → EndsAfterDot (b ∷ bs) text
    by true is h rest = first is (among_case text bs (after_dots bs) h) rest
    by false is h rest = deeper (rest h)

pub are_domains : (host text : List ℕ)
    → (is_among text (domains_of host) ≡ true) ↔ ((host ≡ text) ⊎ EndsAfterDot host text)
are_domains host text = (λ e. there (among_case text host (after_dots host) e), back)
  where
    there : (host ≡ text) ⊎ (is_among text (after_dots host) ≡ true) → (host ≡ text) ⊎ EndsAfterDot host text
    there (inl same) = inl same
    there (inr more) = inr (ends-after_dots host text more)

    back : (host ≡ text) ⊎ EndsAfterDot host text → is_among text (domains_of host) ≡ true
    back (inl same) = among_head text host (after_dots host) same
    back (inr (before, is)) = among_tail text host (after_dots host) (after_dots-ends host before text is)

-- ---- paths

-- the last byte of a text of more than one is that of its rest
last_step : (b c : ℕ) (ts : List ℕ)
    → slice_get (b ∷ c ∷ ts) (length (b ∷ c ∷ ts) - 1) ≡ slice_get (c ∷ ts) (length (c ∷ ts) - 1)
last_step b c ts =
    let e : length (b ∷ c ∷ ts) - 1 ≡ suc (length ts) = omega arith in
    let f : length (c ∷ ts) - 1 ≡ length ts = omega arith in
    ap (slice_get (b ∷ c ∷ ts)) e ∙ sym (ap (slice_get (c ∷ ts)) f)

-- a beginning that meets the rest, which is not empty, at a slash, or that is empty where one stands before
abbrev Asked : Bool → List ℕ → List ℕ → Type 0
Asked behind text rest = MeetAtSlash text rest ⊎ ((text ≡ []) × (behind ≡ true))

asked_among : (behind : Bool) (text : List ℕ) (b : ℕ) (bs : List ℕ) → Asked behind text (b ∷ bs)
    → is_among text (beginnings behind (text ++ b ∷ bs)) ≡ true
asked_among behind [] b bs asked =
    ap (is_among []) (cond-true (behind || eqb b slash) ([] ∷ more) more (here asked)) ∙ among_head [] [] more refl
  where
    more : List (List ℕ)
    more = map (λ t. b ∷ t) (beginnings (eqb b slash) bs)

    here : Asked behind [] (b ∷ bs) → (behind || eqb b slash) ≡ true
    here (inl (inl ends)) = absurd (none-some slash ends)
    here (inl (inr begins)) = or_right behind (eqb b slash) (nat_is b slash (same_Some b slash begins))
    here (inr both) = or_left behind (eqb b slash) both.1
asked_among behind (c ∷ text) b bs asked =
    by (behind || eqb c slash) (among_map c text (beginnings (eqb c slash) (text ++ b ∷ bs))
    (asked_among (eqb c slash) text b bs (further text asked)))
  where
    more : List (List ℕ)
    more = map (λ t. c ∷ t) (beginnings (eqb c slash) (text ++ b ∷ bs))

    further : (t : List ℕ) → Asked behind (c ∷ t) (b ∷ bs) → Asked (eqb c slash) t (b ∷ bs)
    further [] (inl (inl ends)) = inr (refl, nat_is c slash (same_Some c slash ends))
    further (d ∷ t) (inl (inl ends)) = inl (inl (sym (last_step c d t) ∙ ends))
    further t (inl (inr begins)) = inl (inr begins)
    further t (inr both) = let none = ap length both.0 in absurd (omega (arith, none))

    by : (x : Bool) → is_among (c ∷ text) more ≡ true → is_among (c ∷ text) (cond x ([] ∷ more) more) ≡ true
    by true h = among_tail (c ∷ text) [] more h
    by false h = h

-- one byte more in front
deeper_meet : (b : ℕ) (text rest : List ℕ) → MeetAtSlash text rest → MeetAtSlash (b ∷ text) rest
deeper_meet b [] rest (inl ends) = absurd (none-some slash ends)
deeper_meet b (c ∷ text) rest (inl ends) = inl (last_step b c text ∙ ends)
deeper_meet b text rest (inr begins) = inr begins

among_asked : (behind : Bool) (path text : List ℕ) → is_among text (beginnings behind path) ≡ true
    → (rest : List ℕ) × (path ≡ text ++ rest) × Asked behind text rest
among_asked behind [] text e = absurd (true≢false (sym e))
among_asked behind (b ∷ path) text e = by (behind || eqb b slash) refl e (λ t h. among_asked (eqb b slash) path t h)
  where
    less : List (List ℕ)
    less = beginnings (eqb b slash) path

    more : List (List ℕ)
    more = map (λ t. b ∷ t) less

    Splits : List ℕ → Type 0
    Splits t = (rest : List ℕ) × (b ∷ path ≡ t ++ rest) × Asked behind t rest

    Rest : Type 0
    Rest = (t : List ℕ) → is_among t less ≡ true → (rest : List ℕ) × (path ≡ t ++ rest) × Asked (eqb b slash) t rest

    longer : (t rest : List ℕ) → Asked (eqb b slash) t rest → Asked behind (b ∷ t) rest
    longer t rest (inl meet) = inl (deeper_meet b t rest meet)
    longer t rest (inr both) =
        inl (inl (subst (λ x. slice_get (b ∷ x) (length (b ∷ x) - 1) ≡ Some slash) (sym both.0)
        (ap Some (same_nat b slash both.1))))

    moved : Rest → (t : List ℕ) × (text ≡ b ∷ t) × (is_among t less ≡ true) → Splits text
    moved further (t, is, among) =
        let r = further t among in
        subst Splits (sym is) (r.0, ap (λ l. b ∷ l) r.1, longer t r.0 r.2)

    here : (behind ≡ true) ⊎ (eqb b slash ≡ true) → Splits []
    here (inl before) = (b ∷ path, refl, inr (refl, before))
    here (inr is) = (b ∷ path, refl, inl (inr (ap Some (same_nat b slash is))))

    first : (behind || eqb b slash) ≡ true → Rest → ([] ≡ text) ⊎ (is_among text more ≡ true) → Splits text
    first is further (inl same) = subst Splits same (here (or_split behind (eqb b slash) is))
    first is further (inr h) = moved further (among_unmap b text less h)

    by : (x : Bool) → (behind || eqb b slash) ≡ x → is_among text (cond x ([] ∷ more) more) ≡ true → Rest
        → Splits text
    by true is h further = first is further (among_case text [] more h)
    by false is h further = moved further (among_unmap b text less h)

pub are_paths : (path text : List ℕ) → (is_among text (paths_of path) ≡ true) ↔ PathMatches text path
are_paths path text = (λ e. there (among_case text path (beginnings false path) e), back)
  where
    splits : (rest : List ℕ) → path ≡ text ++ rest → Asked false text rest → PathMatches text path
    splits rest split (inl meet) = inr (record { rest = rest; split = split; at_slash = meet })
    splits rest split (inr both) = absurd (true≢false (sym both.1))

    there : (path ≡ text) ⊎ (is_among text (beginnings false path) ≡ true) → PathMatches text path
    there (inl same) = inl same
    there (inr more) = let r = among_asked false path text more in splits r.0 r.1 r.2

    prefix : (rest : List ℕ) → path ≡ text ++ rest → MeetAtSlash text rest → is_among text (paths_of path) ≡ true
    prefix [] split meet = among_head text path (beginnings false path) (split ∙ append-nil text)
    prefix (b ∷ bs) split meet =
        among_tail text path (beginnings false path)
        (ap (λ p. is_among text (beginnings false p)) split ∙ asked_among false text b bs (inl meet))

    back : PathMatches text path → is_among text (paths_of path) ≡ true
    back (inl same) = among_head text path (beginnings false path) same
    back (inr p) = prefix p.rest p.split p.at_slash

-- ---- how many

pub after_dots-count : (host : List ℕ) → length (after_dots host) ≡ count_of dot host
after_dots-count [] = refl
after_dots-count (b ∷ bs) = by (eqb b dot) (after_dots-count bs)
  where
    by : (c : Bool) → length (after_dots bs) ≡ count_of dot bs
        → length (cond c (bs ∷ after_dots bs) (after_dots bs)) ≡ cond c (1 + count_of dot bs) (count_of dot bs)
    by true e = omega (arith, e)
    by false e = e

beginnings-count : (behind : Bool) (path : List ℕ)
    → length (beginnings behind path) ≤ 2 * count_of slash path + cond behind 1 0
beginnings-count behind [] = omega arith
beginnings-count behind (b ∷ bs) =
    let same = length-map (beginnings (eqb b slash) bs) (λ t. b ∷ t) in
    let rest = beginnings-count (eqb b slash) bs in
    by behind (eqb b slash) (map (λ t. b ∷ t) (beginnings (eqb b slash) bs)) (omega (arith, same, rest))
  where
    by : (x c : Bool) (more : List (List ℕ)) → length more ≤ 2 * count_of slash bs + cond c 1 0
        → length (cond (x || c) ([] ∷ more) more)
        ≤ 2 * cond c (1 + count_of slash bs) (count_of slash bs) + cond x 1 0
    by true true more le = omega (arith, le)
    by true false more le = omega (arith, le)
    by false true more le = omega (arith, le)
    by false false more le = omega (arith, le)

pub domains_of-count : (host : List ℕ) → length (domains_of host) ≡ 1 + count_of dot host
domains_of-count host = let e = after_dots-count host in omega (arith, e)

pub paths_of-count : (path : List ℕ) → length (paths_of path) ≤ 1 + 2 * count_of slash path
paths_of-count path = let e = beginnings-count false path in omega (arith, e)

-- ---- a step of a loop

-- past a text with no dot, and the dot
pub after_dots-next : (before rest : List ℕ) → list_any (λ b. eqb b dot) before ≡ false
    → after_dots (before ++ dot ∷ rest) ≡ domains_of rest
after_dots-next [] rest none = refl
after_dots-next (b ∷ before) rest none =
    let p = or_parts (eqb b dot) (list_any (λ c. eqb c dot) before) none in
    cond-false (eqb b dot) _ _ p.0 ∙ after_dots-next before rest p.1

pub after_dots-none : (text : List ℕ) → list_any (λ b. eqb b dot) text ≡ false → after_dots text ≡ []
after_dots-none [] none = refl
after_dots-none (b ∷ text) none =
    let p = or_parts (eqb b dot) (list_any (λ c. eqb c dot) text) none in
    cond-false (eqb b dot) _ _ p.0 ∙ after_dots-none text p.1

-- A jar's cookies under their names.
use Rattle.std.proofs.Common.{◌≡◌, ◌≢◌, ℕ, Bool, true, false, not, cond, List, [], ◌∷◌, ◌++◌, map, sym, refl, ap, ◌∙◌}
use Rattle.std.proofs.Common.{subst, ⊎_elim, Option, Some, None, Result, Ok, Err, OnOk, OnErr, IfSome, Bor}
use Rattle.std.specs.Prelude.{string_bytes, is_some, if◌then◌else◌}
use Rattle.std.specs.Option.{option_map, option_copied, option_or, option_and_then}
use Rattle.std.specs.List.{filter, cons_option}
use Rattle.std.specs.Str.{bytes_eq}
use Rattle.std.specs.declared.string.String.{String}
use Rattle.std.specs.declared.alloc.AllocError.{AllocError}
use Rattle.std.specs.FinMap as finmap
use Rattle.std.specs.Ordering.{nat_cmp}
use Rattle.std.specs.Cmp.Lexicographic.{slice_cmp}
use Rattle.std.proofs.lemmas.Bool.{cases_Bool, cond-true, cond-false}
use Rattle.cookie_text.specs.Record.{Seen}
use Rattle.cookie.specs.ByName.{ByName, Lists, HaveOwnNames, value_in, by_bytes}
use Rattle.cookie.specs.Jar.{Jar, Change, Added, Removed, AreUnderTheirNames, cookie_of, standing, overlaid, view}
use Rattle.cookie.specs.Jar.{delta, under_names, changed, added, unchanged, with_added}
use Rattle.cookie.proofs.NameMaps.{same_name, name_is, get_insert, get_remove, same_by_name}

-- ---- the names stay in their places

some_is_not_none : {X : Type 0} (x : X) → None ≢ Some x
some_is_not_none x e = cc

same_some : {X : Type 0} (x y : X) → Some x ≡ Some y → x ≡ y
same_some x y e = cc

module _ {X : Type 0} (cookie : X → Seen) where
  pub names_empty : AreUnderTheirNames cookie finmap.empty
  names_empty name x e = absurd (some_is_not_none x (sym (finmap.get-empty (slice_cmp nat_cmp) name) ∙ e))

  pub names_insert : (m : ByName X) (k : List ℕ) (x : X) → AreUnderTheirNames cookie m → (cookie x).cookie.name ≡ k
      → AreUnderTheirNames cookie (finmap.insert m k x)
  names_insert m k x h is name y e =
      ⊎_elim
      (λ (yes : bytes_eq name k ≡ true).
      let same : x ≡ y = same_some x y (sym (cond-true _ _ _ yes) ∙ sym (get_insert m k x name) ∙ e) in
      ap (λ z. (cookie z).cookie.name) (sym same) ∙ is ∙ sym (same_name name k yes))
      (λ (no : bytes_eq name k ≡ false). h name y (sym (cond-false _ _ _ no) ∙ sym (get_insert m k x name) ∙ e))
      (cases_Bool (bytes_eq name k))

  pub names_remove : (m : ByName X) (k : List ℕ) → AreUnderTheirNames cookie m
      → AreUnderTheirNames cookie (finmap.remove m k)
  names_remove m k h name y e =
      ⊎_elim
      (λ (yes : bytes_eq name k ≡ true). absurd
      (some_is_not_none y (sym (cond-true _ _ _ yes) ∙ sym (get_remove m k name) ∙ e)))
      (λ (no : bytes_eq name k ≡ false). h name y (sym (cond-false _ _ _ no) ∙ sym (get_remove m k name) ∙ e))
      (cases_Bool (bytes_eq name k))

  -- whether the value was put in or refused
  pub names_after : (r : Result (Unit {0}) AllocError) (old new : ByName X) (k : List ℕ) (x : X)
      → OnOk r (new ≡ finmap.insert old k x) → OnErr r (new ≡ old)
      → (cookie x).cookie.name ≡ k → AreUnderTheirNames cookie old → AreUnderTheirNames cookie new
  names_after (Ok u) old new k x ok err is h = subst (AreUnderTheirNames cookie) (sym ok) (names_insert old k x h is)
  names_after (Err e) old new k x ok err is h = subst (AreUnderTheirNames cookie) (sym err) h

-- ---- entries, one after another

or_none : {X : Type 0} (o : Option X) → option_or o None ≡ o
or_none None = refl
or_none (Some x) = refl

module _ {X : Type 0} where
  -- in entries apart, a name past the first is another
  behind : (e : List ℕ × X) (es : List (List ℕ × X)) (q : List ℕ) (x : X) → value_in es e.0 ≡ None
      → value_in es q ≡ Some x → bytes_eq q e.0 ≡ false
  behind e es q x none some =
      ⊎_elim
      (λ (yes : bytes_eq q e.0 ≡ true). absurd
      (some_is_not_none x (sym none ∙ ap (value_in es) (sym (same_name q e.0 yes)) ∙ some)))
      (λ (no : bytes_eq q e.0 ≡ false). no)
      (cases_Bool (bytes_eq q e.0))

  value_here : (e : List ℕ × X) (es : List (List ℕ × X)) → value_in (e ∷ es) e.0 ≡ Some e.1
  value_here e es = cond-true _ _ _ (name_is e.0 e.0 refl)

  -- the map with each entry written into it in turn
  abbrev pub with_all : ByName X → List (List ℕ × X) → ByName X
  with_all m [] = m
  with_all m (e ∷ es) = with_all (finmap.insert m e.0 e.1) es

  -- later entries first, then this one: where names are apart, the order is no matter
  moved : (e : List ℕ × X) (es : List (List ℕ × X)) (q : List ℕ) (o : Option X) → value_in es e.0 ≡ None
      → option_or (value_in es q) (if bytes_eq q e.0 then Some e.1 else o) ≡ option_or (value_in (e ∷ es) q) o
  moved e es q o none =
      ⊎_elim
      (λ (yes : bytes_eq q e.0 ≡ true). rw (yes, same_name q e.0 yes, none) refl)
      (λ (no : bytes_eq q e.0 ≡ false). rw no refl)
      (cases_Bool (bytes_eq q e.0))

  get_with_all : (m : ByName X) (es : List (List ℕ × X)) (q : List ℕ) → HaveOwnNames es
      → finmap.get (with_all m es) q ≡ option_or (value_in es q) (finmap.get m q)
  get_with_all m [] q apart = refl
  get_with_all m (e ∷ es) q apart =
      get_with_all (finmap.insert m e.0 e.1) es q apart.1
      ∙ ap (option_or (value_in es q)) (get_insert m e.0 e.1 q) ∙ moved e es q (finmap.get m q) apart.0

  pub written_whole : (m : ByName X) (es : List (List ℕ × X)) → Lists es (finmap.get m) → with_all finmap.empty es ≡ m
  written_whole m es l = same_by_name _ _ (λ q.
      get_with_all finmap.empty es q l.apart
      ∙ ap (option_or (value_in es q)) (finmap.get-empty (slice_cmp nat_cmp) q) ∙ or_none (value_in es q) ∙ l.each q)

  value_append : (es fs : List (List ℕ × X)) (q : List ℕ)
      → value_in (es ++ fs) q ≡ option_or (value_in es q) (value_in fs q)
  value_append [] fs q = refl
  value_append (e ∷ es) fs q =
      ⊎_elim
      (λ (yes : bytes_eq q e.0 ≡ true). rw yes refl)
      (λ (no : bytes_eq q e.0 ≡ false). rw no (value_append es fs q))
      (cases_Bool (bytes_eq q e.0))

  apart_append : (es fs : List (List ℕ × X)) → HaveOwnNames es → HaveOwnNames fs
      → ((q : List ℕ) (x : X) → value_in es q ≡ Some x → value_in fs q ≡ None) → HaveOwnNames (es ++ fs)
  apart_append [] fs he hf h = hf
  apart_append (e ∷ es) fs he hf h = (
    value_append es fs e.0 ∙ ap (λ o. option_or o (value_in fs e.0)) he.0 ∙ h e.0 e.1 (value_here e es),
    apart_append es fs he.1 hf (λ q x is. h q x (cond-false _ _ _ (behind e es q x he.0 is) ∙ is)),
  )

  -- each entry is under the name of its cookie
  abbrev pub AreNamed : (X → Seen) → List (List ℕ × X) → Type 0
  AreNamed cookie [] = Unit {0}
  AreNamed cookie (e ∷ es) = ((cookie e.1).cookie.name ≡ e.0) × AreNamed cookie es

  each_named : (cookie : X → Seen) (es : List (List ℕ × X)) → HaveOwnNames es
      → ((q : List ℕ) (x : X) → value_in es q ≡ Some x → (cookie x).cookie.name ≡ q) → AreNamed cookie es
  each_named cookie [] apart h = tt
  each_named cookie (e ∷ es) apart h = (
    h e.0 e.1 (value_here e es),
    each_named cookie es apart.1 (λ q x is. h q x (cond-false _ _ _ (behind e es q x apart.0 is) ∙ is)),
  )

  named_entries : (cookie : X → Seen) (es : List (List ℕ × X)) (m : ByName X) → Lists es (finmap.get m)
      → AreUnderTheirNames cookie m → AreNamed cookie es
  named_entries cookie es m l h = each_named cookie es l.apart (λ q x is. h q x (sym (l.each q) ∙ is))

-- ---- the cookies of the delta

abbrev told : List (List ℕ × Change) → List (List ℕ × Seen)
told es = map (λ e. (e.0, cookie_of e.1)) es

value_told : (es : List (List ℕ × Change)) (q : List ℕ) → value_in (told es) q ≡ option_map cookie_of (value_in es q)
value_told [] q = refl
value_told (e ∷ es) q =
    ⊎_elim
    (λ (yes : bytes_eq q e.0 ≡ true). rw yes refl)
    (λ (no : bytes_eq q e.0 ≡ false). rw no (value_told es q))
    (cases_Bool (bytes_eq q e.0))

apart_told : (es : List (List ℕ × Change)) → HaveOwnNames es → HaveOwnNames (told es)
apart_told [] h = tt
apart_told (e ∷ es) h = (value_told es e.0 ∙ ap (option_map cookie_of) h.0, apart_told es h.1)

under_changed : {Y : Type 0} (es : List (String Y × Change)) → AreNamed cookie_of (by_bytes es)
    → under_names (changed es) ≡ told (by_bytes es)
under_changed [] h = refl
under_changed (e ∷ es) h = λ i. (h.0 i, cookie_of e.1) ∷ under_changed es h.1 i

pub lists_delta : {Y : Type 0} (es : List (String Y × Change)) (jar : Jar) (m : _) → m ≡ jar.changes
    → Lists (by_bytes es) (finmap.get m) → AreUnderTheirNames cookie_of m
    → Lists (under_names (changed es)) (delta jar)
lists_delta es jar m is l h =
    let same : under_names (changed es) ≡ told (by_bytes es) =
    under_changed es (named_entries cookie_of (by_bytes es) m l h) in
    record {
      apart = subst HaveOwnNames (sym same) (apart_told (by_bytes es) l.apart);
      each = λ q. ap (λ fs. value_in fs q) same ∙ value_told (by_bytes es) q
          ∙ ap (option_map cookie_of) (l.each q ∙ ap (λ n. finmap.get n q) is);
    }

-- ---- the cookies of the view

with_standing : List ℕ → Option Seen → List (List ℕ × Seen) → List (List ℕ × Seen)
with_standing n None fs = fs
with_standing n (Some c) fs = (n, c) ∷ fs

shown : List (List ℕ × Change) → List (List ℕ × Seen)
shown [] = []
shown (e ∷ es) = with_standing e.0 (standing e.1) (shown es)

cond_same : {X : Type 0} (b : Bool) (x : X) → x ≡ cond b x x
cond_same true x = refl
cond_same false x = refl

value_with_standing : (n : List ℕ) (o : Option Seen) (fs : List (List ℕ × Seen)) (q : List ℕ)
    → value_in (with_standing n o fs) q ≡ cond (bytes_eq q n) (option_or o (value_in fs q)) (value_in fs q)
unfolding with_standing
value_with_standing n None fs q = cond_same (bytes_eq q n) (value_in fs q)
value_with_standing n (Some c) fs q = refl

value_shown : (es : List (List ℕ × Change)) (q : List ℕ) → HaveOwnNames es
    → value_in (shown es) q ≡ option_and_then standing (value_in es q)
unfolding shown
value_shown [] q h = refl
value_shown (e ∷ es) q h =
    value_with_standing e.0 (standing e.1) (shown es) q
    ∙ ⊎_elim
    (λ (yes : bytes_eq q e.0 ≡ true).
    let none : value_in (shown es) q ≡ None = value_shown es q h.1
    ∙ ap (option_and_then standing) (ap (value_in es) (same_name q e.0 yes) ∙ h.0) in
    cond-true _ _ _ yes ∙ ap (option_or (standing e.1)) none ∙ or_none (standing e.1)
    ∙ ap (option_and_then standing) (sym (cond-true (bytes_eq q e.0) (Some e.1) (value_in es q) yes)))
    (λ (no : bytes_eq q e.0 ≡ false).
    cond-false _ _ _ no ∙ value_shown es q h.1
    ∙ ap (option_and_then standing) (sym (cond-false (bytes_eq q e.0) (Some e.1) (value_in es q) no)))
    (cases_Bool (bytes_eq q e.0))

apart_with_standing : (n : List ℕ) (o : Option Seen) (fs : List (List ℕ × Seen)) → value_in fs n ≡ None
    → HaveOwnNames fs
    → HaveOwnNames (with_standing n o fs)
unfolding with_standing
apart_with_standing n None fs none h = h
apart_with_standing n (Some c) fs none h = (none, h)

apart_shown : (es : List (List ℕ × Change)) → HaveOwnNames es → HaveOwnNames (shown es)
unfolding shown
apart_shown [] h = tt
apart_shown (e ∷ es) h =
    apart_with_standing e.0 (standing e.1) (shown es) (value_shown es e.0 h.1 ∙ ap (option_and_then standing) h.0)
    (apart_shown es h.1)

under_standing : (change : Change) (n : List ℕ) (cs : List Seen) (fs : List (List ℕ × Seen))
    → (cookie_of change).cookie.name ≡ n → under_names cs ≡ fs
    → under_names (cons_option (standing change) cs) ≡ with_standing n (standing change) fs
unfolding with_standing
under_standing (Added c) n cs fs named e = λ i. (named i, c) ∷ e i
under_standing (Removed c) n cs fs named e = e

under_added : {Y : Type 0} (es : List (String Y × Change)) → AreNamed cookie_of (by_bytes es)
    → under_names (added es) ≡ shown (by_bytes es)
unfolding shown
under_added [] h = refl
under_added (e ∷ es) h = under_standing e.1 (string_bytes e.0) (added es) (shown (by_bytes es)) h.0 (under_added es h.1)

-- those of names that have no change
kept : ByName Change → List (List ℕ × Seen) → List (List ℕ × Seen)
kept changes es = filter (λ e. not (is_some (finmap.get changes e.0))) es

value_kept : (changes : ByName Change) (es : List (List ℕ × Seen)) (q : List ℕ)
    → value_in (kept changes es) q ≡ cond (is_some (finmap.get changes q)) None (value_in es q)
unfolding kept
value_kept changes [] q = cond_same (is_some (finmap.get changes q)) None
value_kept changes (e ∷ es) q =
    ⊎_elim
    (λ (yes : bytes_eq q e.0 ≡ true).
    ⊎_elim
    (λ (hidden : is_some (finmap.get changes e.0) ≡ true). rw (hidden, same_name q e.0 yes)
    (value_kept changes es e.0 ∙ cond-true _ _ _ hidden ∙ sym (cond-true _ _ _ hidden)))
    (λ (there : is_some (finmap.get changes e.0) ≡ false). rw (there, yes)
    (sym (cond-false _ _ _ (ap (λ n. is_some (finmap.get changes n)) (same_name q e.0 yes) ∙ there))))
    (cases_Bool (is_some (finmap.get changes e.0))))
    (λ (no : bytes_eq q e.0 ≡ false).
    ⊎_elim
    (λ (hidden : is_some (finmap.get changes e.0) ≡ true). rw (hidden, no) (value_kept changes es q))
    (λ (there : is_some (finmap.get changes e.0) ≡ false). rw (there, no) (value_kept changes es q))
    (cases_Bool (is_some (finmap.get changes e.0))))
    (cases_Bool (bytes_eq q e.0))

apart_cond : (b : Bool) (e : List ℕ × Seen) (fs : List (List ℕ × Seen)) → value_in fs e.0 ≡ None → HaveOwnNames fs
    → HaveOwnNames (cond b (e ∷ fs) fs)
apart_cond true e fs none h = (none, h)
apart_cond false e fs none h = h

apart_kept : (changes : ByName Change) (es : List (List ℕ × Seen)) → HaveOwnNames es → HaveOwnNames (kept changes es)
unfolding kept
apart_kept changes [] h = tt
apart_kept changes (e ∷ es) h =
    apart_cond (not (is_some (finmap.get changes e.0))) e (kept changes es)
    (value_kept changes es e.0 ∙ ap (cond (is_some (finmap.get changes e.0)) None) h.0
    ∙ sym (cond_same (is_some (finmap.get changes e.0)) None))
    (apart_kept changes es h.1)

under_cond : {Y : Type 0} (b : Bool) (e : String Y × Seen) (es : List (String Y × Seen)) (fs : List (List ℕ × Seen))
    → e.1.cookie.name ≡ string_bytes e.0 → under_names (map (λ x. x.1) es) ≡ fs
    → under_names (map (λ x. x.1) (cond b (e ∷ es) es)) ≡ cond b ((string_bytes e.0, e.1) ∷ fs) fs
under_cond true e es fs named is = λ i. (named i, e.1) ∷ is i
under_cond false e es fs named is = is

under_unchanged : {Y : Type 0} (changes : ByName Change) (es : List (String Y × Seen)) → AreNamed (λ c. c) (by_bytes es)
    → under_names (unchanged changes es) ≡ kept changes (by_bytes es)
unfolding kept
under_unchanged changes [] h = refl
under_unchanged changes (e ∷ es) h =
    under_cond (not (is_some (finmap.get changes (string_bytes e.0)))) e
    (filter (λ x. not (is_some (finmap.get changes (string_bytes x.0)))) es) (kept changes (by_bytes es)) h.0
    (under_unchanged changes es h.1)

under_append : (xs ys : List Seen) → under_names (xs ++ ys) ≡ under_names xs ++ under_names ys
under_append [] ys = refl
under_append (x ∷ xs) ys = ap (λ es. (x.cookie.name, x) ∷ es) (under_append xs ys)

overlay : (change : Option Change) (original : Option Seen)
    → option_or (option_and_then standing change) (cond (is_some change) None original) ≡ overlaid change original
overlay None original = refl
overlay (Some change) original = or_none (standing change)

hides : (change : Option Change) (c : Seen) (original : Option Seen) → option_and_then standing change ≡ Some c
    → cond (is_some change) None original ≡ None
hides None c original e = absurd (some_is_not_none c e)
hides (Some change) c original e = refl

pub lists_view : {Y : Type 0} (es : List (String Y × Change)) (os : List (String Y × Seen)) (jar : Jar)
    → Lists (by_bytes es) (finmap.get jar.changes) → Lists (by_bytes os) (finmap.get jar.originals)
    → AreUnderTheirNames cookie_of jar.changes → AreUnderTheirNames (λ c. c) jar.originals
    → Lists (under_names (added es ++ unchanged jar.changes os)) (view jar)
lists_view es os jar le lo he ho =
    let first : List (List ℕ × Seen) = shown (by_bytes es) in
    let second : List (List ℕ × Seen) = kept jar.changes (by_bytes os) in
    let same : under_names (added es ++ unchanged jar.changes os) ≡ first ++ second =
    under_append (added es) (unchanged jar.changes os)
    ∙ (λ i. under_added es (named_entries cookie_of (by_bytes es) jar.changes le he) i ++ under_unchanged jar.changes os
    (named_entries (λ c. c) (by_bytes os) jar.originals lo ho) i) in
    let at_first : (q : List ℕ) → value_in first q ≡ option_and_then standing (finmap.get jar.changes q) =
    λ q. value_shown (by_bytes es) q le.apart ∙ ap (option_and_then standing) (le.each q) in
    let at_second : (q : List ℕ) → value_in second q ≡ cond (is_some (finmap.get jar.changes q)) None
    (finmap.get jar.originals q) =
    λ q. value_kept jar.changes (by_bytes os) q ∙ ap (cond (is_some (finmap.get jar.changes q)) None) (lo.each q) in
    record {
      apart = subst HaveOwnNames (sym same) (apart_append first second (apart_shown (by_bytes es) le.apart)
          (apart_kept jar.changes (by_bytes os) lo.apart)
          (λ q c is. at_second q ∙ hides (finmap.get jar.changes q) c (finmap.get jar.originals q)
          (sym (at_first q) ∙ is)));
      each = λ q. ap (λ fs. value_in fs q) same ∙ value_append first second q
          ∙ (λ i. option_or (at_first q i) (at_second q i))
          ∙ overlay (finmap.get jar.changes q) (finmap.get jar.originals q);
    }

-- ---- what `get` finds has the name that was asked for

standing_is : (change : Change) (c : Seen) → standing change ≡ Some c → cookie_of change ≡ c
standing_is (Added d) c e = same_some d c e
standing_is (Removed d) c e = absurd (some_is_not_none c e)

pub added_named : (m : ByName Change) (name : List ℕ) (change : Change) (r : Option (Bor Seen))
    → AreUnderTheirNames cookie_of m → finmap.get m name ≡ Some change
    → option_copied r ≡ standing change → IfSome r (λ c. c.now.cookie.name ≡ name)
added_named m name change None h found is = tt
added_named m name change (Some c) h found is = ap (λ d. d.cookie.name) (sym (standing_is change c.now (sym is)))
    ∙ h name change found

-- ---- what a caller reads of a jar that was changed

pub view-with_added : (jar : Jar) (c : Seen) (q : List ℕ)
    → view (with_added jar c) q ≡ cond (bytes_eq q c.cookie.name) (Some c) (view jar q)
view-with_added jar c q =
    ap (λ o. overlaid o (finmap.get jar.originals q)) (get_insert jar.changes c.cookie.name (Added c) q)
    ∙ ⊎_elim
    (λ (yes : bytes_eq q c.cookie.name ≡ true). rw yes refl)
    (λ (no : bytes_eq q c.cookie.name ≡ false). rw no refl)
    (cases_Bool (bytes_eq q c.cookie.name))

pub delta-with_added : (jar : Jar) (c : Seen) (q : List ℕ)
    → delta (with_added jar c) q ≡ cond (bytes_eq q c.cookie.name) (Some c) (delta jar q)
delta-with_added jar c q =
    ap (option_map cookie_of) (get_insert jar.changes c.cookie.name (Added c) q)
    ∙ ⊎_elim
    (λ (yes : bytes_eq q c.cookie.name ≡ true). rw yes refl)
    (λ (no : bytes_eq q c.cookie.name ≡ false). rw no refl)
    (cases_Bool (bytes_eq q c.cookie.name))

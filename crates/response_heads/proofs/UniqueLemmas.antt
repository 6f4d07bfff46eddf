-- A text gives one list of heads.
use Rattle.std.proofs.Common.{◌≡◌, ◌+◌, ℕ, Bool, true, false, List, [], ◌∷◌, ◌++◌, length, Option, Some, None}
use Rattle.std.proofs.Common.{inl, inr, refl, sym, ap, subst, ◌∙◌, append-nil}
use Rattle.std.specs.Prelude.{if◌then◌else◌}
use Rattle.std.specs.List.{AllByRecursion}
use Rattle.std.proofs.lemmas.Bool.{false≢true}
use Rattle.response_heads.specs.Heads.{AreFields, Begins, BreaksOff, Ends, GivesFrom, GivesHeads, HeadText, IsNoHead}
use Rattle.response_heads.specs.Heads.{IsOver, IsPassedOver, IsUnended, Stops}
use Rattle.response_heads.specs.Lines.{FieldText, GivesField, IsField, IsNoField, begins_head, breaks_off, cut_end}
use Rattle.response_heads.specs.Lines.{fault_of, status_of, whole_lines}
use Rattle.response_heads.specs.declared.error.StopFault.{StopFault}
use Rattle.response_heads.specs.declared.error.StopFault.TheVariants.{Between}

clash : (b : Bool) → b ≡ true → b ≡ false → ⊥
clash b is isnt = false≢true (sym isnt ∙ is)

-- ---- fields and heads of the same lines

one_field : (line : List ℕ) (f g : FieldText) → IsField line f → IsField line g → f ≡ g
one_field line f g hf hg =
    let name : f.name ≡ g.name = hf.name ∙ sym hg.name in
    let value : f.value ≡ g.value = hf.value ∙ sym hg.value in
    let make : List ℕ → List ℕ → FieldText = λ n v. record { name = n; value = v } in
    ap (λ n. make n f.value) name ∙ ap (make g.name) value

no_fields : (line : List ℕ) (f g : FieldText) → IsNoField line f → IsNoField line g → f ≡ g
no_fields line f g hf hg =
    let make : List ℕ → List ℕ → FieldText = λ n v. record { name = n; value = v } in
    ap (λ n. make n f.value) (hf.name ∙ sym hg.name) ∙ ap (make g.name) (hf.value ∙ sym hg.value)

one_given : (line : List ℕ) (f g : FieldText) → GivesField line f → GivesField line g → f ≡ g
one_given line f g (off, inl hf) (on, inl hg) = one_field line f g hf hg
one_given line f g (off, inl hf) (on, inr hg) = absurd (hg.fault hf.fine)
one_given line f g (off, inr hf) (on, inl hg) = absurd (hf.fault hg.fine)
one_given line f g (off, inr hf) (on, inr hg) = no_fields line f g hf hg

one_fields : (ls : List (List ℕ)) (fs gs : List FieldText) → AreFields ls fs → AreFields ls gs → fs ≡ gs
one_fields [] [] [] hf hg = refl
one_fields [] [] (g ∷ gs) hf hg = absurd hg
one_fields [] (f ∷ fs) gs hf hg = absurd hf
one_fields (l ∷ ls) [] gs hf hg = absurd hf
one_fields (l ∷ ls) (f ∷ fs) [] hf hg = absurd hg
one_fields (l ∷ ls) (f ∷ fs) (g ∷ gs) hf hg =
    let here = one_given l f g hf.0 hg.0 in
    let there = one_fields ls fs gs hf.1 hg.1 in
    cc

-- ---- where heads end

empty_is_none : fault_of [] ≡ None → ⊥
unfolding fault_of
empty_is_none e = cc

no_empty : (f : FieldText) → GivesField [] f → ⊥
no_empty f (off, inl h) = empty_is_none h.fine
no_empty f (off, inr h) = h.some refl

line_first : (x y : List ℕ) (xs ys : List (List ℕ)) → x ∷ xs ≡ y ∷ ys → x ≡ y
line_first x y xs ys e = cc

line_rest : (x y : List ℕ) (xs ys : List (List ℕ)) → x ∷ xs ≡ y ∷ ys → xs ≡ ys
line_rest x y xs ys e = cc

nil_cons : (x : List ℕ) (xs : List (List ℕ)) → [] ≡ x ∷ xs → ⊥
nil_cons x xs e = cc

none_some : (n : ℕ) → None ≡ Some n → ⊥
none_some n e = cc

one_some : (m n : ℕ) → Some m ≡ Some n → m ≡ n
one_some m n e = cc

-- with such lines no field goes on
abbrev IsEnd : List (List ℕ) → Type 0
IsEnd [] = Unit {0}
IsEnd (line ∷ lines) = (field : FieldText) → GivesField line field → ⊥

ends_so : (more : List (List ℕ)) → IsEnd ([] ∷ more)
ends_so more = no_empty

breaks_so : (line : List ℕ) (after : List (List ℕ)) → breaks_off line ≡ true → IsEnd (line ∷ after)
breaks_so line after is = λ field given. clash (breaks_off line) is given.0

same_fields : (ps qs : List (List ℕ)) (fs gs : List FieldText) (u v : List (List ℕ)) → AreFields ps fs
    → AreFields qs gs → IsEnd u → IsEnd v → ps ++ u ≡ qs ++ v → (ps ≡ qs) × (u ≡ v)
same_fields [] [] fs gs u v hp hq hu hv e = (refl, e)
same_fields [] (q ∷ qs) fs [] u v hp hq hu hv e = absurd hq
same_fields [] (q ∷ qs) fs (g ∷ gs) u v hp hq hu hv e = absurd (subst IsEnd e hu g hq.0)
same_fields (p ∷ ps) [] [] gs u v hp hq hu hv e = absurd hp
same_fields (p ∷ ps) [] (f ∷ fs) gs u v hp hq hu hv e = absurd (subst IsEnd (sym e) hv f hp.0)
same_fields (p ∷ ps) (q ∷ qs) [] gs u v hp hq hu hv e = absurd hp
same_fields (p ∷ ps) (q ∷ qs) (f ∷ fs) [] u v hp hq hu hv e = absurd hq
same_fields (p ∷ ps) (q ∷ qs) (f ∷ fs) (g ∷ gs) u v hp hq hu hv e =
    let here = line_first p q (ps ++ u) (qs ++ v) e in
    let there = same_fields ps qs fs gs u v hp.1 hq.1 hu hv (line_rest p q (ps ++ u) (qs ++ v) e) in
    (ap (λ x. x ∷ ps) here ∙ ap (λ xs. q ∷ xs) there.0, there.1)

-- the fields of these lines
fields_of : (ps qs : List (List ℕ)) (fs gs : List FieldText) → AreFields ps fs → AreFields qs gs → ps ≡ qs → fs ≡ gs
fields_of ps qs fs gs hp hq e = one_fields qs fs gs (subst (λ ls. AreFields ls fs) e hp) hq

same_begin : (f g : List (List ℕ)) (x y : List ℕ) (u v : List (List ℕ)) → AllByRecursion IsPassedOver f
    → AllByRecursion IsPassedOver g → begins_head x ≡ true → begins_head y ≡ true → f ++ x ∷ u ≡ g ++ y ∷ v
    → (f ≡ g) × (x ≡ y) × (u ≡ v)
same_begin [] [] x y u v hf hg hx hy e = (refl, line_first x y u v e, line_rest x y u v e)
same_begin [] (m ∷ g) x y u v hf hg hx hy e =
    absurd (clash (begins_head m) (ap begins_head (sym (line_first x m u (g ++ y ∷ v) e)) ∙ hx) hg.0)
same_begin (m ∷ f) [] x y u v hf hg hx hy e =
    absurd (clash (begins_head m) (ap begins_head (line_first m y (f ++ x ∷ u) v e) ∙ hy) hf.0)
same_begin (m ∷ f) (n ∷ g) x y u v hf hg hx hy e =
    let there = same_begin f g x y u v hf.1 hg.1 hx hy (line_rest m n (f ++ x ∷ u) (g ++ y ∷ v) e) in
    let here = line_first m n (f ++ x ∷ u) (g ++ y ∷ v) e in
    (ap (λ l. l ∷ f) here ∙ ap (λ ls. n ∷ ls) there.0, there.1, there.2)

-- a head begins among lines of which none does
none_begins : (f : List (List ℕ)) (x : List ℕ) (u : List (List ℕ)) → AllByRecursion IsPassedOver (f ++ x ∷ u)
    → begins_head x ≡ true → ⊥
none_begins [] x u h begins = clash (begins_head x) begins h.0
none_begins (m ∷ f) x u h begins = none_begins f x u h.1 begins

-- ---- what is no head

breaks_are_ends : (lines : List (List ℕ)) → BreaksOff lines → IsEnd lines
breaks_are_ends [] h = tt
breaks_are_ends (line ∷ after) h = breaks_so line after h.1

-- a head that ends doesn't break off
end_apart : (n : ℕ) (behind : List (List ℕ)) (fs : List FieldText) (number : ℕ) (more : List (List ℕ))
    → Ends n behind fs number more → IsUnended behind → ⊥
end_apart n behind fs number more a b =
    let same = same_fields a.read b.read fs b.fields ([] ∷ more) b.behind a.are b.are (ends_so more)
    (breaks_are_ends b.behind b.breaks) (sym a.split ∙ b.split) in
    no_break b.behind same.1 b.breaks
  where
    no_break : (lines : List (List ℕ)) → [] ∷ more ≡ lines → BreaksOff lines → ⊥
    no_break [] e h = nil_cons [] more (sym e)
    no_break (line ∷ after) e h = h.0 (sym (line_first [] line more after e))

one_no_head : (n : ℕ) (line : List ℕ) (behind : List (List ℕ)) (stop other : Option (ℕ × StopFault))
    → IsNoHead n line behind stop → IsNoHead n line behind other → stop ≡ other
one_no_head n line behind stop other (inl (a, is)) (inl (b, also)) = is ∙ sym also
one_no_head n line behind stop other (inl (a, is)) (inr (b, c, also)) = absurd (b a)
one_no_head n line behind stop other (inr (a, c, is)) (inl (b, also)) = absurd (a b)
one_no_head n line behind stop other (inr (a, c, is)) (inr (b, d, also)) = is ∙ sym also

one_stop : (n : ℕ) (f g u v : List (List ℕ)) (cut : List ℕ) (stop other : Option (ℕ × StopFault))
    → AllByRecursion IsPassedOver f → AllByRecursion IsPassedOver g → f ++ u ≡ g ++ v
    → Stops (n + length f + 1) u cut Between stop → Stops (n + length g + 1) v cut Between other → stop ≡ other
one_stop n f g [] [] cut stop other hf hg e a b =
    let front : f ≡ g = sym (append-nil f) ∙ (e ∙ append-nil g) in
    a ∙ (ap (λ ls. if begins_head cut then Some (n + length ls + 1, Between) else None) front ∙ sym b)
one_stop n f g [] (y ∷ v) cut stop other hf hg e a b =
    absurd (none_begins g y v (subst (AllByRecursion IsPassedOver) (sym (append-nil f) ∙ e) hf) b.0)
one_stop n f g (x ∷ u) [] cut stop other hf hg e a b =
    absurd (none_begins f x u (subst (AllByRecursion IsPassedOver) (sym (append-nil g) ∙ sym e) hg) a.0)
one_stop n f g (x ∷ u) (y ∷ v) cut stop other hf hg e a b =
    let front = (same_begin f g x y u v hf hg a.0 b.0 e).0 in
    a.1 ∙ (ap (λ ls. Some (n + length ls + 1, Between)) front ∙ sym b.1)

one_over : (n : ℕ) (lines : List (List ℕ)) (cut : List ℕ) (stop other : Option (ℕ × StopFault))
    → IsOver n lines cut stop → IsOver n lines cut other → stop ≡ other
one_over n [] cut stop other a b = a ∙ sym b
one_over n (line ∷ behind) cut stop other (inl (off, a)) (inl (out, b)) =
    one_stop (n + 1) a.front b.front a.behind b.behind cut stop other a.passed b.passed (sym a.split ∙ b.split) a.stops
    b.stops
one_over n (line ∷ behind) cut stop other (inl (off, a)) (inr (on, b)) = absurd (clash (begins_head line) on off)
one_over n (line ∷ behind) cut stop other (inr (on, a)) (inl (off, b)) = absurd (clash (begins_head line) on off)
one_over n (line ∷ behind) cut stop other (inr (on, a)) (inr (in_too, b)) =
    one_no_head (n + 1) line behind stop other a b

-- ---- all heads

one_head : (a b : HeadText) → a.number ≡ b.number → a.status ≡ b.status → a.fields ≡ b.fields → a ≡ b
one_head a b number status fields =
    let make : ℕ → ℕ → List FieldText → HeadText = λ at n fs. record { number = at; status = n; fields = fs } in
    ap (λ at. make at a.status a.fields) number ∙ (ap (λ n. make b.number n a.fields) status
    ∙ ap (make b.number b.status) fields)

-- both say the same status line, with the same lines behind it
pub record SameBeginning (a b : HeadText) (u v : List (List ℕ)) : Type 0 where
  pub number : a.number ≡ b.number
  pub status : a.status ≡ b.status
  pub behind : u ≡ v

one_beginning : (n : ℕ) (lines : List (List ℕ)) (a b : HeadText) (u v : List (List ℕ)) → Begins n lines a u
    → Begins n lines b v → SameBeginning a b u v
one_beginning n lines a b u v x y =
    let split = sym x.split ∙ y.split in
    let some : Some a.status ≡ Some b.status =
    sym x.status ∙ (ap status_of (line_first x.line y.line u v split) ∙ y.status) in
    record {
      number = x.number ∙ sym y.number;
      status = one_some a.status b.status some;
      behind = line_rest x.line y.line u v split;
    }

-- where a head begins and ends, one comes next
over_apart : (n : ℕ) (lines : List (List ℕ)) (cut : List ℕ) (stop : Option (ℕ × StopFault)) (head : HeadText)
    (behind : List (List ℕ)) (number : ℕ) (more : List (List ℕ)) → IsOver n lines cut stop → Begins n lines head behind
    → Ends head.number behind head.fields number more → ⊥
over_apart n [] cut stop head behind number more over x ends = nil_cons x.line behind x.split
over_apart n (line ∷ after) cut stop head behind number more (inl (off, stops)) x ends =
    clash (begins_head line) (ap begins_head (line_first line x.line after behind x.split) ∙ x.begins) off
over_apart n (line ∷ after) cut stop head behind number more (inr (on, inl (none, is))) x ends =
    none_some head.status (sym none ∙ (ap status_of (line_first line x.line after behind x.split) ∙ x.status))
over_apart n (line ∷ after) cut stop head behind number more (inr (on, inr (some, unended, is))) x ends =
    end_apart head.number behind head.fields number more ends
    (subst IsUnended (line_rest line x.line after behind x.split) unended)

one_list_from : (n : ℕ) (lines : List (List ℕ)) (cut : List ℕ) (hs ks : List HeadText)
    (stop other : Option (ℕ × StopFault)) → GivesFrom n lines cut hs stop → GivesFrom n lines cut ks other
    → (hs ≡ ks) × (stop ≡ other)
one_list_from n lines cut [] [] stop other a b = (refl, one_over n lines cut stop other a b)
one_list_from n lines cut [] (k ∷ ks) stop other a (v, m, more, y, ends, there) =
    absurd (over_apart n lines cut stop k v m more a y ends)
one_list_from n lines cut (h ∷ hs) [] stop other (u, m, more, x, ends, far) b =
    absurd (over_apart n lines cut other h u m more b x ends)
one_list_from n lines cut (h ∷ hs) (k ∷ ks) stop other (u, m, more, x, a, far) (v, l, also, y, b, there) =
    let begun = one_beginning n lines h k u v x y in
    let same = same_fields a.read b.read h.fields k.fields ([] ∷ more) ([] ∷ also) a.are b.are (ends_so more)
    (ends_so also) (sym a.split ∙ (begun.behind ∙ b.split)) in
    let at : m ≡ l =
    a.counted ∙ (ap (λ n. n + length a.read + 1) begun.number
    ∙ (ap (λ ls. k.number + length ls + 1) same.0 ∙ sym b.counted)) in
    let left : more ≡ also = line_rest [] [] more also same.1 in
    let rest = one_list_from l also cut hs ks stop other (subst (λ ls. GivesFrom l ls cut hs stop) left
    (subst (λ n. GivesFrom n more cut hs stop) at far)) there in
    let head = one_head h k begun.number begun.status (fields_of a.read b.read h.fields k.fields a.are b.are same.0) in
    (ap (λ x. x ∷ hs) head ∙ ap (λ xs. k ∷ xs) rest.0, rest.1)

pub one_list : (text : List ℕ) (heads others : List HeadText) (stop other : Option (ℕ × StopFault))
    → GivesHeads text heads stop → GivesHeads text others other → (heads ≡ others) × (stop ≡ other)
one_list text heads others stop other a b =
    one_list_from 0 (whole_lines text) (cut_end text) heads others stop other a b

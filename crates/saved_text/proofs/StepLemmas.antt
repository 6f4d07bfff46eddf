-- Steps from one grammar with its text to another with what is left of the text.
use Rattle.std.specs.Prelude.{flat_map, ◌⊎◌, Bool, true, false, ◌==◌, IsTrue, encode_utf8}
use Rattle.std.proofs.Common.{
  ◌≡◌,
  ℕ,
  zero,
  suc,
  ◌+◌,
  ◌*◌,
  ◌≤◌,
  ◌<◌,
  ◌||◌,
  ◌&&◌,
  not,
  ◌++◌,
  List,
  [],
  ◌∷◌,
  length,
  refl,
  sym,
  ap,
  ◌∙◌,
  arith,
  inl,
  inr,
  append_assoc,
  subst,
}
use Rattle.std.proofs.lemmas.List.{append-nil}
use Rattle.std.specs.List.{AllByRecursion}
use Rattle.std.specs.Char.{IsScalar}
use Rattle.std.proofs.lemmas.Bool.{false≢true}
use Rattle.std.proofs.lemmas.Bool.Decides.{Decides-eqb}
use Rattle.saved_text.specs.Grammar.{Grammar, Word, IsOf, IsFront, letters}
use Rattle.saved_text.specs.Grammar.Grammar.{nothing, say, space, sign, one, number, seq, either, many}
use Rattle.saved_text.specs.Letters.{is_space, is_digit, digit_value, number_after, AreSpaces, AreDigits}
use Rattle.saved_text.specs.Reads.{Leads, Stuck, Takes, Stops}
use Rattle.saved_text.specs.Faults.{Undigited, IsEnd, Unspaced}

lt-or-eq : (a b : ℕ) → a ≤ b → (a < b) ⊎ (a ≡ b)
lt-or-eq a zero h = inr (omega arith)
lt-or-eq zero (suc b) h = inl (omega arith)
lt-or-eq (suc a) (suc b) h = elim (lt-or-eq a b (omega arith)) [ inl l ↦ inl (omega arith) | inr e ↦ inr (ap suc e) ]

-- ---- laws of every grammar

pub front_nil : (g : Grammar) → IsFront g []
front_nil nothing = refl
front_nil (say w) = refl
front_nil space = tt
front_nil (sign s) = (s, refl)
front_nil (one p f) = inl refl
front_nil (number low high v) = inl refl
front_nil (seq g h) = inl (front_nil g)
front_nil (either g h) = inl (front_nil g)
front_nil (many g) = inl refl

pub front_of_whole : (g : Grammar) (text : List ℕ) (said : List Word) → IsOf g text said → IsFront g text
front_of_whole nothing text said w = w.0
front_of_whole (say v) text said w = w.0
front_of_whole space text said w = w.0
front_of_whole (sign s) text said w = ([], sym w.0 ∙ sym (append-nil text))
front_of_whole (one p f) text said w = inr (w.0, w.1, w.2)
front_of_whole (number low high v) text said w = inr
    (w.0, elim (lt-or-eq (length text) high w.2) [ inl l ↦ inl l | inr e ↦ inr (e, w.3) ])
front_of_whole (seq g h) text said w = inr (w.0, w.1, w.2, w.4, front_of_whole h w.1 w.3 w.5, w.6)
front_of_whole (either g h) text said (inl w) = inl (front_of_whole g text said w)
front_of_whole (either g h) text said (inr w) = inr (front_of_whole h text said w)
front_of_whole (many g) text said w = inr (text, [], said, w, front_nil g, sym (append-nil text))

-- ---- one step and another

pub Leads-trans : (G H K : Grammar) (a b c : List ℕ) (s t : List Word) → Leads G a s H b → Leads H b t K c
    → Leads G a (s ++ t) K c
Leads-trans G H K a b c s t l m = record {
  x = l.x ++ m.x;
  split = l.split ∙ ap (λ r. l.x ++ r) m.split ∙ sym (append_assoc l.x m.x c);
  down = λ w o. let p = l.down w o in let q = m.down p.0 p.1
      in (q.0, q.1, p.2 ∙ ap (λ r. s ++ r) q.2 ∙ sym (append_assoc s t q.0));
  up = λ y r o.
      let p : IsOf G (l.x ++ (m.x ++ y)) (s ++ (t ++ r)) = l.up (m.x ++ y) (t ++ r) (m.up y r o) in
      subst (λ v. IsOf G v ((s ++ t) ++ r)) (sym (append_assoc l.x m.x y))
      (subst (IsOf G (l.x ++ (m.x ++ y))) (sym (append_assoc s t r)) p);
  front_down = λ y z e f. m.front_down y z e
      (l.front_down (m.x ++ y) z (m.split ∙ ap (λ r. m.x ++ r) e ∙ sym (append_assoc m.x y z))
      (subst (IsFront G) (append_assoc l.x m.x y) f));
  front_up = λ y z e f. subst (IsFront G) (sym (append_assoc l.x m.x y))
      (l.front_up (m.x ++ y) z (m.split ∙ ap (λ r. m.x ++ r) e ∙ sym (append_assoc m.x y z)) (m.front_up y z e f));
}

pub Stuck-behind : (G H : Grammar) (a b c : List ℕ) (s : List Word) → Leads G a s H b → Stuck H b c → Stuck G a c
Stuck-behind G H a b c s l m = record {
  x = l.x ++ m.x;
  split = l.split ∙ ap (λ r. l.x ++ r) m.split ∙ sym (append_assoc l.x m.x c);
  front = l.front_up m.x c m.split m.front;
  none = λ w o. let p = l.down w o in m.none p.0 p.1;
  far = λ d y z e f. m.far d y z e
      (l.front_down (m.x ++ d ∷ y) z (m.split ∙ ap (λ r. m.x ++ r) e ∙ sym (append_assoc m.x (d ∷ y) z))
      (subst (IsFront G) (append_assoc l.x m.x (d ∷ y)) f));
}

-- two grammars of the same texts and fronts
pub record Same (G H : Grammar) : Type 0 where
  pub down : (text : List ℕ) (w : List Word) → IsOf G text w → IsOf H text w
  pub up : (text : List ℕ) (w : List Word) → IsOf H text w → IsOf G text w
  pub front_down : (text : List ℕ) → IsFront G text → IsFront H text
  pub front_up : (text : List ℕ) → IsFront H text → IsFront G text

pub Same-sym : (G H : Grammar) → Same G H → Same H G
Same-sym G H e = record { down = e.up; up = e.down; front_down = e.front_up; front_up = e.front_down }

pub Same-refl : (G : Grammar) → Same G G
Same-refl G = record { down = λ text w o. o; up = λ text w o. o; front_down = λ text f. f; front_up = λ text f. f }

pub Same-trans : (G H K : Grammar) → Same G H → Same H K → Same G K
Same-trans G H K a b = record {
  down = λ text w o. b.down text w (a.down text w o);
  up =
      λ text w o. a.up text w (b.up text w o);
  front_down =
      λ text f. b.front_down text (a.front_down text f);
  front_up = λ text f. a.front_up text (b.front_up text f);
}

-- nothing behind
pub Same-nothing : (g : Grammar) → Same (seq g nothing) g
Same-nothing g = record {
  down = λ text w o. subst (λ v. IsOf g v w) (sym (o.6 ∙ ap (λ q. o.0 ++ q) o.5.0 ∙ append-nil o.0))
      (subst (IsOf g o.0) (sym (o.7 ∙ ap (λ q. o.2 ++ q) o.5.1 ∙ append-nil o.2)) o.4);
  up = λ text w o. (text, [], w, [], o, (refl, refl), sym (append-nil text), sym (append-nil w));
  front_down = λ text f. elim f [
    | inl k ↦ k
    | inr k ↦ subst (IsFront g) (sym (k.5 ∙ ap (λ q. k.0 ++ q) k.4 ∙ append-nil k.0)) (front_of_whole g k.0 k.2 k.3)
  ];
  front_up = λ text f. inl f;
}

pub Leads-same : (G H : Grammar) (text : List ℕ) → Same G H → Leads G text [] H text
Leads-same G H text e = record {
  x = [];
  split = refl;
  down = λ w o. (w, e.down text w o, refl);
  up = λ y t o. e.up y t o;
  front_down = λ y z q f. e.front_down y f;
  front_up = λ y z q f. e.front_up y f;
}

pub Same-assoc : (a b c : Grammar) → Same (seq (seq a b) c) (seq a (seq b c))
Same-assoc a b c = record {
  down = λ text w o. (
    o.4.0,
    o.4.1 ++ o.1,
    o.4.2,
    o.4.3 ++ o.3,
    o.4.4,
    (o.4.1, o.1, o.4.3, o.3, o.4.5, o.5, refl, refl),
    o.6 ∙ ap (λ r. r ++ o.1) o.4.6 ∙ append_assoc o.4.0 o.4.1 o.1,
    o.7 ∙ ap (λ r. r ++ o.3) o.4.7 ∙ append_assoc o.4.2 o.4.3 o.3,
  );
  up = λ text w o. (
    o.0 ++ o.5.0,
    o.5.1,
    o.2 ++ o.5.2,
    o.5.3,
    (o.0, o.5.0, o.2, o.5.2, o.4, o.5.4, refl, refl),
    o.5.5,
    o.6 ∙ ap (λ r. o.0 ++ r) o.5.6 ∙ sym (append_assoc o.0 o.5.0 o.5.1),
    o.7 ∙ ap (λ r. o.2 ++ r) o.5.7
        ∙ sym (append_assoc o.2 o.5.2 o.5.3),
  );
  front_down = λ text f. elim f [
    | inl g ↦ elim g [ inl k ↦ inl k | inr k ↦ inr (k.0, k.1, k.2, k.3, inl k.4, k.5) ]
    | inr g ↦ inr (
      g.3.0,
      g.3.1 ++ g.1,
      g.3.2,
      g.3.4,
      inr (g.3.1, g.1, g.3.3, g.3.5, g.4, refl),
      g.5
          ∙ ap (λ r. r ++ g.1) g.3.6 ∙ append_assoc g.3.0 g.3.1 g.1,
    )
  ];
  front_up = λ text f. elim f [
    | inl k ↦ inl (inl k)
    | inr k ↦ elim k.4 [
      | inl g ↦ inl (inr (k.0, k.1, k.2, k.3, g, k.5))
      | inr g ↦ inr (
        k.0 ++ g.0,
        g.1,
        k.2 ++ g.2,
        (k.0, g.0, k.2, g.2, k.3, g.3, refl, refl),
        g.4,
        k.5
            ∙ ap (λ r. k.0 ++ r) g.5 ∙ sym (append_assoc k.0 g.0 g.1),
      )
    ]
  ];
}

-- ---- parts of a sequence

pub Takes-seq : (g h : Grammar) (a b c : List ℕ) (s t : List Word) → Takes g a s b → Takes h b t c
    → Takes (seq g h) a (s ++ t) c
Takes-seq g h a b c s t l m k =
    Leads-trans (seq (seq g h) k) (seq g (seq h k)) k a a c [] (s ++ t)
    (Leads-same (seq (seq g h) k) (seq g (seq h k)) a (Same-assoc g h k))
    (Leads-trans (seq g (seq h k)) (seq h k) k a b c s t (l (seq h k)) (m k))

pub Stops-first : (g h : Grammar) (a c : List ℕ) → Stops g a c → Stops (seq g h) a c
Stops-first g h a c s k = Stuck-behind (seq (seq g h) k) (seq g (seq h k)) a a c []
    (Leads-same (seq (seq g h) k) (seq g (seq h k)) a (Same-assoc g h k)) (s (seq h k))

pub Stops-second : (g h : Grammar) (a b c : List ℕ) (s : List Word) → Takes g a s b → Stops h b c → Stops (seq g h) a c
Stops-second g h a b c s l m k =
    Stuck-behind (seq (seq g h) k) (seq g (seq h k)) a a c []
    (Leads-same (seq (seq g h) k) (seq g (seq h k)) a (Same-assoc g h k))
    (Stuck-behind (seq g (seq h k)) (seq h k) a b c s (l (seq h k)) (m k))

-- ---- what a grammar may begin with

abbrev pub nullable : Grammar → Bool
nullable nothing = true
nullable (say w) = true
nullable space = true
nullable (sign []) = true
nullable (sign (b ∷ s)) = false
nullable (one p f) = false
nullable (number zero high v) = true
nullable (number (suc low) high v) = false
nullable (seq g h) = nullable g && nullable h
nullable (either g h) = nullable g || nullable h
nullable (many g) = true

abbrev pub starts : Grammar → ℕ → Bool
starts nothing c = false
starts (say w) c = false
starts space c = is_space c
starts (sign []) c = false
starts (sign (b ∷ s)) c = c == b
starts (one p f) c = p c
starts (number low high v) c = is_digit c
starts (seq g h) c = starts g c || (nullable g && starts h c)
starts (either g h) c = starts g c || starts h c
starts (many g) c = starts g c

or_left : (a b : Bool) → IsTrue a → IsTrue (a || b)
or_left true b h = refl
or_left false b h = absurd (false≢true h)

or_right : (a b : Bool) → IsTrue b → IsTrue (a || b)
or_right true b h = refl
or_right false b h = h

and_both : (a b : Bool) → IsTrue a → IsTrue b → IsTrue (a && b)
and_both true b h k = k
and_both false b h k = absurd (false≢true h)

pub no_cell : {A : Type 0} (x : A) (xs : List A) → x ∷ xs ≡ [] → ⊥
no_cell x xs e = absurd (cc)

pub nullable_whole : (g : Grammar) (text : List ℕ) (said : List Word) → text ≡ [] → IsOf g text said
    → IsTrue (nullable g)
nullable_whole nothing text said e w = refl
nullable_whole (say v) text said e w = refl
nullable_whole space text said e w = refl
nullable_whole (sign []) text said e w = refl
nullable_whole (sign (b ∷ s)) text said e w = absurd (no_cell b s (sym w.0 ∙ e))
nullable_whole (one p f) text said e w = absurd (no_cell w.0 [] (sym w.2 ∙ e))
nullable_whole (number zero high v) text said e w = refl
nullable_whole (number (suc low) high v) text said e w =
    (let n : length text ≡ 0 = ap length e in absurd (omega (arith, n, w.1)))
nullable_whole (seq g h) [] said e ([], y, s, t, o, p, q, r) =
    and_both (nullable g) (nullable h) (nullable_whole g [] s refl o) (nullable_whole h y t (sym q) p)
nullable_whole (seq g h) [] said e (b ∷ x, y, s, t, o, p, q, r) = absurd (no_cell b (x ++ y) (sym q))
nullable_whole (seq g h) (c ∷ text) said e w = absurd (no_cell c text e)
nullable_whole (either g h) text said e (inl w) = or_left (nullable g) (nullable h) (nullable_whole g text said e w)
nullable_whole (either g h) text said e (inr w) = or_right (nullable g) (nullable h) (nullable_whole h text said e w)
nullable_whole (many g) text said e w = refl

pub head_same : (a b : ℕ) (x y : List ℕ) → a ∷ x ≡ b ∷ y → a ≡ b
head_same a b x y e = cc

pub tail_same : (a b : ℕ) (x y : List ℕ) → a ∷ x ≡ b ∷ y → x ≡ y
tail_same a b x y e = cc

same_test : (a : ℕ) → IsTrue (a == a)
same_test a = (Decides-eqb a a).1 refl

parts_start : (g : Grammar) (c : ℕ) (y : List ℕ) → ((d : ℕ) (z : List ℕ) → IsFront g (d ∷ z) → IsTrue (starts g d))
    → (parts : List (List ℕ × List Word)) → AllByRecursion (λ p. IsOf g p.0 p.1) parts → (u : List ℕ) → IsFront g u
    → c ∷ y ≡ flat_map (λ p. p.0) parts ++ u → IsTrue (starts g c)
parts_start g c y starting [] all u f e = starting c y (subst (IsFront g) (sym e) f)
parts_start g c y starting (([], s) ∷ parts) all u f e = parts_start g c y starting parts all.1 u f e
parts_start g c y starting ((b ∷ x, s) ∷ parts) all u f e =
    subst (λ d. IsTrue (starts g d)) (sym (head_same c b y ((x ++ flat_map (λ p. p.0) parts) ++ u) e))
    (starting b x (front_of_whole g (b ∷ x) s all.0))

pub starts_front : (g : Grammar) (c : ℕ) (y : List ℕ) → IsFront g (c ∷ y) → IsTrue (starts g c)
starts_front nothing c y f = absurd (no_cell c y f)
starts_front (say w) c y f = absurd (no_cell c y f)
starts_front space c y f = f.0
starts_front (sign []) c y f = absurd (no_cell c (y ++ f.0) (sym f.1))
starts_front (sign (b ∷ s)) c y f = subst (λ d. IsTrue (c == d)) (sym (head_same b c s (y ++ f.0) f.1)) (same_test c)
starts_front (one p f) c y (inl e) = absurd (no_cell c y e)
starts_front (one p f) c y (inr w) = subst (λ d. IsTrue (p d)) (sym (head_same c w.0 y [] w.2)) w.1
starts_front (number low high v) c y (inl e) = absurd (no_cell c y e)
starts_front (number low high v) c y (inr f) = f.0.0
starts_front (seq g h) c y (inl f) = or_left (starts g c) (nullable g && starts h c) (starts_front g c y f)
starts_front (seq g h) c y (inr ([], u, s, o, f, e)) =
    or_right (starts g c) (nullable g && starts h c)
    (and_both (nullable g) (starts h c) (nullable_whole g [] s refl o)
    (starts_front h c y (subst (IsFront h) (sym e) f)))
starts_front (seq g h) c y (inr (b ∷ x, u, s, o, f, e)) =
    or_left (starts g c) (nullable g && starts h c)
    (subst (λ d. IsTrue (starts g d)) (sym (head_same c b y (x ++ u) e))
    (starts_front g b x (front_of_whole g (b ∷ x) s o)))
starts_front (either g h) c y (inl f) = or_left (starts g c) (starts h c) (starts_front g c y f)
starts_front (either g h) c y (inr f) = or_right (starts g c) (starts h c) (starts_front h c y f)
starts_front (many g) c y (inl e) = absurd (no_cell c y e)
starts_front (many g) c y (inr w) = parts_start g c y (λ d z f. starts_front g d z f) w.3.0 w.3.1 w.1 w.4
    (w.5 ∙ ap (λ r. r ++ w.1) w.3.2)

-- ---- a grammar that is stuck at once

abbrev pub Misses : Grammar → List ℕ → Type 0
Misses G [] = nullable G ≡ false
Misses G (c ∷ r) = starts G c ≡ false

none_at : (G : Grammar) (text : List ℕ) → Misses G text → (w : List Word) → ¬ IsOf G text w
none_at G [] m w o = false≢true (sym m ∙ nullable_whole G [] w refl o)
none_at G (c ∷ r) m w o = false≢true (sym m ∙ starts_front G c r (front_of_whole G (c ∷ r) w o))

far_at : (G : Grammar) (text : List ℕ) → Misses G text → (b : ℕ) (y z : List ℕ) → text ≡ b ∷ (y ++ z)
    → ¬ IsFront G (b ∷ y)
far_at G [] m b y z e f = no_cell b (y ++ z) (sym e)
far_at G (c ∷ r) m b y z e f = false≢true (sym m ∙ ap (starts G) (head_same c b r (y ++ z) e) ∙ starts_front G b y f)

pub Stuck-at : (G : Grammar) (text : List ℕ) → Misses G text → Stuck G text text
Stuck-at G text m = record { x = []; split = refl; front = front_nil G; none = none_at G text m; far = far_at G text m }

pub none_or : (a b : Bool) → a ≡ false → b ≡ false → (a || b) ≡ false
none_or true b e f = absurd (false≢true (sym e))
none_or false b e f = f

pub none_and : (a b : Bool) → a ≡ false → (a && b) ≡ false
none_and true b e = absurd (false≢true (sym e))
none_and false b e = refl

pub misses_seq : (g k : Grammar) (text : List ℕ) → nullable g ≡ false → Misses g text → Misses (seq g k) text
misses_seq g k [] n m = none_and (nullable g) (nullable k) n
misses_seq g k (c ∷ r) n m = none_or (starts g c) (nullable g && starts k c) m (none_and (nullable g) (starts k c) n)

pub Stops-at : (g : Grammar) (text : List ℕ) → nullable g ≡ false → Misses g text → Stops g text text
Stops-at g text n m k = Stuck-at (seq g k) text (misses_seq g k text n m)

-- ---- the leaves

pub Leads-sign : (c : ℕ) (s : List ℕ) (h : Grammar) (r : List ℕ)
    → Leads (seq (sign (c ∷ s)) h) (c ∷ r) [] (seq (sign s) h) r
Leads-sign c s h r = record {
  x = c ∷ [];
  split = refl;
  down = λ w o. (
    w,
    (
      s,
      o.1,
      [],
      o.3,
      (refl, refl),
      o.5,
      tail_same c c r (s ++ o.1) (o.6 ∙ ap (λ q. q ++ o.1) o.4.0),
      o.7 ∙ ap (λ q. q ++ o.3) o.4.1,
    ),
    refl,
  );
  up = λ y t o. (
    c ∷ s,
    o.1,
    [],
    o.3,
    (refl, refl),
    o.5,
    ap (λ q. c ∷ q) (o.6 ∙ ap (λ q. q ++ o.1) o.4.0),
    o.7
        ∙ ap (λ q. q ++ o.3) o.4.1,
  );
  front_down = λ y z e f. elim f [
    | inl g ↦ inl (g.0, tail_same c c s (y ++ g.0) g.1)
    | inr g ↦ inr (s, g.1, [], (refl, refl), g.4, tail_same c c y (s ++ g.1) (g.5 ∙ ap (λ q. q ++ g.1) g.3.0))
  ];
  front_up = λ y z e f. elim f [
    | inl g ↦ inl (g.0, ap (λ q. c ∷ q) g.1)
    | inr g ↦ inr (c ∷ s, g.1, [], (refl, refl), g.4, ap (λ q. c ∷ q) (g.5 ∙ ap (λ q. q ++ g.1) g.3.0))
  ];
}

-- a grammar of the empty text alone
Leads-empty : (e : Grammar) (v : List Word) → ((x : List ℕ) (s : List Word) → IsOf e x s → (x ≡ []) × (s ≡ v))
    → IsOf e [] v → ((x : List ℕ) → IsFront e x → x ≡ []) → (h : Grammar) (r : List ℕ) → Leads (seq e h) r v h r
Leads-empty e v only whole front h r = record {
  x = [];
  split = refl;
  down = λ w o. let p = only o.0 o.2 o.4 in
      (o.3, subst (λ q. IsOf h q o.3) (sym (o.6 ∙ ap (λ q. q ++ o.1) p.0)) o.5, o.7 ∙ ap (λ q. q ++ o.3) p.1);
  up = λ y t o. ([], y, v, t, whole, o, refl, refl);
  front_down = λ y z q f. elim f [
    | inl g ↦ subst (IsFront h) (sym (front y g)) (front_nil h)
    | inr g ↦ subst (IsFront h) (sym (g.5 ∙ ap (λ p. p ++ g.1) (only g.0 g.2 g.3).0)) g.4
  ];
  front_up = λ y z q f. inr ([], y, v, whole, f, refl);
}

pub Leads-nothing : (h : Grammar) (r : List ℕ) → Leads (seq nothing h) r [] h r
Leads-nothing = Leads-empty nothing [] (λ x s o. o) (refl, refl) (λ x f. f)

pub Leads-say : (w : Word) (h : Grammar) (r : List ℕ) → Leads (seq (say w) h) r (w ∷ []) h r
Leads-say w = Leads-empty (say w) (w ∷ []) (λ x s o. o) (refl, refl) (λ x f. f)

no_front : (x y : List ℕ) → [] ≡ x ++ y → x ≡ []
no_front [] y e = refl
no_front (c ∷ x) y e = absurd (no_cell c (x ++ y) (sym e))

pub Leads-signed : (h : Grammar) (r : List ℕ) → Leads (seq (sign []) h) r [] h r
Leads-signed = Leads-empty (sign []) [] (λ x s o. o) (refl, refl) (λ x f. no_front x f.0 f.1)

pub Leads-one : (p : ℕ → Bool) (f : ℕ → List ℕ) (c : ℕ) (h : Grammar) (r : List ℕ) → IsTrue (p c)
    → Leads (seq (one p f) h) (c ∷ r) (letters (f c)) h r
Leads-one p f c h r t = record {
  x = c ∷ [];
  split = refl;
  down = λ w o.
      let e : c ∷ r ≡ o.4.0 ∷ o.1 = o.6 ∙ ap (λ q. q ++ o.1) o.4.2 in (
        o.3,
        subst (λ q. IsOf h q o.3) (sym (tail_same c o.4.0 r o.1 e)) o.5,
        o.7 ∙ ap (λ q. q ++ o.3) o.4.3
            ∙ ap (λ d. letters (f d) ++ o.3) (sym (head_same c o.4.0 r o.1 e)),
      );
  up = λ y u o. (c ∷ [], y, letters (f c), u, (c, t, refl, refl), o, refl, refl);
  front_down = λ y z e g. elim g [
    | inl k ↦ elim k [
      | inl n ↦ absurd (no_cell c y n)
      | inr n ↦ subst (IsFront h) (sym (tail_same c n.0 y [] n.2)) (front_nil h)
    ]
    | inr k ↦ subst (IsFront h) (sym (tail_same c k.3.0 y k.1 (k.5 ∙ ap (λ q. q ++ k.1) k.3.2))) k.4
  ];
  front_up = λ y z e g. inr (c ∷ [], y, letters (f c), (c, t, refl, refl), g, refl);
}

-- ---- choices

pub Same-either : (a b k : Grammar) → Same (seq (either a b) k) (either (seq a k) (seq b k))
Same-either a b k = record {
  down = λ text w o. elim o.4 [
    | inl p ↦ inl (o.0, o.1, o.2, o.3, p, o.5, o.6, o.7)
    | inr p ↦ inr
        (o.0, o.1, o.2, o.3, p, o.5, o.6, o.7)
  ];
  up = λ text w o. elim o [
    | inl p ↦ (p.0, p.1, p.2, p.3, inl p.4, p.5, p.6, p.7)
    | inr p ↦
        (p.0, p.1, p.2, p.3, inr p.4, p.5, p.6, p.7)
  ];
  front_down = λ text f. elim f [
    | inl g ↦ elim g [ inl p ↦ inl (inl p) | inr p ↦ inr (inl p) ]
    | inr g ↦ elim g.3 [
      | inl p ↦ inl (inr (g.0, g.1, g.2, p, g.4, g.5))
      | inr p ↦ inr
          (inr (g.0, g.1, g.2, p, g.4, g.5))
    ]
  ];
  front_up = λ text f. elim f [
    | inl g ↦ elim g [ inl p ↦ inl (inl p) | inr p ↦ inr (p.0, p.1, p.2, inl p.3, p.4, p.5) ]
    | inr g ↦ elim g [ inl p ↦ inl (inr p) | inr p ↦ inr (p.0, p.1, p.2, inr p.3, p.4, p.5) ]
  ];
}

starts_prefix : (B : Grammar) (c : ℕ) (r : List ℕ) → starts B c ≡ false → (y z : List ℕ) → c ∷ r ≡ y ++ z
    → (d : ℕ) (v : List ℕ) → y ≡ d ∷ v → ¬ IsFront B y
starts_prefix B c r m y z e d v q f =
    far_at B (c ∷ r) m d v z (e ∙ ap (λ p. p ++ z) q) (subst (IsFront B) q f)

left_of : (A B : Grammar) (c : ℕ) (r : List ℕ) → starts B c ≡ false → (y z : List ℕ) → c ∷ r ≡ y ++ z → IsFront B y
    → IsFront A y
left_of A B c r m [] z e f = front_nil A
left_of A B c r m (d ∷ v) z e f = absurd (starts_prefix B c r m (d ∷ v) z e d v refl f)

pub Leads-left : (A B : Grammar) (c : ℕ) (r : List ℕ) → starts B c ≡ false → Leads (either A B) (c ∷ r) [] A (c ∷ r)
Leads-left A B c r m = record {
  x = [];
  split = refl;
  down = λ w o. elim o [ inl p ↦ (w, p, refl) | inr p ↦ absurd (none_at B (c ∷ r) m w p) ];
  up = λ y t o. inl o;
  front_down = λ y z e f. elim f [ inl p ↦ p | inr p ↦ left_of A B c r m y z e p ];
  front_up = λ y z e f. inl f;
}

pub Leads-right : (A B : Grammar) (c : ℕ) (r : List ℕ) → starts A c ≡ false → Leads (either A B) (c ∷ r) [] B (c ∷ r)
Leads-right A B c r m = record {
  x = [];
  split = refl;
  down = λ w o. elim o [ inr p ↦ (w, p, refl) | inl p ↦ absurd (none_at A (c ∷ r) m w p) ];
  up = λ y t o. inr o;
  front_down = λ y z e f. elim f [ inr p ↦ p | inl p ↦ left_of B A c r m y z e p ];
  front_up = λ y z e f. inr f;
}

pub Takes-left : (a b : Grammar) (c : ℕ) (r : List ℕ) (s : List Word) (rest : List ℕ) → nullable b ≡ false
    → starts b c ≡ false → Takes a (c ∷ r) s rest → Takes (either a b) (c ∷ r) s rest
Takes-left a b c r s rest n m l k =
    Leads-trans (seq (either a b) k) (either (seq a k) (seq b k)) k (c ∷ r) (c ∷ r) rest [] s
    (Leads-same _ _ (c ∷ r) (Same-either a b k))
    (Leads-trans (either (seq a k) (seq b k)) (seq a k) k (c ∷ r) (c ∷ r) rest [] s
    (Leads-left (seq a k) (seq b k) c r (misses_seq b k (c ∷ r) n m)) (l k))

-- ---- repetition

abbrev AreParts : Grammar → List (List ℕ × List Word) → Type 0
AreParts g parts = AllByRecursion (λ p. IsOf g p.0 p.1) parts

abbrev front_of_parts : List (List ℕ × List Word) → List ℕ
front_of_parts parts = flat_map (λ p. p.0) parts

abbrev said_of_parts : List (List ℕ × List Word) → List Word
said_of_parts parts = flat_map (λ p. p.1) parts

many_down : (g k : Grammar) (text : List ℕ) (w : List Word) (x y : List ℕ) (s t : List Word)
    (parts : List (List ℕ × List Word)) → AreParts g parts → x ≡ front_of_parts parts → s ≡ said_of_parts parts
    → IsOf k y t → text ≡ x ++ y → w ≡ s ++ t
    → IsOf (either (seq g (seq (many g) k)) k) text w
many_down g k text w x y s t [] all e f o p q =
    inr (subst (λ v. IsOf k text v) (sym (q ∙ ap (λ v. v ++ t) f))
    (subst (λ v. IsOf k v t) (sym (p ∙ ap (λ v. v ++ y) e)) o))
many_down g k text w x y s t (a ∷ parts) all e f o p q =
    inl (
      a.0,
      front_of_parts parts ++ y,
      a.1,
      said_of_parts parts ++ t,
      all.0,
      (front_of_parts parts, y, said_of_parts parts, t, (parts, all.1, refl, refl), o, refl, refl),
      p ∙ ap (λ v. v ++ y) e ∙ append_assoc a.0 (front_of_parts parts) y,
      q ∙ ap (λ v. v ++ t) f ∙ append_assoc a.1 (said_of_parts parts) t,
    )

many_front : (g k : Grammar) (parts : List (List ℕ × List Word)) → AreParts g parts → (x y : List ℕ)
    → x ≡ front_of_parts parts → IsFront g y → (text : List ℕ) → text ≡ x ++ y → IsFront (seq g (seq (many g) k)) text
many_front g k [] all x y e f text p = inl (subst (IsFront g) (sym (p ∙ ap (λ v. v ++ y) e)) f)
many_front g k (a ∷ parts) all x y e f text p =
    inr (
      a.0,
      front_of_parts parts ++ y,
      a.1,
      all.0,
      inl
          (inr (front_of_parts parts, y, said_of_parts parts, (parts, all.1, refl, refl), f, refl)),
      p
          ∙ ap (λ v. v ++ y) e ∙ append_assoc a.0 (front_of_parts parts) y,
    )

many_behind : (g k : Grammar) (parts : List (List ℕ × List Word)) → AreParts g parts → (x y : List ℕ)
    → x ≡ front_of_parts parts → IsFront k y → (text : List ℕ) → text ≡ x ++ y
    → IsFront (either (seq g (seq (many g) k)) k) text
many_behind g k [] all x y e f text p = inr (subst (IsFront k) (sym (p ∙ ap (λ v. v ++ y) e)) f)
many_behind g k (a ∷ parts) all x y e f text p =
    inl (inr (
      a.0,
      front_of_parts parts ++ y,
      a.1,
      all.0,
      inr (front_of_parts parts, y, said_of_parts parts, (parts, all.1, refl, refl), f, refl),
      p
          ∙ ap (λ v. v ++ y) e ∙ append_assoc a.0 (front_of_parts parts) y,
    ))

pub Same-many : (g k : Grammar) → Same (seq (many g) k) (either (seq g (seq (many g) k)) k)
Same-many g k = record {
  down = λ text w o. many_down g k text w o.0 o.1 o.2 o.3 o.4.0 o.4.1 o.4.2 o.4.3 o.5 o.6 o.7;
  up = λ text w o. elim o [
    | inl p ↦ (
      p.0 ++ p.5.0,
      p.5.1,
      p.2 ++ p.5.2,
      p.5.3,
      ((p.0, p.2) ∷ p.5.4.0, (p.4, p.5.4.1), ap (λ q. p.0 ++ q) p.5.4.2, ap (λ q. p.2 ++ q) p.5.4.3),
      p.5.5,
      p.6 ∙ ap (λ q. p.0 ++ q) p.5.6 ∙ sym (append_assoc p.0 p.5.0 p.5.1),
      p.7 ∙ ap (λ q. p.2 ++ q) p.5.7 ∙ sym (append_assoc p.2 p.5.2 p.5.3),
    )
    | inr p ↦ ([], text, [], w, ([], tt, refl, refl), p, refl, refl)
  ];
  front_down = λ text f. elim f [
    | inl m ↦ elim m [
      | inl e ↦ inl (inl (subst (IsFront g) (sym e) (front_nil g)))
      | inr p ↦ inl (many_front g k p.3.0 p.3.1 p.0 p.1 p.3.2 p.4 text p.5)
    ]
    | inr p ↦ many_behind g k p.3.0 p.3.1 p.0 p.1 p.3.2 p.4 text p.5
  ];
  front_up = λ text f. elim f [
    | inl m ↦ elim m [
      | inl p ↦ inl (inr ([], text, [], ([], tt, refl, refl), p, refl))
      | inr p ↦ elim p.4 [
        | inl q ↦ elim q [
          | inl e ↦ inl (inr (
            p.0,
            [],
            p.2,
            ((p.0, p.2) ∷ [], (p.3, tt), sym (append-nil p.0), sym (append-nil p.2)),
            front_nil g,
            p.5 ∙ ap (λ v. p.0 ++ v) e,
          ))
          | inr u ↦ inl (inr (
            p.0 ++ u.0,
            u.1,
            p.2 ++ u.2,
            ((p.0, p.2) ∷ u.3.0, (p.3, u.3.1), ap (λ v. p.0 ++ v) u.3.2, ap (λ v. p.2 ++ v) u.3.3),
            u.4,
            p.5
                ∙ ap (λ v. p.0 ++ v) u.5 ∙ sym (append_assoc p.0 u.0 u.1),
          ))
        ]
        | inr u ↦ inr (
          p.0 ++ u.0,
          u.1,
          p.2 ++ u.2,
          ((p.0, p.2) ∷ u.3.0, (p.3, u.3.1), ap (λ v. p.0 ++ v) u.3.2, ap (λ v. p.2 ++ v) u.3.3),
          u.4,
          p.5
              ∙ ap (λ v. p.0 ++ v) u.5 ∙ sym (append_assoc p.0 u.0 u.1),
        )
      ]
    ]
    | inr p ↦ inr ([], text, [], ([], tt, refl, refl), p, refl)
  ];
}

-- ---- white space

abbrev pub solid : Grammar → Bool
solid h = not (starts h 32 || (starts h 9 || (starts h 10 || starts h 13)))

or_cases : (a b : Bool) → IsTrue (a || b) → IsTrue a ⊎ IsTrue b
or_cases true b h = inl refl
or_cases false b h = inr h

not_or : (a b : Bool) → IsTrue (not (a || b)) → (a ≡ false) × IsTrue (not b)
not_or true b h = absurd (false≢true h)
not_or false b h = (refl, h)

pub not_false : (a : Bool) → IsTrue (not a) → a ≡ false
not_false true h = absurd (false≢true h)
not_false false h = refl

pub same_number : (a b : ℕ) → IsTrue (a == b) → a ≡ b
same_number a b h = (Decides-eqb a b).0 h

solid_at : (h : Grammar) → IsTrue (solid h) → (c : ℕ) → IsTrue (is_space c) → starts h c ≡ false
solid_at h s c t =
    let a = not_or (starts h 32) (starts h 9 || (starts h 10 || starts h 13)) s in
    let b = not_or (starts h 9) (starts h 10 || starts h 13) a.1 in
    let d = not_or (starts h 10) (starts h 13) b.1 in
    elim (or_cases ((c == 32) || (c == 9) || (c == 10)) (c == 13) t) [
      | inr e ↦ ap (starts h) (same_number c 13 e) ∙ not_false (starts h 13) d.1
      | inl u ↦ elim (or_cases ((c == 32) || (c == 9)) (c == 10) u) [
        | inr e ↦ ap (starts h) (same_number c 10 e) ∙ d.0
        | inl v ↦ elim (or_cases (c == 32) (c == 9) v) [
          | inr e ↦ ap (starts h) (same_number c 9 e) ∙ b.0
          | inl e ↦ ap (starts h) (same_number c 32 e) ∙ a.0
        ]
      ]
    ]

no_space : (h : Grammar) → IsTrue (solid h) → (c : ℕ) (y : List ℕ) → IsTrue (is_space c) → ¬ IsFront h (c ∷ y)
no_space h s c y t f = false≢true (sym (solid_at h s c t) ∙ starts_front h c y f)

space_down : (h : Grammar) → IsTrue (solid h) → (c : ℕ) (r : List ℕ) → IsTrue (is_space c)
    → (w : List Word) (x y : List ℕ) (s t : List Word) → AreSpaces x → s ≡ [] → IsOf h y t → c ∷ r ≡ x ++ y
    → w ≡ s ++ t → IsOf (seq space h) r w
space_down h n c r sp w [] y s t a e o p q = absurd
    (no_space h n c r sp (subst (IsFront h) (sym p) (front_of_whole h y t o)))
space_down h n c r sp w (b ∷ x) y s t a e o p q = (x, y, s, t, (a.1, e), o, tail_same c b r (x ++ y) p, q)

space_front : (h : Grammar) → IsTrue (solid h) → (c : ℕ) (y : List ℕ) → IsTrue (is_space c)
    → (x u : List ℕ) (s : List Word) → AreSpaces x → s ≡ [] → IsFront h u → c ∷ y ≡ x ++ u → IsFront (seq space h) y
space_front h n c y sp [] u s a e f p = absurd (no_space h n c y sp (subst (IsFront h) (sym p) f))
space_front h n c y sp (b ∷ x) u s a e f p = inr (x, u, s, (a.1, e), f, tail_same c b y (x ++ u) p)

pub Leads-space : (c : ℕ) (h : Grammar) (r : List ℕ) → IsTrue (is_space c) → IsTrue (solid h)
    → Leads (seq space h) (c ∷ r) [] (seq space h) r
Leads-space c h r t n = record {
  x = c ∷ [];
  split = refl;
  down = λ w o. (w, space_down h n c r t w o.0 o.1 o.2 o.3 o.4.0 o.4.1 o.5 o.6 o.7, refl);
  up = λ y u o. (c ∷ o.0, o.1, o.2, o.3, ((t, o.4.0), o.4.1), o.5, ap (λ q. c ∷ q) o.6, o.7);
  front_down = λ y z e f. elim f [
    | inl a ↦ inl a.1
    | inr p ↦ space_front h n c y t p.0 p.1 p.2 p.3.0 p.3.1 p.4 p.5
  ];
  front_up = λ y z e f. elim f [
    | inl a ↦ inl (t, a)
    | inr p ↦ inr (c ∷ p.0, p.1, p.2, ((t, p.3.0), p.3.1), p.4, ap (λ q. c ∷ q) p.5)
  ];
}

no_spaces : (text : List ℕ) → Unspaced text → (x y : List ℕ) → AreSpaces x → text ≡ x ++ y → x ≡ []
no_spaces text u [] y a e = refl
no_spaces [] u (b ∷ x) y a e = absurd (no_cell b (x ++ y) (sym e))
no_spaces (c ∷ r) u (b ∷ x) y a e = absurd (false≢true (sym u ∙ ap is_space (head_same c b r (x ++ y) e) ∙ a.0))

unspaced_front : (text : List ℕ) → Unspaced text → (y z : List ℕ) → text ≡ y ++ z → Unspaced y
unspaced_front text u [] z e = tt
unspaced_front [] u (b ∷ y) z e = absurd (no_cell b (y ++ z) (sym e))
unspaced_front (c ∷ r) u (b ∷ y) z e = ap is_space (sym (head_same c b r (y ++ z) e)) ∙ u

pub Leads-unspaced : (h : Grammar) (r : List ℕ) → Unspaced r → Leads (seq space h) r [] h r
Leads-unspaced h r u = record {
  x = [];
  split = refl;
  down = λ w o.
      let n = no_spaces r u o.0 o.1 o.4.0 o.6 in
      (o.3, subst (λ q. IsOf h q o.3) (sym (o.6 ∙ ap (λ q. q ++ o.1) n)) o.5, o.7 ∙ ap (λ q. q ++ o.3) o.4.1);
  up = λ y t o. ([], y, [], t, (tt, refl), o, refl, refl);
  front_down = λ y z e f. elim f [
    | inl a ↦ (let n = no_spaces y (unspaced_front r u y z e) y [] a (sym (append-nil y)) in subst (IsFront h) (sym n)
        (front_nil h))
    | inr p ↦ (let n = no_spaces y (unspaced_front r u y z e) p.0 p.1 p.3.0 p.5 in subst (IsFront h)
        (sym (p.5 ∙ ap (λ q. q ++ p.1) n)) p.4)
  ];
  front_up = λ y z e f. inr ([], y, [], (tt, refl), f, refl);
}

-- ---- digits

abbrev pub next_value : ℕ → ℕ → ℕ
next_value v d = v * 16 + digit_value d

-- Behind one more digit so many are wanted at least.
abbrev pub fewer : ℕ → ℕ
fewer zero = zero
fewer (suc n) = n

less_one : (low l : ℕ) → fewer low ≤ l → low ≤ suc l
less_one zero l e = omega arith
less_one (suc low) l e = omega arith

digits_down : (low high v d : ℕ) (h : Grammar) (r : List ℕ) → (low ≡ 0 → starts h d ≡ false)
    → (w : List Word) (x y : List ℕ) (s t : List Word) → IsOf (number low (suc high) v) x s → IsOf h y t
    → d ∷ r ≡ x ++ y → w ≡ s ++ t → IsOf (seq (number (fewer low) high (next_value v d)) h) r w
digits_down low high v d h r free w [] y s t n o p q =
    let none : low ≡ 0 = omega (arith, n.1) in
    absurd (false≢true (sym (free none) ∙ starts_front h d r (subst (IsFront h) (sym p) (front_of_whole h y t o))))
digits_down zero high v d h r free w (b ∷ x) y s t n o p q =
    let same : b ≡ d = sym (head_same d b r (x ++ y) p) in (
      x,
      y,
      s,
      t,
      (
        n.0.1,
        omega arith,
        omega (arith, n.2),
        subst (λ k. IsScalar (number_after (next_value v k) x)) same n.3,
        n.4
            ∙ ap (λ k. letters (encode_utf8 (number_after (next_value v k) x))) same,
      ),
      o,
      tail_same d b r (x ++ y) p,
      q,
    )
digits_down (suc low) high v d h r free w (b ∷ x) y s t n o p q =
    let same : b ≡ d = sym (head_same d b r (x ++ y) p) in (
      x,
      y,
      s,
      t,
      (
        n.0.1,
        omega (arith, n.1),
        omega (arith, n.2),
        subst (λ k. IsScalar (number_after (next_value v k) x)) same n.3,
        n.4
            ∙ ap (λ k. letters (encode_utf8 (number_after (next_value v k) x))) same,
      ),
      o,
      tail_same d b r (x ++ y) p,
      q,
    )

digits_front : (low high v d : ℕ) (h : Grammar) (y : List ℕ) → (low ≡ 0 → starts h d ≡ false)
    → (x u : List ℕ) (s : List Word) → IsOf (number low (suc high) v) x s → IsFront h u → d ∷ y ≡ x ++ u
    → IsFront (seq (number (fewer low) high (next_value v d)) h) y
digits_front low high v d h y free [] u s n f p =
    let none : low ≡ 0 = omega (arith, n.1) in
    absurd (false≢true (sym (free none) ∙ starts_front h d y (subst (IsFront h) (sym p) f)))
digits_front low high v d h y free (b ∷ x) u s n f p =
    let q = digits_down low high v d nothing x (λ e. refl) s (b ∷ x) [] s [] n (refl, refl)
    (ap (λ k. k ∷ x) (head_same d b y (x ++ u) p) ∙ sym (append-nil (b ∷ x))) (sym (append-nil s)) in
    inr (
      q.0,
      u,
      q.2,
      q.4,
      f,
      tail_same d b y (x ++ u) p
          ∙ ap (λ k. k ++ u) (q.6 ∙ ap (λ k. q.0 ++ k) q.5.0 ∙ append-nil q.0),
    )

digit_fits : (high v d : ℕ) (y : List ℕ) → y ≡ [] → IsScalar (next_value v d)
    → (suc (length y) < suc high) ⊎ ((suc (length y) ≡ suc high) × IsScalar (number_after v (d ∷ y)))
digit_fits zero v d y e m = inr (ap (λ q. suc (length q)) e, subst (λ q. IsScalar (number_after v (d ∷ q))) (sym e) m)
digit_fits (suc high) v d y e m = inl (let none : length y ≡ 0 = ap length e in omega (arith, none))

pub Leads-digit : (low high v d : ℕ) (h : Grammar) (r : List ℕ) → IsTrue (is_digit d) → (low ≡ 0 → starts h d ≡ false)
    → (0 < high) ⊎ IsScalar (next_value v d) → Leads (seq (number low (suc high) v) h) (d ∷ r) []
    (seq (number (fewer low) high (next_value v d)) h) r
Leads-digit low high v d h r t free room = record {
  x = d ∷ [];
  split = refl;
  down = λ w o. (w, digits_down low high v d h r free w o.0 o.1 o.2 o.3 o.4 o.5 o.6 o.7, refl);
  up = λ y u o. (
    d ∷ o.0,
    o.1,
    o.2,
    o.3,
    ((t, o.4.0), less_one low (length o.0) o.4.1, omega (arith, o.4.2), o.4.3, o.4.4),
    o.5,
    ap (λ q. d ∷ q) o.6,
    o.7,
  );
  front_down = λ y z e f. elim f [
    | inl n ↦ elim n [
      | inl e ↦ absurd (no_cell d y e)
      | inr p ↦ inl (inr (p.0.1, elim p.1 [ inl l ↦ inl (omega (arith, l)) | inr m ↦ inr (omega (arith, m.0), m.1) ]))
    ]
    | inr p ↦ digits_front low high v d h y free p.0 p.1 p.2 p.3 p.4 p.5
  ];
  front_up = λ y z e f. elim f [
    | inl n ↦ elim n [
      | inl e ↦ inl (inr (
        (t, subst AreDigits (sym e) tt),
        elim room [
          | inl l ↦ inl (let none : length y ≡ 0 = ap length e in omega (arith, l, none))
          | inr m ↦ digit_fits high v d y e m
        ],
      ))
      | inr p ↦ inl (inr (
        (t, p.0),
        elim p.1
            [ inl l ↦ inl (omega (arith, l)) | inr m ↦ inr (omega (arith, m.0), m.1) ],
      ))
    ]
    | inr p ↦ inr (
      d ∷ p.0,
      p.1,
      p.2,
      ((t, p.3.0), less_one low (length p.0) p.3.1, omega (arith, p.3.2), p.3.3, p.3.4),
      p.4,
      ap (λ q. d ∷ q) p.5,
    )
  ];
}

no_digits : (text : List ℕ) → Undigited text → (x y : List ℕ) → AreDigits x → text ≡ x ++ y → x ≡ []
no_digits text u [] y a e = refl
no_digits [] u (b ∷ x) y a e = absurd (no_cell b (x ++ y) (sym e))
no_digits (c ∷ r) u (b ∷ x) y a e = absurd (false≢true (sym u ∙ ap is_digit (head_same c b r (x ++ y) e) ∙ a.0))

undigited_front : (text : List ℕ) → Undigited text → (y z : List ℕ) → text ≡ y ++ z → Undigited y
undigited_front text u [] z e = tt
undigited_front [] u (b ∷ y) z e = absurd (no_cell b (y ++ z) (sym e))
undigited_front (c ∷ r) u (b ∷ y) z e = ap is_digit (sym (head_same c b r (y ++ z) e)) ∙ u

pub end_digits : (high : ℕ) (r : List ℕ) → IsEnd high r → (y z : List ℕ) → r ≡ y ++ z → (x u : List ℕ) → AreDigits x
    → length x ≤ high → y ≡ x ++ u → x ≡ []
end_digits high r (inl e) y z p [] u a l q = refl
end_digits high r (inl e) y z p (b ∷ x) u a l q = absurd (omega (arith, e, l))
end_digits high r (inr n) y z p x u a l q = no_digits y (undigited_front r n y z p) x u a q

pub front_short : (high v : ℕ) (y : List ℕ) → ((length y < high) ⊎ ((length y ≡ high) × IsScalar (number_after v y)))
    → length y ≤ high
front_short high v y (inl l) = omega (arith, l)
front_short high v y (inr m) = omega (arith, m.0)

pub Leads-numbered : (high v : ℕ) (h : Grammar) (r : List ℕ) → IsScalar v → IsEnd high r
    → Leads (seq (number 0 high v) h) r (letters (encode_utf8 v)) h r
Leads-numbered high v h r t end = record {
  x = [];
  split = refl;
  down = λ w o.
      let n = end_digits high r end r [] (sym (append-nil r)) o.0 o.1 o.4.0 o.4.2 o.6 in (
        o.3,
        subst (λ q. IsOf h q o.3) (sym (o.6 ∙ ap (λ q. q ++ o.1) n)) o.5,
        o.7
            ∙ ap (λ q. q ++ o.3) (o.4.4 ∙ ap (λ q. letters (encode_utf8 (number_after v q))) n),
      );
  up = λ y u o. ([], y, letters (encode_utf8 v), u, (tt, omega arith, omega arith, t, refl), o, refl, refl);
  front_down = λ y z e f. elim f [
    | inl k ↦ elim k [
      | inl n ↦ subst (IsFront h) (sym n) (front_nil h)
      | inr p ↦ subst (IsFront h) (sym
          (end_digits high r end y z e y [] p.0 (front_short high v y p.1) (sym (append-nil y)))) (front_nil h)
    ]
    | inr p ↦ subst (IsFront h) (sym (p.5 ∙ ap (λ q. q ++ p.1) (end_digits high r end y z e p.0 p.1 p.3.0 p.3.2 p.5)))
        p.4
  ];
  front_up = λ y z e f. inr ([], y, letters (encode_utf8 v), (tt, omega arith, omega arith, t, refl), f, refl);
}

pub either_parts : (a b c d : Grammar) → Same a c → Same b d → Same (either a b) (either c d)
either_parts a b c d e f = record {
  down = λ text w o. elim o [ inl p ↦ inl (e.down text w p) | inr p ↦ inr (f.down text w p) ];
  up = λ text w o. elim o [ inl p ↦ inl (e.up text w p) | inr p ↦ inr (f.up text w p) ];
  front_down = λ text o. elim o [ inl p ↦ inl (e.front_down text p) | inr p ↦ inr (f.front_down text p) ];
  front_up = λ text o. elim o [ inl p ↦ inl (e.front_up text p) | inr p ↦ inr (f.front_up text p) ];
}

pub seq_parts : (g a b : Grammar) → Same a b → Same (seq g a) (seq g b)
seq_parts g a b e = record {
  down = λ text w o. (o.0, o.1, o.2, o.3, o.4, e.down o.1 o.3 o.5, o.6, o.7);
  up = λ text w o. (o.0, o.1, o.2, o.3, o.4, e.up o.1 o.3 o.5, o.6, o.7);
  front_down = λ text o. elim o [ inl p ↦ inl p | inr p ↦ inr (p.0, p.1, p.2, p.3, e.front_down p.1 p.4, p.5) ];
  front_up = λ text o. elim o [ inl p ↦ inl p | inr p ↦ inr (p.0, p.1, p.2, p.3, e.front_up p.1 p.4, p.5) ];
}

-- one more or none, before a grammar behind
pub Same-unfold : (g k h : Grammar) → Same (seq (seq (many g) k) h) (seq (either (seq g (seq (many g) k)) k) h)
Same-unfold g k h =
    let M : Grammar = many g in
    Same-trans (seq (seq M k) h) (seq M (seq k h)) (seq (either (seq g (seq M k)) k) h) (Same-assoc M k h)
    (Same-trans (seq M (seq k h)) (either (seq g (seq M (seq k h))) (seq k h)) (seq (either (seq g (seq M k)) k) h)
    (Same-many g (seq k h))
    (Same-trans (either (seq g (seq M (seq k h))) (seq k h)) (either (seq (seq g (seq M k)) h) (seq k h))
    (seq (either (seq g (seq M k)) k) h)
    (either_parts (seq g (seq M (seq k h))) (seq k h) (seq (seq g (seq M k)) h) (seq k h)
    (Same-trans (seq g (seq M (seq k h))) (seq g (seq (seq M k) h)) (seq (seq g (seq M k)) h)
    (seq_parts g (seq M (seq k h)) (seq (seq M k) h)
    (Same-sym (seq (seq M k) h) (seq M (seq k h)) (Same-assoc M k h)))
    (Same-sym (seq (seq g (seq M k)) h) (seq g (seq (seq M k) h)) (Same-assoc g (seq M k) h)))
    (Same-refl (seq k h)))
    (Same-sym (seq (either (seq g (seq M k)) k) h) (either (seq (seq g (seq M k)) h) (seq k h))
    (Same-either (seq g (seq M k)) k h))))

else_of : (A B : Grammar) (text : List ℕ) → Misses A text → (y z : List ℕ) → text ≡ y ++ z → IsFront A y → IsFront B y
else_of A B text m [] z e f = front_nil B
else_of A B text m (d ∷ v) z e f = absurd (far_at A text m d v z e f)

pub Leads-else : (A B : Grammar) (text : List ℕ) → Misses A text → Leads (either A B) text [] B text
Leads-else A B text m = record {
  x = [];
  split = refl;
  down = λ w o. elim o [ inr p ↦ (w, p, refl) | inl p ↦ absurd (none_at A text m w p) ];
  up = λ y t o. inr o;
  front_down = λ y z e f. elim f [ inr p ↦ p | inl p ↦ else_of A B text m y z e p ];
  front_up = λ y z e f. inr f;
}

-- the second can't begin here
pub Leads-only : (A B : Grammar) (text : List ℕ) → Misses B text → Leads (either A B) text [] A text
Leads-only A B text m = record {
  x = [];
  split = refl;
  down = λ w o. elim o [ inl p ↦ (w, p, refl) | inr p ↦ absurd (none_at B text m w p) ];
  up = λ y t o. inl o;
  front_down = λ y z e f. elim f [ inl p ↦ p | inr p ↦ else_of B A text m y z e p ];
  front_up = λ y z e f. inl f;
}

-- two alternatives that begin alike
pub Same-factor : (a b c : Grammar) → Same (either (seq a b) (seq a c)) (seq a (either b c))
Same-factor a b c = record {
  down = λ text w o. elim o [
    | inl p ↦ (p.0, p.1, p.2, p.3, p.4, inl p.5, p.6, p.7)
    | inr p ↦
        (p.0, p.1, p.2, p.3, p.4, inr p.5, p.6, p.7)
  ];
  up = λ text w o. elim o.5 [
    | inl p ↦ inl (o.0, o.1, o.2, o.3, o.4, p, o.6, o.7)
    | inr p ↦ inr
        (o.0, o.1, o.2, o.3, o.4, p, o.6, o.7)
  ];
  front_down = λ text f. elim f [
    | inl g ↦ elim g [ inl p ↦ inl p | inr p ↦ inr (p.0, p.1, p.2, p.3, inl p.4, p.5) ]
    | inr g ↦ elim g [ inl p ↦ inl p | inr p ↦ inr (p.0, p.1, p.2, p.3, inr p.4, p.5) ]
  ];
  front_up = λ text f. elim f [
    | inl p ↦ inl (inl p)
    | inr g ↦ elim g.4 [
      | inl p ↦ inl (inr (g.0, g.1, g.2, g.3, p, g.5))
      | inr p ↦ inr
          (inr (g.0, g.1, g.2, g.3, p, g.5))
    ]
  ];
}

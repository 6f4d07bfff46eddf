-- The last value that pieces give, and that of pieces that stand in their places.
use Rattle.std.proofs.Common.{◌≡◌, ℕ, List, [], ◌∷◌, ◌++◌, Option, Some, None, refl, ap, subst}
use Rattle.std.specs.List.{All}
use Rattle.std.proofs.lemmas.List.Elements.{All-nil, All-cons, All-head, All-tail}
use Rattle.cookie_text.specs.Reading.{HasLast, IsLast}
use Rattle.cookie_text.specs.ReadingBack.{Pairwise}

abbrev pub Silent : {A : Type 0} → (List ℕ → A → Type 0) → List ℕ → Type 0
Silent {A} gives p = (a : A) → ¬ (gives p a)

-- both are there and related, or neither is there
abbrev pub Both : {A B : Type 0} → (A → B → Type 0) → Option A → Option B → Type 0
Both R None None = Unit {0}
Both R None (Some b) = ⊥
Both R (Some a) None = ⊥
Both R (Some a) (Some b) = R a b

module _ {A B : Type 0} (gives : List ℕ → A → Type 0) (other : List ℕ → B → Type 0) (R : A → B → Type 0)
    (Beside : List ℕ → List ℕ → Type 0)
    (given : (p k : List ℕ) → Beside p k → (a : A) → gives p a → (b : B) × R a b × other k b)
    (silent : (p k : List ℕ) → Beside p k → Silent gives p → Silent other k) where
  none_relates : (ps ks : List (List ℕ)) → Pairwise Beside ps ks → All (Silent gives) ps → All (Silent other) ks
  none_relates [] [] r h = All-nil (Silent other)
  none_relates [] (k ∷ ks) r h = absurd r
  none_relates (p ∷ ps) [] r h = absurd r
  none_relates (p ∷ ps) (k ∷ ks) r h =
      All-cons (Silent other) k ks (silent p k r.0 (All-head (Silent gives) p ps h))
      (none_relates ps ks r.1 (All-tail (Silent gives) p ps h))

  some_relates : (ps ks before : List (List ℕ)) (piece : List ℕ) (after : List (List ℕ)) (a : A)
      → Pairwise Beside ps ks → ps ≡ before ++ piece ∷ after → gives piece a → All (Silent gives) after
      → (b : B) × R a b × IsLast other ks b
  some_relates [] ks [] piece after a r e g h = absurd (cc e)
  some_relates [] ks (b ∷ bs) piece after a r e g h = absurd (cc e)
  some_relates (p ∷ ps) [] before piece after a r e g h = absurd r
  some_relates (p ∷ ps) (k ∷ ks) [] piece after a r e g h =
      let head : piece ≡ p = cc in
      let tail : after ≡ ps = cc in
      let (b, related, gives_b) = given p k r.0 a (subst (λ q. gives q a) head g) in (
        b,
        related,
        record {
          before = [];
          piece = k;
          after = ks;
          split = refl;
          given = gives_b;
          later = none_relates ps ks r.1 (subst (All (Silent gives)) tail h);
        },
      )
  some_relates (p ∷ ps) (k ∷ ks) (q ∷ bs) piece after a r e g h =
      let tail : ps ≡ bs ++ piece ∷ after = cc in
      let (b, related, l) = some_relates ps ks bs piece after a r.1 tail g h in (
        b,
        related,
        record {
          before = k ∷ l.before;
          piece = l.piece;
          after = l.after;
          split = ap (λ qs. k ∷ qs) l.split;
          given = l.given;
          later = l.later;
        },
      )

  pub last_relates : (ps ks : List (List ℕ)) → Pairwise Beside ps ks → (o : Option A) → HasLast gives ps o
      → (q : Option B) × Both R o q × HasLast other ks q
  last_relates ps ks r None h = (None, tt, none_relates ps ks r h)
  last_relates ps ks r (Some a) h =
      let (b, related, l) = some_relates ps ks h.before h.piece h.after a r h.split h.given h.later in
      (Some b, related, l)

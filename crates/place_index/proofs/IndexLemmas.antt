-- The index agrees with the rows after one more.
use Rattle.std.proofs.Common.{◌≡◌, ◌≢◌, ◌⊎◌, ◌+◌, ◌<◌, ◌≤◌, ◌&&◌, ℕ, Bool, true, false, cond, List, [], ◌∷◌, length}
use Rattle.std.proofs.Common.{refl, sym, ap, subst, ◌∙◌, inl, inr, arith, true≢false, suc}
use Rattle.std.specs.Prelude.{Option, Some, None, IfSome, option_map, nat_le, nat_lt}
use Rattle.std.specs.List.{insert}
use Rattle.std.specs.Str.{bytes_eq}
use Rattle.std.proofs.lemmas.Bool.{cond-true, cond-false, and_parts, and_from, and_left, and_right, false_from_ne_true}
use Rattle.std.proofs.lemmas.Grind.{common_steps}
use Rattle.place_index.specs.Entries.{value_at, with_value}
use Rattle.place_index.specs.Places.{Place, is_of, is_at}
use Rattle.place_index.proofs.EntryLemmas.{same_text, text_is}
use Rattle.place_index.specs.Index.{DomainPart}
use Rattle.place_index.specs.Parts.{Part}
use Rattle.place_index.specs.Index.{Index, IsPart, IsNowhere, PathAgrees, PathsAgree, DomainAgrees, PartsAgree, last}
use Rattle.place_index.specs.Index.{PathsInside}
use Rattle.place_index.specs.Index.{moved, moved_domain, moved_path, BeginsDomain, BeginsPath, GrowsPath}
use Rattle.place_index.proofs.PartLemmas.{part_after, part_before, part_grows, nowhere_stays, part_begins, apart}
use Rattle.place_index.proofs.PartLemmas.{nested}

-- ---- tests

pub unequal : (a b text : List ℕ) → a ≢ b → bytes_eq b text ≡ true → bytes_eq a text ≡ false
unequal a b text differ e = false_from_ne_true (bytes_eq a text) (λ f. differ (same_text a text f
    ∙ sym (same_text b text e)))

pub path_domain : (domain text : List ℕ) (r : Place) → is_at domain text r ≡ true → is_of domain r ≡ true
path_domain domain text r e = (and_parts (is_of domain r) (bytes_eq text r.path) e).0

pub domain_no_path : (domain text : List ℕ) (r : Place) → is_of domain r ≡ false → is_at domain text r ≡ false
domain_no_path domain text r e = and_left (is_of domain r) (bytes_eq text r.path) e

pub path_no_path : (domain text other : List ℕ) (r : Place) → other ≢ text → is_at domain text r ≡ true
    → is_at domain other r ≡ false
path_no_path domain text other r differ e =
    and_right (is_of domain r) (bytes_eq other r.path)
    (unequal other text r.path differ (and_parts (is_of domain r) (bytes_eq text r.path) e).1)

pub own_domain : (x : Place) → is_of x.domain x ≡ true
own_domain x = text_is x.domain x.domain refl

pub own_path : (x : Place) → is_at x.domain x.path x ≡ true
own_path x = and_from (is_of x.domain x) (bytes_eq x.path x.path) (own_domain x) (text_is x.path x.path refl)

-- each path's part lies in its domain's
pub paths_inside : (rows : List Place) (domain : List ℕ) (part : DomainPart) → DomainAgrees rows domain (Some part)
    → PathsInside (record { len = part.len; paths = part.paths })
paths_inside rows domain part own text = inside (value_at text part.paths) (own.1 text)
  where
    inside : (o : Option Part) → PathAgrees rows domain part.start text o
        → IfSome o (λ path. (0 < path.len) × (path.start + path.len ≤ part.len))
    inside None none = tt
    inside (Some path) is =
        let n = nested (is_of domain) (is_at domain text) rows part.start part.len (part.start + path.start) path.len
        own.0 is (path_domain domain text) in
        let inner = n.1 in
        (is.some, omega (arith, inner))

-- ---- where a part goes

pub moved_up : (p at : ℕ) → p ≤ at → at < last → moved p at ≡ suc at
moved_up p at le l = cond-true (nat_le p at && nat_lt at last) (suc at) at
    (and_from (nat_le p at) (nat_lt at last) (grind (arith, common_steps)) (grind (arith, common_steps)))

pub not_moved : (p at : ℕ) → at < p → moved p at ≡ at
not_moved p at l = cond-false (nat_le p at && nat_lt at last) (suc at) at
    (and_left (nat_le p at) (nat_lt at last) (grind (arith, common_steps)))

module _ (rows : List Place) (p : ℕ) (x : Place) (le : p ≤ length rows) (small : length rows ≤ last) where
  part_moves : (test : Place → Bool) (start len : ℕ) → IsPart test rows start len → test x ≡ false
      → (p ≤ start) ⊎ (start + len ≤ p) → IsPart test (insert rows p x) (moved p start) len
  part_moves test start len part fails (inl low) =
      let some = part.some in
      let within = part.within in
      subst (λ n. IsPart test (insert rows p x) n len)
      (sym (moved_up p start low (omega (arith, some, within, small))))
      (part_after test rows p x le start len part fails low)
  part_moves test start len part fails (inr high) =
      let some = part.some in
      subst (λ n. IsPart test (insert rows p x) n len) (sym (not_moved p start (omega (arith, some, high))))
      (part_before test rows p x le start len part fails high)

  -- a path of a domain that isn't x's
  path_moves : (domain text : List ℕ) (start len : ℕ) → IsPart (is_of domain) rows start len → is_of domain x ≡ false
      → (p ≤ start) ⊎ (start + len ≤ p) → (path : Option Part) → PathAgrees rows domain start text path
      → PathAgrees (insert rows p x) domain (moved p start) text path
  path_moves domain text start len part fails side None none =
      nowhere_stays (is_at domain text) rows p x le none (domain_no_path domain text x fails)
  path_moves domain text start len part fails (inl low) (Some path) is =
      let some = part.some in
      let within = part.within in
      let up = moved_up p start low (omega (arith, some, within, small)) in
      subst (λ n. IsPart (is_at domain text) (insert rows p x) n path.len) (omega (arith, up))
      (part_after (is_at domain text) rows p x le (start + path.start) path.len is
      (domain_no_path domain text x fails) (omega (arith, low)))
  path_moves domain text start len part fails (inr high) (Some path) is =
      let some = part.some in
      let here = not_moved p start (omega (arith, some, high)) in
      let n = nested (is_of domain) (is_at domain text) rows start len (start + path.start) path.len part is
      (path_domain domain text) in
      let inner = n.1 in
      subst (λ n. IsPart (is_at domain text) (insert rows p x) n path.len) (omega (arith, here))
      (part_before (is_at domain text) rows p x le (start + path.start) path.len is
      (domain_no_path domain text x fails) (omega (arith, inner, high)))

  -- a domain that isn't x's
  domain_moves : (domain : List ℕ) → is_of domain x ≡ false → (part : Option DomainPart) → DomainAgrees rows domain part
      → ((start len : ℕ) → IsPart (is_of domain) rows start len → (p ≤ start) ⊎ (start + len ≤ p))
      → DomainAgrees (insert rows p x) domain (option_map (moved_domain p) part)
  domain_moves domain fails None none sides = nowhere_stays (is_of domain) rows p x le none fails
  domain_moves domain fails (Some part) is sides =
      let side = sides part.start part.len is.0 in (
        part_moves (is_of domain) part.start part.len is.0 fails side,
        λ text. path_moves domain text part.start part.len is.0 fails side (value_at text part.paths) (is.1 text),
      )

  -- another path of x's domain, which begins at start
  own_path_moves : (domain text : List ℕ) (start q : ℕ) → p ≡ start + q → is_at domain text x ≡ false
      → (path : Option Part) → PathAgrees rows domain start text path
      → ((b n : ℕ) → IsPart (is_at domain text) rows b n → (p ≤ b) ⊎ (b + n ≤ p))
      → PathAgrees (insert rows p x) domain start text (option_map (moved_path q) path)
  own_path_moves domain text start q at fails None none sides = nowhere_stays (is_at domain text) rows p x le none fails
  own_path_moves domain text start q at fails (Some path) is sides = by (sides (start + path.start) path.len is)
    where
      by : (p ≤ start + path.start) ⊎ (start + path.start + path.len ≤ p)
          → IsPart (is_at domain text) (insert rows p x) (start + moved q path.start) path.len
      by (inl low) =
          let some = is.some in
          let within = is.within in
          let up = moved_up q path.start (omega (arith, low, at)) (omega (arith, some, within, small)) in
          subst (λ n. IsPart (is_at domain text) (insert rows p x) n path.len) (omega (arith, up))
          (part_after (is_at domain text) rows p x le (start + path.start) path.len is fails low)
      by (inr high) =
          let some = is.some in
          let here = not_moved q path.start (omega (arith, high, at, some)) in
          subst (λ n. IsPart (is_at domain text) (insert rows p x) n path.len) (omega (arith, here))
          (part_before (is_at domain text) rows p x le (start + path.start) path.len is fails high)

-- ---- the value of a text that was put in

pub value_at-with_value : {V : Type 0} (text : List ℕ) (es : List (List ℕ × V)) (w : V)
    → value_at text (with_value es text w) ≡ Some w
value_at-with_value text [] w = cond-true (bytes_eq text text) _ _ (text_is text text refl)
value_at-with_value text (e ∷ es) w = by (bytes_eq text e.0) refl (value_at-with_value text es w)
  where
    by : (b : Bool) → bytes_eq text e.0 ≡ b → value_at text (with_value es text w) ≡ Some w
        → value_at text (cond b ((e.0, w) ∷ es) (e ∷ with_value es text w)) ≡ Some w
    by true is rest = cond-true (bytes_eq text e.0) _ _ is
    by false is rest = cond-false (bytes_eq text e.0) _ _ is ∙ rest

pub value_at-with_other : {V : Type 0} (text other : List ℕ) (es : List (List ℕ × V)) (w : V)
    → bytes_eq other text ≡ false → value_at other (with_value es text w) ≡ value_at other es
value_at-with_other text other [] w fails = cond-false (bytes_eq other text) _ _ fails
value_at-with_other text other (e ∷ es) w fails = by (bytes_eq text e.0) refl
    (value_at-with_other text other es w fails)
  where
    by : (b : Bool) → bytes_eq text e.0 ≡ b → value_at other (with_value es text w) ≡ value_at other es
        → value_at other (cond b ((e.0, w) ∷ es) (e ∷ with_value es text w)) ≡ value_at other (e ∷ es)
    by true same rest =
        let fails2 : bytes_eq other e.0 ≡ false = subst (λ t. bytes_eq other t ≡ false)
        (same_text text e.0 same) fails in
        cond-false (bytes_eq other e.0) _ _ fails2 ∙ sym (cond-false (bytes_eq other e.0) _ _ fails2)
    by false same rest = ap (cond (bytes_eq other e.0) (Some e.1)) rest

-- ---- the three insertions

texts_differ : (a b : List ℕ) → bytes_eq a b ≡ false → a ≢ b
texts_differ a b e same = true≢false (sym (text_is a b same) ∙ e)

-- each text is this one or not
pub text_cases : {P : Type 0} (a b : List ℕ) → (a ≡ b → P) → (a ≢ b → P) → P
text_cases {P} a b same differ = by (bytes_eq a b) refl
  where
    by : (c : Bool) → bytes_eq a b ≡ c → P
    by true e = same (same_text a b e)
    by false e = differ (texts_differ a b e)

pub foreign : (x : Place) (domain : List ℕ) → domain ≢ x.domain → is_of domain x ≡ false
foreign x domain differ = unequal domain x.domain x.domain differ (own_domain x)

pub foreign_path : (x : Place) (text : List ℕ) → text ≢ x.path → is_at x.domain text x ≡ false
foreign_path x text differ = path_no_path x.domain x.path text x differ (own_path x)

-- the part of a first row
abbrev first : Place → Part
first x = record { start = 0; len = 1; names = x.name ∷ [] }

-- a path of x's domain, which has no path but x's
only_path : (x : Place) (text : List ℕ) → text ≢ x.path → value_at text ((x.path, first x) ∷ []) ≡ None
only_path x text differ = cond-false (bytes_eq text x.path) _ _
    (false_from_ne_true (bytes_eq text x.path) (λ e. differ (same_text text x.path e)))

-- an option that stays where no part is moved
unmoved : (p : ℕ) (part : DomainPart) → part.start < p → moved_domain p part ≡ part
unmoved p part l = ap (λ n. record part { start = n }) (not_moved p part.start l)

pub agrees_at : (rows : List Place) (domain : List ℕ) (a b : Option DomainPart) → a ≡ b → DomainAgrees rows domain b
    → DomainAgrees rows domain a
agrees_at rows domain a b e is = subst (DomainAgrees rows domain) (sym e) is

pub path_at : (rows : List Place) (domain : List ℕ) (start : ℕ) (text : List ℕ) (a b : Option Part) → a ≡ b
    → PathAgrees rows domain start text b → PathAgrees rows domain start text a
path_at rows domain start text a b e is = subst (PathAgrees rows domain start text) (sym e) is

module _ (rows : List Place) (x : Place) (p : ℕ) (old new : Index) (agrees : PartsAgree rows old)
    (small : length rows ≤ last) where
  -- a new domain, at the end
  pub begins_domain : p ≡ length rows → BeginsDomain x p old new → PartsAgree (insert rows p x) new
  begins_domain at b domain = text_cases domain x.domain same differ
    where
      le : p ≤ length rows
      le = omega (arith, at)

      nowhere : IsNowhere (is_of x.domain) rows
      nowhere = subst (DomainAgrees rows x.domain) b.absent (agrees x.domain)

      no_path : (text : List ℕ) → IsNowhere (is_at x.domain text) rows
      no_path text i r e = domain_no_path x.domain text r (nowhere i r e)

      paths : (text : List ℕ) → PathAgrees (insert rows p x) x.domain p text (value_at text ((x.path, first x) ∷ []))
      paths text = text_cases text x.path
          (λ e. path_at (insert rows p x) x.domain p text _ (Some (first x))
          (cond-true (bytes_eq text x.path) _ _ (text_is text x.path e))
          (subst (λ t. IsPart (is_at x.domain t) (insert rows p x) (p + 0) 1) (sym e)
          (subst (λ n. IsPart (is_at x.domain x.path) (insert rows p x) n 1) (omega arith)
          (part_begins (is_at x.domain x.path) rows p x le (no_path x.path) (own_path x)))))
          (λ d. path_at (insert rows p x) x.domain p text _ None (only_path x text d)
          (nowhere_stays (is_at x.domain text) rows p x le (no_path text) (foreign_path x text d)))

      same : domain ≡ x.domain → DomainAgrees (insert rows p x) domain (value_at domain new)
      same e = subst (λ t. DomainAgrees (insert rows p x) t (value_at t new)) (sym e)
          (agrees_at (insert rows p x) x.domain _ _ b.begun
          (part_begins (is_of x.domain) rows p x le nowhere (own_domain x), paths))

      sides : (start len : ℕ) → IsPart (is_of domain) rows start len → (p ≤ start) ⊎ (start + len ≤ p)
      sides start len part = let w = part.within in inr (omega (arith, at, w))

      kept : (part : Option DomainPart) → DomainAgrees rows domain part → option_map (moved_domain p) part ≡ part
      kept None is = refl
      kept (Some part) is = let some = is.0.some in let w = is.0.within in ap Some
          (unmoved p part (omega (arith, some, w, at)))

      differ : domain ≢ x.domain → DomainAgrees (insert rows p x) domain (value_at domain new)
      differ d =
          agrees_at (insert rows p x) domain _ _ (b.others domain d ∙ sym (kept (value_at domain old) (agrees domain)))
          (domain_moves rows p x le small domain (foreign x domain d) (value_at domain old) (agrees domain) sides)

  -- a row is put in within x's domain, or at its end: the domains
  in_domain : (part : DomainPart) → value_at x.domain old ≡ Some part → part.start ≤ p → p ≤ part.start + part.len
      → (paths : List (List ℕ × Part))
      → value_at x.domain new ≡ Some (record { start = part.start; len = suc part.len; paths = paths })
      → ((text : List ℕ) → text ≢ x.domain → value_at text new ≡ option_map (moved_domain p) (value_at text old))
      → ((t : Place → Bool) → ((r : Place) → is_of x.domain r ≡ true → t r ≡ false)
      → (b n : ℕ) → IsPart t rows b n → (p ≤ b) ⊎ (b + n ≤ p))
      → PathsAgree (insert rows p x) x.domain (record { start = part.start; len = suc part.len; paths = paths })
      → PartsAgree (insert rows p x) new
  in_domain part there low high paths grown others sides agree domain = text_cases domain x.domain same differ
    where
      own : DomainAgrees rows x.domain (Some part)
      own = subst (DomainAgrees rows x.domain) there (agrees x.domain)

      le : p ≤ length rows
      le = let w = own.0.within in omega (arith, w, high)

      same : domain ≡ x.domain → DomainAgrees (insert rows p x) domain (value_at domain new)
      same e = subst (λ t. DomainAgrees (insert rows p x) t (value_at t new)) (sym e)
          (agrees_at (insert rows p x) x.domain _ _ grown
          (part_grows (is_of x.domain) rows p x le part.start part.len own.0 (own_domain x) low high, agree))

      differ : domain ≢ x.domain → DomainAgrees (insert rows p x) domain (value_at domain new)
      differ d =
          agrees_at (insert rows p x) domain _ _ (others domain d)
          (domain_moves rows p x le small domain (foreign x domain d) (value_at domain old) (agrees domain)
          (sides (is_of domain) (λ r e. unequal domain x.domain r.domain d e)))

  -- a new path, at the domain's end
  pub begins_path : BeginsPath x p old new → PartsAgree (insert rows p x) new
  begins_path b = in_domain b.part b.there (omega (arith, at)) (omega (arith, at)) paths b.grown b.others sides agree
    where
      at : p ≡ b.part.start + b.part.len
      at = b.at

      own : DomainAgrees rows x.domain (Some b.part)
      own = subst (DomainAgrees rows x.domain) b.there (agrees x.domain)

      le : p ≤ length rows
      le = let w = own.0.within in omega (arith, w, at)

      paths : List (List ℕ × Part)
      paths = with_value b.part.paths x.path (record { start = b.part.len; len = 1; names = x.name ∷ [] })

      sides : (t : Place → Bool) → ((r : Place) → is_of x.domain r ≡ true → t r ≡ false)
          → (c n : ℕ) → IsPart t rows c n → (p ≤ c) ⊎ (c + n ≤ p)
      sides t no_t c n part =
          subst (λ m. (m ≤ c) ⊎ (c + n ≤ m)) (sym at)
          (apart (is_of x.domain) t rows b.part.start b.part.len c n own.0 part no_t)

      inside : (text : List ℕ) (c n : ℕ) → IsPart (is_at x.domain text) rows c n → (p ≤ c) ⊎ (c + n ≤ p)
      inside text c n part =
          let n = nested (is_of x.domain) (is_at x.domain text) rows b.part.start b.part.len c n own.0 part
          (path_domain x.domain text) in
          let inner = n.1 in inr (omega (arith, inner, at))

      none : IsNowhere (is_at x.domain x.path) rows
      none = subst (PathAgrees rows x.domain b.part.start x.path) b.absent (own.1 x.path)

      kept : (text : List ℕ) (path : Option Part) → PathAgrees rows x.domain b.part.start text path
          → option_map (moved_path b.part.len) path ≡ path
      kept text None is = refl
      kept text (Some path) is =
          let n = nested (is_of x.domain) (is_at x.domain text) rows b.part.start b.part.len
          (b.part.start + path.start) path.len own.0 is (path_domain x.domain text) in
          let inner = n.1 in
          let some = is.some in
          ap (λ n. Some (record path { start = n })) (not_moved b.part.len path.start (omega (arith, inner, some)))

      agree : PathsAgree (insert rows p x) x.domain
          (record { start = b.part.start; len = suc b.part.len; paths = paths })
      agree text = text_cases text x.path
          (λ e. subst (λ t. PathAgrees (insert rows p x) x.domain b.part.start t (value_at t paths)) (sym e)
          (path_at (insert rows p x) x.domain b.part.start x.path _ _
          (value_at-with_value x.path b.part.paths (record { start = b.part.len; len = 1; names = x.name ∷ [] }))
          (subst (λ n. IsPart (is_at x.domain x.path) (insert rows p x) n 1) at
          (part_begins (is_at x.domain x.path) rows p x le none (own_path x)))))
          (λ d. path_at (insert rows p x) x.domain b.part.start text _ _
          (value_at-with_other x.path text b.part.paths (record { start = b.part.len; len = 1; names = x.name ∷ [] })
          (false_from_ne_true (bytes_eq text x.path) (λ e. d (same_text text x.path e)))
          ∙ sym (kept text (value_at text b.part.paths) (own.1 text)))
          (own_path_moves rows p x le small x.domain text b.part.start b.part.len at (foreign_path x text d)
          (value_at text b.part.paths) (own.1 text) (inside text)))

  -- a path that is there, at its end
  pub grows_path : GrowsPath x p old new → PartsAgree (insert rows p x) new
  grows_path b = in_domain b.part b.there low high b.paths b.grown b.others sides agree
    where
      at : p ≡ b.part.start + (b.path.start + b.path.len)
      at = b.at

      own : DomainAgrees rows x.domain (Some b.part)
      own = subst (DomainAgrees rows x.domain) b.there (agrees x.domain)

      mine : IsPart (is_at x.domain x.path) rows (b.part.start + b.path.start) b.path.len
      mine = subst (PathAgrees rows x.domain b.part.start x.path) b.path_there (own.1 x.path)

      low : b.part.start ≤ p
      low = omega (arith, at)

      high : p ≤ b.part.start + b.part.len
      high =
          let n = nested (is_of x.domain) (is_at x.domain x.path) rows b.part.start b.part.len
          (b.part.start + b.path.start) b.path.len own.0 mine (path_domain x.domain x.path) in
          let inner = n.1 in omega (arith, inner, at)

      le : p ≤ length rows
      le = let w = own.0.within in omega (arith, w, high)

      end : b.part.start + b.path.start + b.path.len ≡ p
      end = omega (arith, at)

      uncrossed : (t : Place → Bool) → ((r : Place) → is_at x.domain x.path r ≡ true → t r ≡ false)
          → (c n : ℕ) → IsPart t rows c n → (p ≤ c) ⊎ (c + n ≤ p)
      uncrossed t no_t c n part =
          subst (λ m. (m ≤ c) ⊎ (c + n ≤ m)) end
          (apart (is_at x.domain x.path) t rows (b.part.start + b.path.start) b.path.len c n mine part no_t)

      sides : (t : Place → Bool) → ((r : Place) → is_of x.domain r ≡ true → t r ≡ false)
          → (c n : ℕ) → IsPart t rows c n → (p ≤ c) ⊎ (c + n ≤ p)
      sides t no_t c n part = uncrossed t (λ r e. no_t r (path_domain x.domain x.path r e)) c n part

      agree : PathsAgree (insert rows p x) x.domain
          (record { start = b.part.start; len = suc b.part.len; paths = b.paths })
      agree text = text_cases text x.path
          (λ e. subst (λ t. PathAgrees (insert rows p x) x.domain b.part.start t (value_at t b.paths)) (sym e)
          (path_at (insert rows p x) x.domain b.part.start x.path _ _ b.path_grown
          (part_grows (is_at x.domain x.path) rows p x le (b.part.start + b.path.start) b.path.len mine
          (own_path x) (omega (arith, at)) (omega (arith, at)))))
          (λ d. path_at (insert rows p x) x.domain b.part.start text _ _ (b.other_paths text d)
          (own_path_moves rows p x le small x.domain text b.part.start (b.path.start + b.path.len) at
          (foreign_path x text d) (value_at text b.part.paths) (own.1 text)
          (uncrossed (is_at x.domain text) (λ r e. path_no_path x.domain x.path text r d e))))

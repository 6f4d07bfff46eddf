-- Two runs, one with the answers of unrelated hosts and one without, have the same rows under the texts that matter to
-- a host: each is compared with one list, of its rows under these texts.
use Rattle.std.proofs.Common.{◌≡◌, ◌≢◌, ◌⊎◌, ℕ, ℤ, Bool, true, false, ◌&&◌, List, [], ◌∷◌, ◌++◌, sym, refl, ap, ◌∙◌}
use Rattle.std.proofs.Common.{subst, ⊎_elim, inl, inr, Some, Result}
use Rattle.std.specs.Prelude.{map, IsSomeAnd}
use Rattle.std.specs.List.{list_any, AllByRecursion}
use Rattle.std.specs.Str.{bytes_eq}
use Rattle.std.proofs.lemmas.Bool.{cases_Bool}
use Rattle.cookie_text.specs.Printing.{is_set}
use Rattle.publicsuffix.specs.Prevailing.{Listed}
use Rattle.publicsuffix.specs.Rules.{Rule}
use Rattle.store_parts.specs.DomainMatch.{Domain, host_only, suffix, not_present, empty, text_or_empty, Covers}
use Rattle.store_parts.specs.DomainMatch.{DomainMatches, EndsAfterDot, IsHostName}
use Rattle.store_parts.specs.Schemes.{host_of}
use Rattle.store_parts.specs.declared.error.CookieError.{CookieError}
use Rattle.url.specs.Parts.{Parts}
use Rattle.cookie.specs.Jar.{Jar}
use Rattle.cookie_store.specs.Given.{ArePicked, IsGiven, pair_of}
use Rattle.cookie_store.specs.Insertion.{End, settled, Settles}
use Rattle.cookie_store.specs.Laws.{GivenOnce, OneOrder}
use Rattle.cookie_store.specs.Longest.{AreLongestFirst}
use Rattle.cookie_store.specs.Rows.{Row, domain_text, is_live_of}
use Rattle.cookie_store.specs.declared.action.StoreAction.{StoreAction}
use Rattle.cookie_client.specs.Accept.{Accepts, AcceptsAll}
use Rattle.cookie_client.specs.Steps.{Act, Visits, Answers, Asks, Restarts, Arrival, Arrives, Never, Delivers, OneStep}
use Rattle.cookie_client.specs.Header.{IsHeader, header_of}
use Rattle.cookie_run.specs.Headline.{AreRelated, Each}
use Rattle.cookie_client.specs.Jar.{lines_of}
use Rattle.cookie_client.specs.Keeping.{Keeps}
use Rattle.cookie_run.specs.Play.{Plays}
use Rattle.cookie_run.specs.Strangers.{IsRelatedAt, Concerns, IsOnly, IsNoExchange, IsUntouched}
use Rattle.cookie_client.specs.declared.outcome.LineEnd.{LineEnd}
use Rattle.cookie_client.specs.declared.command.Reading.{Reading}
use Rattle.cookie_run.proofs.AloneRuns.{header_too}
use Rattle.cookie_run.proofs.Longest.{none_longest}
use Rattle.cookie_run.proofs.Lines.{some_and}
use Rattle.cookie_run.proofs.OwnRows.{first_and}
use Rattle.cookie_run.proofs.Picks.{PickedOf, any_picked, live_under, picked_settled, picked_settled_other, picked_kept}
use Rattle.cookie_run.proofs.Picks.{picked_inner}
use Rattle.cookie_client.proofs.ReadOnce.{ReadsOnce, kept_once}
use Rattle.cookie_run.proofs.Sound.{Sound, keeps_sound, lines_sound}
use Rattle.cookie_client.proofs.Texts.{same_text, texts_differ}
use Rattle.cookie_client.proofs.Tried.{Does, line_does, tried_once}
use Rattle.cookie_run.proofs.Tried.{IsWeighed, Stands, tried_stands, tried_weighed}

-- ---- the texts that matter to a host

-- its own, and those that it domain-matches and that are no public suffix
abbrev pub Near : List Rule → List ℕ → List ℕ → Type 0
Near list host text = (text ≡ host) ⊎ ((text ≢ []) × DomainMatches host text × (¬ (Listed list text)))

ends_or : (h t : List ℕ) → EndsAfterDot h t ⊎ (¬ (EndsAfterDot h t))
ends_or [] t = inr (λ e. never e.0 e.1)
  where
    never : (before : List ℕ) → [] ≡ before ++ 46 ∷ t → ⊥
    never [] e = absurd (cc)
    never (b ∷ bs) e = absurd (cc)
ends_or (b ∷ bs) t =
    elim (ends_or bs t) [
      | inl ends ↦ inl (b ∷ ends.0, ap (λ x. b ∷ x) ends.1)
      | inr none ↦ ⊎_elim
          (λ (e : bytes_eq (b ∷ bs) (46 ∷ t) ≡ true). inl ([], same_text (b ∷ bs) (46 ∷ t) e))
          (λ (e : bytes_eq (b ∷ bs) (46 ∷ t) ≡ false). inr (λ x. never e none x.0 x.1))
          (cases_Bool (bytes_eq (b ∷ bs) (46 ∷ t)))
    ]
  where
    never : bytes_eq (b ∷ bs) (46 ∷ t) ≡ false → ¬ (EndsAfterDot bs t) → (before : List ℕ)
        → b ∷ bs ≡ before ++ 46 ∷ t → ⊥
    never differ none [] e = texts_differ (b ∷ bs) (46 ∷ t) differ e
    never differ none (c ∷ before) e = let tails : bs ≡ before ++ 46 ∷ t = cc in none (before, tails)

-- the host is told to be an address, or not to be one
abbrev pub IsNamed : List ℕ → Type 0
IsNamed host = IsHostName host ⊎ (¬ (IsHostName host))

near_unlisted : (list : List Rule) (host text : List ℕ) → IsNamed host → bytes_eq text host ≡ false
    → ¬ (Listed list text) → Near list host text ⊎ (¬ (Near list host text))
near_unlisted list host [] named differ free = inr (λ near. never near)
  where
    never : Near list host [] → ⊥
    never (inl e) = texts_differ [] host differ e
    never (inr n) = n.0 refl
near_unlisted list host (b ∷ bs) named differ free =
    elim (ends_or host (b ∷ bs)) [
      | inl ends ↦ elim named [
        | inl is ↦ inl (inr ((λ e. let wrong : b ∷ bs ≡ [] = e in cc), inr (is, ends), free))
        | inr isnt ↦ inr (λ near. never (λ m. isnt m.0) near)
      ]
      | inr none ↦ inr (λ near. never (λ m. none m.1) near)
    ]
  where
    never : ¬ (IsHostName host × EndsAfterDot host (b ∷ bs)) → Near list host (b ∷ bs) → ⊥
    never away (inl e) = texts_differ (b ∷ bs) host differ e
    never away (inr (some, inl e, g)) = texts_differ (b ∷ bs) host differ (sym e)
    never away (inr (some, inr m, g)) = away m

near_or : (list : List Rule) (host text : List ℕ) → IsNamed host → IsWeighed list text
    → Near list host text ⊎ (¬ (Near list host text))
near_or list host text named weighed =
    ⊎_elim
    (λ (e : bytes_eq text host ≡ true). inl (inl (same_text text host e)))
    (λ (e : bytes_eq text host ≡ false). weigh e weighed)
    (cases_Bool (bytes_eq text host))
  where
    never : bytes_eq text host ≡ false → Listed list text → Near list host text → ⊥
    never e listed (inl same) = texts_differ text host e same
    never e listed (inr n) = n.2 listed

    weigh : bytes_eq text host ≡ false → IsWeighed list text → Near list host text ⊎ (¬ (Near list host text))
    weigh e (inl free) = near_unlisted list host text named e free
    weigh e (inr listed) = inr (λ near. never e listed near)

-- ---- the plays of no act, and of one and those behind it

pub few_none : (b : Bool) (list : List Rule) (key : List ℕ) (rest left : List Row) (told : List (List Reading))
    → Plays b list key rest [] told left → left ≡ rest
few_none b list key rest left [] p = p
few_none b list key rest left (t ∷ ts) p = absurd p

pub few_some : (b : Bool) (list : List Rule) (key : List ℕ) (rest left : List Row) (act : Act) (acts : List Act)
    (told : List (List Reading)) → Plays b list key rest (act ∷ acts) told left
    → (said : List Reading) × (later : List (List Reading)) × (mid : List Row) × OneStep b list key rest act said mid
    × Plays b list key mid acts later left
few_some b list key rest left act acts [] p = absurd p
few_some b list key rest left act acts (t ∷ ts) p = (t, ts, p.0, p.1, p.2)

module _ (one : ReadsOnce) (list : List Rule) (host : List ℕ) where
  abbrev In : List ℕ → Type 0
  In = Near list host

  abbrev Picked : List Row → List Row → Type 0
  Picked rows zs = PickedOf In rows zs

  -- ---- a line of an unrelated host

  far : (url : Parts) (d : Domain) → ¬ (IsRelatedAt list host url) → Stands list url d → ¬ (In (text_or_empty d))
  far url d away (inl (g, at, is)) near =
      away (subst (λ o. IsSomeAnd o (AreRelated list host)) (sym at)
      (related (subst (λ x. In (text_or_empty x)) is near)))
    where
      related : In g → AreRelated list host g
      related (inl e) = inl (sym e)
      related (inr n) = inr (g, n.0, n.1, inl refl, n.2)
  far url d away (inr (text, some, is, free, covers)) near =
      let g = some_and (Covers d) (host_of url) covers in
      away (subst (λ o. IsSomeAnd o (AreRelated list host)) (sym g.1)
      (inr (
        text,
        some,
        matched (subst (λ x. In (text_or_empty x)) is near),
        subst (λ x. Covers x g.0) is g.2,
        free,
      )))
    where
      matched : In text → DomainMatches host text
      matched (inl e) = inl (sym e)
      matched (inr n) = n.1

  other_settles : (url : Parts) (now : ℤ) (row : Row) (rows zs : List Row) (answer : Result StoreAction CookieError)
      (new : List Row) → ¬ (In (domain_text row)) → Settles rows url now row (answer, new) → Picked rows zs
      → Picked new zs
  other_settles url now row rows zs answer new away (inl guarded) p =
      subst (λ x. Picked x zs) (sym (ap (λ (e : End). e.1) guarded.1)) p
  other_settles url now row rows zs answer new away (inr free) p =
      subst (λ x. Picked x zs) (sym (ap (λ (e : End). e.1) free.1)) (picked_settled_other In now row away rows zs p)

  other_line : (url : Parts) (now : ℤ) (line : List ℕ) (rows zs : List Row) (end : LineEnd) (new : List Row)
      → ¬ (IsRelatedAt list host url) → Accepts list rows url now line end new → Picked rows zs → Picked new zs
  other_line url now line rows zs end new away a p = does (line_does one list url now line rows new end a)
    where
      does : Does list rows url now line new → Picked new zs
      does (inl same) = subst (λ x. Picked x zs) (sym same.1) p
      does (inr (row, tried, (answer, settles))) = other_settles url now row rows zs answer new
          (far url row.domain away (tried_stands list url now line row tried)) settles p

  other_lines : (url : Parts) (now : ℤ) (lines : List (List ℕ)) (rows zs : List Row) (ends : List LineEnd)
      (new : List Row) → ¬ (IsRelatedAt list host url) → AcceptsAll list rows url now lines ends new → Picked rows zs
      → Picked new zs
  other_lines url now [] rows zs ends new away t p = subst (λ x. Picked x zs) (sym t.1) p
  other_lines url now (line ∷ lines) rows zs [] new away t p = absurd t
  other_lines url now (line ∷ lines) rows zs (e ∷ ends) new away t p =
      other_lines url now lines t.0 zs ends new away t.2 (other_line url now line rows zs e t.0 away t.1 p)

  -- ---- a line of a related host, in both runs

  abbrev Both : List Row → List Row → Type 0
  Both rows rest = (zs : List Row) × Picked rows zs × Picked rest zs

  abbrev guards : ℤ → Row → Row → Bool
  guards now row other = is_live_of now row other && is_set other.raw.cookie.http_only

  both_settle : (url : Parts) (now : ℤ) (row : Row) (rows rest zs : List Row)
      (answer other : Result StoreAction CookieError) (new left : List Row) → In (domain_text row)
      → Settles rows url now row (answer, new) → Settles rest url now row (other, left) → Picked rows zs
      → Picked rest zs → Both new left
  both_settle url now row rows rest zs answer other new left near a b p q =
      let only : (r : Row) → guards now row r ≡ true → In (domain_text r) =
      λ r e. live_under In now row r near (first_and (is_live_of now row r) _ e) in
      settle (any_picked In (guards now row) only rows zs p ∙ sym (any_picked In (guards now row) only rest zs q)) a b
    where
      settle : list_any (guards now row) rows ≡ list_any (guards now row) rest
          → Settles rows url now row (answer, new) → Settles rest url now row (other, left) → Both new left
      settle same (inl x) (inl y) = (
        zs,
        subst (λ r. Picked r zs) (sym (ap (λ (e : End). e.1) x.1)) p,
        subst (λ r. Picked r zs) (sym (ap (λ (e : End). e.1) y.1)) q,
      )
      settle same (inl x) (inr y) = absurd (y.0 (sym same ∙ x.0.0, x.0.1))
      settle same (inr x) (inl y) = absurd (x.0 (same ∙ y.0.0, y.0.1))
      settle same (inr x) (inr y) = (
        (settled zs now row).1,
        subst (λ r. Picked r (settled zs now row).1) (sym (ap (λ (e : End). e.1) x.1))
            (picked_settled In now row near rows zs p),
        subst (λ r. Picked r (settled zs now row).1) (sym (ap (λ (e : End). e.1) y.1))
            (picked_settled In now row near rest zs q),
      )

  both_line : (url : Parts) (now : ℤ) (line : List ℕ) (rows rest : List Row) (end other : LineEnd)
      (new left : List Row) → IsNamed host → Accepts list rows url now line end new
      → Accepts list rest url now line other left → Both rows rest → Both new left
  both_line url now line rows rest end other new left named a b (zs, p, q) =
      do_both (line_does one list url now line rows new end a) (line_does one list url now line rest left other b)
    where
      tried_both : (row : Row) (x y : Result StoreAction CookieError) → Settles rows url now row (x, new)
          → Settles rest url now row (y, left)
          → Near list host (domain_text row) ⊎ (¬ (Near list host (domain_text row))) → Both new left
      tried_both row x y s t (inl near) = both_settle url now row rows rest zs x y new left near s t p q
      tried_both row x y s t (inr away) =
          (zs, other_settles url now row rows zs x new away s p, other_settles url now row rest zs y left away t q)

      do_both : Does list rows url now line new → Does list rest url now line left → Both new left
      do_both (inl x) (inl y) = (zs, subst (λ r. Picked r zs) (sym x.1) p, subst (λ r. Picked r zs) (sym y.1) q)
      do_both (inl x) (inr y) = absurd (x.0 y.0 y.1)
      do_both (inr x) (inl y) = absurd (y.0 x.0 x.1)
      do_both (inr (row, tried, (x, s))) (inr (same, again, (y, t))) =
          tried_both row x y s (subst (λ r. Settles rest url now r (y, left))
          (tried_once one list url now line same row again tried) t)
          (near_or list host (domain_text row) named (tried_weighed list url now line row tried))

  both_lines : (url : Parts) (now : ℤ) (lines : List (List ℕ)) (rows rest : List Row) (ends others : List LineEnd)
      (new left : List Row) → IsNamed host → AcceptsAll list rows url now lines ends new
      → AcceptsAll list rest url now lines others left → Both rows rest → Both new left
  both_lines url now [] rows rest ends others new left named a b (zs, p, q) =
      (zs, subst (λ r. Picked r zs) (sym a.1) p, subst (λ r. Picked r zs) (sym b.1) q)
  both_lines url now (line ∷ lines) rows rest [] others new left named a b both = absurd a
  both_lines url now (line ∷ lines) rows rest (e ∷ ends) [] new left named a b both = absurd b
  both_lines url now (line ∷ lines) rows rest (e ∷ ends) (f ∷ others) new left named a b both =
      both_lines url now lines a.0 b.0 ends others new left named a.2 b.2
      (both_line url now line rows rest e f a.0 b.0 named a.1 b.1 both)

  both_kept : (saving loading : ℤ) (rows rest new left : List Row) → Keeps rows saving loading new
      → Keeps rest saving loading left → Both rows rest → Both new left
  both_kept saving loading rows rest new left a b (zs, p, q) =
      let x = picked_kept In saving loading rows zs new p a in
      let y = picked_kept In saving loading rest zs left q b in
      (x.0, x.2, subst (λ few. Picked left few) (kept_once one zs saving loading y.0 x.0 y.1 x.1) y.2)

  -- ---- an act

  pub record Runs (rows rest : List Row) : Type 0 where
    pub both : Both rows rest
    pub sound : Sound list rows
    pub rest_sound : Sound list rest

  pub kept_runs : (saving loading : ℤ) (rows rest new left : List Row) → Keeps rows saving loading new
      → Keeps rest saving loading left → Runs rows rest → Runs new left
  kept_runs saving loading rows rest new left a b r = record {
    both = both_kept saving loading rows rest new left a b r.both;
    sound = keeps_sound list saving loading rows new a r.sound;
    rest_sound = keeps_sound list saving loading rest left b r.rest_sound;
  }

  delivered : (rows rest new : List Row) (url : Parts) (jar : Jar) (arrival : Arrival) → ¬ (IsRelatedAt list host url)
      → Delivers list rows url jar arrival new → Runs rows rest → Runs new rest
  delivered rows rest new url jar Never away d r = subst (λ x. Runs x rest) (sym d) r
  delivered rows rest new url jar (Arrives at) away d r = record {
    both = (r.both.0, other_lines url at (lines_of d.0) rows r.both.0 d.2.0 new away d.2.1 r.both.1, r.both.2);
    sound = lines_sound list one url at (lines_of d.0) rows d.2.0 new d.2.1 r.sound;
    rest_sound = r.rest_sound;
  }

  -- one that doesn't concern the host is in the first run alone
  alone_step : (b : Bool) (key : List ℕ) (act : Act) (rows rest new : List Row) (told : List Reading)
      → ¬ (Concerns list host act) → OneStep b list key rows act told new → Runs rows rest → Runs new rest
  alone_step b key (Visits url at commands arrival) rows rest new told away s r =
      delivered rows rest new url s.2.0.jar arrival away s.2.2 r
  alone_step b key (Answers url lines at) rows rest new told away s r = record {
    both = (r.both.0, other_lines url at lines rows r.both.0 s.1.0 new away s.1.1 r.both.1, r.both.2);
    sound = lines_sound list one url at lines rows s.1.0 new s.1.1 r.sound;
    rest_sound = r.rest_sound;
  }
  alone_step b key (Asks url at) rows rest new told away s r = absurd (away tt)
  alone_step b key (Restarts at) rows rest new told away s r = absurd (away tt)

  -- one that does is in both
  both_step : (b : Bool) (key : List ℕ) (act : Act) (rows rest new left : List Row) (told said : List Reading)
      → IsNamed host
      → IsNoExchange list host act → Concerns list host act → OneStep b list key rows act told new
      → OneStep false list key rest act said left → Runs rows rest → Runs new left
  both_step b key (Visits url at commands arrival) rows rest new left told said named none concerns s t r =
      absurd (none concerns)
  both_step b key (Answers url lines at) rows rest new left told said named none concerns s t r = record {
    both = both_lines url at lines rows rest s.1.0 t.1.0 new left named s.1.1 t.1.1 r.both;
    sound = lines_sound list one url at lines rows s.1.0 new s.1.1 r.sound;
    rest_sound = lines_sound list one url at lines rest t.1.0 left t.1.1 r.rest_sound;
  }
  both_step b key (Asks url at) rows rest new left told said named none concerns s t r =
      subst (λ x. Runs x left) (sym s.1) (subst (λ x. Runs rows x) (sym t.1) r)
  both_step b key (Restarts at) rows rest new left told said named none concerns s t r =
      kept_runs at at rows rest new left s.1 t.1 r

  -- ---- all acts

  both_play : (b : Bool) (key : List ℕ) (acts few : List Act) (told said : List (List Reading))
      (rows rest new left : List Row)
      → IsNamed host → Each (IsNoExchange list host) acts → IsOnly list host acts few
      → Plays b list key rows acts told new → Plays false list key rest few said left → Runs rows rest → Runs new left
  both_play b key [] few [] said rows rest new left named none only p q r =
      subst (λ x. Runs x left) (sym p) (subst (λ x. Runs rows x)
      (sym (few_none false list key rest left said (subst (λ x. Plays false list key rest x said left) only q))) r)
  both_play b key [] few (t ∷ ts) said rows rest new left named none only p q r = absurd p
  both_play b key (act ∷ acts) few [] said rows rest new left named none only p q r = absurd p
  both_play b key (act ∷ acts) few (t ∷ ts) said rows rest new left named none (later, only, inl is) p q r =
      let x = few_some false list key rest left act later said
      (subst (λ x. Plays false list key rest x said left) is.1 q) in
      both_play b key acts later ts x.1 p.0 x.2 new left named none.1 only p.2 x.4
      (both_step b key act rows rest p.0 x.2 t x.0 named none.0 is.0 p.1 x.3 r)
  both_play b key (act ∷ acts) few (t ∷ ts) said rows rest new left named none (later, only, inr is) p q r =
      both_play b key acts later ts said p.0 rest new left named none.1 only p.2
      (subst (λ x. Plays false list key rest x said left) is.1 q) (alone_step b key act rows rest p.0 t is.0 p.1 r)

  -- ---- a header

  near_of : (d : Domain) → ((text : List ℕ) → d ≡ suffix text → (text ≢ []) × (¬ (Listed list text))) → Covers d host
      → In (text_or_empty d)
  near_of (host_only text) sound covers = inl (sym covers)
  near_of (suffix text) sound covers = inr ((sound text refl).0, covers, (sound text refl).1)
  near_of not_present sound covers = absurd covers
  near_of empty sound covers = absurd covers

  all_near : (url : Parts) (at : ℤ) (rows : List Row) → host_of url ≡ Some host → Sound list rows
      → AllByRecursion (λ r. IsGiven r url at → In (domain_text r)) rows
  all_near url at [] is all = tt
  all_near url at (r ∷ rs) is all = (
    (λ g. near_of r.domain all.0 (subst (λ o. IsSomeAnd o (Covers r.domain)) is g.goes.domain)),
    all_near url at rs is all.1,
  )

  same_header : (given_once : GivenOnce) (order : OneOrder) (url : Parts) (at : ℤ) (rows rest : List Row)
      (header other : List ℕ)
      → host_of url ≡ Some host → Runs rows rest → IsHeader rows url at header → IsHeader rest url at other
      → header ≡ other
  same_header given_once order url at rows rest header other is r h g =
      let Given : Row → Type 0 = λ row. IsGiven row url at in
      let x = picked_inner In Given rows r.both.0 h.given (all_near url at rows is r.sound) r.both.1 h.are_given in
      let y = picked_inner In Given rest r.both.0 g.given (all_near url at rest is r.rest_sound) r.both.2
      g.are_given in
      let same : h.given ≡ g.given = given_once r.both.0 h.given g.given url at x y in
      h.printed ∙ (ap (λ rows. header_of (map pair_of rows)) (order.one h.given h.ordered g.ordered h.longest
      (subst (λ rows. AreLongestFirst rows g.ordered) (sym same) g.longest)) ∙ sym g.printed)

-- ---- after the acts

-- what follows whether a thing is so or not so, follows of texts that are one
by_cases : (P : Type 0) (x y : List ℕ) → ((P ⊎ (¬ P)) → x ≡ y) → x ≡ y
by_cases P x y f =
    ⊎_elim
    (λ (e : bytes_eq x y ≡ true). same_text x y e)
    (λ (e : bytes_eq x y ≡ false).
    let differ = texts_differ x y e in absurd (differ (f (inr (λ p. differ (f (inl p)))))))
    (cases_Bool (bytes_eq x y))

none_given : (Is : Row → Type 0) (rows given : List Row) → ((r : Row) → ¬ (Is r)) → ArePicked Is rows given
    → given ≡ []
none_given Is [] given none g = g
none_given Is (r ∷ rs) given none (l, h, inl is) = absurd (none r is.0)
none_given Is (r ∷ rs) given none (l, h, inr is) = is.1 ∙ none_given Is rs l none h

pub untouched : (b : Bool) (one : ReadsOnce) (given_once : GivenOnce) (order : OneOrder) (list : List Rule)
    (key : List ℕ)
    (before : List Act) (told : List (List Reading)) (rows : List Row) (url : Parts) (at : ℤ) (header : List ℕ)
    → Plays b list key [] before told rows → IsHeader rows url at header → IsUntouched list key before url at header
untouched b one given_once order list key before told rows url at header p h = record {
  hostless = λ none. h.printed ∙ ap (λ rows. header_of (map pair_of rows))
      (none_longest order h.given h.ordered (none_given (λ r. IsGiven r url at) rows h.given
      (λ r g. subst (λ o. IsSomeAnd o (Covers r.domain)) none g.goes.domain) h.are_given) h.longest);
  same = λ host is none other.
      by_cases (IsHostName host) header other.header
      (λ named. same_header one list host given_once order url at rows other.rows header other.header is
      (both_play one list host b key before other.few told other.told [] [] rows other.rows named none other.only p
      other.ran (record { both = ([], refl, refl); sound = tt; rest_sound = tt })) h other.is_header);
  there = λ host is none. header_too order list host key b before told rows url at p h.valid none;
}

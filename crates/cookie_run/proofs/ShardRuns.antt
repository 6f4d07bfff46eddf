-- Two runs, one of all acts and one of those of a shard: the rows of the second are those of the first that are of the
-- shard, since a line from a host of the shard puts its row under a text of it, and one from another host doesn't.
use Rattle.std.proofs.Common.{false, ◌≡◌, ◌≢◌, ℕ, ℤ, Bool, true, ◌&&◌, List, [], ◌∷◌, sym, refl, ap, ◌∙◌}
use Rattle.std.proofs.Common.{subst, inl, inr, Some, Result}
use Rattle.std.specs.Prelude.{map, IsSomeAnd}
use Rattle.std.specs.List.{list_any, AllByRecursion}
use Rattle.cookie_text.specs.Printing.{is_set}
use Rattle.publicsuffix.specs.Prevailing.{Listed}
use Rattle.publicsuffix.specs.Rules.{Rule}
use Rattle.store_parts.specs.DomainMatch.{Domain, host_only, suffix, not_present, empty, text_or_empty, Covers}
use Rattle.store_parts.specs.Schemes.{host_of}
use Rattle.store_parts.specs.declared.error.CookieError.{CookieError}
use Rattle.url.specs.Parts.{Parts}
use Rattle.cookie.specs.Jar.{Jar}
use Rattle.cookie_store.specs.Given.{IsGiven, pair_of}
use Rattle.cookie_store.specs.Insertion.{End, settled, Settles}
use Rattle.cookie_store.specs.Laws.{GivenOnce, OneOrder}
use Rattle.cookie_store.specs.Longest.{AreLongestFirst}
use Rattle.cookie_store.specs.Rows.{Row, domain_text, is_live_of}
use Rattle.cookie_store.specs.declared.action.StoreAction.{StoreAction}
use Rattle.cookie_client.specs.Accept.{Accepts, AcceptsAll}
use Rattle.cookie_client.specs.Steps.{Act, Visits, Answers, Asks, Restarts, Arrival, Arrives, Never, Delivers, OneStep}
use Rattle.cookie_client.specs.Header.{IsHeader, header_of}
use Rattle.cookie_run.specs.Headline.{Each}
use Rattle.cookie_client.specs.Jar.{lines_of}
use Rattle.cookie_client.specs.Keeping.{Keeps}
use Rattle.cookie_run.specs.Play.{Plays}
use Rattle.cookie_client.specs.declared.outcome.LineEnd.{LineEnd}
use Rattle.cookie_client.specs.declared.command.Reading.{Reading}
use Rattle.cookie_run.proofs.Lines.{some_and}
use Rattle.cookie_run.proofs.OwnRows.{first_and}
use Rattle.cookie_run.proofs.Picks.{PickedOf, any_picked, live_under, picked_settled, picked_settled_other, picked_kept}
use Rattle.cookie_run.proofs.Picks.{picked_inner}
use Rattle.cookie_client.proofs.ReadOnce.{ReadsOnce, kept_once}
use Rattle.cookie_client.proofs.Tried.{Does, line_does, tried_once}
use Rattle.cookie_run.proofs.Sound.{Sound, keeps_sound, lines_sound}
use Rattle.cookie_run.proofs.Strangers.{few_none, few_some}
use Rattle.cookie_run.proofs.Tried.{IsSound, Stands, tried_stands}
use Rattle.cookie_run.specs.ShardCut.{IsOfShard, AreOfShard, IsNoExchangeOf, AnswersByName}
use Rattle.cookie_run.specs.SharedHosts.{HasNoAddressBehind}
use Rattle.cookie_client.specs.Shard.{IsShardOf, IsShardAt}
use Rattle.cookie_run.proofs.ShardLemmas.{shard_below, shard_above}

module _ (one : ReadsOnce) (list : List Rule) (shard : List ℕ) where
  abbrev In : List ℕ → Type 0
  In text = IsShardOf list text shard

  abbrev At : Parts → Type 0
  At url = IsShardAt list url shard

  abbrev Picked : List Row → List Row → Type 0
  Picked rows rest = PickedOf In rows rest

  at_host : (url : Parts) (g : List ℕ) → host_of url ≡ Some g → At url → In g
  at_host url g is at = subst (λ o. IsSomeAnd o In) is at

  host_at : (url : Parts) (g : List ℕ) → host_of url ≡ Some g → In g → At url
  host_at url g is of_shard = subst (λ o. IsSomeAnd o In) (sym is) of_shard

  -- ---- where a row stands

  near : (url : Parts) (d : Domain) → HasNoAddressBehind url → At url → Stands list url d → In (text_or_empty d)
  near url d named at (inl (g, is_host, is)) =
      subst (λ x. In (text_or_empty x)) (sym is) (at_host url g is_host at)
  near url d named at (inr (text, some, is, free, covers)) =
      let g = some_and (Covers d) (host_of url) covers in
      subst (λ x. In (text_or_empty x)) (sym is)
      (shard_below list g.0 text shard (named g.0 g.1) ((some, free), subst (λ x. Covers x g.0) is g.2)
      (at_host url g.0 g.1 at))

  far : (url : Parts) (d : Domain) → HasNoAddressBehind url → ¬ (At url) → Stands list url d
      → ¬ (In (text_or_empty d))
  far url d named away (inl (g, is_host, is)) of_shard =
      away (host_at url g is_host (subst (λ x. In (text_or_empty x)) is of_shard))
  far url d named away (inr (text, some, is, free, covers)) of_shard =
      let g = some_and (Covers d) (host_of url) covers in
      away (host_at url g.0 g.1
      (shard_above list g.0 text shard (named g.0 g.1) ((some, free), subst (λ x. Covers x g.0) is g.2)
      (subst (λ x. In (text_or_empty x)) is of_shard)))

  -- ---- a line of another shard's host

  other_settles : (url : Parts) (now : ℤ) (row : Row) (rows rest : List Row) (answer : Result StoreAction CookieError)
      (new : List Row) → ¬ (In (domain_text row)) → Settles rows url now row (answer, new) → Picked rows rest
      → Picked new rest
  other_settles url now row rows rest answer new away (inl guarded) p =
      subst (λ x. Picked x rest) (sym (ap (λ (e : End). e.1) guarded.1)) p
  other_settles url now row rows rest answer new away (inr free) p =
      subst (λ x. Picked x rest) (sym (ap (λ (e : End). e.1) free.1))
      (picked_settled_other In now row away rows rest p)

  other_line : (url : Parts) (now : ℤ) (line : List ℕ) (rows rest : List Row) (end : LineEnd) (new : List Row)
      → HasNoAddressBehind url → ¬ (At url) → Accepts list rows url now line end new → Picked rows rest
      → Picked new rest
  other_line url now line rows rest end new named away a p = does (line_does one list url now line rows new end a)
    where
      does : Does list rows url now line new → Picked new rest
      does (inl same) = subst (λ x. Picked x rest) (sym same.1) p
      does (inr (row, tried, (answer, settles))) = other_settles url now row rows rest answer new
          (far url row.domain named away (tried_stands list url now line row tried)) settles p

  other_lines : (url : Parts) (now : ℤ) (lines : List (List ℕ)) (rows rest : List Row) (ends : List LineEnd)
      (new : List Row) → HasNoAddressBehind url → ¬ (At url) → AcceptsAll list rows url now lines ends new
      → Picked rows rest → Picked new rest
  other_lines url now [] rows rest ends new named away t p = subst (λ x. Picked x rest) (sym t.1) p
  other_lines url now (line ∷ lines) rows rest [] new named away t p = absurd t
  other_lines url now (line ∷ lines) rows rest (e ∷ ends) new named away t p =
      other_lines url now lines t.0 rest ends new named away t.2
      (other_line url now line rows rest e t.0 named away t.1 p)

  -- ---- a line of a host of the shard, in both runs

  abbrev guards : ℤ → Row → Row → Bool
  guards now row other = is_live_of now row other && is_set other.raw.cookie.http_only

  both_settle : (url : Parts) (now : ℤ) (row : Row) (rows rest : List Row)
      (answer other : Result StoreAction CookieError) (new left : List Row) → In (domain_text row)
      → Settles rows url now row (answer, new) → Settles rest url now row (other, left) → Picked rows rest
      → Picked new left
  both_settle url now row rows rest answer other new left of_shard a b p =
      let only : (r : Row) → guards now row r ≡ true → In (domain_text r) =
      λ r e. live_under In now row r of_shard (first_and (is_live_of now row r) _ e) in
      settle (any_picked In (guards now row) only rows rest p) a b
    where
      settle : list_any (guards now row) rows ≡ list_any (guards now row) rest
          → Settles rows url now row (answer, new) → Settles rest url now row (other, left) → Picked new left
      settle same (inl x) (inl y) =
          subst (λ r. Picked r left) (sym (ap (λ (e : End). e.1) x.1))
          (subst (λ r. Picked rows r) (sym (ap (λ (e : End). e.1) y.1)) p)
      settle same (inl x) (inr y) = absurd (y.0 (sym same ∙ x.0.0, x.0.1))
      settle same (inr x) (inl y) = absurd (x.0 (same ∙ y.0.0, y.0.1))
      settle same (inr x) (inr y) =
          subst (λ r. Picked r left) (sym (ap (λ (e : End). e.1) x.1))
          (subst (λ r. Picked (settled rows now row).1 r) (sym (ap (λ (e : End). e.1) y.1))
          (picked_settled In now row of_shard rows rest p))

  both_line : (url : Parts) (now : ℤ) (line : List ℕ) (rows rest : List Row) (end other : LineEnd)
      (new left : List Row) → HasNoAddressBehind url → At url → Accepts list rows url now line end new
      → Accepts list rest url now line other left → Picked rows rest → Picked new left
  both_line url now line rows rest end other new left named at a b p =
      do_both (line_does one list url now line rows new end a) (line_does one list url now line rest left other b)
    where
      do_both : Does list rows url now line new → Does list rest url now line left → Picked new left
      do_both (inl x) (inl y) = subst (λ r. Picked r left) (sym x.1) (subst (λ r. Picked rows r) (sym y.1) p)
      do_both (inl x) (inr y) = absurd (x.0 y.0 y.1)
      do_both (inr x) (inl y) = absurd (y.0 x.0 x.1)
      do_both (inr (row, tried, (x, s))) (inr (same, again, (y, t))) =
          both_settle url now row rows rest x y new left
          (near url row.domain named at (tried_stands list url now line row tried)) s
          (subst (λ r. Settles rest url now r (y, left)) (tried_once one list url now line same row again tried) t) p

  both_lines : (url : Parts) (now : ℤ) (lines : List (List ℕ)) (rows rest : List Row) (ends others : List LineEnd)
      (new left : List Row) → HasNoAddressBehind url → At url → AcceptsAll list rows url now lines ends new
      → AcceptsAll list rest url now lines others left → Picked rows rest → Picked new left
  both_lines url now [] rows rest ends others new left named at a b p =
      subst (λ r. Picked r left) (sym a.1) (subst (λ r. Picked rows r) (sym b.1) p)
  both_lines url now (line ∷ lines) rows rest [] others new left named at a b p = absurd a
  both_lines url now (line ∷ lines) rows rest (e ∷ ends) [] new left named at a b p = absurd b
  both_lines url now (line ∷ lines) rows rest (e ∷ ends) (f ∷ others) new left named at a b p =
      both_lines url now lines a.0 b.0 ends others new left named at a.2 b.2
      (both_line url now line rows rest e f a.0 b.0 named at a.1 b.1 p)

  both_kept : (saving loading : ℤ) (rows rest new left : List Row) → Keeps rows saving loading new
      → Keeps rest saving loading left → Picked rows rest → Picked new left
  both_kept saving loading rows rest new left a b p =
      let x = picked_kept In saving loading rows rest new p a in
      subst (Picked new) (kept_once one rest saving loading x.0 left x.1 b) x.2

  -- ---- an act

  pub record Runs (rows rest : List Row) : Type 0 where
    pub picked : Picked rows rest
    pub sound : Sound list rows
    pub rest_sound : Sound list rest

  delivered : (rows rest new : List Row) (url : Parts) (jar : Jar) (arrival : Arrival) → HasNoAddressBehind url
      → ¬ (At url) → Delivers list rows url jar arrival new → Runs rows rest → Runs new rest
  delivered rows rest new url jar Never named away d r = subst (λ x. Runs x rest) (sym d) r
  delivered rows rest new url jar (Arrives at) named away d r = record {
    picked = other_lines url at (lines_of d.0) rows rest d.2.0 new named away d.2.1 r.picked;
    sound = lines_sound list one url at (lines_of d.0) rows d.2.0 new d.2.1 r.sound;
    rest_sound = r.rest_sound;
  }

  -- one of another shard is in the first run alone
  alone_step : (b : Bool) (key : List ℕ) (act : Act) (rows rest new : List Row) (told : List Reading)
      → AnswersByName act
      → ¬ (IsOfShard list shard act) → OneStep b list key rows act told new → Runs rows rest → Runs new rest
  alone_step b key (Visits url at commands arrival) rows rest new told named away s r =
      delivered rows rest new url s.2.0.jar arrival named away s.2.2 r
  alone_step b key (Answers url lines at) rows rest new told named away s r = record {
    picked = other_lines url at lines rows rest s.1.0 new named away s.1.1 r.picked;
    sound = lines_sound list one url at lines rows s.1.0 new s.1.1 r.sound;
    rest_sound = r.rest_sound;
  }
  alone_step b key (Asks url at) rows rest new told named away s r = subst (λ x. Runs x rest) (sym s.1) r
  alone_step b key (Restarts at) rows rest new told named away s r = absurd (away tt)

  -- one of the shard is in both
  both_step : (b : Bool) (key : List ℕ) (act : Act) (rows rest new left : List Row) (told said : List Reading)
      → AnswersByName act → IsNoExchangeOf list shard act → IsOfShard list shard act
      → OneStep b list key rows act told new → OneStep false list key rest act said left → Runs rows rest
      → Runs new left
  both_step b key (Visits url at commands arrival) rows rest new left told said named none is s t r = absurd (none is)
  both_step b key (Answers url lines at) rows rest new left told said named none is s t r = record {
    picked = both_lines url at lines rows rest s.1.0 t.1.0 new left named is s.1.1 t.1.1 r.picked;
    sound = lines_sound list one url at lines rows s.1.0 new s.1.1 r.sound;
    rest_sound = lines_sound list one url at lines rest t.1.0 left t.1.1 r.rest_sound;
  }
  both_step b key (Asks url at) rows rest new left told said named none is s t r =
      subst (λ x. Runs x left) (sym s.1) (subst (λ x. Runs rows x) (sym t.1) r)
  both_step b key (Restarts at) rows rest new left told said named none is s t r = record {
    picked = both_kept at at rows rest new left s.1 t.1 r.picked;
    sound = keeps_sound list at at rows new s.1 r.sound;
    rest_sound = keeps_sound list at at rest left t.1 r.rest_sound;
  }

  -- ---- all acts

  pub both_play : (b : Bool) (key : List ℕ) (acts few : List Act) (told said : List (List Reading))
      (rows rest new left : List Row) → Each AnswersByName acts → Each (IsNoExchangeOf list shard) acts
      → AreOfShard list shard acts few → Plays b list key rows acts told new → Plays false list key rest few said left
      → Runs rows rest → Runs new left
  both_play b key [] few [] said rows rest new left named none only p q r =
      subst (λ x. Runs x left) (sym p) (subst (λ x. Runs rows x)
      (sym (few_none false list key rest left said (subst (λ x. Plays false list key rest x said left) only q))) r)
  both_play b key [] few (t ∷ ts) said rows rest new left named none only p q r = absurd p
  both_play b key (act ∷ acts) few [] said rows rest new left named none only p q r = absurd p
  both_play b key (act ∷ acts) few (t ∷ ts) said rows rest new left named none (later, only, inl is) p q r =
      let x = few_some false list key rest left act later said
      (subst (λ x. Plays false list key rest x said left) is.1 q) in
      both_play b key acts later ts x.1 p.0 x.2 new left named.1 none.1 only p.2 x.4
      (both_step b key act rows rest p.0 x.2 t x.0 named.0 none.0 is.0 p.1 x.3 r)
  both_play b key (act ∷ acts) few (t ∷ ts) said rows rest new left named none (later, only, inr is) p q r =
      both_play b key acts later ts said p.0 rest new left named.1 none.1 only p.2
      (subst (λ x. Plays false list key rest x said left) is.1 q)
      (alone_step b key act rows rest p.0 t named.0 is.0 p.1 r)

  -- ---- a header

  covered_near : (url : Parts) (host : List ℕ) (d : Domain) → host_of url ≡ Some host → HasNoAddressBehind url
      → At url → ((text : List ℕ) → d ≡ suffix text → (text ≢ []) × (¬ (Listed list text))) → Covers d host
      → In (text_or_empty d)
  covered_near url host (host_only text) is named at sound covers = subst In covers (at_host url host is at)
  covered_near url host (suffix text) is named at sound covers =
      shard_below list host text shard (named host is) (sound text refl, covers) (at_host url host is at)
  covered_near url host not_present is named at sound covers = absurd covers
  covered_near url host empty is named at sound covers = absurd covers

  given_near : (url : Parts) (now : ℤ) (row : Row) → HasNoAddressBehind url → At url → IsSound list row
      → IsGiven row url now → In (domain_text row)
  given_near url now row named at sound g =
      let host = some_and (Covers row.domain) (host_of url) g.goes.domain in
      covered_near url host.0 row.domain host.1 named at sound host.2

  all_near : (url : Parts) (now : ℤ) (rows : List Row) → HasNoAddressBehind url → At url → Sound list rows
      → AllByRecursion (λ r. IsGiven r url now → In (domain_text r)) rows
  all_near url now [] named at all = tt
  all_near url now (r ∷ rs) named at all =
      ((λ g. given_near url now r named at all.0 g), all_near url now rs named at all.1)

  pub same_header : (given_once : GivenOnce) (order : OneOrder) (url : Parts) (now : ℤ) (rows rest : List Row)
      (header other : List ℕ) → HasNoAddressBehind url → At url → Runs rows rest → IsHeader rows url now header
      → IsHeader rest url now other → header ≡ other
  same_header given_once order url now rows rest header other named at r h g =
      let Given : Row → Type 0 = λ row. IsGiven row url now in
      let x = picked_inner In Given rows rest h.given (all_near url now rows named at r.sound) r.picked h.are_given in
      let same : h.given ≡ g.given = given_once rest h.given g.given url now x g.are_given in
      h.printed ∙ (ap (λ rows. header_of (map pair_of rows)) (order.one h.given h.ordered g.ordered h.longest
      (subst (λ rows. AreLongestFirst rows g.ordered) (sym same) g.longest)) ∙ sym g.printed)

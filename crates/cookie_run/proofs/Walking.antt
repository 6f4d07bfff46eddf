-- A session of the host: it opens on what is live of the site, and what it closes with is what its accepted commands
-- leave.
use Rattle.std.proofs.Common.{◌≡◌, ℕ, ℤ, ◌≤ℤ◌, pos, Bool, true, false, cond, List, [], ◌∷◌, ◌++◌, sym, refl, ap, ◌∙◌}
use Rattle.std.proofs.Common.{subst, ⊎_elim}
use Rattle.std.proofs.Common.{Option, Some, None, arith}
use Rattle.std.specs.Prelude.{map, option_map, IfSome, ⊤}
use Rattle.std.specs.List.{filter, AllByRecursion}
use Rattle.std.specs.Option.{option_or, option_to_list}
use Rattle.std.specs.Str.{bytes_eq, IsUtf8}
use Rattle.std.specs.FinMap as finmap
use Rattle.std.proofs.lemmas.Bool.{cases_Bool, cond-true, cond-false}
use Rattle.std.proofs.lemmas.Int.{ints}
use Rattle.jiff_core.specs.Timestamp.{IsDurationNanos}
use Rattle.cookie_text.specs.Normal.{normal, IsReadable}
use Rattle.cookie_text.specs.Record.{Record, Seen}
use Rattle.cookie.specs.declared.delta.DeltaCookie.{DeltaCookie as Change}
use Rattle.cookie.specs.declared.delta.DeltaCookie.TheVariants.{Added, Removed}
use Rattle.cookie.specs.ByName.{ByName}
use Rattle.cookie.specs.Jar.{Jar, view}
use Rattle.store_parts.specs.Expiry.{death}
use Rattle.cookie_client.specs.Jar.{Keyed, IsOpenedBy, IsKeptAs, Sets, sent, value_in, record_in, last_in}
use Rattle.cookie_client.specs.PlainSets.{any_nonce}
use Rattle.cookie_client.specs.Ways.{kind_of, stored_name, is_too_long}
use Rattle.cookie_client.specs.declared.way.Way.{Way}
use Rattle.cookie_client.specs.declared.way.Way.TheVariants as ways
use Rattle.cookie_client.proofs.ReadBack.{IsGood}
use Rattle.cookie_client.proofs.ReadCode.{cookies_are}
use Rattle.cookie_client.proofs.Sessions.{IsReadableJar, none_at, get_insert, then_none, kept_readable, changed_each}
use Rattle.cookie_client.proofs.Sessions.{opened_each}
use Rattle.cookie_run.specs.Brought.{StandsAs, Matches}
use Rattle.cookie_run.proofs.Showing.{OnlyOne, Shows, set_shows, kept_stands}
use Rattle.cookie_client.proofs.SessionTexts.{kept_named, kept_text}
use Rattle.cookie_client.proofs.SessionTexts.{named_text, not_nil, utf8_bytes, last_named, view_original}
use Rattle.cookie_run.proofs.Showing.{seen_named}
use Rattle.cookie_client.proofs.Texts.{same_text, some_is_not_none}
use Rattle.store_parts.specs.Expiry.{is_dead}
use Rattle.cookie_client.specs.declared.command.Command.TheVariants.{Set}
use Rattle.cookie_run.specs.Site.{Held, Site, View, with_at, live_at, entry_in, live_view, entry_of, held_from, left_by}
use Rattle.cookie_client.specs.Reading.{GivesBy, GiveBy}
use Rattle.cookie_client.proofs.HeaderCookies.{cookies_by}
use Rattle.cookie_run.proofs.Kepts.{Kept, found_in, AreApart, apart_filter}
use Rattle.cookie_client.proofs.CountedRows.{Counts}
use Rattle.cookie_run.proofs.Received.{alive}
use Rattle.cookie_client.proofs.Lines.{IsSent}
use Rattle.cookie_run.proofs.Lines.{kept_of}
use Rattle.cookie_run.proofs.GivenRows.{lives, record_of, last_kept, found_live}

-- ---- what stands for what is held

abbrev pub MatchesHeld : List ℕ → List ℕ → Option Kept → Option Held → Type 0
MatchesHeld key name None None = ⊤
MatchesHeld key name None (Some h) = ⊥
MatchesHeld key name (Some k) None = ⊥
MatchesHeld key name (Some k) (Some h) = StandsAs key name h.entry.kind h.entry.value k.value × (k.death ≡ h.death)

abbrev pub value_of : Option Kept → Option (List ℕ)
value_of o = option_map (λ k. k.value) o

pub matches_view : (key name : List ℕ) (o : Option Kept) (h : Option Held) → MatchesHeld key name o h
    → Matches key name (value_of o) (entry_in h)
matches_view key name None None m = tt
matches_view key name None (Some h) m = m
matches_view key name (Some k) None m = m
matches_view key name (Some k) (Some h) m = m.0

-- ---- the dead stay dead

pub dead_later : (m n : ℤ) (d : Option ℤ) → m ≤ℤ n → is_dead m d ≡ true → is_dead n d ≡ true
dead_later m n None h e = e
dead_later m n (Some d) h e = grind (arith, ints)

pub alive_later : (m n : ℤ) (o : Option Kept) → m ≤ℤ n → alive n (alive m o) ≡ alive n o
alive_later m n None h = refl
alive_later m n (Some k) h =
    ⊎_elim
    (λ (e : is_dead m k.death ≡ true). ap (λ b. alive n (cond b None (Some k))) e
    ∙ sym (cond-true _ _ _ (dead_later m n k.death h e)))
    (λ (e : is_dead m k.death ≡ false). ap (λ b. alive n (cond b None (Some k))) e)
    (cases_Bool (is_dead m k.death))

pub live_later : (m n : ℤ) (o : Option Held) → m ≤ℤ n → live_at n (live_at m o) ≡ live_at n o
live_later m n None h = refl
live_later m n (Some k) h =
    ⊎_elim
    (λ (e : is_dead m k.death ≡ true). ap (λ b. live_at n (cond b None (Some k))) e
    ∙ sym (cond-true _ _ _ (dead_later m n k.death h e)))
    (λ (e : is_dead m k.death ≡ false). ap (λ b. live_at n (cond b None (Some k))) e)
    (cases_Bool (is_dead m k.death))

pub matches_cond : (key name : List ℕ) (b : Bool) (k : Kept) (h : Held) → MatchesHeld key name (Some k) (Some h)
    → MatchesHeld key name (cond b None (Some k)) (cond b None (Some h))
matches_cond key name true k h m = tt
matches_cond key name false k h m = m

pub matches_live : (key name : List ℕ) (n : ℤ) (o : Option Kept) (h : Option Held) → MatchesHeld key name o h
    → MatchesHeld key name (alive n o) (live_at n h)
matches_live key name n None None m = tt
matches_live key name n None (Some h) m = absurd m
matches_live key name n (Some k) None m = absurd m
matches_live key name n (Some k) (Some h) m =
    subst (λ (d : Option ℤ). MatchesHeld key name (cond (is_dead n k.death) None (Some k))
    (cond (is_dead n d) None (Some h))) m.1 (matches_cond key name (is_dead n k.death) k h m)

pub matches_later : (key name : List ℕ) (m n : ℤ) (o : Option Kept) (h : Option Held) → m ≤ℤ n
    → MatchesHeld key name (alive m o) (live_at m h) → MatchesHeld key name (alive n o) (live_at n h)
matches_later key name m n o h after is =
    subst (λ x. MatchesHeld key name x (live_at n h)) (alive_later m n o after)
    (subst (λ x. MatchesHeld key name (alive n (alive m o)) x) (live_later m n h after)
    (matches_live key name n (alive m o) (live_at m h) is))

-- ---- the session opens

-- what a session has of what was under each name when it was opened
abbrev pub Brings : Counts → ℤ → (List ℕ → Option Kept) → Keyed → Type 0
Brings counts now at session = (q : List ℕ) → counts q ≡ true
    → record_in (finmap.get session.jar.originals q) ≡ option_map record_of
    (alive now (at q))

pub brings : {b : Bool} (counts : Counts) (key : List ℕ) (now : ℤ) (ks : List Kept) (header : List ℕ) (session : Keyed)
    → AreApart ks → ((q : List ℕ) → counts q ≡ true
    → last_in (cookies_by b header) q ≡ last_in (map record_of (filter (lives now) ks)) q)
    → IsOpenedBy b key header session → Brings counts now (found_in ks) session
brings {b} counts key now ks header session apart is opened q c =
    opened.holds.originals q ∙ (ap (λ cs. last_in cs q) (cookies_are b header opened.cookies opened.read)
    ∙ (is q c ∙ (last_kept (filter (lives now) ks) q (apart_filter (lives now) ks apart) ∙ ap (option_map record_of)
    (found_live now ks q apart))))

pub value_record : (o : Option Kept) → value_in (option_map record_of o) ≡ value_of o
value_record None = refl
value_record (Some k) = refl

pub opens : {b : Bool} (counts : Counts) (key : List ℕ) (now : ℤ) (ks : List Kept) (header : List ℕ) (session : Keyed)
    (site : Site)
    → Brings counts now (found_in ks) session → IsOpenedBy b key header session
    → ((q : List ℕ) → counts q ≡ true → MatchesHeld key q (alive now (found_in ks q)) (live_at now (site q)))
    → Shows counts key session (live_view site now)
opens counts key now ks header session site brought opened each = record {
  key_is = opened.key_is;
  named = λ q. subst (λ (o : Option Seen). IfSome o (λ s. s.cookie.name ≡ q))
      (sym (view_original session.jar q opened.holds.changes))
      (seen_named (finmap.get session.jar.originals q) q (subst (λ (o : Option Record). IfSome o (λ c. c.name ≡ q))
      (sym (opened.holds.originals q)) (last_named opened.cookies q)));
  each = λ q c. subst (λ (o : Option (List ℕ)). Matches key q o (entry_in (live_at now (site q))))
      (sym (ap (λ o. value_in (record_in o)) (view_original session.jar q opened.holds.changes)
      ∙ (ap value_in (brought q c) ∙ value_record (alive now (found_in ks q)))))
      (matches_view key q (alive now (found_in ks q)) (live_at now (site q)) (each q c));
}

-- ---- what it closes with

pub record IsFit (c : Record) : Type 0 where
  pub good : IsGood c
  pub is_sent : IsSent c

abbrev pub IsFitChange : Change → Type 0
IsFitChange (Added s) = IsFit s.cookie
IsFitChange (Removed s) = IsFit s.cookie × (s.cookie.max_age ≡ Some (pos 0))

abbrev pub AllFit : ByName Change → Type 0
AllFit m = (q : List ℕ) (change : Change) → finmap.get m q ≡ Some change → IsFitChange change

-- what a change leaves under its name, once it is delivered at a moment
abbrev pub sent_at : ℤ → Option Change → Option Kept → Option Kept
sent_at d (Some (Added s)) o = alive d (Some (kept_of d s.cookie))
sent_at d (Some (Removed s)) o = None
sent_at d None o = alive d o

-- what it was opened with has names that are text
abbrev pub AreTexts : Keyed → Type 0
AreTexts session = (q : List ℕ) (s : Seen) → finmap.get session.jar.originals q ≡ Some s → IsUtf8 q

abbrev IsTextNamed : Record → Type 0
IsTextNamed c = IsUtf8 c.name

text_given : (b : Bool) (piece : List ℕ) (o : Option Record) → GivesBy b piece o → IfSome o IsTextNamed
text_given b piece None g = tt
text_given b piece (Some c) g =
    subst (λ (r : Record). IsUtf8 r.name) g.1.2
    (subst IsUtf8 (sym g.1.1.decoded.name) (g.1.1.accepted refl).1.0)

text_front : (o : Option Record) (rest : List Record) → IfSome o IsTextNamed → AllByRecursion IsTextNamed rest
    → AllByRecursion IsTextNamed (option_to_list o ++ rest)
text_front None rest h all = all
text_front (Some c) rest h all = (h, all)

texts_given : (b : Bool) (pieces : List (List ℕ)) (cs : List Record) → GiveBy b pieces cs
    → AllByRecursion IsTextNamed cs
texts_given b [] cs g = subst (AllByRecursion IsTextNamed) (sym g) tt
texts_given b (piece ∷ later) cs g =
    subst (AllByRecursion IsTextNamed) (sym g.4)
    (text_front g.0 g.1 (text_given b piece g.0 g.2) (texts_given b later g.1 g.3))

last_text : (cs : List Record) (q : List ℕ) → AllByRecursion IsTextNamed cs
    → IfSome (last_in cs q) IsTextNamed
last_text [] q h = tt
last_text (c ∷ cs) q h = either (last_in cs q) (bytes_eq q c.name) (last_text cs q h.1)
  where
    either : (o : Option Record) (b : Bool) → IfSome o IsTextNamed
        → IfSome (option_or o (cond b (Some c) None)) IsTextNamed
    either (Some d) b g = g
    either None true g = h.0
    either None false g = tt

opened_texts : {b : Bool} (key header : List ℕ) (session : Keyed) → IsOpenedBy b key header session → AreTexts session
opened_texts {b} key header session opened q s is =
    let last : last_in opened.cookies q ≡ Some s.cookie = sym (opened.holds.originals q) ∙ ap record_in is in
    subst IsUtf8 (subst (λ (o : Option Record). IfSome o (λ c. c.name ≡ q)) last (last_named opened.cookies q))
    (subst (λ (o : Option Record). IfSome o IsTextNamed) last
    (last_text opened.cookies q (texts_given b _ opened.cookies opened.read)))

-- A session at its commands: it shows what the request reads, and would leave the site so, were its answer delivered
-- at d.
pub record Walks (counts : Counts) (key : List ℕ) (now d : ℤ) (at : List ℕ → Option Kept) (session : Keyed)
    (view : View) (left : Site) : Type 0 where
  pub shows : Shows counts key session view
  pub texts : AreTexts session
  pub brought : Brings counts now at session
  pub readable : IsReadableJar session.jar
  pub fit : AllFit session.jar.changes
  pub leaves : (q : List ℕ) → counts q ≡ true → MatchesHeld key q (sent_at d (finmap.get session.jar.changes q) (at q))
      (live_at d (left q))

pub opened_walks : {b : Bool} (counts : Counts) (key : List ℕ) (now d : ℤ) (ks : List Kept) (header : List ℕ)
    (session : Keyed)
    (site : Site)
    → now ≤ℤ d → Brings counts now (found_in ks) session → IsOpenedBy b key header session
    → ((q : List ℕ) → counts q ≡ true → MatchesHeld key q (alive now (found_in ks q)) (live_at now (site q)))
    → Walks counts key now d (found_in ks) session (live_view site now) site
opened_walks counts key now d ks header session site after brought opened each =
    let none : (q : List ℕ) → finmap.get session.jar.changes q ≡ None = λ q. ap (λ m. finmap.get m q)
    opened.holds.changes ∙ none_at q in
    record {
      shows = opens counts key now ks header session site brought opened each;
      texts = opened_texts key header session opened;
      brought = brought;
      readable = opened_each IsReadable opened.cookies session.jar opened.holds;
      fit = λ q change is. absurd (some_is_not_none change (sym is ∙ none q));
      leaves = λ q c. subst (λ o. MatchesHeld key q (sent_at d o (found_in ks q)) (live_at d (site q))) (sym (none q))
          (matches_later key q now d (found_in ks q) (site q) after (each q c));
    }

-- ---- a set

pub kept_fit : {k : List ℕ} (May : List ℕ → Type 0) (key : List ℕ) (way : Way) (s kept : Seen) → OnlyOne k
    → IsUtf8 s.cookie.name → IsUtf8 s.cookie.value → IfSome s.cookie.max_age IsDurationNanos → IsReadable kept.cookie
    → IsKeptAs May key way (sent s) kept → IsFit kept.cookie
kept_fit May key way s kept law name value age readable k =
    let n : IsUtf8 kept.cookie.name = subst IsUtf8 (sym (kept_named May key way (sent s) kept k))
    (named_text way s.cookie.name name) in
    let v : IsUtf8 kept.cookie.value = kept_text May key way (sent s) kept law.signed_text law.sealed_text
    value k in
    record {
      good = record {
        named = not_nil kept.cookie.name readable.name;
        name = n;
        value = v;
        name_bytes = utf8_bytes
            kept.cookie.name n;
        value_bytes = utf8_bytes kept.cookie.value v;
      };
      is_sent = as_sent way k;
    }
  where
    of : IsSent (sent s).cookie
    of = record { secure = refl; path = refl; domain = refl; age = age }

    as_sent : (way : Way) → IsKeptAs May key way (sent s) kept → IsSent kept.cookie
    as_sent ways.Plain k = subst (λ (x : Seen). IsSent x.cookie) (sym k) of
    as_sent ways.Host k = subst (λ (x : Seen). IsSent x.cookie) (sym k)
        (record { secure = refl; path = refl; domain = refl; age = age })
    as_sent ways.Secure k = subst (λ (x : Seen). IsSent x.cookie) (sym k)
        (record { secure = refl; path = refl; domain = refl; age = age })
    as_sent ways.Signed k = subst (λ (x : Seen). IsSent x.cookie) (sym k)
        (record { secure = refl; path = refl; domain = refl; age = age })
    as_sent ways.Sealed k = subst (λ (x : Seen). IsSent x.cookie) (sym k.2.3)
        (record { secure = refl; path = refl; domain = refl; age = age })

pub kept_death : (May : List ℕ → Type 0) (key : List ℕ) (d : ℤ) (way : Way) (s kept : Seen)
    → IsKeptAs May key way (sent s) kept → death (normal kept.cookie) d ≡ death (normal s.cookie) d
kept_death May key d ways.Plain s kept k = ap (λ (x : Seen). death (normal x.cookie) d) k
kept_death May key d ways.Host s kept k = ap (λ (x : Seen). death (normal x.cookie) d) k
kept_death May key d ways.Secure s kept k = ap (λ (x : Seen). death (normal x.cookie) d) k
kept_death May key d ways.Signed s kept k = ap (λ (x : Seen). death (normal x.cookie) d) k
kept_death May key d ways.Sealed s kept k = ap (λ (x : Seen). death (normal x.cookie) d) k.2.3

pub insert_fit : (m : ByName Change) (n : List ℕ) (c : Change) → AllFit m → IsFitChange c → AllFit (finmap.insert m n c)
insert_fit m n c h fit q d is =
    let found : cond (bytes_eq q n) (Some c) (finmap.get m q) ≡ Some d = sym (get_insert m n c q) ∙ is in
    ⊎_elim
    (λ (e : bytes_eq q n ≡ true). let same : c ≡ d = some_same (sym (cond-true _ _ _ e) ∙ found) in subst IsFitChange
    same fit)
    (λ (e : bytes_eq q n ≡ false). h q d (sym (cond-false _ _ _ e) ∙ found))
    (cases_Bool (bytes_eq q n))
  where
    some_same : {x y : Change} → Some x ≡ Some y → x ≡ y
    some_same e = cc

pub sent_cond : (d : ℤ) (b : Bool) (c : Change) (m : Option Change) (o : Option Kept)
    → sent_at d (cond b (Some c) m) o ≡ cond b (sent_at d (Some c) o) (sent_at d m o)
sent_cond d true c m o = refl
sent_cond d false c m o = refl

pub live_cond : (d : ℤ) (b : Bool) (x y : Option Held) → live_at d (cond b x y) ≡ cond b (live_at d x) (live_at d y)
live_cond d true x y = refl
live_cond d false x y = refl

pub held_cond : (key q : List ℕ) (b : Bool) (x y : Option Kept) (g h : Option Held) → (b ≡ true → MatchesHeld key q x g)
    → MatchesHeld key q y h → MatchesHeld key q (cond b x y) (cond b g h)
held_cond key q true x y g h f m = f refl
held_cond key q false x y g h f m = m

pub live_twice : (d : ℤ) (o : Option Held) → live_at d (live_at d o) ≡ live_at d o
live_twice d None = refl
live_twice d (Some h) = twice (is_dead d h.death) refl
  where
    twice : (b : Bool) → is_dead d h.death ≡ b → live_at d (cond b None (Some h)) ≡ cond b None (Some h)
    twice true e = refl
    twice false e = cond-false _ _ _ e

pub set_leaves : (key : List ℕ) (d : ℤ) (way : Way) (s kept : Seen) (q : List ℕ)
    → StandsAs key (stored_name way s.cookie.name) (kind_of way) s.cookie.value kept.cookie.value
    → death (normal kept.cookie) d ≡ death (normal s.cookie) d
    → bytes_eq q (stored_name way s.cookie.name) ≡ true → MatchesHeld key q (alive d (Some (kept_of d kept.cookie)))
    (live_at d (held_from d way s.cookie))
set_leaves key d way s kept q stands same e =
    let held : Held = record { entry = entry_of way s.cookie; death = death (normal s.cookie) d } in
    subst (λ x. MatchesHeld key q (alive d (Some (kept_of d kept.cookie))) x) (sym (live_twice d (Some held)))
    (matches_live key q d (Some (kept_of d kept.cookie)) (Some held) (
      subst (λ (m : List ℕ). StandsAs key m (kind_of way) s.cookie.value kept.cookie.value) (sym (same_text q _ e))
          stands,
      same,
    ))

pub set_walks : (counts : Counts) (key : List ℕ) (now d : ℤ) (at : List ℕ → Option Kept) (old new : Keyed) (view : View)
    (left : Site)
    (way : Way) (s : Seen) → OnlyOne key → Walks counts key now d at old view left → Sets any_nonce old way s new
    → Walks counts key now d at new (with_at view (stored_name way s.cookie.name) (Some (entry_of way s.cookie)))
    (left_by d left (Set way s))
set_walks counts key now d at old new view left way s law w sets =
    let kept : Seen = sets.keeps.0 in
    let n : List ℕ = stored_name way s.cookie.name in
    let as_kept : IsKeptAs any_nonce key way (sent s) kept = subst (λ (k : List ℕ). IsKeptAs any_nonce k way (sent s)
    kept) w.shows.key_is sets.keeps.1 in
    let named : kept.cookie.name ≡ n = kept_named any_nonce key way (sent s) kept as_kept in
    let readable : IsReadable kept.cookie = kept_readable any_nonce key way s kept
    (then_none _ (is_too_long way s.cookie.name s.cookie.value) sets.accepted).0 as_kept in
    let stands = kept_stands any_nonce key way (sent s) kept sets.value as_kept in
    record {
      shows = set_shows counts key old new view way s w.shows sets;
      texts = λ q x is. w.texts q x (sym (ap (λ (j : Jar). finmap.get j.originals q) sets.keeps.2) ∙ is);
      brought = λ q c. ap (λ (j : Jar). record_in (finmap.get j.originals q)) sets.keeps.2 ∙ w.brought q c;
      readable = subst IsReadableJar (sym sets.keeps.2) (changed_each IsReadable old.jar kept.cookie.name (Added kept)
          w.readable readable);
      fit = subst (λ (j : Jar). AllFit j.changes) (sym sets.keeps.2) (insert_fit old.jar.changes kept.cookie.name
          (Added kept) w.fit (kept_fit any_nonce key way s kept law sets.name sets.value sets.age readable as_kept));
      leaves = λ q c.
          let changed : finmap.get new.jar.changes q ≡ cond (bytes_eq q n) (Some (Added kept))
          (finmap.get old.jar.changes q) =
          ap (λ (j : Jar). finmap.get j.changes q) sets.keeps.2
          ∙ (get_insert old.jar.changes kept.cookie.name (Added kept) q
          ∙ ap (λ m. cond (bytes_eq q m) (Some (Added kept)) (finmap.get old.jar.changes q)) named) in
          subst (λ o. MatchesHeld key q (sent_at d o (at q))
          (live_at d (cond (bytes_eq q n) (held_from d way s.cookie) (left q)))) (sym changed)
          (subst (λ x. MatchesHeld key q x (live_at d (cond (bytes_eq q n) (held_from d way s.cookie) (left q))))
          (sym (sent_cond d (bytes_eq q n) (Added kept) (finmap.get old.jar.changes q) (at q)))
          (subst (λ x. MatchesHeld key q (cond (bytes_eq q n) (alive d (Some (kept_of d kept.cookie)))
          (sent_at d (finmap.get old.jar.changes q) (at q))) x)
          (sym (live_cond d (bytes_eq q n) (held_from d way s.cookie) (left q)))
          (held_cond key q (bytes_eq q n) _ _ _ _
          (set_leaves key d way s kept q stands (kept_death any_nonce key d way s kept as_kept)) (w.leaves q c))));
    }

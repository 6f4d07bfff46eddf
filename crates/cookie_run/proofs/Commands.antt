-- The commands of a session of the host, one after another.
use Rattle.std.proofs.Common.{◌≡◌, ◌≢◌, ℕ, ℤ, ◌≤ℤ◌, pos, Bool, true, false, cond, List, [], ◌∷◌, ◌++◌, sym, refl, ap}
use Rattle.std.proofs.Common.{◌∙◌, subst, ⊎_elim, inl, inr, Option, Some, None, arith}
use Rattle.std.specs.Prelude.{option_map, IfSome, MatchOption}
use Rattle.std.specs.Str.{bytes_eq, IsUtf8}
use Rattle.std.specs.FinMap as finmap
use Rattle.std.proofs.lemmas.Bool.{cases_Bool, cond-true, cond-false}
use Rattle.std.proofs.lemmas.Int.{ints}
use Rattle.jiff.specs.Types.{DateTime}
use Rattle.jiff_core.specs.DateTime.{civil_nanos}
use Rattle.jiff_core.specs.Timestamp.{IsDurationNanos}
use Rattle.cookie_text.specs.Normal.{is_short_year}
use Rattle.cookie_text.specs.Record.{Seen, bare, unsliced}
use Rattle.cookie_text.specs.Setting.{MakesRemoval}
use Rattle.cookie.specs.declared.delta.DeltaCookie.{DeltaCookie as Change}
use Rattle.cookie.specs.declared.delta.DeltaCookie.TheVariants.{Removed}
use Rattle.cookie.specs.ByName.{ByName}
use Rattle.cookie.specs.Jar.{Jar, overlaid, view, with_change, without_change}
use Rattle.cookie_client.specs.Jar.{Keyed, TakesOut, taken, value_in, record_in}
use Rattle.cookie_run.specs.Site.{Entry}
use Rattle.cookie_client.specs.Ways.{stored_name}
use Rattle.cookie_client.specs.declared.command.Reading.{Reading}
use Rattle.cookie_client.specs.declared.command.Reading.TheVariants.{Refused}
use Rattle.cookie_client.specs.declared.outcome.SessionError.{SessionError}
use Rattle.cookie_client.specs.declared.outcome.SessionError.TheVariants.{EmptyName, Year}
use Rattle.cookie_client.specs.declared.way.Way.{Way}
use Rattle.cookie_client.proofs.Sessions.{IsReadableJar, get_insert, get_remove, taken_readable, stored_named}
use Rattle.cookie_client.proofs.Sessions.{named as sized}
use Rattle.cookie_run.specs.Brought.{Matches}
use Rattle.cookie_run.proofs.Showing.{OnlyOne, Shows, GetIn, get_on}
use Rattle.cookie_client.proofs.SessionTexts.{utf8_bytes, not_nil}
use Rattle.cookie_client.proofs.Texts.{same_text, some_is_not_none}
use Rattle.cookie_client.specs.declared.command.Command.{Command}
use Rattle.cookie_client.specs.declared.command.Command.TheVariants.{Set, Remove, Get}
use Rattle.cookie_run.specs.Site.{Site, View, with_at, live_at, SetOn, RemoveOn, entry_of, left_by, left_by_all}
use Rattle.cookie_client.specs.Steps.{RemoveTells, CommandTells, Tells}
use Rattle.cookie_run.proofs.Kepts.{Kept}
use Rattle.cookie_client.proofs.CountedRows.{Counts}
use Rattle.cookie_run.proofs.Received.{alive}
use Rattle.cookie_run.proofs.GivenRows.{record_of}
use Rattle.cookie_run.proofs.Walking.{MatchesHeld, IsFitChange, AllFit, sent_at, Walks, alive_later, sent_cond}
use Rattle.cookie_run.proofs.Walking.{live_cond, held_cond, insert_fit, set_walks}
use Rattle.cookie_client.proofs.Texts.{nil_utf8}

-- a removal in a play is never of a year below 100
abbrev pub EndsLate : ℤ → Type 0
EndsLate now = (moment : DateTime) (c r : Seen) → civil_nanos moment ≡ now → MakesRemoval c moment r
    → is_short_year r.cookie.expires ≡ false

-- ---- a removal

matches_gone : (key q : List ℕ) (b : Bool) (o : Option Seen) (e : Option Entry) → Matches key q (value_in (record_in o))
    e → Matches key q (value_in (record_in (cond b None o))) (cond b None e)
matches_gone key q true o e m = tt
matches_gone key q false o e m = m

pub named_gone : (q : List ℕ) (b : Bool) (o : Option Seen) → IfSome o (λ s. s.cookie.name ≡ q)
    → IfSome (cond b None o) (λ s. s.cookie.name ≡ q)
named_gone q true o h = tt
named_gone q false o h = h

gone_shows : (counts : Counts) (key n : List ℕ) (old new : Keyed) (seen : View) → Shows counts key old seen
    → new.key ≡ old.key
    → ((q : List ℕ) → view new.jar q ≡ cond (bytes_eq q n) None (view old.jar q))
    → Shows counts key new (with_at seen n None)
gone_shows counts key n old new seen h same is = record {
  key_is = same ∙ h.key_is;
  named = λ q. subst (λ (o : Option Seen). IfSome o (λ s. s.cookie.name ≡ q)) (sym (is q))
      (named_gone q (bytes_eq q n) (view old.jar q) (h.named q));
  each = λ q c. subst (λ (o : Option Seen). Matches key q (value_in (record_in o)) (cond (bytes_eq q n) None (seen q)))
      (sym (is q)) (matches_gone key q (bytes_eq q n) (view old.jar q) (seen q) (h.each q c));
}

-- what it leaves, where what is sent under its name is nothing
gone_leaves : (key n q : List ℕ) (d : ℤ) (x y : Option Kept) (left : Site) → x ≡ cond (bytes_eq q n) None y
    → MatchesHeld key q y (live_at d (left q)) → MatchesHeld key q x (live_at d (with_at left n None q))
gone_leaves key n q d x y left is m =
    subst (λ o. MatchesHeld key q o (live_at d (cond (bytes_eq q n) None (left q)))) (sym is)
    (subst (λ o. MatchesHeld key q (cond (bytes_eq q n) None y) o) (sym (live_cond d (bytes_eq q n) None (left q)))
    (held_cond key q (bytes_eq q n) None y None (live_at d (left q)) (λ e. tt) m))

remove_fit : (m : ByName Change) (n : List ℕ) → AllFit m → AllFit (finmap.remove m n)
remove_fit m n h q d is =
    let found : cond (bytes_eq q n) None (finmap.get m q) ≡ Some d = sym (get_remove m n q) ∙ is in
    ⊎_elim
    (λ (e : bytes_eq q n ≡ true). absurd (some_is_not_none d (sym found ∙ cond-true _ _ _ e)))
    (λ (e : bytes_eq q n ≡ false). h q d (sym (cond-false _ _ _ e) ∙ found))
    (cases_Bool (bytes_eq q n))

pub overlaid_gone : (b : Bool) (o : Option Change) (p : Option Seen) → (b ≡ true → p ≡ None)
    → overlaid (cond b None o) p ≡ cond b None (overlaid o p)
overlaid_gone true o p h = h refl
overlaid_gone false o p h = refl

pub overlaid_removed : (b : Bool) (s : Seen) (o : Option Change) (p : Option Seen)
    → overlaid (cond b (Some (Removed s)) o) p ≡ cond b None (overlaid o p)
overlaid_removed true s o p = refl
overlaid_removed false s o p = refl

-- where nothing was under the name
gone_dead : (now d : ℤ) (o : Option Kept) → now ≤ℤ d → None ≡ option_map record_of (alive now o) → alive d o ≡ None
gone_dead now d o after e = sym (alive_later now d o after) ∙ ap (alive d) (none_of (alive now o) e)
  where
    none_of : (p : Option Kept) → None ≡ option_map record_of p → p ≡ None
    none_of None e = refl
    none_of (Some k) e = absurd (some_is_not_none (record_of k) (sym e))

sent_gone : (d : ℤ) (b : Bool) (m : Option Change) (o : Option Kept) → (b ≡ true → alive d o ≡ None)
    → sent_at d (cond b None m) o ≡ cond b None (sent_at d m o)
sent_gone d true m o h = h refl
sent_gone d false m o h = refl

unchanged_walks : (counts : Counts) (key : List ℕ) (now d : ℤ) (at : List ℕ → Option Kept) (old new : Keyed)
    (seen : View) (left : Site)
    (n : List ℕ) → now ≤ℤ d → Walks counts key now d at old seen left → finmap.get old.jar.originals n ≡ None
    → new.key ≡ old.key → new.jar ≡ without_change old.jar n → IsReadableJar new.jar
    → Walks counts key now d at new (with_at seen n None) (with_at left n None)
unchanged_walks counts key now d at old new seen left n after w none same is readable = record {
  shows = gone_shows counts key n old new seen w.shows same (λ q. ap (λ (j : Jar). view j q) is
      ∙ (ap (λ o. overlaid o (finmap.get old.jar.originals q)) (get_remove old.jar.changes n q)
      ∙ overlaid_gone (bytes_eq q n) (finmap.get old.jar.changes q) (finmap.get old.jar.originals q)
      (λ e. ap (finmap.get old.jar.originals) (same_text q n e) ∙ none)));
  texts = λ q x there. w.texts q x (sym (ap (λ (j : Jar). finmap.get j.originals q) is) ∙ there);
  brought = λ q c. ap (λ (j : Jar). record_in (finmap.get j.originals q)) is ∙ w.brought q c;
  readable = readable;
  fit = subst (λ (j : Jar). AllFit j.changes) (sym is) (remove_fit old.jar.changes n w.fit);
  leaves = λ q c. gone_leaves key n q d _ (sent_at d (finmap.get old.jar.changes q) (at q)) left
      (ap (λ (j : Jar). sent_at d (finmap.get j.changes q) (at q)) is
      ∙ (ap (λ o. sent_at d o (at q)) (get_remove old.jar.changes n q)
      ∙ sent_gone d (bytes_eq q n) (finmap.get old.jar.changes q) (at q)
      (λ e. gone_dead now d (at q) after (sym (ap record_in
      (ap (finmap.get old.jar.originals) (same_text q n e) ∙ none))
      ∙ w.brought q c))))
      (w.leaves q c);
}

removal_fit : (way : Way) (name : List ℕ) (r : Seen) (moment : DateTime) → stored_name way name ≢ []
    → IsUtf8 (stored_name way name) → MakesRemoval (taken way name) moment r → IsFitChange (Removed r)
removal_fit way name r moment named text makes =
    let is : stored_name way name ≡ r.cookie.name = sym (ap (λ (s : Seen). s.cookie.name) makes.2.2) in
    let empty : [] ≡ r.cookie.value = sym (ap (λ (s : Seen). s.cookie.value) makes.2.2) in
    let age : r.cookie.max_age ≡ Some (pos 0) = ap (λ (s : Seen). s.cookie.max_age) makes.2.2 in
    let n : IsUtf8 r.cookie.name = subst IsUtf8 is text in
    let v : IsUtf8 r.cookie.value = subst IsUtf8 empty nil_utf8 in (
      record {
        good = record {
          named = subst (λ (n : List ℕ). n ≢ []) is named;
          name = n;
          value = v;
          name_bytes = utf8_bytes r.cookie.name n;
          value_bytes = utf8_bytes r.cookie.value v;
        };
        is_sent = record {
          secure = ap (λ (s : Seen). s.cookie.secure) makes.2.2;
          path = ap (λ (s : Seen). s.cookie.path) makes.2.2;
          domain = ap (λ (s : Seen). s.cookie.domain) makes.2.2;
          age = subst (λ (o : Option ℤ). IfSome o IsDurationNanos) (sym age) zero_age;
        };
      },
      age,
    )
  where
    zero_age : IsDurationNanos (pos 0)
    zero_age = grind (arith, ints)

removed_walks : (counts : Counts) (key : List ℕ) (now d : ℤ) (at : List ℕ → Option Kept) (old new : Keyed) (seen : View)
    (left : Site)
    (n : List ℕ) (r : Seen) → Walks counts key now d at old seen left → r.cookie.name ≡ n → IsFitChange (Removed r)
    → new.key ≡ old.key → new.jar ≡ with_change old.jar (Removed r) → IsReadableJar new.jar
    → Walks counts key now d at new (with_at seen n None) (with_at left n None)
removed_walks counts key now d at old new seen left n r w named fit same is readable =
    let got : (q : List ℕ) → finmap.get new.jar.changes q ≡ cond (bytes_eq q n) (Some (Removed r))
    (finmap.get old.jar.changes q) =
    λ q. ap (λ (j : Jar). finmap.get j.changes q) is ∙ (get_insert old.jar.changes r.cookie.name (Removed r) q
    ∙ ap (λ m. cond (bytes_eq q m) (Some (Removed r)) (finmap.get old.jar.changes q)) named) in
    record {
      shows = gone_shows counts key n old new seen w.shows same
          (λ q. (λ i. overlaid (got q i) (finmap.get (is i).originals q))
          ∙ overlaid_removed (bytes_eq q n) r (finmap.get old.jar.changes q) (finmap.get old.jar.originals q));
      texts = λ q x there. w.texts q x (sym (ap (λ (j : Jar). finmap.get j.originals q) is) ∙ there);
      brought = λ q c. ap (λ (j : Jar). record_in (finmap.get j.originals q)) is ∙ w.brought q c;
      readable = readable;
      fit = subst (λ (j : Jar). AllFit j.changes) (sym is) (insert_fit old.jar.changes r.cookie.name (Removed r) w.fit
          fit);
      leaves = λ q c. gone_leaves key n q d _ (sent_at d (finmap.get old.jar.changes q) (at q)) left
          (ap (λ o. sent_at d o (at q)) (got q) ∙ sent_cond d (bytes_eq q n) (Removed r) (finmap.get old.jar.changes q)
          (at q)) (w.leaves q c);
    }

remove_cases : (counts : Counts) (key : List ℕ) (now d : ℤ) (at : List ℕ → Option Kept) (old new : Keyed) (seen : View)
    (left : Site)
    (way : Way) (name : List ℕ) (moment : DateTime) (o : Option Seen) → now ≤ℤ d → stored_name way name ≢ []
    → Walks counts key now d at old seen left → finmap.get old.jar.originals (stored_name way name) ≡ o
    → MatchOption o (new.jar ≡ without_change old.jar (stored_name way name)) (λ _. (removal : Seen)
    × MakesRemoval (taken way name) moment removal × (new.jar ≡ with_change old.jar (Removed removal)))
    → new.key ≡ old.key → IsReadableJar new.jar → Walks counts key now d at new
    (with_at seen (stored_name way name) None)
    (with_at left (stored_name way name) None)
remove_cases counts key now d at old new seen left way name moment None after named w found removes same readable =
    unchanged_walks counts key now d at old new seen left (stored_name way name) after w found same removes readable
remove_cases counts key now d at old new seen left way name moment (Some s) after named w found removes same readable =
    removed_walks counts key now d at old new seen left (stored_name way name) removes.0 w
    (ap (λ (x : Seen). x.cookie.name) removes.1.2.2)
    (removal_fit way name removes.0 moment named (w.texts (stored_name way name) s found) removes.1) same removes.2
    readable

take_walks : (counts : Counts) (key : List ℕ) (now d : ℤ) (at : List ℕ → Option Kept) (old new : Keyed) (seen : View)
    (left : Site)
    (way : Way) (name : List ℕ) (moment : DateTime) → now ≤ℤ d → Walks counts key now d at old seen left
    → TakesOut old way name moment new
    → Walks counts key now d at new (with_at seen (stored_name way name) None)
    (with_at left (stored_name way name) None)
take_walks counts key now d at old new seen left way name moment after w t =
    remove_cases counts key now d at old new seen left way name moment
    (finmap.get old.jar.originals (stored_name way name))
    after (not_nil _ (stored_named way name (sized name t.accepted.0.cookie.expires (sym t.accepted.2)))) w refl
    t.removes
    t.key_is
    (taken_readable way name t.accepted.0 moment old.jar new.jar t.removes t.accepted.1 (sym t.accepted.2) w.readable)

-- ---- one command

-- what is told of a get on a site's request
abbrev pub Gets : Type 1
Gets = View → Way → List ℕ → List Reading → Type 0

-- all that a session which shows the names that count has for it
abbrev pub Told : Counts → Gets → Type 0
Told counts Read = (seen : View) (way : Way) (name : List ℕ) (told : List Reading) → GetIn counts seen way name told
    → Read seen way name told

-- what a site's request reads by a command, and by commands one after another
abbrev pub CommandIn : Gets → View → Command → List Reading → List Command → View → Type 0
CommandIn Read seen (Set way cookie) told noted new = SetOn seen (Set way cookie) way cookie.cookie told noted new
CommandIn Read seen (Remove way name) told noted new = RemoveOn seen (Remove way name) way name told noted new
CommandIn Read seen (Get way name) told noted new = Read seen way name told × (noted ≡ []) × (new ≡ seen)

abbrev pub CommandsIn : Gets → View → List Command → List Reading → List Command → View → Type 0
CommandsIn Read seen [] told noted new = (told ≡ []) × (noted ≡ []) × (new ≡ seen)
CommandsIn Read seen (c ∷ cs) told noted new =
    (first : List Reading) × (later : List Reading) × (noted_first : List Command) × (noted_later : List Command)
    × (mid : View) × CommandIn Read seen c first noted_first mid × CommandsIn Read mid cs later noted_later new
    × (told ≡ first ++ later) × (noted ≡ noted_first ++ noted_later)

-- what a session reads is what the site's request reads, and it goes on so
abbrev pub GoesOn : Counts → Gets → List ℕ → ℤ → ℤ → (List ℕ → Option Kept) → View → Site → Command → List Reading
    → Keyed → Type 0
GoesOn counts Read key now d at seen left c told new =
    (noted : List Command) × (after : View) × CommandIn Read seen c told noted after
    × Walks counts key now d at new after (left_by_all d left noted)

remove_goes : (counts : Counts) (Read : Gets) (key : List ℕ) (now d : ℤ) (at : List ℕ → Option Kept) (old new : Keyed)
    (seen : View) (left : Site)
    (way : Way) (name : List ℕ) (told : List Reading) → now ≤ℤ d → EndsLate now
    → Walks counts key now d at old seen left
    → RemoveTells old now way name told new → GoesOn counts Read key now d at seen left (Remove way name) told new
remove_goes counts Read key now d at old new seen left way [] told after late w (moment, at_now, inl t) = absurd
    (some_is_not_none EmptyName (sym t.1.accepted.2))
remove_goes counts Read key now d at old new seen left way [] told after late w (moment, at_now, inr t) = (
  [],
  seen,
  (t.1 ∙ ap (λ e. Refused e ∷ []) (some_error (t.2.2)), refl, refl),
  subst
      (λ k. Walks counts key now d at k seen left) (sym t.3) w,
)
  where
    some_error : {x y : SessionError} → Some x ≡ Some y → x ≡ y
    some_error e = cc
remove_goes counts Read key now d at old new seen left way (b ∷ bs) told after late w (moment, at_now, inl t) = (
  Remove way (b ∷ bs) ∷ [],
  with_at seen (stored_name way (b ∷ bs)) None,
  (t.0, refl, refl),
  take_walks counts key now d at
      old new seen left way (b ∷ bs) moment after w t.1,
)
remove_goes counts Read key now d at old new seen left way (b ∷ bs) told after late w (moment, at_now, inr t) =
    absurd (some_is_not_none t.0 (t.2.2 ∙ ap (λ x. cond x (Some Year) None) (late moment (unsliced (bare (b ∷ bs) []))
    t.2.0 at_now t.2.1)))

one_goes : (counts : Counts) (Read : Gets) → Told counts Read
    → (key : List ℕ) (now d : ℤ) (at : List ℕ → Option Kept) (old new : Keyed) (seen : View) (left : Site)
    (c : Command) (told : List Reading) → OnlyOne key → now ≤ℤ d → EndsLate now
    → Walks counts key now d at old seen left
    → CommandTells old now c told new → GoesOn counts Read key now d at seen left c told new
one_goes counts Read tell key now d at old new seen left (Set way s) told law after late w (inl t) = (
  Set way s ∷ [],
  with_at seen (stored_name way s.cookie.name) (Some (entry_of way s.cookie)),
  inl
      (t.0, t.1.accepted, refl, refl),
  set_walks counts key now d at old new seen left way s law w t.1,
)
one_goes counts Read tell key now d at old new seen left (Set way s) told law after late w (inr t) =
    ([], seen, inr (t.0, t.1, t.2, refl, refl), subst (λ k. Walks counts key now d at k seen left) (sym t.3) w)
one_goes counts Read tell key now d at old new seen left (Remove way name) told law after late w t = remove_goes counts
    Read key now d at old
    new seen left way name told after late w t
one_goes counts Read tell key now d at old new seen left (Get way name) told law after late w t = (
  [],
  seen,
  (tell seen way name told (get_on counts key old seen way name told law w.shows t.0), refl, refl),
  subst
      (λ k. Walks counts key now d at k seen left) (sym t.1) w,
)

-- ---- all of them

left_append : (d : ℤ) (site : Site) (cs ds : List Command) → left_by_all d site (cs ++ ds) ≡ left_by_all d
    (left_by_all d site cs) ds
left_append d site [] ds = refl
left_append d site (c ∷ cs) ds = left_append d (left_by d site c) cs ds

pub all_go : (counts : Counts) (Read : Gets) → Told counts Read
    → (key : List ℕ) (now d : ℤ) (at : List ℕ → Option Kept) (old new : Keyed) (seen : View) (left : Site)
    (cs : List Command) (told : List Reading) → OnlyOne key → now ≤ℤ d → EndsLate now
    → Walks counts key now d at old seen left
    → Tells old now cs told new → (noted : List Command) × (after : View) × CommandsIn Read seen cs told noted after
    × Walks counts key now d at new after (left_by_all d left noted)
all_go counts Read tell key now d at old new seen left [] told law after late w t =
    ([], seen, (t.0, refl, refl), subst (λ k. Walks counts key now d at k seen left) (sym t.1) w)
all_go counts Read tell key now d at old new seen left (c ∷ cs) told law after late w t =
    let first = one_goes counts Read tell key now d at old t.2 seen left c t.0 law after late w t.3 in
    let rest = all_go counts Read tell key now d at t.2 new first.1 (left_by_all d left first.0) cs t.1 law after late
    first.3
    t.4 in (
      first.0 ++ rest.0,
      rest.1,
      (t.0, t.1, first.0, rest.0, first.1, first.2, rest.2, t.5, refl),
      subst (Walks counts key now d at new rest.1) (sym (left_append d left first.0 rest.0)) rest.3,
    )

-- A play on a ring of one key is a play with that key.
use Rattle.std.proofs.Common.{Bool, ◌≡◌, ◌∙◌, inl, inr, ℕ, List, [], ◌∷◌, ◌++◌, map, Option, Some, None, MatchOption}
use Rattle.std.proofs.Common.{refl, ap, sym, subst}
use Rattle.std.specs.List.{AllByRecursion}
use Rattle.std.proofs.lemmas.List.{map-append}
use Rattle.jiff.specs.Types.{DateTime}
use Rattle.jiff.specs.Words.{civil_nanos}
use Rattle.jiff_zoned.proofs.SameLemmas.{same_datetime}
use Rattle.cookie.specs.Jar.{Jar}
use Rattle.cookie.specs.KeyRing.{Ring, alone}
use Rattle.cookie_text.specs.Record.{Seen}
use Rattle.cookie_store.specs.Rows.{Row}
use Rattle.publicsuffix.specs.Rules.{Rule}
use Rattle.cookie_client.specs.Jar.{IsOpenedBy, Keyed, ReadsIn, TakesOut}
use Rattle.cookie_client.specs.Steps.{GetTells, RemoveTells, SetTells, Tells}
use Rattle.cookie_run.specs.RingOfOne.{AreThatPlay, HasNoEnd, IsSuchAPlay, all_placed}
use Rattle.cookie_run.specs.RingOfOne.{commands_of, placed_at_0}
use Rattle.cookie_run.specs.RingPlay as ring
use Rattle.cookie_run.specs.RingPlay.{RingAct, RingCommand, RingGetTells, RingPlays, RingReading, RingRemoveTells}
use Rattle.cookie_run.specs.RingPlay.{RingSetTells, RingTells}
use Rattle.cookie_client.specs.RingSession.{IsOpenedOnBy, IsThatSession, Ringed, at_0, keyed, value_alone}
use Rattle.cookie_client.specs.declared.command.Reading.{Reading}
use Rattle.cookie_client.specs.declared.command.Reading.TheVariants.{Header, Refused, Value}
use Rattle.cookie_client.specs.declared.outcome.SessionError.TheVariants.{EmptyName}
use Rattle.cookie_client.specs.declared.way.Way.{Way}

-- a session with a key alone, as one on its ring
abbrev on : List ℕ → DateTime → Jar → Ringed
on key now jar = record { ring = alone key; moment = now; jar = jar }

abbrev with_key : List ℕ → Jar → Keyed
with_key key jar = record { key = key; jar = jar }

at_0_is : (read : Option (List ℕ × ℕ)) → MatchOption read (Unit {0}) (λ r. r.1 ≡ 0) → read ≡ at_0 (value_alone read)
at_0_is None h = refl
at_0_is (Some r) h = λ i. Some (r.0, h i)

alone_is : (value : Option (List ℕ)) → value ≡ value_alone (at_0 value)
alone_is None = refl
alone_is (Some v) = refl

at_0_place : (value : Option (List ℕ)) → MatchOption (at_0 value) (Unit {0}) (λ r. r.1 ≡ 0)
at_0_place None = tt
at_0_place (Some v) = refl

-- ---- there

-- a session that a command leaves keeps its ring and its moment
abbrev Stays : List ℕ → DateTime → Ringed → Type 0
Stays key now s = s ≡ on key now s.jar

stays_of : (key : List ℕ) (now : DateTime) (jar : Jar) (new : Ringed) → new.ring ≡ alone key → new.moment ≡ now
    → Stays key now new
stays_of key now jar new r m = λ i. record { ring = r i; moment = m i; jar = new.jar }

module _ (that : IsThatSession) (key : List ℕ) (now : DateTime) where
  set_there : (old new : Jar) (way : Way) (s : Seen) (told : List RingReading)
      → RingSetTells (on key now old) way s told (on key now new)
      → (read : List Reading) × SetTells (with_key key old) way s read (with_key key new)
      × (told ≡ map placed_at_0 read)
  set_there old new way s told (inl h) = ([], inl (refl, h.1), h.0)
  set_there old new way s told (inr h) =
      (Refused h.0 ∷ [], inr (h.0, refl, h.2, ap (λ (x : Ringed). keyed x) h.3), h.1)

  removal_there : (old new : Jar) (way : Way) (name : List ℕ) (told : List RingReading)
      → RingRemoveTells (on key now old) way name told (on key now new)
      → (read : List Reading) × RemoveTells (with_key key old) (civil_nanos now) way name read (with_key key new)
      × (told ≡ map placed_at_0 read)
  removal_there old new way name told (inl h) = ([], (now, refl, inl (refl, h.1)), h.0)
  removal_there old new way name told (inr h) =
      (Refused h.0 ∷ [], (now, refl, inr (h.0, refl, h.2, ap (λ (x : Ringed). keyed x) h.3)), h.1)

  get_there : (jar : Jar) (way : Way) (name : List ℕ) (told : List RingReading)
      → RingGetTells (on key now jar) way name told
      → (read : List Reading) × GetTells (with_key key jar) way name read × (told ≡ map placed_at_0 read)
  get_there jar way [] told h = (Refused EmptyName ∷ [], refl, h)
  get_there jar way (b ∷ bs) told h =
      let law = (that key now jar way (b ∷ bs) h.0).0 h.2 in (
        Value way (b ∷ bs) (value_alone h.0) ∷ [],
        (value_alone h.0, refl, law.0),
        h.1 ∙ ap (λ (r : Option (List ℕ × ℕ)). ring.Read way (b ∷ bs) r ∷ []) (at_0_is h.0 law.1),
      )

  -- what the commands read, and the ring that they leave
  abbrev There : Jar → List RingCommand → List RingReading → Ringed → Type 0
  There old cs told new = (read : List Reading)
      × Tells (with_key key old) (civil_nanos now) (commands_of cs) read (keyed new) × (told ≡ map placed_at_0 read)
      × Stays key now new

  joined : (told first later : List RingReading) (read more : List Reading) → told ≡ first ++ later
      → first ≡ map placed_at_0 read → later ≡ map placed_at_0 more → told ≡ map placed_at_0 (read ++ more)
  joined told first later read more is a b =
      is ∙ ((λ i. a i ++ b i) ∙ sym (map-append placed_at_0 read more))

  stayed : (old : Jar) (mid : Ringed) → mid ≡ on key now old → Stays key now mid
  stayed old mid is = is ∙ ap (λ (j : Jar). on key now j) (sym (ap (λ (x : Ringed). x.jar) is))

  tells_there : (old : Jar) (new : Ringed) (cs : List RingCommand) (told : List RingReading)
      → AllByRecursion HasNoEnd cs → RingTells (on key now old) cs told new → There old cs told new
  tells_there old new [] told plain h = ([], (refl, ap (λ (x : Ringed). keyed x) h.1), h.0, stayed old new h.1)
  tells_there old new (ring.Set way s ∷ cs) told plain h =
      let mid : Ringed = h.2 in
      let is : Stays key now mid =
      elim h.3 [
        | inl t ↦ stays_of key now old mid t.2.0 t.2.1
        | inr t ↦ stayed old mid t.3
      ] in
      let one = set_there old mid.jar way s h.0
      (subst (λ (m : Ringed). RingSetTells (on key now old) way s h.0 m) is h.3) in
      let rest = tells_there mid.jar new cs h.1 plain.1 (subst (λ (m : Ringed). RingTells m cs h.1 new) is h.4) in (
        one.0 ++ rest.0,
        (one.0, rest.0, with_key key mid.jar, one.1, rest.1, refl),
        joined told h.0 h.1 one.0 rest.0 h.5 one.2 rest.2,
        rest.3,
      )
  tells_there old new (ring.SetUntil way s until ∷ cs) told plain h = absurd plain.0
  tells_there old new (ring.Remove way name ∷ cs) told plain h =
      let mid : Ringed = h.2 in
      let is : Stays key now mid =
      elim h.3 [
        | inl t ↦ stays_of key now old mid t.2.0 t.2.1
        | inr t ↦ stayed old mid t.3
      ] in
      let one = removal_there old mid.jar way name h.0
      (subst (λ (m : Ringed). RingRemoveTells (on key now old) way name h.0 m) is h.3) in
      let rest = tells_there mid.jar new cs h.1 plain.1 (subst (λ (m : Ringed). RingTells m cs h.1 new) is h.4) in (
        one.0 ++ rest.0,
        (one.0, rest.0, with_key key mid.jar, one.1, rest.1, refl),
        joined told h.0 h.1 one.0 rest.0 h.5 one.2 rest.2,
        rest.3,
      )
  tells_there old new (ring.Get way name ∷ cs) told plain h =
      let one = get_there old way name h.0 h.3.0 in
      let rest = tells_there old new cs h.1 plain.1 (subst (λ (m : Ringed). RingTells m cs h.1 new) h.3.1 h.4) in (
        one.0 ++ rest.0,
        (one.0, rest.0, with_key key old, (one.1, refl), rest.1, refl),
        joined told h.0 h.1 one.0 rest.0 h.5 one.2 rest.2,
        rest.3,
      )
  tells_there old new (ring.GetUntil way name ∷ cs) told plain h = absurd plain.0

  -- ---- back

  set_back : (old new : Jar) (way : Way) (s : Seen) (read : List Reading) → SetTells (with_key key old) way s read
      (with_key key new) → RingSetTells (on key now old) way s (map placed_at_0 read) (on key now new)
  set_back old new way s read (inl h) = inl (ap (map placed_at_0) h.0, h.1, (refl, refl))
  set_back old new way s read (inr h) =
      inr (h.0, ap (map placed_at_0) h.1, h.2, ap (λ (x : Keyed). on key now x.jar) h.3)

  removal_back : (old new : Jar) (way : Way) (name : List ℕ) (read : List Reading)
      → RemoveTells (with_key key old) (civil_nanos now) way name read (with_key key new)
      → RingRemoveTells (on key now old) way name (map placed_at_0 read) (on key now new)
  removal_back old new way name read (at, is, inl h) =
      let same : at ≡ now = same_datetime at now is in
      inl (
        ap (map placed_at_0) h.0,
        subst (λ (d : DateTime). TakesOut (with_key key old) way name d (with_key key new)) same h.1,
        (refl, refl),
      )
  removal_back old new way name read (at, is, inr h) =
      let same : at ≡ now = same_datetime at now is in
      inr (
        h.0,
        ap (map placed_at_0) h.1,
        subst (λ (d : DateTime). Rattle.cookie_client.specs.Jar.IsRemovalRefusal name d (Some h.0)) same h.2,
        ap (λ (x : Keyed). on key now x.jar) h.3,
      )

  get_back : (jar : Jar) (way : Way) (name : List ℕ) (read : List Reading) → GetTells (with_key key jar) way name read
      → RingGetTells (on key now jar) way name (map placed_at_0 read)
  get_back jar way [] read h = ap (map placed_at_0) h
  get_back jar way (b ∷ bs) read h = (
    at_0 h.0,
    ap (map placed_at_0) h.1,
    (that key now jar way (b ∷ bs) (at_0 h.0)).1
        (subst (ReadsIn (with_key key jar) way (b ∷ bs)) (alone_is h.0) h.2, at_0_place h.0),
  )

  parted : (read first later : List Reading) → read ≡ first ++ later
      → map placed_at_0 read ≡ map placed_at_0 first ++ map placed_at_0 later
  parted read first later is = ap (map placed_at_0) is ∙ map-append placed_at_0 first later

  -- a command keeps the key
  kept : (mid : Keyed) → mid.key ≡ key → mid ≡ with_key key mid.jar
  kept mid is = λ i. record { key = is i; jar = mid.jar }

  back_to : (old : Jar) (mid : Keyed) → mid ≡ with_key key old → mid ≡ with_key key mid.jar
  back_to old mid is = is ∙ ap (λ (j : Jar). with_key key j) (sym (ap (λ (x : Keyed). x.jar) is))

  tells_back : (old : Jar) (new : Keyed) (cs : List RingCommand) (read : List Reading) → AllByRecursion HasNoEnd cs
      → Tells (with_key key old) (civil_nanos now) (commands_of cs) read new
      → RingTells (on key now old) cs (map placed_at_0 read) (on key now new.jar)
  tells_back old new [] read plain h =
      (ap (map placed_at_0) h.0, ap (λ (x : Keyed). on key now x.jar) h.1)
  tells_back old new (ring.Set way s ∷ cs) read plain h =
      let mid : Keyed = h.2 in
      let is : mid ≡ with_key key mid.jar =
      elim h.3 [
        | inl t ↦ kept mid t.1.key_is
        | inr t ↦ back_to old mid t.3
      ] in (
        map placed_at_0 h.0,
        map placed_at_0 h.1,
        on key now mid.jar,
        set_back old mid.jar way s h.0
            (subst (λ (m : Keyed). SetTells (with_key key old) way s h.0 m) is h.3),
        tells_back mid.jar new cs h.1 plain.1
            (subst (λ (m : Keyed). Tells m (civil_nanos now) (commands_of cs) h.1 new) is h.4),
        parted read h.0 h.1 h.5,
      )
  tells_back old new (ring.SetUntil way s until ∷ cs) read plain h = absurd plain.0
  tells_back old new (ring.Remove way name ∷ cs) read plain h =
      let mid : Keyed = h.2 in
      let is : mid ≡ with_key key mid.jar =
      elim h.3.2 [
        | inl t ↦ kept mid t.1.key_is
        | inr t ↦ back_to old mid t.3
      ] in (
        map placed_at_0 h.0,
        map placed_at_0 h.1,
        on key now mid.jar,
        removal_back old mid.jar way name h.0
            (subst (λ (m : Keyed). RemoveTells (with_key key old) (civil_nanos now) way name h.0 m) is h.3),
        tells_back mid.jar new cs h.1 plain.1
            (subst (λ (m : Keyed). Tells m (civil_nanos now) (commands_of cs) h.1 new) is h.4),
        parted read h.0 h.1 h.5,
      )
  tells_back old new (ring.Get way name ∷ cs) read plain h = (
    map placed_at_0 h.0,
    map placed_at_0 h.1,
    on key now old,
    (get_back old way name h.0 h.3.0, refl),
    tells_back old new cs h.1 plain.1
        (subst (λ (m : Keyed). Tells m (civil_nanos now) (commands_of cs) h.1 new) h.3.1 h.4),
    parted read h.0 h.1 h.5,
  )
  tells_back old new (ring.GetUntil way name ∷ cs) read plain h = absurd plain.0

-- ---- all acts

opened_there : {b : Bool} (key : List ℕ) (now : DateTime) (header : List ℕ) (s : Ringed)
    → IsOpenedOnBy b (alone key) now header s → Stays key now s
opened_there key now header s h = stays_of key now s.jar s h.ring_is h.moment_is

opened_back : {b : Bool} (key : List ℕ) (header : List ℕ) (s : Keyed) → IsOpenedBy b key header s
    → s ≡ with_key key s.jar
opened_back key header s h = λ i. record { key = h.key_is i; jar = s.jar }

same_ring : (b : Bool) (list : List Rule) (key : List ℕ) (turned : Ring) (rows : List Row) (steps : List RingAct)
    (told : List (List RingReading)) (left : Ring) (new : List Row) → turned ≡ alone key
    → RingPlays b list turned rows steps told left new → RingPlays b list (alone key) rows steps told left new
same_ring b list key turned rows steps told left new is h =
    subst (λ (q : Ring). RingPlays b list q rows steps told left new) is h

both : (first : List RingReading) (later : List (List RingReading)) (read : List Reading)
    (more : List (List Reading)) → first ≡ map placed_at_0 read → later ≡ all_placed more
    → first ∷ later ≡ all_placed (read ∷ more)
both first later read more a b = λ i. a i ∷ b i

pub are_that_play : IsThatSession → AreThatPlay
are_that_play that b list key rows [] [] left new plain h = ([], h.1, refl, h.0)
are_that_play that b list key rows [] (t ∷ ts) left new plain h = absurd h
are_that_play that b list key rows (a ∷ rest) [] left new plain h = absurd h
are_that_play that b list key rows (ring.Visits url at cs arrival ∷ rest) (t ∷ ts) left new plain h =
    let step = h.2 in
    let opened : Ringed = step.2.0 in
    let is : Stays key at opened = opened_there key at step.0 opened step.2.1 in
    let s = tells_there that key at opened.jar step.2.2.0 cs t plain.0
    (subst (λ (m : Ringed). RingTells m cs t step.2.2.0) is step.2.2.1) in
    let start : IsOpenedBy b key step.0 (with_key key opened.jar) =
    subst (λ (m : Ringed). IsOpenedBy b key step.0 (keyed m)) is step.2.1.opened in
    let later = are_that_play that b list key h.1 rest ts left new plain.1
    (same_ring b list key h.0 h.1 rest ts left new step.3 h.3) in (
      s.0 ∷ later.0,
      (h.1, (step.0, step.1, (keyed step.2.2.0, (with_key key opened.jar, start, s.1), step.2.2.2)), later.1),
      both t ts s.0 later.0 s.2 later.2,
      later.3,
    )
are_that_play that b list key rows (ring.Answers url lines at ∷ rest) (t ∷ ts) left new plain h =
    let later = are_that_play that b list key h.1 rest ts left new plain
    (same_ring b list key h.0 h.1 rest ts left new h.2.2 h.3) in
    ([] ∷ later.0, (h.1, (refl, h.2.1), later.1), both t ts [] later.0 h.2.0 later.2, later.3)
are_that_play that b list key rows (ring.Asks url at ∷ rest) (t ∷ ts) left new plain h =
    let later = are_that_play that b list key h.1 rest ts left new plain
    (same_ring b list key h.0 h.1 rest ts left new h.2.2 h.3) in (
      (Header h.2.0.0 ∷ []) ∷ later.0,
      (h.1, ((h.2.0.0, h.2.0.1, refl), h.2.1), later.1),
      both t ts (Header h.2.0.0 ∷ []) later.0 h.2.0.2 later.2,
      later.3,
    )
are_that_play that b list key rows (ring.Restarts at ∷ rest) (t ∷ ts) left new plain h =
    let later = are_that_play that b list key h.1 rest ts left new plain
    (same_ring b list key h.0 h.1 rest ts left new h.2.2 h.3) in
    ([] ∷ later.0, (h.1, (refl, h.2.1), later.1), both t ts [] later.0 h.2.0 later.2, later.3)
are_that_play that b list key rows (ring.Rotates k at keep ∷ rest) (t ∷ ts) left new plain h = absurd plain

pub is_such_a_play : IsThatSession → IsSuchAPlay
is_such_a_play that b list key rows [] [] new plain h = (refl, h)
is_such_a_play that b list key rows [] (t ∷ ts) new plain h = absurd h
is_such_a_play that b list key rows (ring.Visits url at cs arrival ∷ rest) [] new plain h = absurd h
is_such_a_play that b list key rows (ring.Answers url lines at ∷ rest) [] new plain h = absurd h
is_such_a_play that b list key rows (ring.Asks url at ∷ rest) [] new plain h = absurd h
is_such_a_play that b list key rows (ring.Restarts at ∷ rest) [] new plain h = absurd h
is_such_a_play that b list key rows (ring.Rotates k at keep ∷ rest) read new plain h = absurd plain
is_such_a_play that b list key rows (ring.Visits url at cs arrival ∷ rest) (t ∷ ts) new plain h =
    let step = h.1 in
    let session : Keyed = step.2.0 in
    let opened : Keyed = step.2.1.0 in
    let is = opened_back key step.0 opened step.2.1.1 in
    let on_ring : Ringed = on key at opened.jar in
    let start : IsOpenedOnBy b (alone key) at step.0 on_ring =
    record {
      ring_is = refl;
      moment_is = refl;
      opened = subst (λ (m : Keyed). IsOpenedBy b key step.0 m) is step.2.1.1;
    } in
    let tells = tells_back that key at opened.jar session cs t plain.0
    (subst (λ (m : Keyed). Tells m (civil_nanos at) (commands_of cs) t session) is step.2.1.2) in (
      alone key,
      h.0,
      (step.0, step.1, (on_ring, start, (on key at session.jar, tells, step.2.2)), refl),
      is_such_a_play that b list key h.0 rest ts new plain.1 h.2,
    )
is_such_a_play that b list key rows (ring.Answers url lines at ∷ rest) (t ∷ ts) new plain h = (
  alone key,
  h.0,
  (ap (map placed_at_0) h.1.0, h.1.1, refl),
  is_such_a_play that b list key h.0 rest ts new plain h.2,
)
is_such_a_play that b list key rows (ring.Asks url at ∷ rest) (t ∷ ts) new plain h = (
  alone key,
  h.0,
  ((h.1.0.0, h.1.0.1, ap (map placed_at_0) h.1.0.2), h.1.1, refl),
  is_such_a_play that b list key h.0 rest ts new plain h.2,
)
is_such_a_play that b list key rows (ring.Restarts at ∷ rest) (t ∷ ts) new plain h = (
  alone key,
  h.0,
  (ap (map placed_at_0) h.1.0, h.1.1, refl),
  is_such_a_play that b list key h.0 rest ts new plain h.2,
)

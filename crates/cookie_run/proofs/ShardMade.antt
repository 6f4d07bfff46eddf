-- A play's exchanges, made as looks and answers, leave the rows that it leaves.
use Rattle.std.proofs.Common.{◌≡◌, ℕ, Bool, false, List, [], ◌∷◌, ◌++◌, refl, sym, subst}
use Rattle.cookie_store.specs.Rows.{Row}
use Rattle.cookie_client.specs.Steps.{Act, Visits, Answers, Asks, Restarts, Arrives, Never, OneStep}
use Rattle.cookie_run.specs.Headline.{Each}
use Rattle.cookie_client.specs.Jar.{lines_of}
use Rattle.cookie_run.specs.Play.{Plays}
use Rattle.cookie_client.specs.declared.command.Reading.{Reading}
use Rattle.cookie_client.specs.declared.command.Reading.TheVariants.{Header}
use Rattle.cookie_store.specs.Laws.{GivenOnce, OneOrder}
use Rattle.cookie_client.proofs.ReadOnce.{ReadsOnce}
use Rattle.publicsuffix.specs.Rules.{Rule}
use Rattle.cookie_run.specs.ShardCut.{AnswersByName, IsNoExchangeOf}
use Rattle.cookie_run.specs.ShardExchanges.{IsMade, AreMade, ShardsServeSessions}
use Rattle.cookie_run.proofs.ShardCuts.{shards_cut}

module _ (list : List Rule) (key : List ℕ) where
  -- ---- one play behind another

  appended : (first rest : List Act) (first_read rest_read : List (List Reading)) (old mid new : List Row)
      → Plays false list key old first first_read mid → Plays false list key mid rest rest_read new
      → Plays false list key old (first ++ rest) (first_read ++ rest_read) new
  appended [] rest [] rest_read old mid new p q = subst (λ rows. Plays false list key rows rest rest_read new) p q
  appended [] rest (r ∷ rs) rest_read old mid new p q = absurd p
  appended (a ∷ more) rest [] rest_read old mid new p q = absurd p
  appended (a ∷ more) rest (r ∷ rs) rest_read old mid new p q =
      (p.0, p.1, appended more rest rs rest_read p.0 mid new p.2 q)

  -- ---- an act

  record Made (b : Bool) (act : Act) (told : List Reading) (old new : List Row) : Type 0 where
    made : List Act
    read : List (List Reading)
    is_made : IsMade b key act told made read
    plays : Plays false list key old made read new

  made_of : (b : Bool) (act : Act) (told : List Reading) (old new : List Row) → OneStep b list key old act told new
      → Made b act told old new
  made_of b (Visits url at commands (Arrives then)) told old new
      (header, is, (session, serves, (cookies, lists, takes))) =
      record {
        made = Asks url at ∷ Answers url (lines_of cookies) then ∷ [];
        read = (Header header ∷ []) ∷ [] ∷ [];
        is_made = (
          header,
          session,
          Answers url (lines_of cookies) then ∷ [],
          serves,
          (cookies, lists, refl),
          refl,
          refl,
        );
        plays = (old, ((header, is, refl), refl), (new, (refl, takes), refl));
      }
  made_of b (Visits url at commands Never) told old new (header, is, (session, serves, same)) = record {
    made = Asks url at ∷ [];
    read = (Header header ∷ []) ∷ [];
    is_made = (header, session, [], serves, refl, refl, refl);
    plays = (old, ((header, is, refl), refl), same);
  }
  made_of b (Answers url lines at) told old new step = record {
    made = Answers url lines at ∷ [];
    read = told ∷ [];
    is_made = (refl, refl);
    plays = (new, step, refl);
  }
  made_of b (Asks url at) told old new step = record {
    made = Asks url at ∷ [];
    read = told ∷ [];
    is_made = (refl, refl);
    plays = (new, step, refl);
  }
  made_of b (Restarts at) told old new step = record {
    made = Restarts at ∷ [];
    read = told ∷ [];
    is_made = (refl, refl);
    plays = (new, step, refl);
  }

  -- ---- all of them

  record AllMade (b : Bool) (acts : List Act) (told : List (List Reading)) (old new : List Row) : Type 0 where
    made : List Act
    read : List (List Reading)
    are_made : AreMade b key acts told made read
    plays : Plays false list key old made read new

  all_made : (b : Bool) (acts : List Act) (told : List (List Reading)) (old new : List Row)
      → Plays b list key old acts told new → AllMade b acts told old new
  all_made b [] [] old new p = record { made = []; read = []; are_made = (refl, refl, refl); plays = p }
  all_made b [] (t ∷ ts) old new p = absurd p
  all_made b (a ∷ more) [] old new p = absurd p
  all_made b (a ∷ more) (t ∷ ts) old new (mid, step, later) =
      let one = made_of b a t old mid step in
      let rest = all_made b more ts mid new later in
      record {
        made = one.made ++ rest.made;
        read = one.read ++ rest.read;
        are_made = (one.made, rest.made, one.read, rest.read, one.is_made, rest.are_made, refl, refl);
        plays = appended one.made rest.made one.read rest.read old mid new one.plays rest.plays;
      }

-- ---- what the law on clients asks

each_append : (Is : Act → Type 0) (first rest : List Act) → Each Is first → Each Is rest → Each Is (first ++ rest)
each_append Is [] rest h g = g
each_append Is (a ∷ more) rest h g = (h.0, each_append Is more rest h.1 g)

-- an act that is made is no exchange, and answers by a name where it came of one that does
IsPlain : List Rule → List ℕ → Act → Type 0
IsPlain list shard act = AnswersByName act × IsNoExchangeOf list shard act

plain_of : (b : Bool) (list : List Rule) (key shard : List ℕ) (act : Act) (told : List Reading) (made : List Act)
    (read : List (List Reading)) → IsMade b key act told made read → AnswersByName act → Each (IsPlain list shard) made
unfolding IsPlain
plain_of b list key shard (Visits url at commands (Arrives then)) told made read
    (header, session, later, serves, (cookies, lists, is), same, _) named =
    subst (Each (IsPlain list shard)) (sym same)
    ((tt, tt), subst (Each (IsPlain list shard)) (sym is) ((named, tt), tt))
plain_of b list key shard (Visits url at commands Never) told made read
    (header, session, later, serves, is, same, _) named =
    subst (Each (IsPlain list shard)) (sym same) ((tt, tt), subst (Each (IsPlain list shard)) (sym is) tt)
plain_of b list key shard (Answers url lines at) told made read (same, _) named =
    subst (Each (IsPlain list shard)) (sym same) ((named, tt), tt)
plain_of b list key shard (Asks url at) told made read (same, _) named =
    subst (Each (IsPlain list shard)) (sym same) ((named, tt), tt)
plain_of b list key shard (Restarts at) told made read (same, _) named =
    subst (Each (IsPlain list shard)) (sym same) ((named, tt), tt)

all_plain : (b : Bool) (list : List Rule) (key shard : List ℕ) (acts : List Act) (told : List (List Reading))
    (made : List Act)
    (read : List (List Reading)) → AreMade b key acts told made read → Each AnswersByName acts
    → Each (IsPlain list shard) made
all_plain b list key shard [] told made read (_, none, _) named =
    subst (Each (IsPlain list shard)) (sym none) tt
all_plain b list key shard (a ∷ more) [] made read are named = absurd are
all_plain b list key shard (a ∷ more) (t ∷ ts) made read
    (first, rest, first_read, rest_read, one, later, same, _) named =
    subst (Each (IsPlain list shard)) (sym same)
    (each_append (IsPlain list shard) first rest (plain_of b list key shard a t first first_read one named.0)
    (all_plain b list key shard more ts rest rest_read later named.1))

all_named : (list : List Rule) (shard : List ℕ) (acts : List Act) → Each (IsPlain list shard) acts
    → Each AnswersByName acts
unfolding IsPlain
all_named list shard [] h = tt
all_named list shard (a ∷ more) h = (h.0.0, all_named list shard more h.1)

no_exchange : (list : List Rule) (shard : List ℕ) (acts : List Act) → Each (IsPlain list shard) acts
    → Each (IsNoExchangeOf list shard) acts
unfolding IsPlain
no_exchange list shard [] h = tt
no_exchange list shard (a ∷ more) h = (h.0.1, no_exchange list shard more h.1)

pub sessions_served : ReadsOnce → GivenOnce → OneOrder → ShardsServeSessions
sessions_served one given order b list key acts told rows p named =
    let all = all_made list key b acts told [] rows p in
    let plain = λ (shard : List ℕ). all_plain b list key shard acts told all.made all.read all.are_made named in (
      all.made,
      all.read,
      all.are_made,
      all.plays,
      λ shard.
          shards_cut one given order false list key all.made all.read rows all.plays
          (all_named list shard all.made (plain shard))
          shard (no_exchange list shard all.made (plain shard)),
    )

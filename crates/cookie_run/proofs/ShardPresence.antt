-- That there is no run of the acts of a shard is refuted: the acts that concern the shard, as a host, are those of the
-- shard and looks at headers, which change nothing.
use Rattle.std.proofs.Common.{false, Bool, ◌≡◌, ◌⊎◌, ℕ, ℤ, List, [], ◌∷◌, length, sym, refl, ap, subst, inl, inr, arith}
use Rattle.std.specs.Prelude.{IsSomeAnd}
use Rattle.publicsuffix.specs.Rules.{Rule}
use Rattle.store_parts.specs.DomainMatch.{IsHostName}
use Rattle.store_parts.specs.Schemes.{host_of}
use Rattle.url.specs.Parts.{Parts}
use Rattle.cookie_store.specs.Laws.{OneOrder}
use Rattle.cookie_store.specs.Rows.{Row}
use Rattle.cookie_store.proofs.ReadableLemmas.{IsUnrefuted}
use Rattle.cookie_client.specs.Steps.{Act, Visits, Answers, Asks, Restarts, OneStep}
use Rattle.cookie_client.specs.Header.{IsHeader}
use Rattle.cookie_run.specs.Headline.{AreRelated, Each}
use Rattle.cookie_client.specs.Hosts.{IsInReach}
use Rattle.cookie_run.specs.Play.{Plays}
use Rattle.cookie_run.specs.Strangers.{IsRelatedAt, Concerns, IsOnly, IsNoExchange}
use Rattle.cookie_client.specs.declared.command.Reading.{Reading}
use Rattle.cookie_run.proofs.AloneRuns.{header_too}
use Rattle.cookie_run.proofs.Lines.{some_and}
use Rattle.cookie_run.specs.ShardCut.{IsOfShard, AreOfShard, IsNoExchangeOf, AnswersByName, ShardClient}
use Rattle.cookie_run.specs.SharedHosts.{EndsInNoAddress, HasNoAddressBehind}
use Rattle.cookie_client.specs.Shard.{IsShardOf, IsShardAt}
use Rattle.cookie_client.proofs.BehindDots.{behind_shorter}
use Rattle.cookie_run.proofs.ShardReach.{reach_further, reach_short}
use Rattle.cookie_run.proofs.ShardLemmas.{shard_below, shard_above}

either : (P : Type 0) → IsUnrefuted (P ⊎ (¬ P))
either P refuted = refuted (inr (λ p. refuted (inl p)))

-- ---- the shard as a host

-- it is its own shard, and ends in no address, where the host doesn't
own_shard : (list : List Rule) (host shard : List ℕ) → EndsInNoAddress host → IsShardOf list host shard
    → IsShardOf list shard shard
own_shard list host shard ends (inl same, shortest) =
    subst (λ x. IsShardOf list x shard) (sym same) (inl same, shortest)
own_shard list host shard ends (inr shared, shortest) =
    shard_below list host shard shard ends shared (inr shared, shortest)

own_ends : (list : List Rule) (host shard : List ℕ) → EndsInNoAddress host → IsShardOf list host shard
    → EndsInNoAddress shard
own_ends list host shard ends (inl same, shortest) = subst EndsInNoAddress (sym same) ends
own_ends list host shard ends (inr shared, shortest) = further
  where
    further : (text : List ℕ) → IsInReach shard text → (shard ≡ text) ⊎ IsHostName text
    further text (inl same) = inl same
    further text (inr below) = by (ends text (reach_further host shard text shared.1 (inr below)))
      where
        by : (host ≡ text) ⊎ IsHostName text → (shard ≡ text) ⊎ IsHostName text
        by (inl same) = absurd (omega (
          arith,
          ap length same,
          reach_short host shard shared.1,
          behind_shorter shard text below.1,
        ))
        by (inr named) = inr named

module _ (list : List Rule) (key shard : List ℕ) (own : IsShardOf list shard shard) (ends : EndsInNoAddress shard)
  where
    related_at : (url : Parts) → HasNoAddressBehind url → IsRelatedAt list shard url → IsShardAt list url shard
    related_at url named related =
        let g = some_and (AreRelated list shard) (host_of url) related in
        subst (λ o. IsSomeAnd o (λ host. IsShardOf list host shard)) (sym g.1) (by g.0 (named g.0 g.1) g.2)
      where
        by : (host : List ℕ) → EndsInNoAddress host → AreRelated list shard host → IsShardOf list host shard
        by host named (inl same) = subst (λ x. IsShardOf list x shard) same own
        by host named (inr (t, some, mine, theirs, free)) =
            shard_above list host t shard named ((some, free), theirs)
            (shard_below list shard t shard ends ((some, free), mine) own)

    at_related : (url : Parts) → IsShardAt list url shard → IsRelatedAt list shard url
    at_related url at =
        let g = some_and (λ host. IsShardOf list host shard) (host_of url) at in
        subst (λ o. IsSomeAnd o (AreRelated list shard)) (sym g.1) (by g.0 g.2)
      where
        by : (host : List ℕ) → IsShardOf list host shard → AreRelated list shard host
        by host (inl same, shortest) = inl same
        by host (inr shared, shortest) = inr (shard, shared.0.0, inl refl, shared.1, shared.0.1)

    -- ---- acts

    none_related : (acts : List Act) → Each AnswersByName acts → Each (IsNoExchangeOf list shard) acts
        → Each (IsNoExchange list shard) acts
    none_related [] named none = tt
    none_related (Visits url at commands arrival ∷ acts) named none =
        ((λ related. none.0 (related_at url named.0 related)), none_related acts named.1 none.1)
    none_related (Answers url lines at ∷ acts) named none = (tt, none_related acts named.1 none.1)
    none_related (Asks url at ∷ acts) named none = (tt, none_related acts named.1 none.1)
    none_related (Restarts at ∷ acts) named none = (tt, none_related acts named.1 none.1)

    -- an act that concerns the shard is of it, or changes nothing
    abbrev IsIdle : Act → Type 0
    IsIdle act = (rows : List Row) (said : List Reading) (mid : List Row) → OneStep false list key rows act said mid
        → mid ≡ rows

    of_or_idle : (act : Act) → AnswersByName act → Concerns list shard act
        → IsUnrefuted (IsOfShard list shard act ⊎ ((¬ (IsOfShard list shard act)) × IsIdle act))
    of_or_idle (Visits url at commands arrival) named concerns refuted =
        refuted (inl (related_at url named concerns))
    of_or_idle (Answers url lines at) named concerns refuted = refuted (inl (related_at url named concerns))
    of_or_idle (Asks url at) named concerns refuted = either (IsShardAt list url shard) by
      where
        by : IsShardAt list url shard ⊎ (¬ (IsShardAt list url shard)) → ⊥
        by (inl is) = refuted (inl is)
        by (inr isnt) = refuted (inr (isnt, (λ rows said mid s. s.1)))
    of_or_idle (Restarts at) named concerns refuted = refuted (inl tt)

    -- one that doesn't isn't
    not_of : (act : Act) → ¬ (Concerns list shard act) → ¬ (IsOfShard list shard act)
    not_of (Visits url at commands arrival) away is = away (at_related url is)
    not_of (Answers url lines at) away is = away (at_related url is)
    not_of (Asks url at) away is = away tt
    not_of (Restarts at) away is = away tt

    -- ---- a run

    -- a run of the acts of the shard, between these rows
    abbrev RunOf : List Act → List Row → List Row → Type 0
    RunOf acts rows left =
        (few : List Act) × AreOfShard list shard acts few
        × ((told : List (List Reading)) × Plays false list key rows few told left)

    few_some : (rows left : List Row) (act : Act) (acts : List Act) (told : List (List Reading))
        → Plays false list key rows (act ∷ acts) told left
        → (said : List Reading) × (later : List (List Reading))
        × (mid : List Row) × OneStep false list key rows act said mid
        × Plays false list key mid acts later left
    few_some rows left act acts [] p = absurd p
    few_some rows left act acts (t ∷ ts) p = (t, ts, p.0, p.1, p.2)

    one_more : (act : Act) (acts : List Act) (rows mid left : List Row) (said : List Reading)
        → OneStep false list key rows act said mid → RunOf acts mid left
        → IsOfShard list shard act ⊎ ((¬ (IsOfShard list shard act)) × IsIdle act) → RunOf (act ∷ acts) rows left
    one_more act acts rows mid left said s run (inl of_shard) =
        (act ∷ run.0, (run.0, run.1, inl (of_shard, refl)), (said ∷ run.2.0, (mid, s, run.2.1)))
    one_more act acts rows mid left said s run (inr idle) = (
      run.0,
      (run.0, run.1, inr (idle.0, refl)),
      (run.2.0, subst (λ x. Plays false list key x run.0 run.2.0 left) (idle.1 rows said mid s) run.2.1),
    )

    run_of : (acts few : List Act) (told : List (List Reading)) (rows left : List Row) → Each AnswersByName acts
        → IsOnly list shard acts few → Plays false list key rows few told left → IsUnrefuted (RunOf acts rows left)
    run_of [] few told rows left named only p refuted =
        refuted ([], refl, (told, subst (λ x. Plays false list key rows x told left) only p))
    run_of (act ∷ acts) few told rows left named (later, only, inr is) p refuted =
        run_of acts later told rows left named.1 only (subst (λ x. Plays false list key rows x told left) is.1 p)
        (λ run. refuted (run.0, (run.0, run.1, inr (not_of act is.0, refl)), run.2))
    run_of (act ∷ acts) few told rows left named (later, only, inl is) p refuted =
        let x = few_some rows left act later told (subst (λ x. Plays false list key rows x told left) is.1 p) in
        run_of acts later x.1 x.2 left named.1 only x.4
        (λ run. of_or_idle act named.0 is.0
        (λ so. refuted (one_more act acts rows x.2 left x.0 x.3 run so)))

-- ---- a header

pub header_there : (b : Bool) (order : OneOrder) (list : List Rule) (key : List ℕ) (acts : List Act)
    (told : List (List Reading)) (rows : List Row) (shard : List ℕ) → Plays b list key [] acts told rows
    → Each AnswersByName acts → Each (IsNoExchangeOf list shard) acts → (url : Parts) (at : ℤ) (header : List ℕ)
    → IsShardAt list url shard → HasNoAddressBehind url → IsHeader rows url at header
    → IsUnrefuted ((alone : ShardClient list key shard acts) × (other : List ℕ) × IsHeader alone.rows url at other)
header_there b order list key acts told rows shard p named none url at header is plain h refuted =
    let g = some_and (λ host. IsShardOf list host shard) (host_of url) is in
    let own = own_shard list g.0 shard (plain g.0 g.1) g.2 in
    let ends = own_ends list g.0 shard (plain g.0 g.1) g.2 in
    header_too order list shard key b acts told rows url at p h.valid
    (none_related list key shard own ends acts named none)
    (λ alone. run_of list key shard own ends acts alone.few alone.told [] alone.rows named alone.only alone.ran
    (λ run. refuted (
      record { few = run.0; only = run.1; told = run.2.0; rows = alone.rows; ran = run.2.1 },
      alone.header,
      alone.is_header,
    )))

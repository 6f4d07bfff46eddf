use Rattle.fonnalich_c.proofs.Steps.{[], ◌∷◌, refl, proved, tables, ‵, raw, ◌$◌, ◌∵◌, !, qed, drop, split, fsplit}
use Rattle.fonnalich_c.proofs.Steps.{move, use1, use2, id⊢, ftrue, fact, owns, join, fjoin, nothing, ◌⊛◌, enter}
use Rattle.fonnalich_c.proofs.Steps.{of_opd, get, sets, alloc_all, pass_all, rawptr_vals, rawptr_Tells, RawPtr, yes}
use Rattle.fonnalich_c.proofs.Steps.{plain, Stays, stay_dropped, Goes-dropped, on_entry, triple_of, calls_at, framed}
use Rattle.fonnalich_c.proofs.Steps.{and_then, no_more, later, some, await, pick, heard, peeks, shows, lands_as}
use Rattle.fonnalich_c.proofs.Steps.{returns, look_at, free_all, suffices, ends_at, done, lasts, vunit, prop, regoal}
use Rattle.fonnalich_c.proofs.Steps.{block_ptr, Ptr, feq_i, group}
use prog.Wp.{WpFn}
use types.Run.{stop, assigns, init, unit_lit}
use types.ByLocal.{through}
use types.Kit.{fpack}
use base.Fml.{fex, fsep}
use denote.Signature.{types_at}
use denote.RattleType.{Valss, flat}
use borrow.Table.OneValue.{part_in_at}
use denote.RawPtr.{in_a_block, room_at}
use denote.Triple.Entry.{Args}
use denote.Triple.Clauses.{Lasts}
use denote.Triple.Walked.{walk_of}
use base.Fraction.{full_share}
use denote.Struct.Laws as Laws
use denote.Struct.Loose as Loose
use Rattle.std.specs.Ptr.{points_to}
use Rattle.std.specs.contracts.alloc.Global as Global
use Rattle.std.proofs.alloc.Global.TheLaws as GlobalLaws
use Rattle.fonnalich_c.specs.Handle.{IsFresh, view}
use Rattle.fonnalich_c.specs.contracts.held.Held as held
use Rattle.fonnalich_c.proofs.held.Held.TheLaws as HeldLaws
use Rattle.fonnalich_c.specs.contracts.fonnalich_place as f
use Rattle.fonnalich_c.specs.contracts.held.fresh as g
use Rattle.fonnalich_c.proofs.held.fresh.Met.{met}
use Rattle.fonnalich_c.proofs.fonnalich_place.Statement.{statement}
use Rattle.fonnalich_c.proofs.fonnalich_place.Code as code

abbrev stayed : Stays f.ended.signature.params f.ended.kept
stayed = (stay_dropped _ yes, (stay_dropped _ yes, tt))

pub fonnalich_place_spec : {M : Type 1} → statement M
fonnalich_place_spec {M} 𝓤 𝓛 𝓜 𝓡 wired =
    let c = f.clauses 𝓛 𝓜.mem 𝓡.returns in let W = walk_of 𝓛 f.ended stayed c in let 𝓣 = tables 𝓤 𝓛.H 𝓜 𝓡 𝓡.env in
    proved 𝓛 f.ended stayed c 𝓜 𝓡 (
      Goes-dropped 𝓛 0 (plain (λ _. Global.the_row)) yes (λ κs x w. refl),
      (
        Goes-dropped 𝓛 0 (plain (λ _. RawPtr))
            yes (λ κs x w. refl),
        tt,
      ),
    )
    f.Key.name code.function (code.unfolded 𝓤 𝓛.H 𝓜 𝓡 wired)
    (λ κs. (Laws.vals Global.the_type GlobalLaws.the_laws, (rawptr_vals, tt)))
    (λ κs. (Laws.tells Global.the_type GlobalLaws.the_laws, (rawptr_Tells, tt))) (λ κs qs bounds a n are.
    let R = held.the_row in
    let gv = Laws.vals Global.the_type GlobalLaws.the_laws a.0 in
    let args : Ptr → Args f.signature κs = λ p. (a.0, (p, a.1.1)) in
    let vals : Ptr → Valss (types_at f.signature.params κs) = λ p. (gv, (rawptr_vals p, tt)) in
    qed 𝓛 (raw (on_entry 𝓛 f.signature κs qs a (vals a.1.0)) ∷ ‵ (room_at R a.1.0) ∷ []) ∵ move ! (1 ∷ []) $
    in_a_block ! a.1.0 (λ p. room_at R p) (id⊢ 𝓤 _) (λ b o e.
    regoal ! (λ p. prop (WpFn 𝓤 𝓛.H 𝓣.C 𝓣.Λ code.function (flat (types_at f.signature.params κs) (vals p)) (W.post
    ((κs, qs, bounds, args p, vals p), n)))) e refl $
    move ! (1 ∷ []) $
    enter ! _ _ _ _ _ $ alloc_all ! (λ l. pass_all ! refl (
      ((Loose.loose_lawful Global.the_type
          GlobalLaws.the_loose 𝓛).typed a.0 _ are.0).0,
      ((tt, tt), tt),
    ) $
    sets ! (of_opd ! (get ! refl)) refl (tt, tt) $
    let G = triple_of 𝓛 g.signature (g.spec 𝓛 𝓜.mem 𝓡.returns) in
    let z : G.Ghost = ((κs, qs, bounds, (a.0, tt), (gv, tt)), tt) in
    use1 𝓛 (‵ ftrue ⊛ ‵ (owns (types_at f.signature.params κs) a (vals a.1.0))) (id⊢ 𝓤 _) $ split ! $
    move ! (1 ∷ []) $ fsplit ! $ move ! (1 ∷ []) $ fsplit ! $ drop ! $ move ! (1 ∷ 0 ∷ []) $ fjoin ! $ move ! (1 ∷
    0 ∷ []) $ join ! $
    nothing ! $ move ! (1 ∷ 0 ∷ []) $ use2 𝓛 (raw (G.pre z)) (id⊢ 𝓤 _) $
    calls_at ! (framed 𝓤 𝓛.H 𝓜 𝓣) G (met 𝓤 𝓛 𝓜 𝓡 (code.calls-fonnalich_c::held::fresh 𝓡.env wired)) z
    (and_then ! (get ! refl) (no_more !)) (λ v.
    use1 𝓛 (later (some (λ (r : R.Denot). (‵ ftrue ⊛ ‵ (R.own_val r (v ∷ []))) ⊛
    some (λ (ws : Lasts g.ended κs (a.0, tt)). ‵ (lasts g.ended κs (a.0, tt) ws) ⊛ raw (fact 𝓤
    (IsFresh (view r))))))) (id⊢ 𝓤 _) $
    await ! tt $ pick ! (λ r. split ! $ split ! $ move ! (2 ∷ []) $ pick ! (λ ws. split ! $ drop ! $ heard ! _ (λ
    is_fresh.
    -- [the token; the value; the room]
    move ! (1 ∷ []) $ peeks ! R _ (shows 𝓛 R) r (v ∷ []) (λ is. let good = ((Loose.loose_lawful held.the_type
    HeldLaws.the_loose 𝓛).typed r _ is).0 in lands_as ! refl refl good $
    assigns ! (of_opd ! (get ! refl)) (through ! refl (stop !)) (init ! 2 refl good) $
    sets ! (of_opd ! (unit_lit !)) refl (tt, tt) $
    returns ! (look_at ! 0 refl) $ free_all ! refl $
    -- [the value; the token; the cell]
    suffices ! _ (ends_at 𝓛 f.ended stayed c ((κs, qs, bounds, args (block_ptr b o), vals (block_ptr b o)), tt)
    vunit tt (tt, (tt, tt)) (tt, (tt, tt))) $
    move ! (2 ∷ 0 ∷ []) $ use2 𝓛 (‵ (points_to R (block_ptr b o) r)) (part_in_at 𝓛 R refl full_share r b o _ refl v) $
    nothing ! $
    fpack ! (IsFresh (view r))
    (λ _. ftrue) is_fresh $ fjoin ! $
    fpack ! R.Denot
    (λ w. fsep
    (fex (IsFresh (view w))
    (λ _. ftrue)) (points_to R (block_ptr b o) w)) r $
    -- [what lies at the pointer; the token]
    feq_i ! _ (vunit ∷ []) _ refl $ nothing ! $ nothing ! $ fjoin ! $ nothing ! $ fjoin ! $
    move ! (3 ∷ 0 ∷ 1 ∷ []) $ group ! 3 $ done !))))))))

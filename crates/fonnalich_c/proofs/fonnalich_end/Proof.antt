use Rattle.fonnalich_c.proofs.Steps.{[], ◌∷◌, refl, proved, tables, ‵, raw, ◌$◌, ◌∵◌, !, qed, drop, split, move, use1}
use Rattle.fonnalich_c.proofs.Steps.{use2, id⊢, ftrue, join, fjoin, nothing, ◌⊛◌, enter, of_opd, get, sets, alloc_all}
use Rattle.fonnalich_c.proofs.Steps.{pass_all, rawptr_vals, rawptr_Tells, RawPtr, yes, plain, Stays, stay_dropped}
use Rattle.fonnalich_c.proofs.Steps.{Goes-dropped, on_entry, triple_of, calls_at, framed, and_then, no_more, later}
use Rattle.fonnalich_c.proofs.Steps.{some, await, pick, peeks, shows, lands_as, returns, look_at, free_all, suffices}
use Rattle.fonnalich_c.proofs.Steps.{ends_at, done, lasts, Val, vunit, prop, regoal, block_ptr, feq_i, feq_l, group}
use Rattle.fonnalich_c.proofs.Steps.{ap, only}
use prog.Wp.{WpFn}
use base.Fml.{fat}
use types.Run.{stop, load, look, forget, unit_lit}
use types.ByLocal.{through}
use denote.Builtin.{unit}
use denote.RawPtr.{in_a_block, room_at}
use denote.Triple.Clauses.{Lasts}
use denote.Triple.Walked.{walk_of}
use base.Fraction.{full_share}
use borrow.Table.OneValue.{part_out_at, reroom}
use denote.Struct.Loose as Loose
use Rattle.std.specs.Ptr.{points_to}
use Rattle.fonnalich_c.specs.contracts.held.Held as held
use Rattle.fonnalich_c.proofs.held.Held.TheLaws as HeldLaws
use Rattle.fonnalich_c.specs.contracts.fonnalich_end as f
use Rattle.fonnalich_c.specs.contracts.held.let_go as g
use Rattle.fonnalich_c.proofs.held.let_go.Met.{met}
use Rattle.fonnalich_c.proofs.fonnalich_end.Statement.{statement}
use Rattle.fonnalich_c.proofs.fonnalich_end.Code as code

abbrev stayed : Stays f.ended.signature.params f.ended.kept
stayed = (stay_dropped _ yes, tt)

pub fonnalich_end_spec : {M : Type 1} → statement M
fonnalich_end_spec {M} 𝓤 𝓛 𝓜 𝓡 wired =
    let c = f.clauses 𝓛 𝓜.mem 𝓡.returns in let W = walk_of 𝓛 f.ended stayed c in let 𝓣 = tables 𝓤 𝓛.H 𝓜 𝓡 𝓡.env in
    proved 𝓛 f.ended stayed c 𝓜 𝓡 (Goes-dropped 𝓛 0 (plain (λ _. RawPtr)) yes (λ κs x w. refl), tt)
    f.Key.name code.function (code.unfolded 𝓤 𝓛.H 𝓜 𝓡 wired)
    (λ κs. (rawptr_vals, tt)) (λ κs. (rawptr_Tells, tt)) (λ κs qs bounds a n are.
    let R = held.the_row in
    qed 𝓛 (raw (on_entry 𝓛 f.signature κs qs a (rawptr_vals a.0, tt)) ∷ ‵ (points_to R a.0 n) ∷ []) ∵ drop ! $
    in_a_block ! a.0 (λ p. points_to R p n) (id⊢ 𝓤 _) (λ b o e.
    regoal ! (λ p. prop (WpFn 𝓤 𝓛.H 𝓣.C 𝓣.Λ code.function (rawptr_vals p) (W.post (
      (
        κs,
        qs,
        bounds,
        (p, tt),
        (rawptr_vals p, tt),
      ),
      n,
    )))) e refl $
    use1 𝓛 (some (λ (v : Val). ‵ (fat full_share HeldLaws.mir b o v) ⊛ ‵ (R.own_val n (v ∷ [])))) (part_out_at 𝓛 R
    refl full_share n b o HeldLaws.mir refl) $ pick ! (λ v. split ! $
    move ! (1 ∷ []) $ peeks ! R _ (shows 𝓛 R) n (v ∷ []) (λ is. let good = ((Loose.loose_lawful held.the_type
    HeldLaws.the_loose 𝓛).typed n _ is).0 in
    enter ! _ _ _ _ _ $ alloc_all ! (λ l. pass_all ! refl ((tt, tt), tt) $
    sets ! (of_opd ! (get ! refl)) refl (tt, tt) $
    sets ! (of_opd ! (load ! (through ! refl (stop !)) (look ! 1 refl))) refl good $
    let G = triple_of 𝓛 g.signature (g.spec 𝓛 𝓜.mem 𝓡.returns) in
    let z : G.Ghost = ((κs, qs, bounds, (n, tt), (v ∷ [], tt)), tt) in
    nothing ! $ move ! (1 ∷ 0 ∷ []) $ fjoin ! $ nothing ! $ join ! $ nothing ! $ move ! (1 ∷ 0 ∷ []) $ use2 𝓛 (raw
    (G.pre z)) (id⊢ 𝓤 _) $
    calls_at ! (framed 𝓤 𝓛.H 𝓜 𝓣) G (met 𝓤 𝓛 𝓜 𝓡 (code.calls-fonnalich_c::held::let_go 𝓡.env wired)) z (and_then !
    (get ! refl) (no_more !)) (λ u.
    use1 𝓛 (later (some (λ (r : Unit {0}). (‵ ftrue ⊛ ‵ (unit.own_val r (u ∷ []))) ⊛
    some (λ (ws : Lasts g.ended κs (n, tt)). ‵ (lasts g.ended κs (n, tt) ws) ⊛ ‵ ftrue)))) (id⊢ 𝓤 _) $
    await ! tt $ pick ! (λ r. split ! $ split ! $ drop ! $ feq_l ! (λ is_unit. drop ! $
    lands_as ! (ap only is_unit) refl (tt, tt) $
    forget ! 0 refl $
    sets ! (of_opd ! (unit_lit !)) refl (tt, tt) $
    returns ! (look_at ! 0 refl) $ free_all ! refl $
    suffices ! _ (ends_at 𝓛 f.ended stayed c (
      (
        κs,
        qs,
        bounds,
        (block_ptr b o, tt),
        (
          rawptr_vals (block_ptr b o),
          tt,
        ),
      ),
      n,
    ) vunit tt (tt, tt) (tt, tt)) $
    use1 𝓛 (‵ (room_at R (block_ptr b o))) (reroom 𝓛 HeldLaws.mir _ refl b o) $
    feq_i ! _ (vunit ∷ []) _ refl $ nothing ! $ nothing ! $ join ! $ nothing ! $ group ! 3 $ done !))))))))

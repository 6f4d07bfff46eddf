use Rattle.fonnalich_c.proofs.Steps.{[], ℕ, ℤ, ◌∷◌, refl, proved, tables, ‵, raw, ◌$◌, ◌∵◌, !, qed, drop, split}
use Rattle.fonnalich_c.proofs.Steps.{fsplit, move, use1, use2, use3, id⊢, flft, ftrue, fact, join, fjoin}
use Rattle.fonnalich_c.proofs.Steps.{nothing, ◌⊛◌, enter, of_opd, get, sets, alloc_all, pass_all, rawptr_vals}
use Rattle.fonnalich_c.proofs.Steps.{rawptr_Tells, RawPtr, yes, plain, Stays, stay_dropped, Goes-dropped, on_entry}
use Rattle.fonnalich_c.proofs.Steps.{triple_of, calls_at, framed, and_then, no_more, later, some, await, pick, heard}
use Rattle.fonnalich_c.proofs.Steps.{peeks, shows, lands_as, returns, look_at, free_all, suffices, ends_at, done}
use Rattle.fonnalich_c.proofs.Steps.{lasts, prop, regoal, rewrite, block_ptr, Ptr, ◌≡◌}
use mir.Syntax.{named, w64}
use prog.Wp.{WpFn}
use types.Run.{addr, stop}
use types.ByLocal.{through}
use types.Kit.{fpack, group}
use types.Tokens.{lft_new, lft_end}
use contract.Lifetimes.{Lfts}
use denote.Builtin.{i64}
use denote.Signature.{types_at}
use denote.RattleType.{Valss, flat}
use denote.Triple.Entry.{Args}
use denote.Triple.Clauses.{Lasts}
use denote.Triple.Walked.{walk_of}
use denote.RawPtr.{in_a_block}
use denote.Memory.{mem}
use denote.Ref.{MutRef, MutBor}
use types.SemTy.{Body}
use denote.Lend.{lends_ref, ref_back}
use base.Fml.{Fml, GName, fex, flent, fsep}
use mir.Val.{vptr}
use denote.Signed.{sint_Lawful}
use base.Fraction.{full_share}
use Rattle.std.specs.Ptr.{points_to}
use Rattle.fonnalich_c.specs.Handle.{Shares, view}
use Rattle.fonnalich_c.specs.contracts.held.Held as held
use Rattle.fonnalich_c.specs.contracts.fonnalich_share as f
use Rattle.fonnalich_c.specs.contracts.held.share as g
use Rattle.fonnalich_c.proofs.held.share.Met.{met}
use Rattle.fonnalich_c.proofs.fonnalich_share.Statement.{statement}
use Rattle.fonnalich_c.proofs.fonnalich_share.Code as code

abbrev stayed : Stays f.ended.signature.params f.ended.kept
stayed = (stay_dropped _ yes, (stay_dropped _ yes, tt))

pub fonnalich_share_spec : {M : Type 1} → statement M
fonnalich_share_spec {M} 𝓤 𝓛 𝓜 𝓡 wired =
    let c = f.clauses 𝓛 𝓜.mem 𝓡.returns in let W = walk_of 𝓛 f.ended stayed c in let 𝓣 = tables 𝓤 𝓛.H 𝓜 𝓡 𝓡.env in
    proved 𝓛 f.ended stayed c 𝓜 𝓡 (
      Goes-dropped 𝓛 0 (plain (λ _. RawPtr)) yes (λ κs x w. refl),
      (Goes-dropped 𝓛 0 (plain (λ _. RawPtr)) yes (λ κs x w. refl), tt),
    )
    f.Key.name code.function (code.unfolded 𝓤 𝓛.H 𝓜 𝓡 wired)
    (λ κs. (rawptr_vals, (rawptr_vals, tt))) (λ κs. (rawptr_Tells, (rawptr_Tells, tt))) (λ κs qs bounds a n are.
    let R = held.the_row in
    let Shared : R.Denot → ℤ → Type 0 = λ w r. Shares n.1.list
    (view n.0)
    (view w) r in
    let Held : ℕ → ℕ × ℕ → GName → R.Denot → Fml = λ α p γ x. (MutRef (named 0) (α ∷ []) R).own_val (record {
      ref_ptr = p;
      ghost_name = γ;
      now = x;
    }) (vptr p.0 p.1 ∷ []) in
    let args : Ptr → Ptr → Args f.signature κs = λ p q. (p, (q, tt)) in
    let vals : Ptr → Ptr → Valss (types_at f.signature.params κs) = λ p q. (rawptr_vals p, (rawptr_vals q, tt)) in
    qed 𝓛 (raw (on_entry 𝓛 f.signature κs qs a (vals a.0 a.1.0))
    ∷ ‵ (fsep (points_to R a.0 n.0) (points_to R a.1.0 n.1)) ∷ []) ∵ drop ! $ fsplit ! $
    in_a_block ! a.0 (λ p. points_to R p n.0) (id⊢ 𝓤 _) (λ b o e.
    regoal ! (λ p. prop (WpFn 𝓤 𝓛.H 𝓣.C 𝓣.Λ code.function (flat (types_at f.signature.params κs) (vals p a.1.0)) (W.post
    ((κs, qs, bounds, args p a.1.0, vals p a.1.0), n)))) e refl $
    move ! (1 ∷ []) $
    in_a_block ! a.1.0 (λ p. points_to R p n.1) (id⊢ 𝓤 _) (λ d i h.
    regoal ! (λ p. prop (WpFn 𝓤 𝓛.H 𝓣.C 𝓣.Λ code.function (flat (types_at f.signature.params κs)
    (vals (block_ptr b o) p)) (W.post ((κs, qs, bounds, args (block_ptr b o) p, vals (block_ptr b o) p), n)))) h refl $
    use1 𝓛 (‵ ((mem R).own_at n.1 d i)) (id⊢ 𝓤 _) $ move ! (1 ∷ []) $
    use1 𝓛 (‵ ((mem R).own_at n.0 b o)) (id⊢ 𝓤 _) $
    -- [what lies at the one; what lies at the other]
    enter ! _ _ _ _ _ $ alloc_all ! (λ l. pass_all ! refl ((tt, tt), ((tt, tt), tt)) $
    lft_new ! tt (λ α. move ! (1 ∷ []) $
    use1 𝓛 (later (some (λ (γ : GName). ‵ (Held α (b, o) γ n.0) ⊛ ‵ (flent (α ∷ []) (Body (mem R) b o γ)))))
    (lends_ref 𝓛 R (named 0) (α ∷ []) n.0 b o) $ await ! tt $ pick ! (λ γ. split ! $
    -- [the loan; what the lender keeps; the token of α; what lies at the other]
    lft_new ! tt (λ β. move ! (4 ∷ []) $
    use1 𝓛 (later (some (λ (δ : GName). ‵ (Held β (d, i) δ n.1) ⊛ ‵ (flent (β ∷ []) (Body (mem R) d i δ)))))
    (lends_ref 𝓛 R (named 0) (β ∷ []) n.1 d i) $ await ! tt $ pick ! (λ δ. split ! $
    -- [the other's loan; what its lender keeps; the token of β; the loan; what the lender keeps; the token of α]
    sets ! (of_opd ! (get ! refl)) refl (tt, tt) $
    sets ! (addr ! (through ! refl (stop !))) refl (tt, tt) $
    sets ! (of_opd ! (get ! refl)) refl (tt, tt) $
    sets ! (addr ! (through ! refl (stop !))) refl (tt, tt) $
    let κ2 : Lfts 2 = (α ∷ [], (β ∷ [], tt)) in
    let G = triple_of 𝓛 g.signature (g.spec 𝓛 𝓜.mem 𝓡.returns) in
    let loan : MutBor R.Denot = record { ref_ptr = (b, o); ghost_name = γ; now = n.0 } in
    let other : MutBor R.Denot = record { ref_ptr = (d, i); ghost_name = δ; now = n.1 } in
    let z : G.Ghost = (
      (κ2, (full_share, (full_share, tt)), tt, (loan, (other, tt)), (vptr b o ∷ [], (vptr d i ∷ [], tt))),
      tt,
    ) in
    nothing ! $ move ! (1 ∷ 0 ∷ []) $ fjoin ! $ move ! (3 ∷ 0 ∷ []) $ fjoin ! $
    nothing ! $ move ! (3 ∷ 0 ∷ []) $ join ! $ move ! (4 ∷ 0 ∷ []) $ join ! $ join ! $
    nothing ! $ move ! (1 ∷ 0 ∷ []) $ use2 𝓛 (raw (G.pre z)) (id⊢ 𝓤 _) $
    calls_at ! (framed 𝓤 𝓛.H 𝓜 𝓣) G (met 𝓤 𝓛 𝓜 𝓡 (code.calls-fonnalich_c::held::share 𝓡.env wired)) z
    (and_then ! (get ! refl) (and_then ! (get ! refl) (no_more !))) (λ v.
    use1 𝓛 (later (some (λ (r : ℤ). ((‵ (flft (α ∷ []) full_share) ⊛ ‵ (flft (β ∷ []) full_share) ⊛ ‵ ftrue)
    ⊛ ‵ (i64.own_val r (v ∷ []))) ⊛
    some (λ (ws : Lasts g.ended κ2 (loan, (other, tt))). ‵ (lasts g.ended κ2 (loan, (other, tt)) ws) ⊛ raw (fact
    𝓤 (Shared ws.0 r × (ws.1.0 ≡ n.1))))))) (id⊢ 𝓤 _) $
    await ! tt $ pick ! (λ r. split ! $ split ! $ split ! $ lft_end ! tt $
    move ! (1 ∷ []) $ split ! $ lft_end ! tt $
    -- [β is over; nothing; α is over; the result; what the callee leaves; what the lenders keep]
    move ! (3 ∷ []) $ peeks ! i64 _ (shows 𝓛 i64) r (v ∷ []) (λ is. lands_as ! refl refl ((sint_Lawful 𝓛 w64).typed
    r _ is).0 $
    move ! (4 ∷ []) $ pick ! (λ ws. split ! $ move ! (1 ∷ []) $ heard ! _ (λ acts.
    -- [lasts; the result; β is over; nothing; α is over; what the lenders keep]
    fsplit ! $ fsplit ! $ move ! (2 ∷ []) $ fsplit ! $ fsplit ! $
    -- [the other's last value; its borrow; nothing; the last value; its borrow; the result; β is over; nothing; α is
    -- over; what the lenders keep]
    move ! (8 ∷ 10 ∷ 3 ∷ []) $ use3 𝓛 (later (‵ ((mem R).own_at ws.0 b o))) (ref_back 𝓛 R (α ∷ []) γ ws.0 b o) $
    await ! tt $
    move ! (6 ∷ 8 ∷ 1 ∷ []) $ use3 𝓛 (later (‵ ((mem R).own_at ws.1.0 d i))) (ref_back 𝓛 R (β ∷ []) δ ws.1.0 d i) $
    await ! tt $
    -- [what lies at the other; at the one; the other's borrow; nothing; the borrow; the result; nothing]
    move ! (2 ∷ []) $ drop ! $ move ! (2 ∷ []) $ drop ! $ move ! (2 ∷ []) $ drop ! $
    returns ! (look_at ! 0 refl) $ free_all ! refl $
    suffices ! _ (ends_at 𝓛 f.ended stayed c (
      (
        κs,
        qs,
        bounds,
        args (block_ptr b o) (block_ptr d i),
        vals (block_ptr b o) (block_ptr d i),
      ),
      n,
    ) v r (tt, (tt, tt)) (tt, (tt, tt))) $
    use1 𝓛 (‵ (points_to R (block_ptr d i) ws.1.0)) (id⊢ 𝓤 _) $
    rewrite ! 0 (λ x. ‵ (points_to R (block_ptr d i) x)) acts.1 refl $ move ! (1 ∷ []) $
    use1 𝓛 (‵ (points_to R (block_ptr b o) ws.0)) (id⊢ 𝓤 _) $ fjoin ! $
    nothing ! $ fpack ! (Shared ws.0 r) (λ _. ftrue) acts.0 $ fjoin ! $
    fpack ! R.Denot (λ w. fsep (fex (Shared w r) (λ _. ftrue)) (fsep (points_to R (block_ptr b o) w)
    (points_to R (block_ptr d i) n.1))) ws.0 $
    -- [what lies there; the result; nothing]
    nothing ! $ nothing ! $ fjoin ! $ nothing ! $ fjoin ! $
    move ! (3 ∷ 0 ∷ 2 ∷ []) $ group ! 3 $ done !)))))))))))))

use Rattle.fonnalich_c.proofs.Steps.{[], ℕ, ℤ, ◌∷◌, List, refl, proved, tables, ‵, raw, ◌$◌, ◌∵◌, !, qed, drop, split}
use Rattle.fonnalich_c.proofs.Steps.{fsplit, move, use1, use2, use3, id⊢, flft, ftrue, fact, owns, join, fjoin, nothing}
use Rattle.fonnalich_c.proofs.Steps.{◌⊛◌, enter, of_opd, get, sets, alloc_all, pass_all, rawptr_vals, rawptr_Tells}
use Rattle.fonnalich_c.proofs.Steps.{RawPtr, yes, plain, Goes-dropped, on_entry, triple_of, calls_at, framed, and_then}
use Rattle.fonnalich_c.proofs.Steps.{no_more, later, some, await, pick, heard, peeks, shows, lands_as, returns, look_at}
use Rattle.fonnalich_c.proofs.Steps.{free_all, suffices, ends_at, done, lasts, prop, regoal, block_ptr, Ptr}
use mir.Syntax.{named, w32, w64}
use prog.Wp.{WpFn}
use types.Run.{addr, stop, from, fld, hop}
use types.ByLocal.{through, look_in_at, get_in}
use types.Part.{agg, sub, whole}
use types.Kit.{fpack, group}
use types.Tokens.{lft_new, lft_end}
use contract.Lifetimes.{Lfts}
use denote.Builtin.{u8, u32, i64}
use denote.Signature.{shr_slice_of, types_at}
use denote.RattleType.{Valss, flat}
use denote.Triple.Entry.{Args}
use denote.Triple.Clauses.{Lasts}
use denote.Triple.Walked.{walk_of}
use denote.RawPtr.{in_a_block}
use denote.Memory.{mem}
use denote.Ref.{MutRef, MutBor}
use types.SemTy.{Body}
use denote.Lend.{lends_ref, ref_back}
use base.Fml.{Fml, GName, fex, flent, fsep}
use mir.Val.{vptr}
use denote.Plain.{uint_Lawful, uint_vals, uint_Tells}
use denote.Signed.{sint_Lawful, sint_vals, sint_Tells}
use denote.Slice.{shr_slice_Lawful, mut_slice_Lawful, shr_slice_vals, mut_slice_vals, shr_slice_Tells, mut_slice_Tells}
use base.Fraction.{full_share}
use denote.Struct.Laws as Laws
use denote.Struct.Loose as Loose
use Rattle.std.specs.Ptr.{points_to}
use Rattle.std.specs.contracts.alloc.Global as Global
use Rattle.std.proofs.alloc.Global.TheLaws as GlobalLaws
use Rattle.cookie_store.specs.Rows.{key}
use Rattle.fonnalich_c.specs.Handle.{view}
use Rattle.fonnalich_c.specs.One.{ActsOnOne}
use Rattle.fonnalich_c.specs.contracts.held.Held as held
use Rattle.fonnalich_c.specs.contracts.fonnalich_one as f
use Rattle.fonnalich_c.specs.contracts.held.pick_one as g
use Rattle.fonnalich_c.proofs.held.pick_one.Met.{met}
use Rattle.fonnalich_c.proofs.Stays.{stayed}
use Rattle.fonnalich_c.proofs.fonnalich_one.Statement.{statement}
use Rattle.fonnalich_c.proofs.fonnalich_one.Code as code

pub fonnalich_one_spec : {M : Type 1} → statement M
fonnalich_one_spec {M} 𝓤 𝓛 𝓜 𝓡 wired =
    let c = f.clauses 𝓛 𝓜.mem 𝓡.returns in let W = walk_of 𝓛 f.ended stayed c in let 𝓣 = tables 𝓤 𝓛.H 𝓜 𝓡 𝓡.env in
    proved 𝓛 f.ended stayed c 𝓜 𝓡 (
      Goes-dropped 𝓛 4 (plain (λ _. Global.the_row)) yes (λ κs x w. refl),
      (
        Goes-dropped 𝓛 4 (plain (λ _. RawPtr)) yes (λ κs x w. refl),
        (
          Goes-dropped 𝓛 4 (plain (λ _. u32)) yes (λ κs x w. refl),
          (
            Goes-dropped 𝓛 4 (plain (λ _. i64)) yes (λ κs x w. refl),
            (
              Goes-dropped 𝓛 4 (shr_slice_of (0 ∷ []) tt (plain (λ _. u8))) yes (λ κs x w. refl),
              (
                Goes-dropped 𝓛 4
                    (shr_slice_of (1 ∷ []) tt (plain (λ _. u8))) yes (λ κs x w. refl),
                (
                  Goes-dropped 𝓛 4
                      (shr_slice_of (2 ∷ []) tt (plain (λ _. u8))) yes (λ κs x w. refl),
                  (
                    (λ κs x w vs fits.
                        𝓛.laws.⇛_intro _),
                    tt,
                  ),
                ),
              ),
            ),
          ),
        ),
      ),
    )
    f.Key.name code.function (code.unfolded 𝓤 𝓛.H 𝓜 𝓡 wired)
    (λ κs. (
      Laws.vals Global.the_type GlobalLaws.the_laws,
      (
        rawptr_vals,
        (
          uint_vals w32,
          (
            sint_vals w64,
            (shr_slice_vals, (shr_slice_vals, (shr_slice_vals, (mut_slice_vals, tt)))),
          ),
        ),
      ),
    ))
    (λ κs. (
      Laws.tells Global.the_type GlobalLaws.the_laws,
      (
        rawptr_Tells,
        (
          uint_Tells w32,
          (
            sint_Tells w64,
            (
              shr_slice_Tells (named 0) κs.0 u8,
              (
                shr_slice_Tells (named 1) κs.1.0 u8,
                (
                  shr_slice_Tells (named 2) κs.1.1.0 u8,
                  (
                    mut_slice_Tells (named 3)
                        κs.1.1.1.0 u8,
                    tt,
                  ),
                ),
              ),
            ),
          ),
        ),
      ),
    )) (λ κs qs bounds a n are.
    let gv = Laws.vals Global.the_type GlobalLaws.the_laws a.0 in let wv = uint_vals w32 a.1.1.0 in let sv =
    sint_vals w64 a.1.1.1.0 in
    let uv = shr_slice_vals a.1.1.1.1.0 in let lv = shr_slice_vals a.1.1.1.1.1.0 in
    let nv = shr_slice_vals a.1.1.1.1.1.1.0 in let ov = mut_slice_vals a.1.1.1.1.1.1.1.0 in
    let R = held.the_row in
    let Acted : R.Denot → List ℕ → ℤ → Type 0 = λ w o r. ActsOnOne a.1.1.0 a.1.1.1.0
    (key a.1.1.1.1.0.now a.1.1.1.1.1.0.now a.1.1.1.1.1.1.0.now)
    (view n)
    a.1.1.1.1.1.1.1.0.now (view w)
    o r in
    let Held : ℕ → ℕ × ℕ → GName → R.Denot → Fml = λ α p γ x. (MutRef (named 0) (α ∷ []) R).own_val (record {
      ref_ptr = p;
      ghost_name = γ;
      now = x;
    }) (vptr p.0 p.1 ∷ []) in
    let args : Ptr → Args f.signature κs = λ p. (a.0, (p, a.1.1)) in
    let vals : Ptr → Valss (types_at f.signature.params κs) = λ p. (
      gv,
      (
        rawptr_vals p,
        (
          wv,
          (
            sv,
            (
              uv,
              (
                lv,
                (
                  nv,
                  (
                    ov,
                    tt,
                  ),
                ),
              ),
            ),
          ),
        ),
      ),
    ) in
    qed 𝓛 (raw (on_entry 𝓛 f.signature κs qs a (vals a.1.0)) ∷ ‵ (points_to held.the_row a.1.0 n) ∷ []) ∵ move ! (1
    ∷ []) $
    in_a_block ! a.1.0 (λ p. points_to held.the_row p n) (id⊢ 𝓤 _) (λ b o e.
    regoal ! (λ p. prop (WpFn 𝓤 𝓛.H 𝓣.C 𝓣.Λ code.function (flat (types_at f.signature.params κs) (vals p)) (W.post
    ((κs, qs, bounds, args p, vals p), n)))) e refl $
    use1 𝓛 (‵ ((mem R).own_at n b o)) (id⊢ 𝓤 _) $
    move ! (1 ∷ []) $
    enter ! _ _ _ _ _ $ alloc_all ! (λ l. pass_all ! refl (
      ((Loose.loose_lawful Global.the_type GlobalLaws.the_loose 𝓛).typed a.0 _ are.0).0,
      (
        (tt, tt),
        (
          ((uint_Lawful 𝓛 w32).typed a.1.1.0 _ are.1.1.0).0,
          (
            ((sint_Lawful 𝓛 w64).typed a.1.1.1.0 _ are.1.1.1.0).0,
            (
              ((shr_slice_Lawful 𝓛 (named 0) κs.0 u8).typed a.1.1.1.1.0 _ are.1.1.1.1.0).0,
              (
                ((shr_slice_Lawful 𝓛
                    (named 1) κs.1.0 u8).typed a.1.1.1.1.1.0 _ are.1.1.1.1.1.0).0,
                (
                  ((shr_slice_Lawful 𝓛
                      (named 2) κs.1.1.0 u8).typed a.1.1.1.1.1.1.0 _ are.1.1.1.1.1.1.0).0,
                  (
                    ((mut_slice_Lawful 𝓛 (named 3)
                        κs.1.1.1.0 u8).typed a.1.1.1.1.1.1.1.0 _ are.1.1.1.1.1.1.1.0).0,
                    tt,
                  ),
                ),
              ),
            ),
          ),
        ),
      ),
    ) $
    lft_new ! tt (λ α. move ! (2 ∷ 0 ∷ []) $
    use1 𝓛 (later (some (λ (γ : GName). ‵ (Held α (b, o) γ n) ⊛ ‵ (flent (α ∷ []) (Body (mem R) b o γ)))))
    (lends_ref 𝓛 R (named 0) (α ∷ []) n b o) $ await ! tt $ pick ! (λ γ. split ! $
    -- [the loan; what the lender keeps; the token of α; what the parameters own]
    sets ! (of_opd ! (get ! refl)) refl (tt, tt) $
    sets ! (addr ! (through ! refl (stop !))) refl (tt, tt) $
    sets ! (addr ! (from ! (fld ! refl (hop ! (look_in_at ! 8 (sub ! 0 refl (whole !))) (stop !))))) refl (tt, tt) $
    sets ! (agg ! (and_then ! (get ! refl) (and_then ! (get_in ! (fld ! refl (stop !)) (sub ! 1 refl (whole !)))
    (no_more !)))) refl ((mut_slice_Lawful 𝓛 (named 3) κs.1.1.1.0 u8).typed a.1.1.1.1.1.1.1.0 _
    are.1.1.1.1.1.1.1.0).0 $
    let κ5 : Lfts 5 = (α ∷ [], (κs.0, (κs.1.0, (κs.1.1.0, (κs.1.1.1.0, tt))))) in
    let G = triple_of 𝓛 g.signature (g.spec 𝓛 𝓜.mem 𝓡.returns) in
    let loan : MutBor R.Denot = record { ref_ptr = (b, o); ghost_name = γ; now = n } in
    let z : G.Ghost = (
      (
        κ5,
        (full_share, (qs.0, (qs.1.0, (qs.1.1.0, (qs.1.1.1.0, tt))))),
        tt,
        (a.0, (loan, a.1.1)),
        (
          gv,
          (
            vptr b
                o ∷ [],
            (wv, (sv, (uv, (lv, (nv, (ov, tt)))))),
          ),
        ),
      ),
      tt,
    ) in
    let toks = ‵ (flft κs.0 qs.0) ⊛ ‵ (flft κs.1.0 qs.1.0) ⊛ ‵ (flft κs.1.1.0 qs.1.1.0)
    ⊛ ‵ (flft κs.1.1.1.0 qs.1.1.1.0) ⊛ ‵ ftrue in
    move ! (3 ∷ []) $ use1 𝓛 (toks ⊛ ‵ (owns (types_at f.signature.params κs) a (vals a.1.0))) (id⊢ 𝓤 _) $ split ! $
    move ! (1 ∷ []) $ fsplit ! $ move ! (1 ∷ []) $ fsplit ! $ drop ! $
    move ! (3 ∷ 0 ∷ []) $ fjoin ! $ move ! (1 ∷ 0 ∷ []) $ fjoin ! $
    move ! (3 ∷ 1 ∷ []) $ join ! $ join ! $ nothing ! $ move ! (1 ∷ 0 ∷ []) $ use2 𝓛 (raw (G.pre z)) (id⊢ 𝓤 _) $
    calls_at ! (framed 𝓤 𝓛.H 𝓜 𝓣) G (met 𝓤 𝓛 𝓜 𝓡 (code.calls-fonnalich_c::held::pick_one 𝓡.env wired)) z
    (and_then ! (get ! refl) (and_then ! (get ! refl) (and_then ! (get ! refl) (and_then ! (get ! refl) (and_then !
    (get ! refl) (and_then ! (get ! refl) (and_then ! (get ! refl) (and_then ! (get ! refl) (no_more !))))))))) (λ v.
    use1 𝓛 (later (some (λ (r : ℤ). ((‵ (flft (α ∷ []) full_share) ⊛ toks) ⊛ ‵ (i64.own_val r (v ∷ []))) ⊛
    some (λ (ws : Lasts g.ended κ5 (a.0, (loan, a.1.1))). ‵ (lasts g.ended κ5 (a.0, (loan, a.1.1)) ws) ⊛ raw (fact
    𝓤 (Acted ws.1.0 ws.1.1.1.1.1.1.1.0 r)))))) (id⊢ 𝓤 _) $
    await ! tt $ pick ! (λ r. split ! $ split ! $ split ! $ lft_end ! tt $
    -- [α is over; the other tokens; the result; what the callee leaves; what the lender keeps]
    move ! (2 ∷ []) $ peeks ! i64 _ (shows 𝓛 i64) r (v ∷ []) (λ is. lands_as ! refl refl ((sint_Lawful 𝓛 w64).typed
    r _ is).0 $
    move ! (3 ∷ []) $ pick ! (λ ws. split ! $ move ! (1 ∷ []) $ heard ! _ (λ acts.
    -- [lasts; the result; α is over; the other tokens; what the lender keeps]
    fsplit ! $ drop ! $ fsplit ! $ fsplit ! $ move ! (2 ∷ []) $ fsplit ! $ drop ! $ fsplit ! $ drop ! $ fsplit ! $
    drop ! $ fsplit ! $ drop ! $ fsplit ! $ drop ! $ fsplit ! $
    -- [what is said of `out`; nothing; the loan's last value; its borrow; the result; α is over; the other tokens;
    -- what the lender keeps]
    move ! (5 ∷ 7 ∷ 2 ∷ []) $ use3 𝓛 (later (‵ ((mem R).own_at ws.1.0 b o))) (ref_back 𝓛 R (α ∷ []) γ ws.1.0 b o) $
    await ! tt $ move ! (3 ∷ []) $ drop ! $
    returns ! (look_at ! 0 refl) $ free_all ! refl $
    suffices ! _ (ends_at 𝓛 f.ended stayed c ((κs, qs, bounds, args (block_ptr b o), vals (block_ptr b o)), n) v r
    (tt, (tt, (tt, (tt, (tt, (tt, (tt, (ws.1.1.1.1.1.1.1.0, tt)))))))) (
      tt,
      (
        tt,
        (
          tt,
          (
            tt,
            (
              tt,
              (
                tt,
                (
                  tt,
                  (
                    tt,
                    tt,
                  ),
                ),
              ),
            ),
          ),
        ),
      ),
    )) $
    use1 𝓛 (‵ (points_to R (block_ptr b o) ws.1.0)) (id⊢ 𝓤 _) $ nothing ! $ fpack ! (Acted ws.1.0 ws.1.1.1.1.1.1.1.0
    r) (λ _. ftrue) acts $ fjoin ! $
    fpack ! R.Denot (λ w. fsep (fex (Acted w ws.1.1.1.1.1.1.1.0 r) (λ _. ftrue)) (points_to R (block_ptr b o) w))
    ws.1.0 $
    move ! (1 ∷ 2 ∷ []) $ fjoin ! $ nothing ! $ fjoin ! $ nothing ! $ fjoin ! $ nothing ! $ fjoin ! $ nothing ! $
    fjoin ! $ nothing ! $
    fjoin ! $ nothing ! $ fjoin ! $ nothing ! $ fjoin ! $
    move ! (3 ∷ 0 ∷ 2 ∷ []) $ group ! 3 $ done !))))))))))

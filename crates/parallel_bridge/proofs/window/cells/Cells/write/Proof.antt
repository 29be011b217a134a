-- `write` fills an empty place. Assumes `Logic`.
use Rattle.parallel_bridge.proofs.{◌⊗◌, Places, Start, Place, sz, start_had, item_had, item_in, Others, place_out, place_in}
use Rattle.parallel_bridge.proofs.Walks.{proved_at, ◌≡◌, refl, sym, subst, ◌∙◌, ℕ, ◌+◌, ◌*◌, ◌<◌, ◌^◌, arith, List, [], ◌∷◌, ◌++◌, length, set, get_or, length-set, Ura, full_share, Fn, w64, inst_fn}
use Rattle.parallel_bridge.proofs.Walks.{Val, vptr, vint, vunit, SProp, ent, never, id⊢, ftrue, fat, flft, Memory, Routine, Env, WpFn, Tables, Logic, ◌⊑◌, Fun, fact, tables, tables_of, ‵, raw, ◌⊛◌}
use Rattle.parallel_bridge.proofs.Walks.{at_ret, ◌$◌, ◌∵◌, !, qed, move, keep, drop, use1, use2, split, split3, join, rewrite, fsplit, fsplit3, fjoin, fjoin3, feq_i, feq_l, flt_l, flt_i, suffices}
use Rattle.parallel_bridge.proofs.Walks.{done, whole, sub, init, stop, fld, bin, size_lit, unit_lit, of_opd, assigns_last, first, blocks, exec, returns, enter, alloc_all, pass_all, free_all, look_at}
use Rattle.parallel_bridge.proofs.Walks.{get, get_in, take_at, give_at, through, sets, env, yes, no, owns, usize, layout, Ptr, in_a_block, plain, types_at, heard, nothing, opens, closes, Clauses}
use Rattle.parallel_bridge.proofs.Walks.{Ended, says, Stays, stay_dropped, stay_ref, walk_of, ends_at, Goes-dropped, Goes-ref, Some, None, El, R, args, elτ, times_below, one_below, as_written, word}
use Rattle.parallel_bridge.proofs.Walks.{word-Good, after, slot, slots, cells_own}
use Rattle.parallel_bridge.specs.contracts.window.cells.Cells.write as F
use Rattle.parallel_bridge.specs.contracts.window.cells.Cells.write.Key.{name as #self}
use Rattle.parallel_bridge.proofs.window.cells.Cells.write.Statement as stated
use Rattle.parallel_bridge.proofs.window.cells.Cells.write.Code as code

module _ (E : El) where
  abbrev here : Fn
  here = inst_fn (args E) code.function

  abbrev ended : Ended
  ended = F.ended E.row

  abbrev stayed : Stays ended.signature.params ended.kept
  stayed = stay_ref (0 ∷ []) tt (plain (λ _. Places E)) ⊗ stay_dropped (plain (λ _. Start E)) no ⊗
      stay_dropped (plain (λ _. usize)) yes ⊗ stay_dropped (plain (λ _. R E)) no ⊗ tt

  module _ {M : Type 1} {𝓤 : Ura M} (𝓛 : Logic 𝓤) (at_mem : Memory → SProp 𝓤)
      (run : Routine → Fun 𝓤) (𝓣 : Tables 𝓤 𝓛.H) where
    open 𝓛 use {H}

    abbrev held : Clauses 𝓤 ended
    held = F.clauses E.row 𝓛 at_mem run

    walk : (z : (walk_of 𝓛 ended stayed held).Ghost) → ent 𝓤 ((walk_of 𝓛 ended stayed held).pre z)
        (WpFn 𝓤 H 𝓣.C 𝓣.Λ here ((walk_of 𝓛 ended stayed held).args z)
        ((walk_of 𝓛 ended stayed held).post z))
    walk z =
        let κ = z.0.0.0 in let κ₁ = z.0.0.1.0 in let q = z.0.1.0 in let q₁ = z.0.1.1.0 in
        let rb : ℕ = z.0.3.0.ref_ptr.0 in let ro : ℕ = z.0.3.0.ref_ptr.1 in let vss = z.0.4 in
        let Post : Val → SProp 𝓤 = (walk_of 𝓛 ended stayed held).post z in
        let Run : List Val → SProp 𝓤 = λ ws. WpFn 𝓤 H 𝓣.C 𝓣.Λ here ws Post in
        let d : (Places E).Denot = z.0.3.0.now in let base : (Start E).Denot = z.0.3.1.0 in
        let i : ℕ = z.0.3.1.1.0 in let x : (R E).Denot = z.0.3.1.1.1.0 in
        let Asked : Type 0 = (base.ptr ≡ d.at) × (i < length d.slots)
        × (get_or d.slots i None ≡ None) in
        let s = sz E in
        qed 𝓛 (((‵ (flft κ q) ⊛ ‵ (flft κ₁ q₁) ⊛ ‵ ftrue)
        ⊛ ‵ (owns (types_at ended.signature.params z.0.0) z.0.3 vss)) ∷ (raw
        (fact 𝓤 (κ₁ ⊑ E.row.lives)) ⊛ raw (fact 𝓤 Asked)) ∷ []) ∵
        move ! (1 ∷ []) $ split ! $ drop ! $ heard ! Asked (λ asked.
        split ! $ split3 ! $ move ! (3 ∷ []) $ fsplit ! $ fsplit3 ! $
        feq_l ! (λ e₀. move ! (2 ∷ []) $ fsplit ! $
        start_had ! base.ptr vss.1.0 (λ e₁. fsplit ! $ fsplit ! $ feq_l ! (λ e₂. flt_l ! (λ fits.
        fsplit ! $ item_had E ! x vss.1.1.1.0 (λ v e₃ good. keep ! (2 ∷ 3 ∷ 4 ∷ 5 ∷ 0 ∷ []) $
        -- [obs; the borrow; its token; T's token; what the item owns]
        let us : List Val = vptr rb ro ∷ word base.ptr ∷ vint w64 i ∷ v ∷ [] in
        let new : (Places E).Denot =
        record { mark = d.mark; at = d.at; slots = set d.slots i (Some x) } in
        suffices ! (Run us) (subst (λ (ws : List Val). ent 𝓤 (Run us) (Run ws))
        (sym (λ j. e₀ j ++ (e₁ j ++ (e₂ j ++ (e₃ j ++ []))))) (id⊢ 𝓤 (Run us))) $
        enter ! 𝓣.C 𝓣.Λ here us Post $ alloc_all !
        (λ l. pass_all ! refl ((tt, tt) ⊗ word-Good [] base.ptr ⊗ (tt, record { fits = fits }) ⊗
        good ⊗ tt) $
        let En : Env 𝓤 H = env here.locals l in
        opens ! tt (Places E) {h = d} rb ro (λ vs. move ! (1 ∷ []) $ fsplit ! $ move ! (1 ∷ []) $
        in_a_block ! d.at (λ p. cells_own (R E) p d.slots) (id⊢ 𝓤 (never 𝓤))
        (λ b o e. fsplit ! $ flt_l ! (λ small.
        let tiny : s < 2 ^ 64 =
        omega (arith, one_below (length d.slots) s (2 ^ 63) (omega arith) small) in
        let far : i * s < 2 ^ 64 =
        omega (arith, times_below i (length d.slots) s (2 ^ 63) (omega arith) small) in
        take_at ! 2 $ rewrite ! 0 (λ (p : Ptr). ‵ (fat full_share (layout (Start E)) (l 2) 0
        (word p))) (asked.0 ∙ e) refl $ give_at ! 2 $ first ! $ blocks ! $
        sets ! (bin ! (get ! refl) (size_lit ! (record { fits = tiny })) (record { fits = far }))
        refl (tt, record { fits = far }) $
        sets ! (bin ! (get_in ! (fld ! refl (stop !)) (sub ! 0 refl (whole !))) (get ! refl) tt)
        refl (tt, tt) $
        use1 𝓛 (‵ (slot (R E) b (i * s + o) (get_or d.slots i None)) ⊛ ‵ (Others E 𝓛 b o d.slots i))
        (place_out E 𝓛 b o d.slots i asked.1) $ split ! $
        rewrite ! 0 (λ (c : Place E). ‵ (slot (R E) b (i * s + o) c)) asked.2 refl $
        as_written ! (elτ E) b (i * s + o) $ sets ! (of_opd ! (get ! refl)) refl good $
        assigns_last ! (of_opd ! (get ! refl)) (through ! refl (stop !)) (init ! 0 refl good) $
        exec ! 𝓣.C 𝓣.Λ En (after 1 here.body) (at_ret En Post) $
        sets ! (of_opd ! (unit_lit !)) refl (tt, tt) $
        -- [the place; the others; the mark; its cell; the open borrow; obs; auth; T's token; what
        -- the item owns]
        move ! (0 ∷ 8 ∷ []) $ use2 𝓛 (‵ (slot (R E) b (i * s + o) (Some x)))
        (item_in E 𝓛 b x (i * s + o) v) $
        use2 𝓛 (‵ (slots (R E) b o new.slots)) (place_in E 𝓛 b o d.slots i asked.1 (Some x)) $
        flt_i ! (length new.slots * s) (2 ^ 63)
        (subst (λ k. k * s < 2 ^ 63) (sym (length-set d.slots i (Some x))) small) $ fjoin ! $
        rewrite ! 0 (λ (p : Ptr). ‵ (cells_own (R E) p new.slots)) (sym e) refl $
        move ! (1 ∷ 0 ∷ []) $ fjoin ! $ move ! (1 ∷ 0 ∷ []) $ closes ! tt (Places E) new vs rb ro $
        returns ! (look_at ! 0 refl) $ free_all ! refl $
        suffices ! _ (ends_at 𝓛 ended stayed held z vunit tt (new, (tt, (tt, (tt, tt))))
        (tt, (tt, (tt, (tt, tt))))) $ says ! (refl, refl) $
        feq_i ! (List Val) vss.0 (vptr rb ro ∷ []) e₀ $ fjoin3 ! $ nothing ! $ nothing ! $
        nothing ! $ fjoin3 ! $ nothing ! $ move ! (2 ∷ 0 ∷ 1 ∷ []) $ fjoin3 ! $
        move ! (2 ∷ []) $ nothing ! $ move ! (1 ∷ 0 ∷ []) $ join ! $ move ! (2 ∷ 0 ∷ []) $ join ! $
        feq_i ! (List Val) (vunit ∷ []) (vunit ∷ []) refl $ keep ! (1 ∷ 2 ∷ 0 ∷ []) $
        done !))))))))))

pub write_spec : {M : Type 1} → stated.statement M
unfolding tables_of
write_spec 𝓤 𝓛 𝓜 𝓡 wired X L =
    let E : El = record { row = X; laws = L } in
    let 𝓣 : Tables 𝓤 𝓛.H = tables_of 𝓤 𝓛.H 𝓜 (tables 𝓤 𝓛.H 𝓜 𝓡 𝓡.env) in
    proved_at 𝓛 (ended E) (stayed E) (F.clauses X 𝓛 𝓜.mem 𝓡.returns) 𝓜 𝓡
    (Goes-ref 𝓛 2 0 tt (plain (λ _. Places E)) ⊗
    Goes-dropped 𝓛 2 (plain (λ _. Start E)) no (λ κs x f. refl) ⊗
    Goes-dropped 𝓛 2 (plain (λ _. usize)) yes (λ κs x f. refl) ⊗
    Goes-dropped 𝓛 2 (plain (λ _. R E)) no (λ κs x f. refl) ⊗ tt)
    (#self (args E)) (here E) (code.unfolded 𝓤 𝓛.H 𝓜 𝓡 wired (X, tt))
    (λ y are. walk E 𝓛 𝓜.mem 𝓡.returns 𝓣 y)

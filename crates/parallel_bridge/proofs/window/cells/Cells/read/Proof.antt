-- `read` moves an item out, whose place is empty then. Assumes `Logic`.
use Rattle.parallel_bridge.proofs.{◌⊗◌, Places, Start, Place, sz, start_had, item_out, says_two, has_index, Others, place_out, place_in}
use Rattle.parallel_bridge.proofs.Walks.{proved_at, ◌≡◌, refl, sym, subst, ◌∙◌, ℕ, ◌+◌, ◌*◌, ◌<◌, ◌^◌, arith, List, [], ◌∷◌, ◌++◌, length, set, get_or, length-set, Ura, full_share, Fn, w64, inst_fn}
use Rattle.parallel_bridge.proofs.Walks.{Val, vptr, vint, SProp, ent, never, id⊢, ftrue, fat, froom, flft, Memory, Routine, Env, WpFn, Tables, Logic, ◌⊑◌, Fun, fact, tables, tables_of, ‵, raw, ◌⊛◌}
use Rattle.parallel_bridge.proofs.Walks.{some, given, pick, learn, at_ret, ◌$◌, ◌∵◌, !, qed, move, keep, drop, use1, use2, split, split3, join, rewrite, fsplit, fsplit3, fjoin, fjoin3, feq_i, feq_l}
use Rattle.parallel_bridge.proofs.Walks.{flt_l, flt_i, suffices, done, whole, sub, look, load, stop, fld, bin, size_lit, of_opd, first, blocks, exec, returns, enter, alloc_all, pass_all, free_all}
use Rattle.parallel_bridge.proofs.Walks.{look_at, get, get_in, take_at, give_at, through, sets, sets_last, env, yes, no, owns, usize, layout, Ptr, in_a_block, plain, types_at, heard, nothing, opens}
use Rattle.parallel_bridge.proofs.Walks.{closes, Clauses, Ended, Stays, stay_dropped, stay_ref, walk_of, ends_at, Goes-dropped, Goes-ref, None, El, R, args, elτ, times_below, one_below, as_raw, Good}
use Rattle.parallel_bridge.proofs.Walks.{word, word-Good, after, IsFilled, slot, slots, cells_own}
use Rattle.parallel_bridge.specs.contracts.window.cells.Cells.read as F
use Rattle.parallel_bridge.specs.contracts.window.cells.Cells.read.Key.{name as #self}
use Rattle.parallel_bridge.proofs.window.cells.Cells.read.Statement as stated
use Rattle.parallel_bridge.proofs.window.cells.Cells.read.Code as code

module _ (E : El) where
  abbrev here : Fn
  here = inst_fn (args E) code.function

  abbrev ended : Ended
  ended = F.ended E.row

  abbrev stayed : Stays ended.signature.params ended.kept
  stayed = stay_ref (0 ∷ []) tt (plain (λ _. Places E)) ⊗ stay_dropped (plain (λ _. Start E)) no ⊗
      stay_dropped (plain (λ _. usize)) yes ⊗ tt

  module _ {M : Type 1} {𝓤 : Ura M} (𝓛 : Logic 𝓤) (at_mem : Memory → SProp 𝓤)
      (run : Routine → Fun 𝓤) (𝓣 : Tables 𝓤 𝓛.H) where
    open 𝓛 use {H}

    abbrev held : Clauses 𝓤 ended
    held = F.clauses E.row 𝓛 at_mem run

    walk : (z : (walk_of 𝓛 ended stayed held).Ghost) → ent 𝓤 ((walk_of 𝓛 ended stayed held).pre z)
        (WpFn 𝓤 H 𝓣.C 𝓣.Λ here ((walk_of 𝓛 ended stayed held).args z)
        ((walk_of 𝓛 ended stayed held).post z))
    walk z =
        let κ = z.0.0.0 in let κ₁ = z.0.0.1.0 in let q = z.0.1.0 in let q₁ = z.0.1.1.0 in
        let rb : ℕ = z.0.3.0.ref_ptr.0 in let ro : ℕ = z.0.3.0.ref_ptr.1 in let vss = z.0.4 in
        let Post : Val → SProp 𝓤 = (walk_of 𝓛 ended stayed held).post z in
        let Run : List Val → SProp 𝓤 = λ ws. WpFn 𝓤 H 𝓣.C 𝓣.Λ here ws Post in
        let d : (Places E).Denot = z.0.3.0.now in let base : (Start E).Denot = z.0.3.1.0 in
        let i : ℕ = z.0.3.1.1.0 in let Asked : Type 0 = (base.ptr ≡ d.at) × IsFilled d.slots i in
        let s = sz E in
        qed 𝓛 (((‵ (flft κ q) ⊛ ‵ (flft κ₁ q₁) ⊛ ‵ ftrue)
        ⊛ ‵ (owns (types_at ended.signature.params z.0.0) z.0.3 vss)) ∷ (raw
        (fact 𝓤 (κ₁ ⊑ E.row.lives)) ⊛ raw (fact 𝓤 Asked)) ∷ []) ∵
        move ! (1 ∷ []) $ split ! $ drop ! $ heard ! Asked (λ asked.
        split ! $ split3 ! $ move ! (3 ∷ []) $ fsplit ! $ fsplit3 ! $
        feq_l ! (λ e₀. move ! (2 ∷ []) $ fsplit ! $
        start_had ! base.ptr vss.1.0 (λ e₁. fsplit ! $ fsplit ! $ feq_l ! (λ e₂. flt_l ! (λ fits.
        keep ! (1 ∷ 2 ∷ 3 ∷ 4 ∷ []) $
        -- [obs; the borrow; its token; T's token]
        let us : List Val = vptr rb ro ∷ word base.ptr ∷ vint w64 i ∷ [] in
        let x = asked.1.0 in let inside = has_index d.slots i x asked.1.1 in
        let new : (Places E).Denot =
        record { mark = d.mark; at = d.at; slots = set d.slots i None } in
        suffices ! (Run us) (subst (λ (ws : List Val). ent 𝓤 (Run us) (Run ws))
        (sym (λ j. e₀ j ++ (e₁ j ++ (e₂ j ++ [])))) (id⊢ 𝓤 (Run us))) $
        enter ! 𝓣.C 𝓣.Λ here us Post $ alloc_all !
        (λ l. pass_all ! refl ((tt, tt) ⊗ word-Good [] base.ptr ⊗ (tt, record { fits = fits }) ⊗
        tt) $
        let En : Env 𝓤 H = env here.locals l in
        opens ! tt (Places E) {h = d} rb ro (λ vs. move ! (1 ∷ []) $ fsplit ! $ move ! (1 ∷ []) $
        in_a_block ! d.at (λ p. cells_own (R E) p d.slots) (id⊢ 𝓤 (never 𝓤))
        (λ b o e. fsplit ! $ flt_l ! (λ small.
        let tiny : s < 2 ^ 64 =
        omega (arith, one_below (length d.slots) s (2 ^ 63) (omega arith) small) in
        let far : i * s < 2 ^ 64 =
        omega (arith, times_below i (length d.slots) s (2 ^ 63) (omega arith) small) in
        take_at ! 2 $ rewrite ! 0 (λ (p : Ptr). ‵ (fat full_share (layout (Start E)) (l 2) 0
        (word p))) (asked.0 ∙ e) refl $ give_at ! 2 $ first ! $ blocks ! $
        sets ! (bin ! (get ! refl) (size_lit ! (record { fits = tiny })) (record { fits = far }))
        refl (tt, record { fits = far }) $
        sets ! (bin ! (get_in ! (fld ! refl (stop !)) (sub ! 0 refl (whole !))) (get ! refl) tt)
        refl (tt, tt) $
        use1 𝓛 (‵ (slot (R E) b (i * s + o) (get_or d.slots i None)) ⊛ ‵ (Others E 𝓛 b o d.slots i))
        (place_out E 𝓛 b o d.slots i inside) $ split ! $
        rewrite ! 0 (λ (c : Place E). ‵ (slot (R E) b (i * s + o) c)) asked.1.1 refl $
        use1 𝓛 (some (λ (v : Val). given (Good (elτ E) v)
        (‵ (fat full_share (elτ E) b (i * s + o) v) ⊛ ‵ ((R E).own_val x (v ∷ [])))))
        (item_out E 𝓛 b x (i * s + o)) $ pick ! (λ v. learn ! (λ good. split ! $
        -- [the place; what the item owns; the other places; the mark; its cell; the open borrow;
        -- obs; auth; T's token]
        sets_last ! (of_opd ! (load ! (through ! refl (stop !)) (look ! 0 refl))) refl good $
        exec ! 𝓣.C 𝓣.Λ En (after 1 here.body) (at_ret En Post) $
        sets ! (of_opd ! (get ! refl)) refl good $
        use1 𝓛 (‵ (froom (elτ E) b (i * s + o))) (𝓛.laws.at_room (elτ E) b (i * s + o) v) $
        as_raw ! (elτ E) b (i * s + o) $ move ! (0 ∷ 2 ∷ 3 ∷ 4 ∷ 5 ∷ 6 ∷ 7 ∷ []) $
        use2 𝓛 (‵ (slots (R E) b o new.slots)) (place_in E 𝓛 b o d.slots i inside None) $
        flt_i ! (length new.slots * s) (2 ^ 63)
        (subst (λ k. k * s < 2 ^ 63) (sym (length-set d.slots i None)) small) $ fjoin ! $
        rewrite ! 0 (λ (p : Ptr). ‵ (cells_own (R E) p new.slots)) (sym e) refl $
        move ! (1 ∷ 0 ∷ []) $ fjoin ! $ move ! (1 ∷ 0 ∷ []) $ closes ! tt (Places E) new vs rb ro $
        returns ! (look_at ! 0 refl) $ free_all ! refl $
        suffices ! _ (ends_at 𝓛 ended stayed held z v x (new, (tt, (tt, tt))) (tt, (tt, (tt, tt))))
        $ says_two ! asked.1.1 (refl, refl) $
        feq_i ! (List Val) vss.0 (vptr rb ro ∷ []) e₀ $ fjoin3 ! $ nothing ! $ nothing ! $ fjoin ! $
        nothing ! $ move ! (2 ∷ 0 ∷ 1 ∷ []) $ fjoin3 ! $
        -- [the parameters; the borrow's token; what the item owns; T's token]
        move ! (3 ∷ []) $ nothing ! $ move ! (1 ∷ 0 ∷ []) $ join ! $ move ! (2 ∷ 0 ∷ []) $ join ! $
        keep ! (0 ∷ 1 ∷ 2 ∷ []) $ done !)))))))))))

pub read_spec : {M : Type 1} → stated.statement M
unfolding tables_of
read_spec 𝓤 𝓛 𝓜 𝓡 wired X L =
    let E : El = record { row = X; laws = L } in
    let 𝓣 : Tables 𝓤 𝓛.H = tables_of 𝓤 𝓛.H 𝓜 (tables 𝓤 𝓛.H 𝓜 𝓡 𝓡.env) in
    proved_at 𝓛 (ended E) (stayed E) (F.clauses X 𝓛 𝓜.mem 𝓡.returns) 𝓜 𝓡
    (Goes-ref 𝓛 2 0 tt (plain (λ _. Places E)) ⊗
    Goes-dropped 𝓛 2 (plain (λ _. Start E)) no (λ κs x f. refl) ⊗
    Goes-dropped 𝓛 2 (plain (λ _. usize)) yes (λ κs x f. refl) ⊗ tt)
    (#self (args E)) (here E) (code.unfolded 𝓤 𝓛.H 𝓜 𝓡 wired (X, tt))
    (λ y are. walk E 𝓛 𝓜.mem 𝓡.returns 𝓣 y)

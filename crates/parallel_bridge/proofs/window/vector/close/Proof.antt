-- `close` gives a vector slots as its block. Assumes `Logic`.
use Rattle.parallel_bridge.proofs.{◌⊗◌, Places, Start, mark, mark_had, start_had, plainly, stored_within, block_in}
use Rattle.parallel_bridge.proofs.Walks.{proved_at, ◌≡◌, refl, sym, ap, subst, ◌∙◌, ℕ, ◌-◌, ◌*◌, ◌≤◌, ◌<◌, ◌^◌, List, [], ◌∷◌, ◌++◌, map, length, replicate, Ura, full_share, Fn, w64, inst_fn, Val}
use Rattle.parallel_bridge.proofs.Walks.{vunit, vint, vptr, SProp, ent, never, id⊢, ftrue, fat, flft, Memory, Routine, Env, WpFn, Tables, Logic, ◌⊑◌, Fun, fact, tables, tables_of, ‵, raw, ◌⊛◌, at_ret}
use Rattle.parallel_bridge.proofs.Walks.{◌$◌, ◌∵◌, !, qed, move, keep, drop, use2, split, split3, join, rewrite, fsplit, fsplit3, fjoin3, feq_i, feq_l, flt_l, suffices, done, whole, sub, store_in}
use Rattle.parallel_bridge.proofs.Walks.{addr, stop, fld, unit_lit, of_opd, assigns, assigns_last, first, blocks, exec, returns, enter, alloc_all, pass_all, free_all, look_at, get, get_in, take_at}
use Rattle.parallel_bridge.proofs.Walks.{give_at, through, sets, env, yes, no, RattleType, owns, usize, layout, Ptr, block_ptr, in_a_block, plain, types_at, heard, nothing, Clauses, Ended, says}
use Rattle.parallel_bridge.proofs.Walks.{Stays, stay_dropped, stay_ref, walk_of, ends_at, Goes-dropped, Goes-ref, Option, Some, None, Goes-blank, token, has_block, word, word-Good, Blk, vec_opens⁰}
use Rattle.parallel_bridge.proofs.Walks.{vec_closes⁰, after, slots, cells_own, deed_owns, values}
use Rattle.std_alloc.proofs.VecSteps.El.{El, args, el_x, el_d, R, P, Vr, Hd, sz}
use Rattle.parallel_bridge.specs.contracts.window.cells.Deed as deeds
use Rattle.parallel_bridge.specs.contracts.window.vector.close as F
use Rattle.parallel_bridge.specs.contracts.window.vector.close.Key.{name as #self}
use Rattle.parallel_bridge.proofs.window.vector.close.Statement as stated
use Rattle.parallel_bridge.proofs.window.vector.close.Code as code

module _ (E : El) where
  abbrev here : Fn
  here = inst_fn (args E) code.function

  abbrev ended : Ended
  ended = F.ended E.row E.al.row E.al.g E.al.d E.al.drops

  abbrev Deeds : RattleType
  Deeds = deeds.the_row (R E) (P E) E.al.g

  abbrev stayed : Stays ended.signature.params ended.kept
  stayed = stay_ref (0 ∷ []) tt (plain (λ _. Vr E)) ⊗
      stay_dropped (plain (λ _. Start (plainly E))) no ⊗ stay_dropped (plain (λ _. usize)) yes ⊗
      stay_dropped (plain (λ _. usize)) yes ⊗ stay_dropped (plain (λ _. Places (plainly E))) no ⊗
      stay_dropped (plain (λ _. Deeds)) no ⊗ tt

  module _ {M : Type 1} {𝓤 : Ura M} (𝓛 : Logic 𝓤) (at_mem : Memory → SProp 𝓤)
      (run : Routine → Fun 𝓤) (𝓣 : Tables 𝓤 𝓛.H) where
    open 𝓛 use {H}

    abbrev held : Clauses 𝓤 ended
    held = F.clauses E.row E.al.row E.al.g E.al.d E.al.drops 𝓛 at_mem run

    walk : (z : (walk_of 𝓛 ended stayed held).Ghost) → ent 𝓤 ((walk_of 𝓛 ended stayed held).pre z)
        (WpFn 𝓤 H 𝓣.C 𝓣.Λ here ((walk_of 𝓛 ended stayed held).args z)
        ((walk_of 𝓛 ended stayed held).post z))
    walk z =
        let κ = z.0.0.0 in let κ₁ = z.0.0.1.0 in let κ₂ = z.0.0.1.1.0 in let q = z.0.1.0 in
        let q₁ = z.0.1.1.0 in let q₂ = z.0.1.1.1.0 in
        let rb : ℕ = z.0.3.0.ref_ptr.0 in let ro : ℕ = z.0.3.0.ref_ptr.1 in let vss = z.0.4 in
        let Post : Val → SProp 𝓤 = (walk_of 𝓛 ended stayed held).post z in
        let Run : List Val → SProp 𝓤 = λ ws. WpFn 𝓤 H 𝓣.C 𝓣.Λ here ws Post in
        let h : el_d E = z.0.3.0.now in let begin : (Start (plainly E)).Denot = z.0.3.1.0 in
        let n : ℕ = z.0.3.1.1.0 in let c : ℕ = z.0.3.1.1.1.0 in
        let row : (Places (plainly E)).Denot = z.0.3.1.1.1.1.0 in
        let deed : (Deeds).Denot = z.0.3.1.1.1.1.1.0 in
        let cs : List (Option (el_x E)) = row.slots in let xs : List (el_x E) = values cs in
        let a : Hd E = h.alloc in let s = sz E in let Bare : Type 0 = (h.cap ≡ 0) × (c < 2 ^ 63) in
        let Row : Type 0 = (row.at ≡ begin.ptr) × (length cs ≡ c) × (length xs ≡ n)
        × (cs ≡ map Some xs ++ replicate (c - n) None) in
        let Right : Type 0 = (deed.at ≡ begin.ptr) × (deed.len ≡ c) × (deed.alloc ≡ a) in
        qed 𝓛 (((‵ (flft κ q) ⊛ ‵ (flft κ₁ q₁) ⊛ ‵ (flft κ₂ q₂) ⊛ ‵ ftrue)
        ⊛ ‵ (owns (types_at ended.signature.params z.0.0) z.0.3 vss))
        ∷ (raw (fact 𝓤 (κ₁ ⊑ E.row.lives)) ⊛ raw (fact 𝓤 (κ₂ ⊑ E.al.row.lives)) ⊛ raw
        (fact 𝓤 Bare) ⊛ raw (fact 𝓤 Row) ⊛ raw (fact 𝓤 Right)) ∷ []) ∵
        move ! (1 ∷ []) $ split3 ! $ drop ! $ drop ! $ split ! $
        heard ! Bare (λ bare_vec. split ! $ heard ! Row (λ is_row. heard ! Right (λ is_right.
        split ! $ split3 ! $ move ! (3 ∷ []) $ fsplit ! $ fsplit3 ! $
        feq_l ! (λ e₀. move ! (2 ∷ []) $ fsplit ! $ start_had ! begin.ptr vss.1.0 (λ e₁.
        fsplit ! $ fsplit ! $ feq_l ! (λ e₂. flt_l !
        (λ fn. fsplit ! $ fsplit ! $ feq_l ! (λ e₃. flt_l ! (λ fc.
        fsplit ! $ fsplit ! $ mark_had ! (plainly E) vss.1.1.1.1.0
        (λ e₄. move ! (1 ∷ []) $ fsplit ! $ fsplit ! $
        mark_had ! (plainly E) vss.1.1.1.1.1.0 (λ e₅. keep ! (2 ∷ 0 ∷ 3 ∷ 4 ∷ 5 ∷ 6 ∷ 7 ∷ []) $
        -- [the places; the right to free; obs; the borrow; its token; T's token; A's token]
        let us : List Val =
        vptr rb ro ∷ word begin.ptr ∷ vint w64 n ∷ vint w64 c ∷ mark ∷ mark ∷ [] in
        let long : n ≡ length xs = sym is_row.2 in
        let le : n ≤ c = stored_within n c xs long (ap length (sym is_row.3) ∙ is_row.1) in
        suffices ! (Run us) (subst (λ (ws : List Val). ent 𝓤 (Run us) (Run ws))
        (sym (λ i. e₀ i ++ (e₁ i ++ (e₂ i ++ (e₃ i ++ (e₄ i ++ (e₅ i ++ [])))))))
        (id⊢ 𝓤 (Run us))) $ enter ! 𝓣.C 𝓣.Λ here us Post $ alloc_all !
        (λ l. pass_all ! refl ((tt, tt) ⊗ word-Good [] begin.ptr ⊗ (tt, record { fits = fn }) ⊗
        (tt, record { fits = fc }) ⊗ (tt, (tt, tt)) ⊗ (tt, (tt, tt)) ⊗ tt) $
        let En : Env 𝓤 H = env here.locals l in
        in_a_block ! row.at (λ p. cells_own (R E) p cs) (id⊢ 𝓤 (never 𝓤))
        (λ b o e. fsplit ! $ flt_l ! (λ small.
        let p : Ptr = block_ptr b o in let at_p : begin.ptr ≡ p = sym is_row.0 ∙ e in
        let fit : c * s < 2 ^ 63 = subst (λ (k : ℕ). k * s < 2 ^ 63) is_row.1 small in
        let new : el_d E =
        record {
          ptr = p;
          len = n;
          cap = c;
          alloc = a;
          items = xs;
          ok = (long, le);
          small = bare_vec.1;
        } in
        take_at ! 2 $ rewrite ! 0 (λ (z : Ptr). ‵ (fat full_share (layout (Start (plainly E)))
        (l 2) 0 (word z))) at_p refl $ give_at ! 2 $
        rewrite ! 0 (λ (ds : List (Option (el_x E))). ‵ (slots (R E) b o ds)) is_row.3 refl $
        move ! (1 ∷ []) $
        rewrite ! 0 (λ (z : Ptr). ‵ (deed_owns (R E) (token E.al deed.alloc) z deed.len))
        (is_right.0 ∙ at_p) refl $
        rewrite ! 0 (λ (k : ℕ). ‵ (deed_owns (R E) (token E.al deed.alloc) p k)) is_right.1 refl $
        rewrite ! 0 (λ (g : Hd E). ‵ (deed_owns (R E) (token E.al g) p c)) is_right.2 refl $
        move ! (1 ∷ 0 ∷ []) $
        use2 𝓛 (‵ (Blk E a b o n c xs)) (block_in E 𝓛 a b o n c xs (has_block c) long) $
        move ! (1 ∷ 2 ∷ 3 ∷ []) $ vec_opens⁰ E ! tt h rb ro (λ b' o' hv at' fl' fc' fit'. drop ! $
        -- [the words; the open borrow; obs; auth; the block; T's token; A's token]
        sets ! (addr ! (through ! refl (stop !))) refl (tt, tt) $
        sets ! (of_opd ! (get ! refl)) refl (tt, tt) $ first ! $ blocks ! $
        sets ! (of_opd ! (get_in ! (fld ! refl (stop !)) (sub ! 0 refl (whole !)))) refl (tt, tt) $
        assigns ! (of_opd ! (get ! refl)) (through ! refl (fld ! refl (stop !)))
        (store_in ! 0 (sub ! 0 refl (whole !)) (tt, tt)) $
        assigns ! (of_opd ! (get ! refl)) (through ! refl (fld ! refl (stop !)))
        (store_in ! 0 (sub ! 1 refl (whole !)) (tt, record { fits = fn })) $
        assigns_last ! (of_opd ! (get ! refl)) (through ! refl (fld ! refl (stop !)))
        (store_in ! 0 (sub ! 2 refl (whole !)) (tt, record { fits = fc })) $
        exec ! 𝓣.C 𝓣.Λ En (after 3 here.body) (at_ret En Post) $
        sets ! (of_opd ! (unit_lit !)) refl (tt, tt) $ move ! (4 ∷ []) $
        vec_closes⁰ E ! tt new b o n c xs rb ro (refl, refl, refl, refl) fn fc fit $
        returns ! (look_at ! 0 refl) $ free_all ! refl $
        suffices ! _ (ends_at 𝓛 ended stayed held z vunit tt (new, (tt, (tt, (tt, (tt, (tt, tt))))))
        (tt, (tt, (tt, (tt, (tt, (tt, tt))))))) $ says ! (refl, refl) $
        feq_i ! (List Val) vss.0 (vptr rb ro ∷ []) e₀ $ fjoin3 ! $ nothing ! $ nothing ! $
        nothing ! $ fjoin3 ! $ nothing ! $ nothing ! $ fjoin3 ! $ nothing ! $
        move ! (2 ∷ 0 ∷ 1 ∷ []) $ fjoin3 ! $
        move ! (2 ∷ 3 ∷ []) $ join ! $ move ! (2 ∷ 0 ∷ []) $ join ! $
        feq_i ! (List Val) (vunit ∷ []) (vunit ∷ []) refl $ keep ! (1 ∷ 2 ∷ 0 ∷ []) $
        done !)))))))))))))))

pub close_spec : {M : Type 1} → stated.statement M
unfolding tables_of
close_spec 𝓤 𝓛 𝓜 𝓡 wired X Z L LZ g d dd met md =
    let E : El =
    record { row = X; laws = L; al = record { row = Z; laws = LZ; g = g; d = d; drops = dd } }
    in
    let 𝓣 : Tables 𝓤 𝓛.H = tables_of 𝓤 𝓛.H 𝓜 (tables 𝓤 𝓛.H 𝓜 𝓡 𝓡.env) in
    proved_at 𝓛 (ended E) (stayed E) (F.clauses X Z g d dd 𝓛 𝓜.mem 𝓡.returns) 𝓜 𝓡
    (Goes-ref 𝓛 3 0 tt (plain (λ _. Vr E)) ⊗
    Goes-dropped 𝓛 3 (plain (λ _. Start (plainly E))) no (λ κs x f. refl) ⊗
    Goes-dropped 𝓛 3 (plain (λ _. usize)) yes (λ κs x f. refl) ⊗
    Goes-dropped 𝓛 3 (plain (λ _. usize)) yes (λ κs x f. refl) ⊗
    Goes-blank 𝓛 3 (plain (λ _. Places (plainly E))) no (λ κs x f. tt) ⊗
    Goes-blank 𝓛 3 (plain (λ _. Deeds E)) no (λ κs x f. tt) ⊗ tt)
    (#self (args E)) (here E) (code.unfolded 𝓤 𝓛.H 𝓜 𝓡 wired (X, (Z, tt)) d dd)
    (λ y are. walk E 𝓛 𝓜.mem 𝓡.returns 𝓣 y)

-- `open` takes a vector's block out as slots with the right to free it. Assumes `Logic`.
use Rattle.parallel_bridge.proofs.{Places, Start, Mark, mark, mark_from, start_made, says_three, triple, triple_made, plainly, stored, stored_length, block_out}
use Rattle.parallel_bridge.proofs.Walks.{proved_at, ◌≡◌, refl, sym, ap, subst, ℕ, ◌-◌, ◌*◌, ◌<◌, ◌^◌, zero-mul, arith, List, [], ◌∷◌, ◌++◌, map, lit<, length, replicate, Ura, Fn, ty_array, inst_fn}
use Rattle.parallel_bridge.proofs.Walks.{bare, Val, vptr, SProp, ent, id⊢, ftrue, flft, Memory, Routine, Env, WpFn, Tables, Logic, Fun, tables, tables_of, ‵, raw, ◌⊛◌, at_ret, ◌$◌, ◌∵◌, !, qed, move}
use Rattle.parallel_bridge.proofs.Walks.{keep, drop, use0, use1, use3, split, split3, join, fsplit, fsplit3, fjoin, fjoin3, feq_i, feq_l, flt_i, suffices, done, whole, sub, agg, look_in, store_in}
use Rattle.parallel_bridge.proofs.Walks.{addr, stop, fld, load, lit, of_opd, no_more, and_then, assigns, first, blocks, exec, returns, enter, alloc_all, pass_all, free_all, look_at, get, through}
use Rattle.parallel_bridge.proofs.Walks.{sets, sets_last, env, RattleType, owns, layout, Ptr, block_ptr, plain, types_at, nothing, Tuple, Clauses, Ended, Stays, stay_ref, walk_of, ends_at, Goes-ref}
use Rattle.parallel_bridge.proofs.Walks.{Option, Some, None, token, owns_if, has_block, Good, word, word-Good, not_live, vec_opens⁰, vec_closes⁰, after, slots}
use Rattle.std_alloc.proofs.VecSteps.El.{El, args, el_x, el_d, elτ, R, P, Vr, Hd, sz}
use Rattle.parallel_bridge.specs.contracts.window.cells.Deed as deeds
use Rattle.parallel_bridge.specs.contracts.window.vector.open as F
use Rattle.parallel_bridge.specs.contracts.window.vector.open.Key.{name as #self}
use Rattle.parallel_bridge.proofs.window.vector.open.Statement as stated
use Rattle.parallel_bridge.proofs.window.vector.open.Code as code

module _ (E : El) where
  abbrev here : Fn
  here = inst_fn (args E) code.function

  abbrev ended : Ended
  ended = F.ended E.row E.al.row E.al.g E.al.d E.al.drops

  abbrev stayed : Stays ended.signature.params ended.kept
  stayed = (stay_ref (0 ∷ []) tt (plain (λ _. Vr E)), tt)

  abbrev Deeds : RattleType
  Deeds = deeds.the_row (R E) (P E) E.al.g

  abbrev Three : RattleType
  Three = Tuple (Start (plainly E) ∷ Places (plainly E) ∷ Deeds ∷ [])

  module _ {M : Type 1} {𝓤 : Ura M} (𝓛 : Logic 𝓤) (at_mem : Memory → SProp 𝓤)
      (run : Routine → Fun 𝓤) (𝓣 : Tables 𝓤 𝓛.H) where
    open 𝓛 use {H}

    abbrev held : Clauses 𝓤 ended
    held = F.clauses E.row E.al.row E.al.g E.al.d E.al.drops 𝓛 at_mem run

    walk : (z : (walk_of 𝓛 ended stayed held).Ghost) → ent 𝓤 ((walk_of 𝓛 ended stayed held).pre z)
        (WpFn 𝓤 H 𝓣.C 𝓣.Λ here ((walk_of 𝓛 ended stayed held).args z)
        ((walk_of 𝓛 ended stayed held).post z))
    walk z =
        let κ = z.0.0.0 in let κ₁ = z.0.0.1.0 in let κ₂ = z.0.0.1.1.0 in let q = z.0.1.0 in
        let q₁ = z.0.1.1.0 in let q₂ = z.0.1.1.1.0 in
        let rb : ℕ = z.0.3.0.ref_ptr.0 in let ro : ℕ = z.0.3.0.ref_ptr.1 in let vss = z.0.4 in
        let Post : Val → SProp 𝓤 = (walk_of 𝓛 ended stayed held).post z in
        let Run : List Val → SProp 𝓤 = λ ws. WpFn 𝓤 H 𝓣.C 𝓣.Λ here ws Post in
        let h : el_d E = z.0.3.0.now in let n : ℕ = h.len in let c : ℕ = h.cap in
        let xs : List (el_x E) = h.items in let a : Hd E = h.alloc in
        let cs : List (Option (el_x E)) = stored n c xs in let s = sz E in
        qed 𝓛 (((‵ (flft κ q) ⊛ ‵ (flft κ₁ q₁) ⊛ ‵ (flft κ₂ q₂) ⊛ ‵ ftrue)
        ⊛ ‵ (owns (types_at ended.signature.params z.0.0) z.0.3 vss)) ∷ raw
        ((held z.0.0 z.0.3).requires z.1) ∷ []) ∵
        move ! (1 ∷ []) $ drop ! $ split ! $ split3 ! $ move ! (3 ∷ []) $ fsplit ! $ fsplit3 ! $
        feq_l ! (λ e₀. keep ! (0 ∷ 1 ∷ 3 ∷ 4 ∷ 5 ∷ []) $
        -- [obs; the borrow; its token; T's token; A's token]
        let us : List Val = vptr rb ro ∷ [] in
        let new : el_d E =
        record {
          ptr = h.ptr;
          len = 0;
          cap = 0;
          alloc = a;
          items = [];
          ok = (refl, omega arith);
          small = lit< tt;
        } in
        let nil : 0 * s ≡ 0 = zero-mul s in
        let long : length cs ≡ c = stored_length n c xs h.ok.0 h.ok.1 in
        suffices ! (Run us) (subst (λ (ws : List Val). ent 𝓤 (Run us) (Run ws))
        (sym (λ i. e₀ i ++ [])) (id⊢ 𝓤 (Run us))) $
        enter ! 𝓣.C 𝓣.Λ here us Post $ alloc_all ! (λ l. pass_all ! refl ((tt, tt), tt) $
        let En : Env 𝓤 H = env here.locals l in
        vec_opens⁰ E ! tt h rb ro (λ b o hv at_b fl fc fit.
        let p : Ptr = block_ptr b o in let begin : (Start (plainly E)).Denot = record { ptr = p } in
        let row : (Places (plainly E)).Denot = record { mark = record {}; at = p; slots = cs } in
        let deed : (Deeds).Denot = record { mark = record {}; at = p; len = c; alloc = a } in
        let out : Val = triple (word p) mark mark in
        let typed : Good (layout Three) out = (tt, ((tt, tt), ((tt, tt), ((tt, tt), tt)))) in
        use1 𝓛 (‵ (slots (R E) b o cs) ⊛ ‵ (owns_if (has_block c)
        (token E.al a (bare (ty_array (elτ E) c)) p)))
        (block_out E 𝓛 a b o n c xs (has_block c) (not_live c) h.ok.1 h.ok.0) $ split ! $
        -- [the places; the right to free; the words; the open borrow; obs; auth; T's token; A's
        -- token]
        sets ! (addr ! (through ! refl (stop !))) refl (tt, tt) $
        sets ! (of_opd ! (get ! refl)) refl (tt, tt) $ first ! $ blocks ! $
        sets ! (of_opd ! (load ! (through ! refl (fld ! refl (stop !)))
        (look_in ! 2 (sub ! 0 refl (whole !))))) refl (tt, tt) $
        sets ! (of_opd ! (get ! refl)) refl (tt, tt) $
        sets ! (agg ! (and_then ! (get ! refl) (no_more !))) refl (word-Good [] p) $
        assigns ! (of_opd ! (lit ! tt)) (through ! refl (fld ! refl (stop !)))
        (store_in ! 2 (sub ! 1 refl (whole !)) (tt, record { fits = lit< tt })) $
        assigns ! (of_opd ! (lit ! tt)) (through ! refl (fld ! refl (stop !)))
        (store_in ! 2 (sub ! 2 refl (whole !)) (tt, record { fits = lit< tt })) $
        sets ! (agg ! (no_more !)) refl (tt, tt) $
        sets ! (agg ! (and_then ! (get ! refl) (no_more !))) refl (tt, (tt, tt)) $
        sets ! (agg ! (no_more !)) refl (tt, tt) $
        sets ! (agg ! (and_then ! (get ! refl) (no_more !))) refl (tt, (tt, tt)) $
        sets_last ! (agg ! (and_then ! (get ! refl)
        (and_then ! (get ! refl) (and_then ! (get ! refl) (no_more !))))) refl typed $
        exec ! 𝓣.C 𝓣.Λ En (after 3 here.body) (at_ret En Post) $
        sets ! (of_opd ! (get ! refl)) refl typed $
        flt_i ! (length cs * s) (2 ^ 63) (subst (λ (k : ℕ). k * s < 2 ^ 63) (sym long) fit) $
        fjoin ! $
        use0 𝓛 (‵ ((Mark (plainly E)).own_val (tt, tt) (mark ∷ []))) (mark_from (plainly E) 𝓛) $
        fjoin ! $ move ! (1 ∷ []) $
        use0 𝓛 (‵ ((Mark (plainly E)).own_val (tt, tt) (mark ∷ []))) (mark_from (plainly E) 𝓛) $
        fjoin ! $ start_made ! p $ move ! (0 ∷ 2 ∷ 1 ∷ []) $
        use3 𝓛 (‵ (Three.own_val (begin, row, deed) (out ∷ [])))
        (triple_made 𝓛 (Start (plainly E)) (Places (plainly E)) Deeds begin row deed
        (word p) mark mark) $ nothing ! $ move ! (0 ∷ 2 ∷ 3 ∷ 4 ∷ 5 ∷ []) $
        vec_closes⁰ E ! tt new b o 0 0 [] rb ro (at_b, refl, refl, refl) (lit< tt) (lit< tt)
        (omega arith) $ returns ! (look_at ! 0 refl) $ free_all ! refl $
        suffices ! _ (ends_at 𝓛 ended stayed held z out (begin, row, deed) (new, tt) (tt, tt)) $
        says_three ! (
          sym at_b,
          sym at_b,
          ap (λ (k : ℕ). map Some xs ++ replicate (c - k) None) h.ok.0,
        ) (sym at_b, refl, refl)
        (refl, refl, refl) $
        feq_i ! (List Val) vss.0 (vptr rb ro ∷ []) e₀ $ fjoin3 ! $ nothing ! $ move ! (1 ∷ 0 ∷ []) $
        fjoin ! $
        move ! (3 ∷ 4 ∷ []) $ join ! $ move ! (2 ∷ 0 ∷ []) $ join ! $ keep ! (0 ∷ 1 ∷ 2 ∷ []) $
        done !)))

pub open_spec : {M : Type 1} → stated.statement M
unfolding tables_of
open_spec 𝓤 𝓛 𝓜 𝓡 wired X Z L LZ g d dd met md =
    let E : El =
    record { row = X; laws = L; al = record { row = Z; laws = LZ; g = g; d = d; drops = dd } }
    in
    let 𝓣 : Tables 𝓤 𝓛.H = tables_of 𝓤 𝓛.H 𝓜 (tables 𝓤 𝓛.H 𝓜 𝓡 𝓡.env) in
    proved_at 𝓛 (ended E) (stayed E) (F.clauses X Z g d dd 𝓛 𝓜.mem 𝓡.returns) 𝓜 𝓡
    (Goes-ref 𝓛 3 0 tt (plain (λ _. Vr E)), tt)
    (#self (args E)) (here E) (code.unfolded 𝓤 𝓛.H 𝓜 𝓡 wired (X, (Z, tt)) d dd)
    (λ y are. walk E 𝓛 𝓜.mem 𝓡.returns 𝓣 y)

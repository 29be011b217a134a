-- `split` cuts slots in two. Assumes `Logic`.
use Rattle.parallel_bridge.proofs.{◌⊗◌, Places, Start, Mark, Place, sz, mark, mark_from, mark_had, start_had, start_made, triple, triple_made, cut_at}
use Rattle.parallel_bridge.proofs.Walks.{proved_at, ◌≡◌, refl, sym, ap, subst, ◌∙◌, ℕ, ◌+◌, ◌*◌, ◌<◌, ◌≤◌, ◌^◌, arith, List, [], ◌∷◌, ◌++◌, length, take, from, length-take, length-drop, Ura}
use Rattle.parallel_bridge.proofs.Walks.{full_share, Fn, w64, inst_fn, Val, vint, SProp, ent, never, id⊢, ftrue, fat, flft, Memory, Routine, Env, WpFn, Tables, Logic, ◌⊑◌, Fun, fact, tables}
use Rattle.parallel_bridge.proofs.Walks.{tables_of, ‵, raw, ◌⊛◌, at_ret, ◌$◌, ◌∵◌, !, qed, move, keep, drop, use0, use1, use3, split, join, rewrite, fsplit, fjoin, fjoin3, feq_l, flt_l, flt_i}
use Rattle.parallel_bridge.proofs.Walks.{suffices, done, whole, sub, agg, stop, fld, bin, size_word, of_opd, and_then, no_more, first, blocks, exec, returns, enter, alloc_all, pass_all, free_all}
use Rattle.parallel_bridge.proofs.Walks.{look_at, get, get_in, take_at, give_at, is, sets, sets_last, env, yes, no, RattleType, owns, usize, layout, Ptr, block_ptr, in_a_block, plain, types_at, heard}
use Rattle.parallel_bridge.proofs.Walks.{nothing, Tuple, Clauses, Ended, says, Stays, stay_dropped, walk_of, ends_at, Goes-dropped, Goes-blank, El, R, args, times_below, Good, word, word-Good, after}
use Rattle.parallel_bridge.proofs.Walks.{shifted, slots, cells_own}
use Rattle.core.proofs.slots.Leases.{uncapped}
use Rattle.parallel_bridge.specs.contracts.window.cells.Cells.split as F
use Rattle.parallel_bridge.specs.contracts.window.cells.Cells.split.Key.{name as #self}
use Rattle.parallel_bridge.proofs.window.cells.Cells.split.Statement as stated
use Rattle.parallel_bridge.proofs.window.cells.Cells.split.Code as code

module _ (E : El) where
  abbrev here : Fn
  here = inst_fn (args E) code.function

  abbrev ended : Ended
  ended = F.ended E.row

  abbrev stayed : Stays ended.signature.params ended.kept
  stayed = stay_dropped (plain (λ _. Places E)) no ⊗ stay_dropped (plain (λ _. Start E)) no ⊗
      stay_dropped (plain (λ _. usize)) yes ⊗ tt

  abbrev Three : RattleType
  Three = Tuple (Places E ∷ Start E ∷ Places E ∷ [])

  module _ {M : Type 1} {𝓤 : Ura M} (𝓛 : Logic 𝓤) (at_mem : Memory → SProp 𝓤)
      (run : Routine → Fun 𝓤) (𝓣 : Tables 𝓤 𝓛.H) where
    open 𝓛 use {H}

    abbrev held : Clauses 𝓤 ended
    held = F.clauses E.row 𝓛 at_mem run

    walk : (z : (walk_of 𝓛 ended stayed held).Ghost) → ent 𝓤 ((walk_of 𝓛 ended stayed held).pre z)
        (WpFn 𝓤 H 𝓣.C 𝓣.Λ here ((walk_of 𝓛 ended stayed held).args z)
        ((walk_of 𝓛 ended stayed held).post z))
    walk z =
        let κ = z.0.0.0 in let q = z.0.1.0 in let vss = z.0.4 in
        let Post : Val → SProp 𝓤 = (walk_of 𝓛 ended stayed held).post z in
        let Run : List Val → SProp 𝓤 = λ ws. WpFn 𝓤 H 𝓣.C 𝓣.Λ here ws Post in
        let d : (Places E).Denot = z.0.3.0 in let base : (Start E).Denot = z.0.3.1.0 in
        let i : ℕ = z.0.3.1.1.0 in let cs : List (Place E) = d.slots in let s = sz E in
        let Asked : Type 0 = (base.ptr ≡ d.at) × (i ≤ length cs) in
        qed 𝓛 (((‵ (flft κ q) ⊛ ‵ ftrue) ⊛ ‵ (owns
        (types_at ended.signature.params z.0.0) z.0.3 vss)) ∷ (raw
        (fact 𝓤 (κ ⊑ E.row.lives)) ⊛ raw (fact 𝓤 Asked)) ∷ []) ∵
        move ! (1 ∷ []) $ split ! $ drop ! $ heard ! Asked (λ asked.
        split ! $ split ! $ move ! (2 ∷ []) $ fsplit ! $ fsplit ! $
        mark_had ! E vss.0 (λ e₀. move ! (1 ∷ []) $ fsplit ! $
        start_had ! base.ptr vss.1.0 (λ e₁. fsplit ! $ fsplit ! $ feq_l ! (λ e₂. flt_l ! (λ fits.
        keep ! (1 ∷ 2 ∷ []) $
        -- [the places; T's token]
        let us : List Val = mark ∷ word base.ptr ∷ vint w64 i ∷ [] in
        suffices ! (Run us) (subst (λ (ws : List Val). ent 𝓤 (Run us) (Run ws))
        (sym (λ j. e₀ j ++ (e₁ j ++ (e₂ j ++ [])))) (id⊢ 𝓤 (Run us))) $
        enter ! 𝓣.C 𝓣.Λ here us Post $ alloc_all !
        (λ l. pass_all ! refl ((tt, (tt, tt)) ⊗ word-Good [] base.ptr ⊗
        (tt, record { fits = fits }) ⊗ tt) $
        let En : Env 𝓤 H = env here.locals l in
        in_a_block ! d.at (λ p. cells_own (R E) p cs) (id⊢ 𝓤 (never 𝓤))
        (λ b o e. fsplit ! $ flt_l ! (λ small.
        let far : i * s < 2 ^ 64 =
        omega (arith, times_below i (length cs) s (2 ^ 63) asked.1 small) in
        let p : Ptr = block_ptr b (i * s + o) in
        let front : (Places E).Denot = record { mark = record {}; at = d.at; slots = take i cs } in
        let rest : (Start E).Denot = record { ptr = p } in
        let back : (Places E).Denot = record { mark = record {}; at = p; slots = from i cs } in
        let out : Val = triple mark (word p) mark in
        let typed : Good (layout (Three)) out = (tt, ((tt, tt), ((tt, tt), ((tt, tt), tt)))) in
        take_at ! 2 $ rewrite ! 0 (λ (c : Ptr). ‵ (fat full_share (layout (Start E)) (l 2) 0
        (word c))) (asked.0 ∙ e) refl $ give_at ! 2 $ first ! $ blocks ! $
        sets ! (of_opd ! (get_in ! (fld ! refl (stop !)) (sub ! 0 refl (whole !)))) refl (tt, tt) $
        sets ! (of_opd ! (get ! refl)) refl (tt, record { fits = fits }) $
        sets ! (is ! (bin ! (get ! refl) (size_word !)
        (record { fits = subst (λ (k : ℕ). k < 2 ^ 64) (sym (uncapped i s far)) far }))
        (ap (vint w64) (uncapped i s far))) refl (tt, record { fits = far }) $
        sets_last ! (bin ! (get ! refl) (get ! refl) tt) refl (tt, tt) $
        exec ! 𝓣.C 𝓣.Λ En (after 1 here.body) (at_ret En Post) $
        sets ! (of_opd ! (get ! refl)) refl (tt, tt) $
        sets ! (agg ! (and_then ! (get ! refl) (no_more !))) refl (word-Good [] p) $
        sets ! (agg ! (no_more !)) refl (tt, tt) $
        sets ! (agg ! (and_then ! (get ! refl) (no_more !))) refl (tt, (tt, tt)) $
        sets ! (agg ! (no_more !)) refl (tt, tt) $
        sets ! (agg ! (and_then ! (get ! refl) (no_more !))) refl (tt, (tt, tt)) $
        sets ! (of_opd ! (get ! refl)) refl (tt, (tt, tt)) $
        sets ! (of_opd ! (get ! refl)) refl (word-Good [] p) $
        sets ! (of_opd ! (get ! refl)) refl (tt, (tt, tt)) $ sets ! (agg ! (and_then ! (get ! refl)
        (and_then ! (get ! refl) (and_then ! (get ! refl) (no_more !))))) refl typed $
        use1 𝓛 (‵ (slots (R E) b o front.slots) ⊛ ‵ (slots (R E) b (i * s + o) back.slots))
        (cut_at E 𝓛 b o cs i asked.1) $ split ! $ flt_i ! (length front.slots * s) (2 ^ 63)
        (times_below (length front.slots) (length cs) s (2 ^ 63)
        (omega (arith, length-take i cs)) small) $ fjoin ! $
        rewrite ! 0 (λ (c : Ptr). ‵ (cells_own (R E) c front.slots)) (sym e) refl $
        use0 𝓛 (‵ ((Mark E).own_val (tt, tt) (mark ∷ []))) (mark_from E 𝓛) $ fjoin ! $
        move ! (1 ∷ []) $ flt_i ! (length back.slots * s) (2 ^ 63)
        (times_below (length back.slots) (length cs) s (2 ^ 63)
        (omega (arith, length-drop i cs)) small) $ fjoin ! $
        use0 𝓛 (‵ ((Mark E).own_val (tt, tt) (mark ∷ []))) (mark_from E 𝓛) $ fjoin ! $
        start_made ! p $ move ! (2 ∷ 0 ∷ 1 ∷ []) $
        use3 𝓛 (‵ (Three.own_val (front, rest, back) (out ∷ [])))
        (triple_made 𝓛 (Places E) (Start E) (Places E) front rest back mark (word p) mark) $
        returns ! (look_at ! 0 refl) $ free_all ! refl $
        suffices ! _ (ends_at 𝓛 ended stayed held z out (front, rest, back) (tt, (tt, (tt, tt)))
        (tt, (tt, (tt, tt)))) $
        says ! (refl, refl, ap (λ (c : Ptr). shifted (R E) c i) (sym e), refl, refl) $
        nothing ! $ nothing ! $ nothing ! $ fjoin3 ! $ nothing ! $ fjoin ! $ move ! (2 ∷ []) $
        nothing ! $ move ! (1 ∷ 0 ∷ []) $ join ! $ keep ! (0 ∷ 1 ∷ 2 ∷ []) $ done !))))))))

pub split_spec : {M : Type 1} → stated.statement M
unfolding tables_of
split_spec 𝓤 𝓛 𝓜 𝓡 wired X L =
    let E : El = record { row = X; laws = L } in
    let 𝓣 : Tables 𝓤 𝓛.H = tables_of 𝓤 𝓛.H 𝓜 (tables 𝓤 𝓛.H 𝓜 𝓡 𝓡.env) in
    proved_at 𝓛 (ended E) (stayed E) (F.clauses X 𝓛 𝓜.mem 𝓡.returns) 𝓜 𝓡
    (Goes-blank 𝓛 1 (plain (λ _. Places E)) no (λ κs x f. tt) ⊗
    Goes-dropped 𝓛 1 (plain (λ _. Start E)) no (λ κs x f. refl) ⊗
    Goes-dropped 𝓛 1 (plain (λ _. usize)) yes (λ κs x f. refl) ⊗ tt)
    (#self (args E)) (here E) (code.unfolded 𝓤 𝓛.H 𝓜 𝓡 wired (X, tt))
    (λ y are. walk E 𝓛 𝓜.mem 𝓡.returns 𝓣 y)

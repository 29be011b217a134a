-- `join` puts neighbouring slots together. Assumes `Logic`.
use Rattle.parallel_bridge.proofs.{◌⊗◌, FitsInBlock, Places, Mark, Place, sz, mark, mark_from, mark_had, glue}
use Rattle.parallel_bridge.proofs.Walks.{proved_at, ◌≡◌, refl, sym, ap, subst, ◌∙◌, ℕ, ◌+◌, ◌*◌, ◌<◌, ◌^◌, List, [], ◌∷◌, ◌++◌, length, length-append, Ura, Fn, inst_fn, Val, SProp, ent, never, id⊢}
use Rattle.parallel_bridge.proofs.Walks.{ftrue, flft, Memory, Routine, WpFn, Tables, Logic, ◌⊑◌, Fun, fact, tables, tables_of, ‵, raw, ◌⊛◌, ◌$◌, ◌∵◌, !, qed, move, keep, drop, use0, use2, split, join}
use Rattle.parallel_bridge.proofs.Walks.{rewrite, fsplit, fjoin, fjoin3, flt_i, suffices, done, agg, and_then, no_more, returns, enter, alloc_all, pass_all, free_all, look_at, get, sets, no, owns}
use Rattle.parallel_bridge.proofs.Walks.{Ptr, block_ptr, in_a_block, plain, types_at, heard, nothing, Clauses, Ended, says, Stays, stay_dropped, walk_of, ends_at, Goes-blank, El, R, args, shifted}
use Rattle.parallel_bridge.proofs.Walks.{slots, cells_own}
use Rattle.parallel_bridge.specs.contracts.window.cells.Cells.join as F
use Rattle.parallel_bridge.specs.contracts.window.cells.Cells.join.Key.{name as #self}
use Rattle.parallel_bridge.proofs.window.cells.Cells.join.Statement as stated
use Rattle.parallel_bridge.proofs.window.cells.Cells.join.Code as code

module _ (E : El) where
  abbrev here : Fn
  here = inst_fn (args E) code.function

  abbrev ended : Ended
  ended = F.ended E.row

  abbrev stayed : Stays ended.signature.params ended.kept
  stayed = (stay_dropped (plain (λ _. Places E)) no, (stay_dropped (plain (λ _. Places E)) no, tt))

  module _ {M : Type 1} {𝓤 : Ura M} (𝓛 : Logic 𝓤) (at_mem : Memory → SProp 𝓤)
      (run : Routine → Fun 𝓤) (𝓣 : Tables 𝓤 𝓛.H) where
    open 𝓛 use {H}

    abbrev held : Clauses 𝓤 ended
    held = F.clauses E.row 𝓛 at_mem run

    walk : (z : (walk_of 𝓛 ended stayed held).Ghost) → ent 𝓤 ((walk_of 𝓛 ended stayed held).pre z)
        (WpFn 𝓤 H 𝓣.C 𝓣.Λ here ((walk_of 𝓛 ended stayed held).args z)
        ((walk_of 𝓛 ended stayed held).post z))
    walk z =
        let κ = z.0.0.0 in let q = z.0.1.0 in let vss = z.0.4 in
        let Post : Val → SProp 𝓤 = (walk_of 𝓛 ended stayed held).post z in
        let Run : List Val → SProp 𝓤 = λ ws. WpFn 𝓤 H 𝓣.C 𝓣.Λ here ws Post in
        let d : (Places E).Denot = z.0.3.0 in let r : (Places E).Denot = z.0.3.1.0 in
        let cs : List (Place E) = d.slots in let ds : List (Place E) = r.slots in
        let n = length cs in let s = sz E in
        let Asked : Type 0 = (r.at ≡ shifted (R E) d.at n) × FitsInBlock (R E) (n + length ds) in
        qed 𝓛 (((‵ (flft κ q) ⊛ ‵ ftrue) ⊛ ‵ (owns
        (types_at ended.signature.params z.0.0) z.0.3 vss)) ∷ (raw
        (fact 𝓤 (κ ⊑ E.row.lives)) ⊛ raw (fact 𝓤 Asked)) ∷ []) ∵
        move ! (1 ∷ []) $ split ! $ drop ! $ heard ! Asked (λ asked.
        split ! $ split ! $ move ! (2 ∷ []) $ fsplit ! $ fsplit ! $
        mark_had ! E vss.0 (λ e₀. move ! (1 ∷ []) $ fsplit ! $ fsplit ! $
        mark_had ! E vss.1.0 (λ e₁.
        -- [the right places; nothing; the left places; T's token; nothing]
        keep ! (2 ∷ 0 ∷ 3 ∷ []) $
        let us : List Val = mark ∷ mark ∷ [] in
        suffices ! (Run us) (subst (λ (ws : List Val). ent 𝓤 (Run us) (Run ws))
        (sym (λ j. e₀ j ++ (e₁ j ++ []))) (id⊢ 𝓤 (Run us))) $
        enter ! 𝓣.C 𝓣.Λ here us Post $ alloc_all !
        (λ l. pass_all ! refl ((tt, (tt, tt)), ((tt, (tt, tt)), tt)) $
        in_a_block ! d.at (λ p. cells_own (R E) p cs) (id⊢ 𝓤 (never 𝓤))
        (λ b o e. fsplit ! $ drop ! $ move ! (1 ∷ []) $
        rewrite ! 0 (λ (p : Ptr). ‵ (cells_own (R E) p ds)) {x = block_ptr b (n * s + o)}
        (asked.0 ∙ ap (λ (p : Ptr). shifted (R E) p n) e) refl $ fsplit ! $ drop ! $
        move ! (1 ∷ 0 ∷ []) $
        let all : (Places E).Denot = record { mark = record {}; at = d.at; slots = cs ++ ds } in
        use2 𝓛 (‵ (slots (R E) b o all.slots)) (glue E 𝓛 b cs ds o (n * s + o) refl) $
        flt_i ! (length all.slots * s) (2 ^ 63)
        (subst (λ (k : ℕ). k * s < 2 ^ 63) (sym (length-append cs ds)) asked.1.0) $ fjoin ! $
        rewrite ! 0 (λ (p : Ptr). ‵ (cells_own (R E) p all.slots)) (sym e) refl $
        use0 𝓛 (‵ ((Mark E).own_val (tt, tt) (mark ∷ []))) (mark_from E 𝓛) $ fjoin ! $
        sets ! (agg ! (no_more !)) refl (tt, tt) $
        sets ! (agg ! (and_then ! (get ! refl) (no_more !))) refl (tt, (tt, tt)) $
        returns ! (look_at ! 0 refl) $ free_all ! refl $
        suffices ! _ (ends_at 𝓛 ended stayed held z mark all (tt, (tt, tt)) (tt, (tt, tt))) $
        says ! (refl, refl) $
        nothing ! $ nothing ! $ nothing ! $ fjoin3 ! $ move ! (2 ∷ []) $ nothing ! $
        move ! (1 ∷ 0 ∷ []) $ join ! $ keep ! (0 ∷ 1 ∷ 2 ∷ []) $ done !)))))

pub join_spec : {M : Type 1} → stated.statement M
unfolding tables_of
join_spec 𝓤 𝓛 𝓜 𝓡 wired X L =
    let E : El = record { row = X; laws = L } in
    let 𝓣 : Tables 𝓤 𝓛.H = tables_of 𝓤 𝓛.H 𝓜 (tables 𝓤 𝓛.H 𝓜 𝓡 𝓡.env) in
    proved_at 𝓛 (ended E) (stayed E) (F.clauses X 𝓛 𝓜.mem 𝓡.returns) 𝓜 𝓡
    (Goes-blank 𝓛 1 (plain (λ _. Places E)) no (λ κs x f. tt) ⊗
    Goes-blank 𝓛 1 (plain (λ _. Places E)) no (λ κs x f. tt) ⊗ tt)
    (#self (args E)) (here E) (code.unfolded 𝓤 𝓛.H 𝓜 𝓡 wired (X, tt))
    (λ y are. walk E 𝓛 𝓜.mem 𝓡.returns 𝓣 y)

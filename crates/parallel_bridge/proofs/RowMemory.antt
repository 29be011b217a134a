-- The memory of slots: cut and put together, with one taken out and put back, and made of
-- room. Assumes `Logic`.
use Rattle.parallel_bridge.proofs.Walks.{◌≡◌, refl, sym, ap, subst, ℕ, zero, suc, ◌+◌, ◌*◌, ◌<◌, ◌≤◌, arith, zero-mul, suc-mul, List, [], ◌∷◌, ◌++◌, map, length, take, from as drop, set, get_or}
use Rattle.parallel_bridge.proofs.Walks.{replicate, take-append-drop, length-take, Ura, full_share, Ty, ty_array, Val, vstruct, vcons, vnil, of_list, SProp, ent, sep, emp, ex, guard, via, id⊢, mono_r}
use Rattle.parallel_bridge.proofs.Walks.{Fml, ftrue, fsep, fat, froom, Logic, sem, fact, fact_i, Item, Goal, Seq, Step, step, prop, ‵, raw, some, ◌⊛◌, ◌$◌, ◌∵◌, !, qed, by, move, keep, drop as leave}
use Rattle.parallel_bridge.proofs.Walks.{use0, use1, use2, pick, split, check, show, frame, fsplit, fjoin, fpick, fpack, feq_i, feq_l, rewrite, done, RattleType, Valss, param_laws, part_at, Ptr}
use Rattle.parallel_bridge.proofs.Walks.{RawPtr, ptr_val, row, nothing, peeks, Shape, Struct, within, shape, Tuple, tuple_type, Option, Some, None, type_size, El, R, el_x, elτ, Good, word, slot}
use Rattle.parallel_bridge.proofs.Walks.{slots}
use lib.Seq.{drop-cons, set_split}
use denote.Laws.{Typed, Is, shows}
use denote.Shadow.{makes_shadow}
use denote.Struct.Declared as Declared
use borrow.Table.OneValue.{part_in, part_out}
use Rattle.parallel_bridge.specs.contracts.window.cells.Cells as cells
use Rattle.parallel_bridge.specs.contracts.window.cells.Base as begins

-- a pair, for what is said of each parameter in turn
infixr 2 ◌⊗◌
abbrev pub ◌⊗◌ {ℓ κ} : {A : Type ℓ} {B : Type κ} → A → B → A × B
a ⊗ b = (a, b)

module _ (E : El) where
  -- slots side by side
  abbrev pub Places : RattleType
  Places = cells.the_row (R E)

  -- where they begin
  abbrev pub Start : RattleType
  Start = begins.the_row (R E)

  -- the one field of `Cells`, which takes no bytes
  abbrev pub Mark : RattleType
  Mark = Struct (shape (cells.the_type (R E)))

  abbrev pub sz : ℕ
  sz = type_size (R E)

  abbrev pub Place : Type 0
  Place = Option (el_x E)

-- a struct of one pointer
abbrev pub pointer : Shape
pointer = record { name = []; args = []; types = []; fields = RawPtr ∷ [] }

abbrev pub mark : Val
mark = vstruct (vcons (vstruct vnil) vnil)

-- a struct that takes no bytes is made of nothing
pub mark_from : (E : El) {M : Type 1} {𝓤 : Ura M} (𝓛 : Logic 𝓤)
    → ent 𝓤 (emp 𝓤) (sem 𝓛 ((Mark E).own_val (tt, tt) (mark ∷ [])))
mark_from E 𝓛 = makes_shadow 𝓛 ((Mark E).own_val (tt, tt) (mark ∷ []))
    (λ vss. (tt, ((λ uss. (tt, tt)), tt))) ((vstruct vnil ∷ [], tt), (refl, ((tt, (refl, tt)), tt)))

module _ {M : Type 1} {𝓤 : Ura M} {𝓛 : Logic 𝓤} {K : Type 0} {Γ : List (Item 𝓤)} {G : Goal 𝓤 𝓛.H}
  where
    pub start_had : K → (p : Ptr) (vs : List Val) → (vs ≡ word p ∷ [] → Seq K 𝓛 Γ G)
        → Seq K 𝓛 (‵ ((Struct pointer).own_val (p, tt) vs) ∷ Γ) G
    start_had t p vs k = fpick t (λ vss. fsplit t $ feq_l t
        (λ whole. fsplit t $ feq_l t (λ inside. leave t $
        k (subst (λ (ws : List Val). vs ≡ vstruct (of_list (ws ++ [])) ∷ []) inside whole))))

    pub start_made : K → (p : Ptr) → Step K 𝓛
        (‵ ((Struct pointer).own_val (p, tt) (word p ∷ [])) ∷ Γ) G Γ G
    start_made t p = step (λ s.
        nothing t $ feq_i t (List Val) (ptr_val p ∷ []) (ptr_val p ∷ []) refl $ fjoin t $
        feq_i t (List Val) (word p ∷ []) (word p ∷ []) refl $ fjoin t $
        fpack t (Valss (RawPtr ∷ [])) (within pointer (p, tt) (word p ∷ [])) (ptr_val p ∷ [], tt) $
        s)

    pub mark_had : K → (E : El) (vs : List Val) → (vs ≡ mark ∷ [] → Seq K 𝓛 Γ G)
        → Seq K 𝓛 (‵ ((Mark E).own_val (tt, tt) vs) ∷ Γ) G
    mark_had t E vs k = fpick t (λ vss. fsplit t $ feq_l t
        (λ whole. fsplit t $ fpick t (λ uss. fsplit t $ feq_l t (λ inside. leave t $ leave t $
        k (subst (λ (ws : List Val). vs ≡ vstruct (of_list (ws ++ [])) ∷ []) inside whole)))))

module _ {M : Type 1} {𝓤 : Ura M} {𝓛 : Logic 𝓤} {K : Type 0} {Γ : List (Item 𝓤)} where
  -- a goal of a part and two facts: the facts are shown, and the part is left
  pub says_two : K → {φ ψ : Type 0} {P : SProp 𝓤} → φ → ψ
      → Step K 𝓛 Γ (prop P) Γ (prop (sep 𝓤 P (sep 𝓤 (fact 𝓤 φ) (fact 𝓤 ψ))))
  says_two t {φ} {ψ} {P} x y = step (λ s. record {
    prf = via 𝓤 P s.prf (qed 𝓛 (raw P ∷ []) {P = sep 𝓤 P (sep 𝓤 (fact 𝓤 φ) (fact 𝓤 ψ))} (
        frame ! $ use0 𝓛 (raw (fact 𝓤 ψ)) (fact_i 𝓤 ψ (emp 𝓤) y) $
        use0 𝓛 (raw (fact 𝓤 φ)) (fact_i 𝓤 φ (emp 𝓤) x) $ done !));
  })

  -- the same of three facts
  pub says_three : K → {φ ψ χ : Type 0} {P : SProp 𝓤} → φ → ψ → χ
      → Step K 𝓛 Γ (prop P) Γ (prop (sep 𝓤 P (sep 𝓤 (fact 𝓤 φ) (sep 𝓤 (fact 𝓤 ψ) (fact 𝓤 χ)))))
  says_three t {φ} {ψ} {χ} {P} x y z = step (λ s. record {
    prf = via 𝓤 P s.prf (qed 𝓛 (raw P ∷ [])
        {P = sep 𝓤 P (sep 𝓤 (fact 𝓤 φ) (sep 𝓤 (fact 𝓤 ψ) (fact 𝓤 χ)))} (
        frame ! $ use0 𝓛 (raw (fact 𝓤 χ)) (fact_i 𝓤 χ (emp 𝓤) z) $
        use0 𝓛 (raw (fact 𝓤 ψ)) (fact_i 𝓤 ψ (emp 𝓤) y) $
        use0 𝓛 (raw (fact 𝓤 φ)) (fact_i 𝓤 φ (emp 𝓤) x) $ done !));
  })

abbrev pub triple : Val → Val → Val → Val
triple u v w = vstruct (vcons u (vcons v (vcons w vnil)))

pub triple_made : {M : Type 1} {𝓤 : Ura M} (𝓛 : Logic 𝓤) (A B C : RattleType) (x : A.Denot)
    (y : B.Denot) (z : C.Denot) (u v w : Val)
    → ent 𝓤 (sep 𝓤 (sem 𝓛 (A.own_val x (u ∷ [])))
    (sep 𝓤 (sem 𝓛 (B.own_val y (v ∷ []))) (sem 𝓛 (C.own_val z (w ∷ [])))))
    (sem 𝓛 ((Tuple (A ∷ B ∷ C ∷ [])).own_val (x, y, z) (triple u v w ∷ [])))
triple_made 𝓛 A B C x y z u v w =
    qed 𝓛 (‵ (A.own_val x (u ∷ [])) ∷ ‵ (B.own_val y (v ∷ [])) ∷ ‵ (C.own_val z (w ∷ [])) ∷ []) ∵
    nothing ! $ move ! (3 ∷ 0 ∷ []) $ fjoin ! $ move ! (2 ∷ 0 ∷ []) $ fjoin ! $
    move ! (1 ∷ 0 ∷ []) $ fjoin ! $
    feq_i ! (List Val) (triple u v w ∷ []) (triple u v w ∷ []) refl $ fjoin ! $
    fpack ! (Valss (A ∷ B ∷ C ∷ []))
    (within (Declared.shape (tuple_type (A ∷ B ∷ C ∷ []))) (x, (y, (z, tt)))
    (triple u v w ∷ [])) (u ∷ [], (v ∷ [], (w ∷ [], tt))) $ done !

only_one : (τ : Ty) (vs : List Val) → Typed (τ ∷ []) vs → (v : Val) × ((vs ≡ v ∷ []) × Good τ v)
only_one τ [] t = absurd t
only_one τ (v ∷ []) t = (v, (refl, t.0))
only_one τ (v ∷ w ∷ vs) t = absurd t.1

module _ (E : El) {M : Type 1} {𝓤 : Ura M} {𝓛 : Logic 𝓤} {K : Type 0} {Γ : List (Item 𝓤)}
    {G : Goal 𝓤 𝓛.H} where
  -- what is owned of an item is one machine value, of the item's type
  pub item_had : K → (x : el_x E) (vs : List Val)
      → ((v : Val) → vs ≡ v ∷ [] → Good (elτ E) v → Seq K 𝓛 (‵ ((R E).own_val x (v ∷ [])) ∷ Γ) G)
      → Seq K 𝓛 (‵ ((R E).own_val x vs) ∷ Γ) G
  item_had t x vs k = peeks t (R E) (Is (R E)) (shows 𝓛 (R E)) x vs (λ is.
      let one = only_one (elτ E) vs (((param_laws 0 E.row E.laws).lawful 𝓛).typed x vs is) in
      rewrite t 0 (λ (us : List Val). ‵ ((R E).own_val x us)) one.1.0 refl $
      k one.0 one.1.0 one.1.1)

pub has_index : {X : Type 0} (cs : List (Option X)) (i : ℕ) (x : X) → get_or cs i None ≡ Some x
    → i < length cs
has_index [] i x e = cc
has_index (c ∷ cs) zero x e = omega arith
has_index (c ∷ cs) (suc i) x e = omega (arith, has_index cs i x e)

module _ (E : El) {M : Type 1} {𝓤 : Ura M} (𝓛 : Logic 𝓤) (b : ℕ) where
  open 𝓛 use {H}

  abbrev s : ℕ
  s = sz E

  abbrev At : ℕ → List (Place E) → Fml
  At = slots (R E) b

  -- an item in memory is one machine value
  pub item_out : (x : el_x E) (o : ℕ) → ent 𝓤 (sem 𝓛 (slot (R E) b o (Some x)))
      (ex 𝓤 (λ (v : Val). guard 𝓤 (Good (elτ E) v)
      (sep 𝓤 (H.at full_share (elτ E) b o v) (sem 𝓛 ((R E).own_val x (v ∷ []))))))
  item_out x o = qed 𝓛 (‵ (slot (R E) b o (Some x)) ∷ []) ∵
      use1 𝓛 (some (λ (v : Val). ‵ (fat full_share (elτ E) b o v) ⊛ ‵ ((R E).own_val x (v ∷ []))))
      (part_out 𝓛 (R E) refl full_share x b o) $ pick ! (λ v. split ! $ move ! (1 ∷ []) $
      peeks ! (R E) (Is (R E)) (shows 𝓛 (R E)) x (v ∷ []) (λ is.
      show ! (λ (u : Val). guard 𝓤 (Good (elτ E) u)
      (sep 𝓤 (H.at full_share (elτ E) b o u) (sem 𝓛 ((R E).own_val x (u ∷ []))))) v $
      check ! (((param_laws 0 E.row E.laws).lawful 𝓛).typed x (v ∷ []) is).0 $
      move ! (1 ∷ 0 ∷ []) $ done !))

  pub item_in : (x : el_x E) (o : ℕ) (v : Val)
      → ent 𝓤 (sep 𝓤 (H.at full_share (elτ E) b o v) (sem 𝓛 ((R E).own_val x (v ∷ []))))
      (sem 𝓛 (slot (R E) b o (Some x)))
  item_in x o v = part_in 𝓛 (R E) refl full_share x b o v

  -- slots are cut in two, and two that are neighbours are put together
  pub cut : (xs ys : List (Place E)) (o at : ℕ) → at ≡ length xs * s + o
      → ent 𝓤 (sem 𝓛 (At o (xs ++ ys))) (sep 𝓤 (sem 𝓛 (At o xs)) (sem 𝓛 (At at ys)))
  cut [] ys o at e = qed 𝓛 (‵ (At o ys) ∷ []) ∵ rewrite ! 0 (λ (k : ℕ). ‵ (At k ys)) {x = at}
      (omega (arith, zero-mul s)) refl $ nothing ! $ done !
  cut (x ∷ xs) ys o at e =
      let onward : at ≡ suc (length xs) * s + o = e in
      qed 𝓛 (‵ (At o (x ∷ xs ++ ys)) ∷ []) ∵ fsplit ! $ move ! (1 ∷ []) $
      use1 𝓛 (‵ (At (o + s) xs) ⊛ ‵ (At at ys))
      (cut xs ys (o + s) at (omega (arith, suc-mul (length xs) s))) $ split ! $
      move ! (2 ∷ 0 ∷ []) $ fjoin ! $ done !

  pub glue : (xs ys : List (Place E)) (o at : ℕ) → at ≡ length xs * s + o
      → ent 𝓤 (sep 𝓤 (sem 𝓛 (At o xs)) (sem 𝓛 (At at ys))) (sem 𝓛 (At o (xs ++ ys)))
  glue [] ys o at e = qed 𝓛 (‵ ftrue ∷ ‵ (At at ys) ∷ []) ∵ leave ! $
      rewrite ! 0 (λ (k : ℕ). ‵ (At k ys)) {x = o} (omega (arith, zero-mul s)) refl $ done !
  glue (x ∷ xs) ys o at e =
      let onward : at ≡ suc (length xs) * s + o = e in
      qed 𝓛 (‵ (At o (x ∷ xs)) ∷ ‵ (At at ys) ∷ []) ∵ fsplit ! $ move ! (1 ∷ 2 ∷ []) $
      use2 𝓛 (‵ (At (o + s) (xs ++ ys)))
      (glue xs ys (o + s) at (omega (arith, suc-mul (length xs) s))) $ move ! (1 ∷ 0 ∷ []) $
      fjoin ! $ done !

  module _ (o : ℕ) (cs : List (Place E)) (i : ℕ) where
    middle : i ≤ length cs → i * s + o ≡ length (take i cs) * s + o
    middle le =
        let long : i ≡ length (take i cs) = omega (arith, length-take i cs) in
        ap (λ k. k * s + o) long

    -- slots are cut at an index
    pub cut_at : i ≤ length cs → ent 𝓤 (sem 𝓛 (At o cs))
        (sep 𝓤 (sem 𝓛 (At o (take i cs))) (sem 𝓛 (At (i * s + o) (drop i cs))))
    cut_at le = qed 𝓛 (‵ (At o cs) ∷ []) ∵ rewrite ! 0 (λ (l : List (Place E)). ‵ (At o l))
        (sym (take-append-drop i cs)) refl $
        by ! (cut (take i cs) (drop i cs) o (i * s + o) (middle le))

    -- all slots but the i-th
    abbrev pub Others : Fml
    Others = fsep (At o (take i cs)) (At (i * s + o + s) (drop (suc i) cs))

    pub place_out : i < length cs → ent 𝓤 (sem 𝓛 (At o cs))
        (sep 𝓤 (sem 𝓛 (slot (R E) b (i * s + o) (get_or cs i None))) (sem 𝓛 Others))
    place_out lt = qed 𝓛 (‵ (At o cs) ∷ []) ∵
        use1 𝓛 (‵ (At o (take i cs)) ⊛ ‵ (At (i * s + o) (drop i cs))) (cut_at (omega arith)) $
        split ! $ move ! (1 ∷ []) $
        rewrite ! 0 (λ (l : List (Place E)). ‵ (At (i * s + o) l)) (drop-cons cs i None lt) refl $
        fsplit ! $ move ! (2 ∷ 1 ∷ []) $ fjoin ! $ move ! (1 ∷ []) $ done !

    pub place_in : i < length cs → (c : Place E)
        → ent 𝓤 (sep 𝓤 (sem 𝓛 (slot (R E) b (i * s + o) c)) (sem 𝓛 Others))
        (sem 𝓛 (At o (set cs i c)))
    place_in lt c = qed 𝓛 (‵ (slot (R E) b (i * s + o) c) ∷ ‵ Others ∷ []) ∵ move ! (1 ∷ []) $
        fsplit ! $ move ! (2 ∷ 1 ∷ []) $ fjoin ! $ move ! (1 ∷ 0 ∷ []) $
        use2 𝓛 (‵ (At o (take i cs ++ c ∷ drop (suc i) cs)))
        (glue (take i cs) (c ∷ drop (suc i) cs) o (i * s + o) (middle (omega arith))) $
        rewrite ! 0 (λ (l : List (Place E)). ‵ (At o l)) (sym (set_split cs i c lt)) refl $ done !

  -- items side by side are full slots
  pub of_items : (xs : List (el_x E)) (o : ℕ)
      → ent 𝓤 (sem 𝓛 (row (R E) full_share xs b o)) (sem 𝓛 (At o (map Some xs)))
  of_items [] o = id⊢ 𝓤 (emp 𝓤)
  of_items (x ∷ xs) o = mono_r 𝓤 (sem 𝓛 (part_at (R E) full_share x b o)) (of_items xs (o + s))

  pub to_items : (xs : List (el_x E)) (o : ℕ)
      → ent 𝓤 (sem 𝓛 (At o (map Some xs))) (sem 𝓛 (row (R E) full_share xs b o))
  to_items [] o = id⊢ 𝓤 (emp 𝓤)
  to_items (x ∷ xs) o = mono_r 𝓤 (sem 𝓛 (part_at (R E) full_share x b o)) (to_items xs (o + s))

  -- room for an array is empty slots
  pub of_room : (n o : ℕ) → ent 𝓤 (H.room (ty_array (elτ E) n) b o)
      (sem 𝓛 (At o (replicate n None)))
  of_room zero o = qed 𝓛 (‵ (froom (ty_array (elτ E) 0) b o) ∷ []) ∵ keep ! [] $ done !
  of_room (suc n) o = qed 𝓛 (‵ (froom (ty_array (elτ E) (suc n)) b o) ∷ []) ∵
      use1 𝓛 (‵ (froom (elτ E) b o) ⊛ ‵ (froom (ty_array (elτ E) n) b (o + s)))
      (𝓛.laws.room_uncons (elτ E) n b o) $ split ! $
      use1 𝓛 (‵ (slot (R E) b o None)) (𝓛.laws.room-raw (elτ E) b o) $ frame ! $
      by ! (of_room n (o + s))

  pub to_room : (n o : ℕ) → ent 𝓤 (sem 𝓛 (At o (replicate n None)))
      (H.room (ty_array (elτ E) n) b o)
  to_room zero o = 𝓛.laws.room_nil (elτ E) b o
  to_room (suc n) o = qed 𝓛 (‵ (slot (R E) b o None) ∷ ‵ (At (o + s) (replicate n None)) ∷ []) ∵
      use1 𝓛 (‵ (froom (elτ E) b o)) (𝓛.laws.raw-room (elτ E) b o) $ move ! (1 ∷ []) $
      use1 𝓛 (‵ (froom (ty_array (elτ E) n) b (o + s))) (to_room n (o + s)) $ move ! (1 ∷ []) $
      by ! (𝓛.laws.room_cons (elτ E) n b o)

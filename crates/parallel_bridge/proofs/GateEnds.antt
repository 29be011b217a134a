-- Who stands for all seats of a gate knows of all that was told.
use Rattle.parallel_bridge.proofs.Common.{◌≡◌, ℕ, ◌+◌, ◌≤◌, ◌<◌, ◌⊎◌, List, [], ◌∷◌, ◌++◌, All, Contains, length, set, sum_by, sym, ap, subst, ◌∙◌, ⊎_elim, inl, inr, arith, All-head, All-weaker}
use Rattle.parallel_bridge.proofs.Common.{All-contains_itself, Contains-append_left, Contains-append_cases, Contains-push, Contains-push_cases, sum_by_push, some}
use Rattle.parallel_bridge.proofs.Common.{some-injective, get_elem?, dite, ℕ_discrete, set_else, GateView, GateSeat, greatest, newcomer, gathered, WasTold, KeepsGate, IsGateOf, known}
use Rattle.parallel_bridge.proofs.Common.{stands_for, ToldByOne, IsAtMost}
use Rattle.parallel_bridge.proofs.Laws.{all_left, all_right}
use Rattle.parallel_bridge.proofs.GateSteps.{held, held_set, one_of}

-- the word, seen by who stands for all seats
pub final_told : (n word : ℕ) (views : List GateView) (id : ℕ) (v : GateView)
    → KeepsGate n word views → get_elem? views id ≡ some v → v.seats ≡ n
    → (word ≡ greatest) ⊎ Contains v.told word
final_told n word views id v kept at all = ⊎_elim (λ (e : word ≡ greatest). inl e)
    (λ (t : WasTold word views). inr (own t))
    kept.source
  where
    own : WasTold word views → Contains v.told word
    own (by, u, here, has) = dite (ℕ_discrete by id)
        (λ e. subst (λ (x : GateView). Contains x.told word)
        (some-injective u v (sym here ∙ ap (get_elem? views) e ∙ at)) has)
        (λ ne. let emptied : List GateView = set views id (newcomer 0) in
        let others : held emptied ≡ 0 =
        omega (arith, held_set views id v (newcomer 0) at, kept.seats, all) in
        let less : u.seats ≤ held emptied =
        one_of emptied by u (set_else views id by (newcomer 0) ne ∙ here) in
        let none : u.told ≡ [] = (kept.fits by u here).idle (omega arith) in
        absurd (omega (arith, (subst (λ l. Contains l word) none has).1)))

-- the word that a gate is closed with is one that keeps the rule
pub final_keeps : (n result : ℕ) {words ws : List ℕ} {views : List GateView}
    → IsGateOf n words views → words ≡ ws → get_elem? ws 0 ≡ some result → KeepsGate n result views
final_keeps n result {views = views} h are is =
    let e : some h.0 ≡ some result =
    ap (λ l. get_elem? l 0) (sym h.1) ∙ ap (λ l. get_elem? l 0) are ∙ is in
    subst (λ k. KeepsGate n k views) (some-injective h.0 result e) h.2

-- whoever saw a word less than its start has a start greater than the word at the end, which was
-- told
pub final_stopped : (word start : ℕ) (v : GateView) → (word ≡ greatest) ⊎ Contains v.told word
    → IsAtMost word v → start ≤ greatest → v.least < start → (word < start) × Contains v.told word
final_stopped word start v told at_most small less = ⊎_elim
    (λ (e : word ≡ greatest). absurd (omega (arith, at_most.1)))
    (λ (has : Contains v.told word). (omega (arith, at_most.1), has))
    told

-- ---- one seat that takes in the others, one after another

-- it has what the others have, but for those that are left
pub record Gathering (view : GateView) (rest all : List GateSeat) : Type 0 where
  pub seats : view.seats + sum_by stands_for rest ≡ sum_by stands_for all
  pub told : (start : ℕ) → Contains view.told start → ToldByOne all start
  pub at_most : (word : ℕ) → IsAtMost word view → (seat : GateSeat) → Contains all seat
      → Contains rest seat ⊎ IsAtMost word (known seat)

-- the last seat of a list, at the beginning
pub gathers_one : (rest all : List GateSeat) (x : GateSeat) → all ≡ rest ++ x ∷ []
    → Gathering (known x) rest all
gathers_one rest all x e = subst (Gathering (known x) rest) (sym e)
    (record {
      seats = omega (arith, sum_by_push stands_for rest x);
      told = λ start has. (x, Contains-push rest x, has);
      at_most = λ word h seat within. ⊎_elim (λ before. inl before)
          (λ same. inr (subst (λ s. IsAtMost word (known s)) same h))
          (Contains-push_cases rest x seat within);
    })

-- the last seat that is left is taken in
pub gathers_more : (view : GateView) (old rest all : List GateSeat) (x : GateSeat)
    → Gathering view old all → Contains all x → old ≡ rest ++ x ∷ []
    → Gathering (gathered view (known x)) rest all
gathers_more view old rest all x has one e = record {
  seats = omega (arith, has.seats, ap (sum_by stands_for) e, sum_by_push stands_for rest x);
  told = λ start within. ⊎_elim (λ left. has.told start left) (λ right. (x, one, right))
      (Contains-append_cases view.told (known x).told start within);
  at_most = λ word h seat within.
      let left : IsAtMost word view =
      (all_left (λ start. word ≤ start) view.told (known x).told h.0, omega (arith, h.1)) in
      let right : IsAtMost word (known x) =
      (all_right (λ start. word ≤ start) view.told (known x).told h.0, omega (arith, h.1)) in
      ⊎_elim (λ still. ⊎_elim (λ before. inl before)
      (λ same. inr (subst (λ s. IsAtMost word (known s)) same right))
      (Contains-push_cases rest x seat (subst (λ l. Contains l seat) e still))) (λ done. inr done)
      (has.at_most word left seat within);
}

-- a fact of all seats is one of those that are left, and of the last
pub all_before : (P : GateSeat → Type 0) (old rest : List GateSeat) (x : GateSeat)
    → old ≡ rest ++ x ∷ [] → All P old → All P rest × P x
all_before P old rest x e all =
    let each = subst (All P) e all in
    (all_left P rest (x ∷ []) each, All-head P x [] (all_right P rest (x ∷ []) each))

-- of those that are left, each is one of all
pub still_within : (old rest all : List GateSeat) (x : GateSeat) → old ≡ rest ++ x ∷ []
    → ((seat : GateSeat) → Contains old seat → Contains all seat)
    → ((seat : GateSeat) → Contains rest seat → Contains all seat) × Contains all x
still_within old rest all x e within =
    let each : (seat : GateSeat) → Contains (rest ++ x ∷ []) seat → Contains all seat =
    subst (λ l. (seat : GateSeat) → Contains l seat → Contains all seat) e within in (
      λ seat h. each seat (Contains-append_left rest (x ∷ []) seat h),
      each x (Contains-push rest x),
    )

-- where none is left, the one knows of all
pub gathers_all : (view : GateView) (rest all : List GateSeat) → Gathering view rest all
    → length rest ≡ 0 → (word : ℕ) → IsAtMost word view
    → All (λ seat. IsAtMost word (known seat)) all
gathers_all view rest all has none word h = All-weaker (Contains all)
    (λ seat. IsAtMost word (known seat)) (λ seat within. ⊎_elim
    (λ (left : Contains rest seat). let far = left.1 in absurd (omega arith))
    (λ (done : IsAtMost word (known seat)). done)
    (has.at_most word h seat within)) all (All-contains_itself all)

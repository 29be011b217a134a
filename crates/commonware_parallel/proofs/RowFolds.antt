-- A kernel by row: what it gives of a row's parts is folded, however the rows were cut.
use Rattle.commonware_parallel.proofs.Common.{◌≡◌, ℕ, zero, suc, ◌+◌, ◌<◌, ◌≤◌, Bool, List, [], ◌∷◌, ◌++◌, All, Option, Some, None, refl, sym, ap, subst, ◌∙◌, map-append, arith, MutBor, Range, Stretch, AllZip, range_with_len}
use Rattle.commonware_parallel.proofs.Common.{All-nil, All-cons, All-head, All-tail, Fills, Filled, Gives, Names, no_fill, last_fill, Finished, IsStretch, Chains, no_chain, more_chains}
use Rattle.commonware_parallel.proofs.Common.{FillsSome, FillsStretches, Joins, MergesRows, results_in, stretches_in}
use Rattle.commonware_parallel.proofs.RowLaws.{All-back, All-front, merged_hold}
use Rattle.commonware_parallel.specs.RowFolds.{EndsFold, FoldsColumns, FoldsOn, FoldsRows, GivesRows, IsAdditive, columns_between, of_both, of_columns}
use Rattle.parallel_bridge.proofs.Shapes.{MapOf-append}

-- chains whose results name their stretches
module _ {T R : Type 0} (init : T → Type 0) (fill : T → ℕ → Range ℕ → T → Type 0)
    (ends : T → Stretch → R → T → Type 0)
    (called : MutBor T → Stretch → (Stretch × R) → MutBor T → Type 0)
    (named : (p q : MutBor T) (x : Stretch) (part : Stretch × R) → called p x part q
    → Names ends p.now x part q.now) where
  -- one call
  once : (s t : T) (x : Stretch) (part : Stretch × R) → Gives called s x part t
      → Names ends s x part t
  once s t x part (p, q, from, does, to) =
      subst (λ v. Names ends s x part v) to
      (subst (λ v. Names ends v x part q.now) from (named p q x part does))

  -- a chain
  chain_named : (s : T) (xs : List Stretch) (parts : List (Stretch × R)) (t : T)
      → Finished fill (Gives called) s xs parts t
      → (stretches_in parts ≡ xs) × Finished fill ends s xs (results_in parts) t
  chain_named s [] [] t same = (refl, same)
  chain_named s [] (part ∷ parts) t wrong = absurd wrong
  chain_named s (x ∷ xs) [] t wrong = absurd wrong
  chain_named s (x ∷ xs) (part ∷ parts) t (u, (v, filled, one), later) =
      let here = once v u x part one in
      let rest = chain_named u xs parts t later in (
        ap (λ y. y ∷ stretches_in parts) here.0 ∙ ap (λ ys. x ∷ ys) rest.0,
        (u, (v, filled, here.1), rest.1),
      )

  -- and so along all chains
  chains_named : {xs : List Stretch} {parts : List (Stretch × R)}
      → Chains init fill (Gives called) xs parts
      → (stretches_in parts ≡ xs) × Chains init fill ends xs (results_in parts)
  chains_named no_chain = (refl, no_chain)
  chains_named (more_chains s t xs more parts rest split joined begun done later) =
      let here = chain_named s xs parts t done in
      let there = chains_named later in (
        ap stretches_in joined ∙ map-append (λ (p : Stretch × R). p.0) parts rest
            ∙ ap (λ l. l ++ stretches_in rest) here.0 ∙ ap (λ l. xs ++ l) there.0 ∙ sym split,
        more_chains s t xs more (results_in parts) (results_in rest) split
            (ap results_in joined ∙ map-append (λ (p : Stretch × R). p.1) parts rest) begun here.1
            there.1,
      )

  -- what cuts the grid are the stretches that the results name
  pub parts_named : (rows len : ℕ) (whole : Bool) (parts : List (Stretch × R))
      → FillsSome init fill (Gives called) rows len whole parts
      → FillsStretches init fill ends rows len whole (stretches_in parts) (results_in parts)
  parts_named rows len whole parts (cut, (cuts, rows_whole, chains)) =
      let all = chains_named chains in
      subst (λ l. FillsStretches init fill ends rows len whole l (results_in parts)) (sym all.0)
      (cuts, rows_whole, all.1)

-- a stretch of the grid
abbrev Within : ℕ → ℕ → Stretch → Type 0
Within rows len s = (s.row < rows) × IsStretch len s

-- a value for each number, of which less is known
each_number : {R : Type 0} (P Q : ℕ → R → Type 0) (a n : ℕ) (values : List R)
    → ((k : ℕ) (v : R) → k < a + n → P k v → Q k v) → AllZip P (range_with_len a n) values
    → AllZip Q (range_with_len a n) values
each_number P Q a zero [] less h = tt
each_number P Q a zero (v ∷ vs) less h = absurd h
each_number P Q a (suc n) [] less h = absurd h
each_number P Q a (suc n) (v ∷ vs) less h = (
  less a v (omega arith) h.0,
  each_number P Q (a + 1) n vs (λ k w below. less k w (omega (arith, below))) h.1,
)

module _ {R : Type 0} (kernel : ℕ → Range ℕ → R → Type 0) (merge : R → R → R → Type 0) where
  -- what came so far of a stretch, which is something once it has columns
  abbrev Open : ℕ → ℕ → ℕ → Option R → Type 0
  Open row a b None = a ≡ b
  Open row a b (Some value) = (a < b) × FoldsColumns kernel merge row a b value

  -- the result of a stretch is folded of its columns
  abbrev Folds : Stretch → R → Type 0
  Folds s value = FoldsColumns kernel merge s.row s.columns.start s.columns.end value

  abbrev IsFolded : Stretch × R → Type 0
  IsFolded part = Folds part.0 part.1

  -- columns more
  goes_on : (row a m b : ℕ) (before : Option R) (next value : R) (after : Option R) → m < b
      → Open row a m before → kernel row (columns_between m b) next
      → Joins merge before next value → after ≡ Some value → Open row a b after
  goes_on row a m b None next value after more same gave joined is =
      let one : FoldsColumns kernel merge row m b next = of_columns m b next gave in
      subst (Open row a b) (sym is) (
        omega (arith, same, more),
        subst (FoldsColumns kernel merge row a b) (sym joined)
            (subst (λ k. FoldsColumns kernel merge row k b next) (sym same) one),
      )
  goes_on row a m b (Some so_far) next value after more so gave joined is =
      subst (Open row a b) (sym is) (
        omega (arith, so.0, more),
        of_both a m b so_far next value so.0 more so.1 (of_columns m b next gave) joined,
      )

  -- the stretch ends
  ended : (x : Stretch) (before : Option R) (value : R) (after : Option R)
      → x.columns.start < x.columns.end → Open x.row x.columns.start x.columns.end before
      → EndsFold before x value after → Folds x value × (after ≡ None)
  ended x None value after some same end = absurd (omega (arith, some, same))
  ended x (Some so_far) value after some so end =
      (subst (FoldsColumns kernel merge x.row x.columns.start x.columns.end) (sym end.0) so.1, end.1)

  each : (parts : List (Stretch × R)) → AllZip Folds (stretches_in parts) (results_in parts)
      → All IsFolded parts
  each [] h = All-nil IsFolded
  each (p ∷ parts) h = All-cons IsFolded p parts h.0 (each parts h.1)

  module _ (fill : MutBor (Option R) → ℕ → Range ℕ → Unit {0} → MutBor (Option R) → Type 0)
      (fills : (p q : MutBor (Option R)) (row : ℕ) (columns : Range ℕ) → fill p row columns tt q
      → FoldsOn kernel merge p.now row columns q.now) (rows len : ℕ) where
    filled : {row : ℕ} {s t : Option R} {a b : ℕ} → Filled (Fills fill) row s a b t → s ≡ None
        → Open row a b t
    filled {row} (no_fill s t a b same met) fresh =
        subst (Open row a b) same (subst (Open row a b) (sym fresh) met)
    filled {row} (last_fill s u t a m b before more (p, q, from, does, to)) fresh =
        let on = fills p q row (record { start = m; end = b }) does in
        subst (Open row a b) to
        (goes_on row a m b p.now on.0 on.1 q.now more
        (subst (Open row a m) (sym from) (filled before fresh)) on.2 on.3 on.4)

    finished : (s : Option R) (xs : List Stretch) (rs : List R) (t : Option R) → s ≡ None
        → All (Within rows len) xs → Finished (Fills fill) EndsFold s xs rs t → AllZip Folds xs rs
    finished s [] [] t fresh all h = tt
    finished s [] (r ∷ rs) t fresh all h = absurd h
    finished s (x ∷ xs) [] t fresh all h = absurd h
    finished s (x ∷ xs) (r ∷ rs) t fresh all (u, (v, one, gave), later) =
        let is = All-head (Within rows len) x xs all in
        let end = ended x v r u is.1.0 (filled one fresh) gave in
        (end.0, finished u xs rs t end.1 (All-tail (Within rows len) x xs all) later)

    chained : {cut : List Stretch} {results : List R}
        → Chains (λ s. s ≡ None) (Fills fill) EndsFold cut results → All (Within rows len) cut
        → AllZip Folds cut results
    chained no_chain all = tt
    chained {cut} {results} (more_chains s t xs more rs rest split joined begun done later) all =
        let stretches = subst (All (Within rows len)) split all in
        rw (split, joined) (MapOf-append Folds xs more rs rest
        (finished s xs rs t begun (All-front (Within rows len) xs more stretches) done)
        (chained later (All-back (Within rows len) xs more stretches)))

    -- the values that tiles give, where the state is what came so far of a row
    pub rows_folded : (whole : Bool) (parts : List (Stretch × R)) (values : List R)
        → FillsStretches (λ s. s ≡ None) (Fills fill) EndsFold rows len whole (stretches_in parts)
        (results_in parts) → MergesRows merge rows len parts values
        → FoldsRows kernel merge rows len values
    rows_folded whole parts values (cuts, stays, chains) merged =
        merged_hold merge rows len (FoldsColumns kernel merge)
        (λ row a b c left right value there low high below one two is. of_both a b c left right value
        low high one two is) parts values (each parts (chained chains cuts.within)) merged

  -- rows of no columns have what the kernel gives of none
  pub folds_nothing : (rows len : ℕ) (values : List R) → len ≡ 0 → GivesRows kernel rows 0 values
      → FoldsRows kernel merge rows len values
  folds_nothing rows len values none gave =
      subst (λ n. FoldsRows kernel merge rows n values) (sym none)
      (each_number (λ k v. kernel k (columns_between 0 0) v)
      (λ k v. FoldsColumns kernel merge k 0 0 v) 0 rows values
      (λ k v below one. of_columns 0 0 v one) gave)

  module _ (rows len : ℕ) (additive : IsAdditive kernel merge rows len) where
    -- what is folded of columns is a value of them
    of_all : {row a b : ℕ} {value : R} → FoldsColumns kernel merge row a b value → row < rows
        → b ≤ len → kernel row (columns_between a b) value
    of_all (of_columns a b value gave) there within = gave
    of_all {row} (of_both a m b left right value low high one two merged) there within =
        additive row a m b left right value there low high within
        (of_all one there (omega (arith, high, within))) (of_all two there within) merged

    pub whole_rows_given : (values : List R) → FoldsRows kernel merge rows len values
        → GivesRows kernel rows len values
    whole_rows_given values folds =
        each_number (λ k v. FoldsColumns kernel merge k 0 len v)
        (λ k v. kernel k (columns_between 0 len) v) 0 rows values
        (λ k v below one. of_all one (omega (arith, below)) (omega arith)) folds

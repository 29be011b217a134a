-- What the bridge gives along a list's shape, by the consumers that are driven along it.
use Rattle.parallel_bridge.proofs.Common.{◌≡◌, ℕ, List, [], ◌∷◌, ◌++◌, Result, Ok, Err, Option, IfOk, sym, subst, inl, inr, Trouble, Fault, FoldSegment, Cut, segment, halves, cut_items, Shape}
use Rattle.parallel_bridge.proofs.Common.{AlongLeaves, UnlessRefused, TryAlongCut, TryAlongLeaves, TryFoldSegment, TryReducedSegment, ReducesTo, OnlyOk, PartitionOf, Vec, Global, ◌∙◌}
use Rattle.parallel_bridge.proofs.Shapes.{Shape-items}
use Rattle.parallel_bridge.proofs.TryShapes.{try_along_wider}
use Rattle.parallel_bridge.proofs.FoldersAppend.{PartitionOf-append}

-- of a result that is handed on holds what follows from what is said of the outcome
pub driven : {R E : Type 0} (answer : Result R (Trouble E)) (result : Result R Fault)
    (P : Result R E → Type 0) (Q : R → Type 0) → ((r : R) → P (Ok r) → Q r)
    → IfOk result (λ r. answer ≡ Ok r) → UnlessRefused answer P → IfOk result Q
driven answer (Ok r) P Q f same h = f r (subst (λ a. UnlessRefused a P) same h)
driven answer (Err f) P Q g same h = tt

-- what holds of values and keys holds of lists that have them
pub parted : {U K : Type 0} (result : Result (Vec U Global × Vec K Global) Fault) (us : List U)
    (ks : List K) (P : List U → List K → Type 0) → P us ks → IfOk result (λ r. r.0.items ≡ us)
    → IfOk result (λ r. r.1.items ≡ ks) → IfOk result (λ r. P r.0.items r.1.items)
parted (Ok r) us ks P h at_us at_ks =
    subst (λ l. P l r.1.items) (sym at_us) (subst (λ l. P us l) (sym at_ks) h)
parted (Err f) us ks P h at_us at_ks = tt

-- the value of a segment is reduced after an identity
module _ {X R : Type 0} (E : Type 0) (identity : R → Type 0) (allowed : List X → R → Type 0)
    (reduce : R → R → R → Type 0) (has : R → Type 0) where
  pub fold_driven : (cut : Cut X) (r : R) → TryAlongCut {E = E} (λ l out. (b : R) × allowed l b
      × OnlyOk (λ v. FoldSegment identity reduce (b ∷ []) v × has v) out)
      (λ a b out. OnlyOk (λ v. reduce a b v × has v) out) cut (Ok r)
      → AlongLeaves identity allowed reduce cut r
  fold_driven (segment xs) r (b, h, ((e, first, (m, one, last)), k)) =
      (e, b, first, h, subst (reduce e b) last one)
  fold_driven (halves p q) r (inl (a, b, h, i, n)) =
      (a, b, fold_driven p a h, fold_driven q b i, n.0)
  fold_driven (halves p q) r (inr (inl (e, same, h))) = absurd (cc same)
  fold_driven (halves p q) r (inr (inr (a, e, same, h, i))) = absurd (cc same)

module _ {X R E : Type 0} (identity : R → Type 0) (allowed : List X → Result R E → Type 0)
    (reduce : R → R → R → Type 0) (has : R → Type 0) where
  reduced : (a b : R) (out : Result R E) → OnlyOk (λ v. reduce a b v × has v) out
      → OnlyOk (reduce a b) out
  reduced a b (Ok r) h = h.0
  reduced a b (Err e) never = absurd never

  -- so is the value of a segment whose steps may fail, and an error stands
  try_reduced : (xs : List X) (v out : Result R E) → allowed xs v
      → TryFoldSegment identity (ReducesTo reduce) (v ∷ []) out
      → TryReducedSegment identity allowed reduce xs out
  try_reduced xs (Ok b) out h (e, first, inl (m, (r, is, one), last)) =
      subst (TryReducedSegment identity allowed reduce xs) (sym (last ∙ is)) (e, b, first, h, one)
  try_reduced xs (Ok b) out h (e, first, inr (x, (r, is, one), last)) = absurd (cc is)
  try_reduced xs (Err x) out h (e, first, inl (m, is, last)) = absurd (cc is)
  try_reduced xs (Err x) out h (e, first, inr (y, is, last)) =
      subst (TryReducedSegment identity allowed reduce xs) (sym (last ∙ is)) h

  pub try_fold_driven : (cut : Cut X) (out : Result R E)
      → TryAlongCut (λ l o. (v : Result R E) × allowed l v
      × (TryFoldSegment identity (ReducesTo reduce) (v ∷ []) o × IfOk o has))
      (λ a b. OnlyOk (λ v. reduce a b v × has v)) cut out
      → TryAlongLeaves identity allowed reduce cut out
  try_fold_driven cut out h = try_along_wider
      (λ l o. (v : Result R E) × allowed l v
      × (TryFoldSegment identity (ReducesTo reduce) (v ∷ []) o × IfOk o has))
      (TryReducedSegment identity allowed reduce) (λ a b. OnlyOk (λ v. reduce a b v × has v))
      (λ a b. OnlyOk (reduce a b))
      (λ xs o (v, i, (n, k)). try_reduced xs v o i n) reduced cut out h

module _ {X K U V : Type 0} (E : Type 0) (values : V → List U) (keys : V → List K)
    (allowed : X → (K × Option U) → Type 0) where
  abbrev PartedAlong : Cut X → Result V E → Type 0
  PartedAlong cut out =
      TryAlongCut {E = E} (λ l o. OnlyOk (λ v. PartitionOf allowed l (values v) (keys v)) o)
      (λ a b o. OnlyOk (λ c. (values c ≡ values a ++ values b) × (keys c ≡ keys a ++ keys b)) o)
      cut out

  -- the values and the keys of two parts one after another
  partition_driven : (cut : Cut X) (r : V) → PartedAlong cut (Ok r)
      → PartitionOf allowed (cut_items cut) (values r) (keys r)
  partition_driven (segment xs) r h = h
  partition_driven (halves p q) r (inl (a, b, h, i, n)) =
      rw n.0 (rw n.1 (PartitionOf-append allowed (cut_items p) (cut_items q) (values a) (values b)
      (keys a) (keys b) (partition_driven p a h) (partition_driven q b i)))
  partition_driven (halves p q) r (inr (inl (e, same, h))) = absurd (cc same)
  partition_driven (halves p q) r (inr (inr (a, e, same, h, i))) = absurd (cc same)

  pub partition_shape : (k : ℕ) (xs : List X) (r : V) → PartedAlong (Shape k xs) (Ok r)
      → PartitionOf allowed xs (values r) (keys r)
  partition_shape k xs r h = subst (λ l. PartitionOf allowed l (values r) (keys r))
      (Shape-items k xs) (partition_driven (Shape k xs) r h)

-- A request that words say is in its ranges.
use Rattle.shapes_command.proofs.Common.{◌≡◌, ◌≤◌, ◌⊎◌, ℕ, List, String, Global, Option, None, Some, MatchOption, inl, inr, sym, subst, Says, AreItems, IsInRange}
use Rattle.std.specs.Option.{option_or}
use Rattle.shapes_command.specs.declared.request.Request.{Request}
use Rattle.shapes_command.specs.declared.request.Request.TheVariants.{Drain, Batches, Grid, Segments, Fold, FoldParallel, Threads, Mix, ExploreSum, Root}

pub in_range : (words : List (String Global)) (request : Request) → Says words request
    → IsInRange request
in_range words (Drain _ _) says = tt
in_range words (Batches _ _) says = tt
in_range words (Grid _ _ _) says = tt
in_range words (Segments _ _) says = tt
in_range words (Fold identity items) (inl (_, none)) = absurd none
in_range words (Fold identity items) (inr (inl (inl none))) = absurd none
in_range words (Fold identity items) (inr (inl (inr (inl none)))) = absurd none
in_range words (Fold identity items) (inr (inl (inr (inr none)))) = absurd none
in_range words (Fold identity items) (inr (inr (inl (inl none)))) = absurd none
in_range words (Fold identity items) (inr (inr (inl (inr (inl (line, same, rest)))))) =
    (subst (λ (n : ℕ). n ≤ 1000000) (sym same) line.3.1, subst AreItems (sym rest) line.4)
in_range words (Fold identity items) (inr (inr (inl (inr (inr none))))) = absurd none
in_range words (Fold identity items) (inr (inr (inr (inl none)))) = absurd none
in_range words (Fold identity items) (inr (inr (inr (inr (inl none))))) = absurd none
in_range words (Fold identity items) (inr (inr (inr (inr (inr (inl none)))))) = absurd none
in_range words (Fold identity items) (inr (inr (inr (inr (inr (inr none)))))) = absurd none
in_range words (FoldParallel identity items) (inl (_, none)) = absurd none
in_range words (FoldParallel identity items) (inr (inl (inl none))) = absurd none
in_range words (FoldParallel identity items) (inr (inl (inr (inl none)))) = absurd none
in_range words (FoldParallel identity items) (inr (inl (inr (inr none)))) = absurd none
in_range words (FoldParallel identity items) (inr (inr (inl (inl none)))) = absurd none
in_range words (FoldParallel identity items) (inr (inr (inl (inr (inl none))))) = absurd none
in_range words (FoldParallel identity items) (inr (inr (inl (inr (inr none))))) = absurd none
in_range words (FoldParallel identity items) (inr (inr (inr (inl none)))) = absurd none
in_range words (FoldParallel identity items) (inr (inr (inr (inr (inl (line, same, rest)))))) =
    (subst (λ (n : ℕ). n ≤ 1000000) (sym same) line.3.1, subst AreItems (sym rest) line.4)
in_range words (FoldParallel identity items) (inr (inr (inr (inr (inr (inl none)))))) = absurd none
in_range words (FoldParallel identity items) (inr (inr (inr (inr (inr (inr none)))))) = absurd none
in_range words (Threads _ _ _ _) says = tt
in_range words (Mix _ _ _ _) says = tt
in_range words ExploreSum says = tt
in_range words (Root items) (inl (_, none)) = absurd none
in_range words (Root items) (inr (inl (inl none))) = absurd none
in_range words (Root items) (inr (inl (inr (inl none)))) = absurd none
in_range words (Root items) (inr (inl (inr (inr none)))) = absurd none
in_range words (Root items) (inr (inr (inl (inl none)))) = absurd none
in_range words (Root items) (inr (inr (inl (inr (inl none))))) = absurd none
in_range words (Root items) (inr (inr (inl (inr (inr none))))) = absurd none
in_range words (Root items) (inr (inr (inr (inl none)))) = absurd none
in_range words (Root items) (inr (inr (inr (inr (inl none))))) = absurd none
in_range words (Root items) (inr (inr (inr (inr (inr (inl none)))))) = absurd none
in_range words (Root items) (inr (inr (inr (inr (inr (inr (line, rest))))))) =
    subst AreItems (sym rest) line.2

neither : {A B : Type 0} → ¬ A → ¬ B → ¬ (A ⊎ B)
neither first second (inl a) = first a
neither first second (inr b) = second b

-- the first of two that is found serves the lines of both
pub found_either : {A : Type 0} (N M : Type 0) (P Q : A → Type 0) (first second result : Option A)
    → result ≡ option_or first second → MatchOption first (¬ N) P → MatchOption second (¬ M) Q
    → MatchOption result (¬ (N ⊎ M)) (λ a. P a ⊎ Q a)
found_either N M P Q (Some a) second result same here there =
    subst (λ o. MatchOption o (¬ (N ⊎ M)) (λ b. P b ⊎ Q b)) (sym same) (inl here)
found_either N M P Q None (Some a) result same none here =
    subst (λ o. MatchOption o (¬ (N ⊎ M)) (λ b. P b ⊎ Q b)) (sym same) (inr here)
found_either N M P Q None None result same none none' =
    subst (λ o. MatchOption o (¬ (N ⊎ M)) (λ b. P b ⊎ Q b)) (sym same) (neither none none')

-- A balanced cut built range by range: the longer ranges first.
use Rattle.parallel_shares.proofs.Common.{◌≡◌, ℕ, ◌+◌, ◌*◌, ◌<◌, ◌≤◌, inl, inr, min, List, [], ◌∷◌, ◌++◌, length, get_or, All, arith, length_push, All-push, cases_lt, Range, range_length, CutsFrom, IsEven}
use Rattle.std.proofs.lemmas.List.Quantifiers.{all_pairs_push}
use Rattle.parallel_shares.proofs.Cuts.{CutsFrom-push, IsNear}

-- the range has one index more than `shorter`
abbrev pub IsLonger : ℕ → Range ℕ → Type 0
IsLonger shorter r = range_length r ≡ shorter + 1

-- the first `count` ranges of a cut whose first `longer` ranges have one index more than `shorter`
pub record IsCutSoFar (shorter longer count : ℕ) (rs : List (Range ℕ)) (to : ℕ) : Type 0 where
  pub placed : to ≡ count * shorter + min count longer
  pub counted : length rs ≡ count
  pub cuts : CutsFrom 0 rs to
  pub even : IsEven rs
  pub near : All (IsNear shorter) rs
  pub longest : count ≤ longer → All (IsLonger shorter) rs

-- one more range, with one index more than `shorter` while `longer` asks for it
pub IsCutSoFar-more : (shorter longer count extra : ℕ) (rs : List (Range ℕ)) (r : Range ℕ)
    → IsCutSoFar shorter longer count rs r.start → (count < longer → extra ≡ 1)
    → (longer ≤ count → extra ≡ 0) → r.end ≡ r.start + shorter + extra
    → IsCutSoFar shorter longer (count + 1) (rs ++ r ∷ []) r.end
IsCutSoFar-more shorter longer count extra rs r so_far more fewer ends =
    let longer_by : extra + min count longer ≡ min (count + 1) longer =
    elim (cases_lt count longer) [
      | inl before ↦ omega (arith, more before)
      | inr after ↦ omega (arith, fewer after)
    ] in
    record {
      placed = omega (arith, so_far.placed);
      counted = omega (arith, length_push rs r, so_far.counted);
      cuts = CutsFrom-push 0 rs r so_far.cuts (omega arith);
      even =
          all_pairs_push (λ a b. (range_length b ≤ range_length a)
          × (range_length a ≤ range_length b + 1)) rs r so_far.even
          (λ k d within. let close = so_far.near k d within in
          let wide : shorter + extra ≤ range_length (get_or rs k d) =
          elim (cases_lt count longer) [
            | inl before ↦ omega (arith, more before, so_far.longest (omega arith) k d within)
            | inr after ↦ omega (arith, fewer after, close.0)
          ] in (omega (arith, close), omega (arith, close)));
      near = All-push (IsNear shorter) rs r so_far.near (omega arith, omega arith);
      longest =
          λ few. All-push (IsLonger shorter) rs r (so_far.longest (omega arith)) (omega arith);
    }

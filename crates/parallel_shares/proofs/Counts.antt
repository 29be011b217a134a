-- Counting by 0 and 1: whether a number is in a range.
use Rattle.parallel_shares.proofs.Common.{◌≡◌, ℕ, suc, ◌+◌, ◌*◌, ◌/◌, ◌<◌, ◌≤◌, inl, inr, min, sym, ◌∙◌, arith, cases_lt, nat_tests, mul-le, inside}

-- a number is in the range, or outside it
pub data Side (u start end : ℕ) : Type 0 where
  within : start ≤ u → u < end → inside u start end ≡ 1 → Side u start end
  before : u < start → inside u start end ≡ 0 → Side u start end
  after : end ≤ u → inside u start end ≡ 0 → Side u start end

pub inside_within : (u start end : ℕ) → start ≤ u → u < end → inside u start end ≡ 1
unfolding inside
inside_within u start end s e = grind (arith, nat_tests)

pub inside_before : (u start end : ℕ) → u < start → inside u start end ≡ 0
unfolding inside
inside_before u start end h = grind (arith, nat_tests)

pub inside_after : (u start end : ℕ) → end ≤ u → inside u start end ≡ 0
unfolding inside
inside_after u start end h = grind (arith, nat_tests)

-- where a number stands to a range
pub side : (u start end : ℕ) → Side u start end
side u start end =
    elim (cases_lt u start) [
      | inl b ↦ before b (inside_before u start end b)
      | inr s ↦ elim (cases_lt u end) [
        | inl e ↦ within s e (inside_within u start end s e)
        | inr a ↦ after a (inside_after u start end a)
      ]
    ]

-- a range that is cut in two
pub inside_cut : (u start middle end : ℕ) → start ≤ middle → middle ≤ end
    → inside u start middle + inside u middle end ≡ inside u start end
unfolding inside
inside_cut u start middle end s e = grind (arith, nat_tests)

pub inside_below : (u start end : ℕ) → inside u start end ≤ 1
unfolding inside
inside_below u start end = grind (arith, nat_tests)

-- an empty range holds nothing
pub inside_nothing : (u start end : ℕ) → end ≤ start → inside u start end ≡ 0
unfolding inside
inside_nothing u start end h = grind (arith, nat_tests)

-- a cell is in the cells of some units exactly where its unit is among them
pub inside_cells : (c a b unit cells : ℕ) → 0 < unit → c < cells
    → inside c (a * unit) (min (b * unit) cells) ≡ inside (c / unit) a b
inside_cells c a b unit cells p h =
    elim (side (c / unit) a b) as (λ _. inside c (a * unit) (min (b * unit) cells) ≡ inside
    (c / unit) a b) [
      | within s e i ↦ inside_within c (a * unit) (min (b * unit) cells)
          (omega (arith, mul-le a unit (c / unit) unit s (omega arith)))
          (omega (arith, mul-le (suc (c / unit)) unit b unit e (omega arith))) ∙ sym i
      | before l i ↦ inside_before c (a * unit) (min (b * unit) cells)
          (omega (arith, mul-le (suc (c / unit)) unit a unit l (omega arith))) ∙ sym i
      | after m i ↦ inside_after c (a * unit) (min (b * unit) cells)
          (omega (arith, mul-le b unit (c / unit) unit m (omega arith))) ∙ sym i
    ]

-- no cell past the end is in the cells of some units
pub inside_no_cells : (c a b unit cells : ℕ) → cells ≤ c
    → inside c (a * unit) (min (b * unit) cells) ≡ 0
inside_no_cells c a b unit cells h = inside_after c (a * unit) (min (b * unit) cells) (omega arith)

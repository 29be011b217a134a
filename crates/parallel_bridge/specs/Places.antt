-- Slots side by side in memory, each empty or with a value.
use Rattle.std.specs.Prelude.{◌≡◌, ℕ, ◌+◌, ◌*◌, ◌^◌, List, [], ◌∷◌, ◌++◌, map, length, replicate, get_or, Option, Some, None}
use Rattle.std.specs.Mem.{type_size}
use Rattle.std_alloc.specs.Vec.Ownership.{owns_if, has_block}
use base.Fraction.{full_share}
use base.Fml.{Fml, ftrue, ffalse, fsep, flt, froom}
use mir.Syntax.{Ty, ty_array}
use mir.Raw.{raw}
use denote.RattleType.{RattleType}
use denote.Memory.{lone, part_at}
use denote.RawPtr.{Ptr, block_ptr, null_ptr}

module _ {X : Type 0} where
  -- the values that stand in the slots, in their order
  abbrev pub values : List (Option X) → List X
  values [] = []
  values (None ∷ cs) = values cs
  values (Some x ∷ cs) = x ∷ values cs

  -- the slot at the index has a value
  abbrev pub IsFilled : List (Option X) → ℕ → Type 0
  IsFilled cs i = (x : X) × (get_or cs i None ≡ Some x)

  -- empty slots, then the items, then empty slots
  abbrev pub laid : ℕ → List X → ℕ → List (Option X)
  laid before xs rest = replicate before None ++ (map Some xs ++ replicate rest None)

module _ (R : RattleType) where
  -- n slots on from p
  abbrev pub shifted : Ptr → ℕ → Ptr
  shifted (block_ptr b o) n = block_ptr b (n * type_size R + o)
  shifted null_ptr n = null_ptr

  -- one slot, o bytes into the block b
  abbrev pub slot : ℕ → ℕ → Option R.Denot → Fml
  slot b o (Some x) = part_at R full_share x b o
  slot b o None = froom (raw (lone R.mir)) b o

  -- slots side by side
  abbrev pub slots : ℕ → ℕ → List (Option R.Denot) → Fml
  slots b o [] = ftrue
  slots b o (c ∷ cs) = fsep (slot b o c) (slots b (o + type_size R) cs)

  -- slots side by side from p on, of fewer than 2 ^ 63 bytes together
  abbrev pub cells_own : Ptr → List (Option R.Denot) → Fml
  cells_own (block_ptr b o) cs = fsep (flt (length cs * type_size R) (2 ^ 63)) (slots b o cs)
  cells_own null_ptr cs = ffalse

  -- an allocator's token for a block of n slots, where there is a block
  abbrev pub deed_owns : (Ty → Ptr → Fml) → Ptr → ℕ → Fml
  deed_owns token p n = owns_if (has_block n) (token (raw (ty_array (lone R.mir) n)) p)

-- What a contract sees of a window over slots, and of the block that it is over.
use Rattle.std.specs.Prelude.{◌≡◌, ℕ, ◌+◌, ◌-◌, ◌≤◌, List, [], length, replicate, Option, None, ◌⊎◌, refl}
use Rattle.std.specs.Coded.{Coded, code_by, coded×, coded_list, coded_ℕ}
use Rattle.std.specs.Vec.Ownership.{FitsInBlock}
use denote.RattleType.{RattleType}
use denote.RawPtr.{Ptr, coded_ptr}
use Rattle.parallel_bridge.specs.Places.{laid, shifted, values}

-- A window as seen from outside: the items in their order, where its slots begin, how many it
-- has (room), and how many of them are empty in front of the items (before).
pub record View (X : Type 0) : Type 0 where
  pub start : Ptr
  pub room : ℕ
  pub before : ℕ
  pub items : List X

module _ {X : Type 0} where
  abbrev pub part : Ptr → ℕ → ℕ → List X → View X
  part start room before items =
      record { start = start; room = room; before = before; items = items }

  abbrev pub view_code : Coded X → Coded (View X)
  view_code c = code_by (Ptr × (ℕ × (ℕ × List X)))
      (coded× coded_ptr (coded× coded_ℕ (coded× coded_ℕ (coded_list c))))
      (λ v. (v.start, (v.room, (v.before, v.items)))) (λ p. part p.0 p.1.0 p.1.1.0 p.1.1.1)
      (λ _. refl)

-- slots that begin at start: before empty ones, len items, and empty ones
abbrev pub IsRow : {X : Type 0} → Ptr → Ptr → List (Option X) → ℕ → ℕ → ℕ → Type 0
IsRow at start slots room before len = (at ≡ start) × (len ≡ length (values slots))
    × (before + len ≤ room) × (slots ≡ laid before (values slots) (room - (before + len)))

-- the block of a window's slots: where these begin, how many they are and how many the block has,
-- and where those after them begin
pub record Extent : Type 0 where
  pub start : Ptr
  pub room : ℕ
  pub capacity : ℕ
  pub end : Ptr

abbrev pub extent_code : Coded Extent
extent_code = code_by (Ptr × (ℕ × (ℕ × Ptr)))
    (coded× coded_ptr (coded× coded_ℕ (coded× coded_ℕ coded_ptr)))
    (λ s. (s.start, (s.room, (s.capacity, s.end))))
    (λ p. record { start = p.0; room = p.1.0; capacity = p.1.1.0; end = p.1.1.1 }) (λ _. refl)

-- the slots after them are empty
abbrev pub IsTail : {X : Type 0} → Ptr → Ptr → List (Option X) → ℕ → ℕ → Type 0
IsTail at end slots capacity room = (at ≡ end) × (slots ≡ replicate (capacity - room) None)

-- they lie in the block, and the slots after them follow them
abbrev pub IsExtent : RattleType → Extent → Type 0
IsExtent R s = (s.end ≡ shifted R s.start s.room) × FitsInBlock R s.capacity × (s.room ≤ s.capacity)

-- the right window's slots begin where the left one's end
abbrev pub Follows : {X Y : Type 0} → RattleType → View X → View Y → Type 0
Follows R left right = right.start ≡ shifted R left.start left.room

-- the items of both lie side by side, or the right one has none
abbrev pub Adjoins : {X : Type 0} → View X → View X → Type 0
Adjoins left right = ((left.before + length left.items ≡ left.room) × (right.before ≡ 0))
    ⊎ (right.items ≡ [])

-- Rooms for lists, cut where a front's items end, and put together again.
use Rattle.parallel_bridge.proofs.Common.{◌≡◌, ℕ, zero, suc, ◌+◌, ◌-◌, ◌≤◌, List, [], ◌∷◌, ◌++◌, length, take, drop, refl}
use Rattle.parallel_bridge.proofs.Common.{sym, ap, subst, ◌∙◌, arith, inl, get_or, append-nil, ◌<◌, mul-le-mul_right}
use Rattle.parallel_bridge.proofs.Common.{Vec, Global, keys_in, values_in, length-append, take-append-drop, FitsInBlock, View, part, shifted, IsRoomFor, Joinable, holding, side_by_side}
use Rattle.parallel_bridge.proofs.FoldersAppend.{keys_in-append, values_in-append}
use Rattle.std.proofs.lemmas.List.{take_more}
use Rattle.std.specs.Mem.{type_size}
use denote.RattleType.{RattleType}

-- fewer slots fit in a block as well
fits_fewer : (R : RattleType) (few many : ℕ) → few ≤ many → FitsInBlock R many
    → FitsInBlock R few
fits_fewer R few many less (bytes, places) =
    let smaller = mul-le-mul_right (type_size R) less in
    (omega (arith, smaller, bytes), omega (arith, less, places))

-- nothing has no front, and nothing after it
no_front : {X : Type 0} (n : ℕ) (xs : List X) → xs ≡ [] → take n xs ≡ []
no_front zero xs none = refl
no_front (suc n) [] none = refl
no_front (suc n) (x ∷ xs) none = absurd (cc none)

no_rest : {X : Type 0} (n : ℕ) (xs : List X) → xs ≡ [] → drop n xs ≡ []
no_rest zero xs none = none
no_rest (suc n) [] none = refl
no_rest (suc n) (x ∷ xs) none = absurd (cc none)

-- a room for the items of some lists, cut in two: each is the room for those of a part, and what
-- holds these can be put together to what holds all
abbrev pub CutRoom : {P X : Type 0} → (List P → List X) → RattleType → View X → View X → View X
    → List P → List P → List P → Type 0
CutRoom {X = X} items_of R room l r ps front back = IsRoomFor R l (items_of front)
    × IsRoomFor R r (items_of back)
    × ((a b : View X) → a ≡ holding l (items_of front) → b ≡ holding r (items_of back)
    → Joinable R a b)
    × ((a b c : View X) → a ≡ holding l (items_of front) → b ≡ holding r (items_of back)
    → c ≡ side_by_side a b → c ≡ holding room (items_of ps))

module _ {P X : Type 0} (items_of : List P → List X)
    (apart : (ps qs : List P) → items_of (ps ++ qs) ≡ items_of ps ++ items_of qs) where
  -- the items of a front, and those of the rest
  items_cut : (ps : List P) (n : ℕ)
      → items_of ps ≡ items_of (take n ps) ++ items_of (drop n ps)
  items_cut ps n = ap items_of (sym (take-append-drop n ps)) ∙ apart (take n ps) (drop n ps)

  front_fits : (ps : List P) (n : ℕ) → length (items_of (take n ps)) ≤ length (items_of ps)
  front_fits ps n =
      let all = ap length (items_cut ps n)
      ∙ length-append (items_of (take n ps)) (items_of (drop n ps)) in
      omega (arith, all)

  module _ (R : RattleType) (room l r : View X) (ps front back : List P) (n count : ℕ)
      (enough : IsRoomFor R room (items_of ps)) (is_front : front ≡ take n ps)
      (is_back : back ≡ drop n ps) (counted : count ≡ length (items_of (take n ps)))
      (is_l : l ≡ part room.start count 0 (take count room.items))
      (is_r : r ≡ part (shifted R room.start count) (room.room - count) 0
      (drop count room.items)) where
    all_of : items_of ps ≡ items_of front ++ items_of back
    all_of = items_cut ps n
        ∙ (λ i. items_of (sym is_front i) ++ items_of (sym is_back i))

    long : room.room ≡ length (items_of front) + length (items_of back)
    long = enough.1 ∙ ap length all_of ∙ length-append (items_of front) (items_of back)

    count_is : count ≡ length (items_of front)
    count_is = counted ∙ ap (λ l. length (items_of l)) (sym is_front)

    within : count ≤ room.room
    within = omega (arith, long, count_is)

    none : room.items ≡ []
    none = enough.0.1

    front_room : IsRoomFor R l (items_of front)
    front_room = subst (λ w. IsRoomFor R w (items_of front)) (sym is_l) (
      (refl, no_front count room.items none),
      count_is,
      fits_fewer R count room.room within enough.2,
    )

    back_room : IsRoomFor R r (items_of back)
    back_room = subst (λ w. IsRoomFor R w (items_of back)) (sym is_r) (
      (refl, no_rest count room.items none),
      omega (arith, long, count_is),
      fits_fewer R (room.room - count) room.room (omega arith) enough.2,
    )

    at_left : (a : View X) → a ≡ holding l (items_of front)
        → a ≡ part room.start count 0 (items_of front)
    at_left a is_a = is_a ∙ ap (λ w. holding w (items_of front)) is_l

    at_right : (b : View X) → b ≡ holding r (items_of back)
        → b ≡ part (shifted R room.start count) (room.room - count) 0 (items_of back)
    at_right b is_b = is_b ∙ ap (λ w. holding w (items_of back)) is_r

    whole : count + (room.room - count) ≡ room.room
    whole = omega (arith, within)

    rooms_meet : (a b : View X) → a ≡ holding l (items_of front)
        → b ≡ holding r (items_of back) → Joinable R a b
    rooms_meet a b is_a is_b = subst (λ w. Joinable R w b) (sym (at_left a is_a))
        (subst (Joinable R (part room.start count 0 (items_of front))) (sym (at_right b is_b)) (
          refl,
          subst (FitsInBlock R) (sym whole) enough.2,
          inl (omega (arith, count_is), refl),
        ))

    rooms_joined : (a b c : View X) → a ≡ holding l (items_of front)
        → b ≡ holding r (items_of back) → c ≡ side_by_side a b → c ≡ holding room (items_of ps)
    rooms_joined a b c is_a is_b is_c =
        is_c ∙ (λ i. side_by_side (at_left a is_a i) (at_right b is_b i))
        ∙ (λ i. part room.start (whole i) 0 (sym all_of i))

    room_cut : CutRoom items_of R room l r ps front back
    room_cut = (front_room, back_room, rooms_meet, rooms_joined)

-- the room for the values of some lists, cut where those of a front end
pub values_cut : {U K : Type 0} (R : RattleType) (room l r : View U)
    (ps front back : List (Vec U Global × Vec K Global)) (n count : ℕ)
    → IsRoomFor R room (values_in ps) → front ≡ take n ps → back ≡ drop n ps
    → count ≡ length (values_in (take n ps)) → l ≡ part room.start count 0 (take count room.items)
    → r ≡ part (shifted R room.start count) (room.room - count) 0 (drop count room.items)
    → CutRoom (λ qs. values_in qs) R room l r ps front back
values_cut R room l r ps front back n count enough is_front is_back counted is_l is_r =
    room_cut (λ qs. values_in qs) values_in-append R room l r ps front back n count enough is_front
    is_back counted is_l is_r

-- the same of the keys
pub keys_cut : {U K : Type 0} (R : RattleType) (room l r : View K)
    (ps front back : List (Vec U Global × Vec K Global)) (n count : ℕ)
    → IsRoomFor R room (keys_in ps) → front ≡ take n ps → back ≡ drop n ps
    → count ≡ length (keys_in (take n ps)) → l ≡ part room.start count 0 (take count room.items)
    → r ≡ part (shifted R room.start count) (room.room - count) 0 (drop count room.items)
    → CutRoom (λ qs. keys_in qs) R room l r ps front back
keys_cut R room l r ps front back n count enough is_front is_back counted is_l is_r =
    room_cut (λ qs. keys_in qs) keys_in-append R room l r ps front back n count enough is_front
    is_back counted is_l is_r

-- there are no more of a front than of all
pub values_within : {U K : Type 0} (ps : List (Vec U Global × Vec K Global)) (n : ℕ)
    → length (values_in (take n ps)) ≤ length (values_in ps)
values_within ps n = front_fits (λ qs. values_in qs) values_in-append ps n

pub keys_within : {U K : Type 0} (ps : List (Vec U Global × Vec K Global)) (n : ℕ)
    → length (keys_in (take n ps)) ≤ length (keys_in ps)
keys_within ps n = front_fits (λ qs. keys_in qs) keys_in-append ps n

-- one pair of lists more has as many more
pub numbers_more : {U K : Type 0} (ps : List (Vec U Global × Vec K Global)) (i : ℕ)
    (d : Vec U Global × Vec K Global) → i < length ps
    → (length (values_in (take (i + 1) ps))
    ≡ length (values_in (take i ps)) + length (get_or ps i d).0.items)
    × (length (keys_in (take (i + 1) ps))
    ≡ length (keys_in (take i ps)) + length (get_or ps i d).1.items)
numbers_more ps i d lt =
    let longer = take_more ps i d lt in let p = get_or ps i d in
    let us = ap (λ l. length (values_in l)) longer
    ∙ ap length (values_in-append (take i ps) (p ∷ []))
    ∙ length-append (values_in (take i ps)) (p.0.items ++ []) in
    let ks = ap (λ l. length (keys_in l)) longer
    ∙ ap length (keys_in-append (take i ps) (p ∷ []))
    ∙ length-append (keys_in (take i ps)) (p.1.items ++ []) in
    let no_us = ap length (append-nil p.0.items) in let no_ks = ap length (append-nil p.1.items) in
    (omega (arith, us, no_us), omega (arith, ks, no_ks))

-- Empty slots, items and empty slots side by side, and what each step makes of them.
use Rattle.parallel_bridge.proofs.Common.{◌≡◌, ℕ, zero, suc, ◌+◌, ◌-◌, ◌<◌, ◌≤◌, List, [], ◌∷◌, ◌++◌, map, length, take, drop, set, replicate, refl, sym, ap, ◌∙◌, arith, ◌⊎◌, inl, inr, append-nil}
use Rattle.parallel_bridge.proofs.Common.{Option, Some, None, get_or, length-append, length-replicate, length-take, length-drop, length-map, map-append, append_assoc, get_or-append_seam}
use Rattle.parallel_bridge.proofs.Common.{set-append_seam, replicate-append-replicate, take-replicate, drop-replicate, take_all, drop_all, nil_from_length, laid, values, subst, View, part, IsRow}
use denote.RawPtr.{Ptr}

module _ {X : Type 0} where
  abbrev empty : ℕ → List (Option X)
  empty n = replicate n None

  values_empty : (n : ℕ) → values (empty n) ≡ []
  values_empty zero = refl
  values_empty (suc n) = values_empty n

  values_items : (xs : List X) (r : ℕ) → values (map Some xs ++ empty r) ≡ xs
  values_items [] r = values_empty r
  values_items (x ∷ xs) r = ap (λ l. x ∷ l) (values_items xs r)

  pub values_laid : (b : ℕ) (xs : List X) (r : ℕ) → values (laid b xs r) ≡ xs
  values_laid zero xs r = values_items xs r
  values_laid (suc b) xs r = values_laid b xs r

  pub length_laid : (b : ℕ) (xs : List X) (r : ℕ) → length (laid b xs r) ≡ b + (length xs + r)
  length_laid b xs r = simp (length-append, length-replicate, length-map)

  -- the slots up to the last item of those in front
  abbrev front : ℕ → List X → List (Option X)
  front b xs = empty b ++ map Some xs

  then_on : (b : ℕ) (xs ys : List X) (r : ℕ)
      → laid b (xs ++ ys) r ≡ front b xs ++ (map Some ys ++ empty r)
  then_on b xs ys r = simp (map-append, append_assoc)

  -- the slot after those is read, and written
  next_place : (b : ℕ) (xs : List X) (y z : Option X) (l slots : List (Option X)) (i : ℕ)
      → slots ≡ front b xs ++ y ∷ l → i ≡ b + length xs
      → (get_or slots i None ≡ y) × (set slots i z ≡ front b xs ++ z ∷ l)
  next_place b xs y z l slots i is e =
      let at : i ≡ length (front b xs) =
      e ∙ sym (simp (length-append, length-replicate, length-map)) in (
        (λ k. get_or (is k) (at k) None) ∙ get_or-append_seam (front b xs) y l None,
        (λ k. set (is k) (at k) z) ∙ set-append_seam (front b xs) y l z,
      )

  -- a slot that is empty in front of the items
  pub first_out : (b : ℕ) (l : List (Option X)) → front b [] ++ None ∷ l ≡ empty (suc b) ++ l
  first_out zero l = refl
  first_out (suc b) l = ap (λ m. None ∷ m) (first_out b l)

  -- slots that begin with their items are cut at an index
  pub front_of : (i : ℕ) (xs : List X) (r k : ℕ) → k ≡ i - length xs → i ≤ length xs + r
      → take i (laid 0 xs r) ≡ laid 0 (take i xs) k
  front_of zero xs r k e le = let none : 0 ≡ k = omega arith in ap empty none
  front_of (suc i) [] r k e le =
      let more : k ≡ suc i - 0 = e in let same : suc i ≡ k = omega arith in
      let within : suc i ≤ 0 + r = le in
      take-replicate (suc i) r None (omega arith) ∙ ap empty same
  front_of (suc i) (x ∷ xs) r k e le =
      let more : k ≡ suc i - suc (length xs) = e in let within : suc i ≤ suc (length xs) + r = le in
      ap (λ l. Some x ∷ l) (front_of i xs r k (omega arith) (omega arith))

  pub back_of : (i : ℕ) (xs : List X) (r k : ℕ) → k ≡ r - (i - length xs)
      → drop i (laid 0 xs r) ≡ laid 0 (drop i xs) k
  back_of zero xs r k e = let same : r ≡ k = omega arith in ap (λ n. map Some xs ++ empty n) same
  back_of (suc i) [] r k e =
      let more : k ≡ r - (suc i - 0) = e in let same : r - suc i ≡ k = omega arith in
      drop-replicate (suc i) r None ∙ ap empty same
  back_of (suc i) (x ∷ xs) r k e =
      let more : k ≡ r - (suc i - suc (length xs)) = e in
      back_of i xs r k (omega arith)

  -- slots without items go on others
  pub then_none : (b : ℕ) (xs : List X) (r c s k : ℕ) → k ≡ r + (c + s)
      → laid b xs r ++ laid c [] s ≡ laid b xs k
  then_none b xs r c s k e =
      let none : Option X = None in
      rw (e, ← replicate-append-replicate r (c + s) none, ← replicate-append-replicate c s none)
      (simp append_assoc)

  -- slots that begin with their items go on others that end with theirs
  then_more : (b : ℕ) (xs ys : List X) (s : ℕ) → laid b xs 0 ++ laid 0 ys s ≡ laid b (xs ++ ys) s
  then_more b xs ys s = simp (append_assoc, append-nil, map-append)

  -- what is laid out so has these items
  pub is_row : (at start : Ptr) (slots : List (Option X)) (room b n : ℕ) (xs : List X) (r : ℕ)
      → at ≡ start → slots ≡ laid b xs r → n ≡ length xs → room ≡ b + (n + r)
      → IsRow at start slots room b n × (values slots ≡ xs)
  is_row at start slots room b n xs r a e long all =
      let is : values slots ≡ xs = ap values e ∙ values_laid b xs r in
      let rest : r ≡ room - (b + n) = omega arith in
      ((a, long ∙ sym (ap length is), omega arith, e ∙ (λ i. laid b (sym is i) (rest i))), is)

-- slots that are named anew
pub moved : {X : Type 0} {at start p : Ptr} {slots cs : List (Option X)} {room n : ℕ} (b : ℕ) → p ≡ at
    → cs ≡ slots → IsRow at start slots room b n → IsRow p start cs room b n
moved {X = X} {start = start} {room = room} {n = n} b e f row = subst
    (λ (x : Ptr × List (Option X)). IsRow x.0 start x.1 room b n) (λ i. (sym e i, sym f i)) row

pub some_same : {X : Type 0} {x y : X} → Some x ≡ Some y → x ≡ y
some_same e = cc

-- a list with a first, or a last, item
first_of : {X : Type 0} (xs : List X) → 0 < length xs → (x : X) × ((ys : List X) × (xs ≡ x ∷ ys))
first_of [] some = absurd (omega arith)
first_of (x ∷ xs) some = (x, (xs, refl))

last_of : {X : Type 0} (xs : List X) → 0 < length xs → (x : X)
    × ((ys : List X) × (xs ≡ ys ++ x ∷ []))
last_of [] some = absurd (omega arith)
last_of (x ∷ []) some = (x, ([], refl))
last_of (x ∷ y ∷ xs) some =
    let more : 0 < suc (length xs) = omega arith in let (z, (ys, e)) = last_of (y ∷ xs) more in
    (z, (x ∷ ys, ap (λ l. x ∷ l) e))

module _ {X : Type 0} {at start : Ptr} {slots : List (Option X)} {room n : ℕ} (b : ℕ)
    (row : IsRow at start slots room b n) where
  abbrev items : List X
  items = values slots

  abbrev left : ℕ
  left = room - (b + n)

  pub row_length : length slots ≡ room
  row_length =
      let laid_long = length_laid b items left in
      let same : length slots ≡ length (laid b items left) = ap length row.3 in
      omega arith

  -- one more item, in the slot after the others
  pub put_row : {v : View X} (x : X) → part start room b items ≡ v
      → v.before + length v.items < v.room → (b + n < length slots) × (get_or slots (b + n) None ≡ None)
      × IsRow at start (set slots (b + n) (Some x)) room b (n + 1)
      × (values (set slots (b + n) (Some x)) ≡ items ++ x ∷ [])
  put_row x is lt =
      let fits : b + length items < room =
      subst (λ (u : View X). u.before + length u.items < u.room) (sym is) lt in
      let wide = row_length in let more : left ≡ suc (left - 1) = omega arith in
      let put = next_place b items None (Some x) (empty (left - 1)) slots (b + n)
      (row.3 ∙ ap (laid b items) more
      ∙ sym (append_assoc (empty b) (map Some items) (empty (suc (left - 1))))) (omega arith) in
      let longer = length-append items (x ∷ []) in
      let is = is_row at start (set slots (b + n) (Some x)) room b (n + 1) (items ++ x ∷ [])
      (left - 1) row.0 (put.1 ∙ sym (then_on b items (x ∷ []) (left - 1))) (omega arith)
      (omega arith) in (omega arith, put.0, is.0, is.1)

  -- the items without the first
  pub take_row : {v : View X} → part start room b items ≡ v → 0 < length v.items → (x : X)
      × ((get_or slots b None ≡ Some x) × IsRow at start (set slots b None) room (b + 1) (n - 1)
      × (items ≡ x ∷ values (set slots b None)))
  take_row is has =
      let first = first_of items (subst (λ (u : View X). 0 < length u.items) (sym is) has) in
      let x = first.0 in let ys = first.1.0 in
      let shorter : length items ≡ suc (length ys) = ap length first.1.1 in
      let on : suc b ≡ b + 1 = omega arith in
      let out = next_place b [] (Some x) None (map Some ys ++ empty left) slots b
      (row.3 ∙ ap (λ zs. laid b zs left) first.1.1 ∙ then_on b [] (x ∷ ys) left) (omega arith) in
      let gone = out.1 ∙ first_out b (map Some ys ++ empty left) ∙ ap (λ k. laid k ys left) on in
      let is = is_row at start (set slots b None) room (b + 1) (n - 1) ys left row.0 gone
      (omega arith) (omega arith) in
      (x, (out.0, is.0, first.1.1 ∙ ap (λ zs. x ∷ zs) (sym is.1)))

  -- the items without the last
  pub back_row : {v : View X} → part start room b items ≡ v → 0 < length v.items → (x : X)
      × ((get_or slots (b + n - 1) None ≡ Some x)
      × IsRow at start (set slots (b + n - 1) None) room b (n - 1)
      × (items ≡ values (set slots (b + n - 1) None) ++ x ∷ []))
  back_row is has =
      let last = last_of items (subst (λ (u : View X). 0 < length u.items) (sym is) has) in
      let x = last.0 in let ys = last.1.0 in
      let shorter : length items ≡ length (ys ++ x ∷ []) = ap length last.1.1 in
      let one = length-append ys (x ∷ []) in
      let out = next_place b ys (Some x) None (empty left) slots (b + n - 1)
      (row.3 ∙ ap (λ zs. laid b zs left) last.1.1 ∙ then_on b ys (x ∷ []) left) (omega arith) in
      let is = is_row at start (set slots (b + n - 1) None) room b (n - 1) ys (suc left) row.0
      (out.1 ∙ append_assoc (empty b) (map Some ys) (empty (suc left))) (omega arith)
      (omega arith) in
      (x, (out.0, is.0, last.1.1 ∙ ap (λ zs. zs ++ x ∷ []) (sym is.1)))

  -- the first i of slots that begin with their items, and the rest
  module _ (i : ℕ) (none : b ≡ 0) (le : i ≤ room) where
    from_items : slots ≡ laid 0 items left
    from_items = row.3 ∙ ap (λ k. laid k items left) none

    pub in_row : i ≤ length slots
    in_row = let wide = row_length in omega arith

    pub front_row : (m : ℕ) → (m ≤ i) × (m ≤ n) × ((m ≡ n) ⊎ (m ≡ i))
        → IsRow at start (take i slots) i 0 m × (values (take i slots) ≡ take i items)
    front_row m is =
        let long : n ≡ length items = row.1 in let cut = length-take i items in let bounds = is in
        let count : m ≡ length (take i items) =
        elim is.2 [ inl e ↦ omega arith | inr e ↦ omega arith ] in
        is_row at start (take i slots) i 0 m (take i items) (i - length items) row.0
        (ap (take i) from_items ∙ front_of i items left (i - length items) refl (omega arith))
        count (omega arith)

    pub back_rows : (m : ℕ) (p q : Ptr) → p ≡ q → (m ≤ i) × (m ≤ n) × ((m ≡ n) ⊎ (m ≡ i))
        → IsRow p q (drop i slots) (room - i) 0 (n - m) × (values (drop i slots) ≡ drop i items)
    back_rows m p q same is =
        let long : n ≡ length items = row.1 in let cut = length-drop i items in let bounds = is in
        let count : n - m ≡ length (drop i items) =
        elim is.2 [ inl e ↦ omega arith | inr e ↦ omega arith ] in
        is_row p q (drop i slots) (room - i) 0 (n - m) (drop i items)
        (left - (i - length items)) same
        (ap (drop i) from_items ∙ back_of i items left (left - (i - length items)) refl) count
        (omega arith)

  -- two neighbours
  pub two_rows : {at' start' : Ptr} {slots' : List (Option X)} {room' b' n' : ℕ}
      → IsRow at' start' slots' room' b' n' → ((b + n ≡ room) × (b' ≡ 0)) ⊎ (n' ≡ 0)
      → IsRow at start (slots ++ slots') (room + room') b (n + n')
      × (values (slots ++ slots') ≡ items ++ values slots')
  two_rows {slots' = slots'} {room' = room'} {b' = b'} {n' = n'} other (inl full) =
      let xs = values slots' in let long : n ≡ length items = row.1 in
      let more : n' ≡ length xs = other.1 in let sum = length-append items xs in
      let within = other.2 in
      let nothing : left ≡ 0 = omega arith in let rest = room' - (b' + n') in
      let now : slots ++ slots' ≡ laid b (items ++ xs) rest =
      (λ i. (row.3 ∙ ap (laid b items) nothing) i ++ (other.3 ∙ ap (λ k. laid k xs rest) full.1)
      i) ∙ then_more b items xs rest in
      is_row at start (slots ++ slots') (room + room') b (n + n') (items ++ xs) rest row.0 now
      (omega arith) (omega arith)
  two_rows {slots' = slots'} {room' = room'} {b' = b'} {n' = n'} other (inr none) =
      let xs = values slots' in let nothing : xs ≡ [] = nil_from_length xs (omega arith) in
      let rest = room' - (b' + n') in let sum = length-append items xs in
      let now : slots ++ slots' ≡ laid b items (left + (b' + rest)) =
      (λ i. row.3 i ++ (other.3 ∙ ap (λ zs. laid b' zs rest) nothing) i)
      ∙ then_none b items left b' rest (left + (b' + rest)) refl in
      let here : laid b items (left + (b' + rest)) ≡ laid b (items ++ xs) (left + (b' + rest)) = ap
      (λ zs. laid b zs (left + (b' + rest)))
      (sym (append-nil items) ∙ ap (λ l. items ++ l) (sym nothing)) in
      is_row at start (slots ++ slots') (room + room') b (n + n') (items ++ xs)
      (left + (b' + rest)) row.0 (now ∙ here) (omega arith) (omega arith)

  -- slots without items are all room
  pub rewound_row : n ≡ 0 → IsRow at start slots room 0 0 × (items ≡ [])
  rewound_row none =
      let no : items ≡ [] = nil_from_length items (omega arith) in
      let all : b + left ≡ room = omega arith in
      let now : slots ≡ laid 0 [] room = row.3 ∙ ap (λ xs. laid b xs left) no
      ∙ replicate-append-replicate b left None ∙ ap empty all in
      ((is_row at start slots room 0 0 [] room row.0 now refl (omega arith)).0, no)

-- a block that begins with its items, as slots
pub whole_row : {X : Type 0} {at start : Ptr} {slots : List (Option X)} (c n : ℕ) (xs : List X)
    → at ≡ start → slots ≡ laid 0 xs (c - length xs) → n ≡ length xs → n ≤ c
    → IsRow at start slots c 0 n × (values slots ≡ xs)
whole_row {at = at} {start = start} {slots = slots} c n xs a e long le =
    is_row at start slots c 0 n xs (c - length xs) a e long (omega arith)

-- a block that begins with its items, cut after them
pub opened_rows : {X : Type 0} {at start : Ptr} {slots : List (Option X)} (c i n : ℕ) (xs : List X)
    → at ≡ start → slots ≡ laid 0 xs (c - length xs) → n ≡ length xs → n ≤ i → i ≤ c
    → (IsRow at start (take i slots) i 0 n × (values (take i slots) ≡ xs))
    × (drop i slots ≡ replicate (c - i) None)
opened_rows c i n xs a e long le lc =
    let whole = whole_row c n xs a e long (omega arith) in
    let front = front_row 0 whole.0 i refl lc n (le, omega arith, inl refl) in (
      (front.0, front.1 ∙ ap (take i) whole.1 ∙ take_all i xs (omega arith)),
      ap (drop i) e ∙ back_of i xs (c - length xs) (c - i) (omega arith)
          ∙ ap (λ l. laid 0 l (c - i)) (drop_all i xs (omega arith)),
    )

-- the slots of items with the empty ones after them are a block
pub closed_rows : {X : Type 0} {at start : Ptr} {slots tail : List (Option X)} {room n : ℕ} (c : ℕ)
    → IsRow at start slots room 0 n → tail ≡ replicate (c - room) None → room ≤ c
    → (length (slots ++ tail) ≡ c) × (length (values (slots ++ tail)) ≡ n)
    × (slots ++ tail ≡ laid 0 (values (slots ++ tail)) (c - n))
    × (values (slots ++ tail) ≡ values slots)
closed_rows {at = at} {slots = slots} {tail = tail} {room = room} {n = n} c row empty_tail le =
    let rest = is_row at at tail (c - room) 0 0 [] (c - room) refl empty_tail refl (omega arith) in
    let all = two_rows 0 row {room' = c - room} {b' = 0} {n' = 0} rest.0 (inr refl) in
    let wide = row_length 0 all.0 in let none = ap length rest.1 in
    let same : values (slots ++ tail) ≡ values slots = all.1 ∙ ap (λ l. values slots ++ l) rest.1
    ∙ append-nil (values slots) in
    let counted : n + 0 ≡ length (values (slots ++ tail)) = all.0.1 in
    let left : room + (c - room) - (0 + (n + 0)) ≡ c - n = omega arith in
    (omega arith, omega arith, all.0.3 ∙ ap (λ k. laid 0 (values (slots ++ tail)) k) left, same)

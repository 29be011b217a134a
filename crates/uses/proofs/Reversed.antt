-- A list from its end, in two parts.
use Rattle.std.proofs.Common.{◌≡◌, ℕ, ◌-◌, List, ◌++◌, length, arith, take, drop, reverse, sym, ◌∙◌, ap, subst}
use Rattle.std.specs.List.{Contains}
use Rattle.std.proofs.lemmas.List.{length-drop, reverse-append, take_all, take-append-drop}
use Rattle.std.proofs.lemmas.List.Elements.{Contains-append_left, Contains-append_right}

-- as many items as are left are all of them
pub the_rest : {X : Type 0} (at : ℕ) (xs : List X) → take (length xs - at) (drop at xs) ≡ drop at xs
the_rest at xs = take_all (length xs - at) (drop at xs) (omega (arith, length-drop at xs))

-- the back from its end, and then the front from its end
pub reversed_parts : {X : Type 0} (at : ℕ) (xs : List X)
    → reverse (drop at xs) ++ reverse (take at xs) ≡ reverse xs
reversed_parts at xs = sym (reverse-append (take at xs) (drop at xs))
    ∙ ap reverse (take-append-drop at xs)

-- what is in a part is in the list
pub in_back : {X : Type 0} (at : ℕ) (xs : List X) (x : X) → Contains (reverse (drop at xs)) x
    → Contains (reverse xs) x
in_back at xs x h = subst (λ l. Contains l x) (reversed_parts at xs)
    (Contains-append_left (reverse (drop at xs)) (reverse (take at xs)) x h)

pub in_front : {X : Type 0} (at : ℕ) (xs : List X) (x : X) → Contains (reverse (take at xs)) x
    → Contains (reverse xs) x
in_front at xs x h = subst (λ l. Contains l x) (reversed_parts at xs)
    (Contains-append_right (reverse (drop at xs)) (reverse (take at xs)) x h)

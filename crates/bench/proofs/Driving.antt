-- The seats that come back are those of the shares, in order.
use Rattle.std.proofs.Common.{◌≡◌, ℕ, zero, suc, ◌<◌, List, [], ◌∷◌, map, length, get_or, ◌∙◌, arith}
use Rattle.std.proofs.lemmas.List.{length-map}
use Rattle.parallel_shares.specs.declared.shares.Shares.{Shares}
use Rattle.parallel_shares.specs.declared.shares.seat.Seat.{Seat}
use Rattle.parallel_shares.specs.Seats.{plan_of, index_of, AreSeatsOf, IsSeatOf}
use Rattle.bench.specs.declared.soak.Driven.{Driven}
use Rattle.bench.specs.Driven.{seat_of}

-- what holds of the seat at each place holds of the seats alone
each_seat : (P : ℕ → Seat → Type 0) (driven : List Driven)
    → ((i : ℕ) (d : Driven) → i < length driven → P i (seat_of (get_or driven i d)))
    → (i : ℕ) (e : Seat) → i < length (map seat_of driven) → P i (get_or (map seat_of driven) i e)
each_seat P [] each i e h = absurd (omega (arith, h))
each_seat P (d ∷ driven) each zero e h = each 0 d (omega arith)
each_seat P (d ∷ driven) each (suc i) e h =
    each_seat (λ j. P (suc j)) driven (λ j f l. each (suc j) f (omega (arith, l))) i e
    (omega (arith, h))

pub seats_back : (shares : Shares) (driven : List Driven) → length driven ≡ (plan_of shares).workers
    → ((i : ℕ) (d : Driven) → i < length driven → IsSeatOf shares (seat_of (get_or driven i d))
    × (index_of (seat_of (get_or driven i d)) ≡ i)) → AreSeatsOf shares (map seat_of driven)
seats_back shares driven count each = record {
  count = length-map driven seat_of ∙ count;
  each = each_seat (λ i s. IsSeatOf shares s) driven (λ i d h. (each i d h).0);
  order = each_seat (λ i s. index_of s ≡ i) driven (λ i d h. (each i d h).1);
}

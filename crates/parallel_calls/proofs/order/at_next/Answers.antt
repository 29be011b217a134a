-- The closure was called at the two items.
use Rattle.std.proofs.Common.{ℕ, ◌≡◌, ◌+◌, ◌<◌, ◌∙◌, List, arith, get_or, length}
use Rattle.std.proofs.lemmas.List.{get_or_default}
use Rattle.parallel_calls.proofs.order.at_next.Goals as goal

-- whatever stands for a missing item
at_any : {X : Type 0} (items : List X) (place : ℕ) (x : X) → place < length items
    → x ≡ get_or items place x → (d : X) → x ≡ get_or items place d
at_any items place x inside is d = is ∙ get_or_default items place x d inside

pub compare-requires : goal.compare-requires
compare-requires g c =
    let items = c.args.items.now in
    let place = c.args.place in
    c.requires.accepts _ _ place c.requires.inside
    (at_any items place c.index-items-place.result (omega (arith, c.requires.inside))
    c.index-items-place.is)
    (at_any items (place + 1) c.index-items-place-2.result c.requires.inside
    c.index-items-place-2.is)

pub returns : goal.returns
returns g c d =
    let items = c.args.items.now in
    let place = c.args.place in record {
      first = _;
      second = _;
      shows = (
        at_any items place c.index-items-place.result (omega (arith, c.requires.inside))
            c.index-items-place.is d,
        at_any items (place + 1) c.index-items-place-2.result c.requires.inside
            c.index-items-place-2.is d,
      );
      says = record { met = c.compare.ensures };
    }

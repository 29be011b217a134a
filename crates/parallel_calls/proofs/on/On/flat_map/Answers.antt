-- The lists are those of the map.
use Rattle.std.proofs.Common.{◌≡◌, List, [], ◌∷◌, ◌++◌, Vec, Global, refl, ◌∙◌, ap}
use Rattle.std.specs.Prelude.{flat_map}
use Rattle.parallel_bridge.specs.Lists.{MapOf}
use Rattle.parallel_calls.specs.Flat.{FlatOf, GivesItems, items_of}
use Rattle.parallel_calls.specs.Functions.{GoesBy}
use Rattle.std.proofs.lemmas.Result.{IfOk-weaker}
use Rattle.parallel_calls.proofs.on.On.flat_map.Goals as goal

module _ {X T : Type 0} (gives : X → Vec T Global → Type 0) (f : X → List T)
    (goes : GoesBy (GivesItems gives) f) where
  each_list : (xs : List X) (lists : List (Vec T Global)) → MapOf gives xs lists
      → items_of lists ≡ flat_map f xs
  each_list [] [] h = refl
  each_list [] (list ∷ lists) h = absurd h
  each_list (x ∷ xs) [] h = absurd h
  each_list (x ∷ xs) (list ∷ lists) h =
      ap (λ l. l ++ items_of lists) (goes x list.items (list, h.0, refl))
      ∙ ap (λ l. f x ++ l) (each_list xs lists h.1)

  plain_flat : (xs : List X) (all : List T) → FlatOf gives xs all → all ≡ flat_map f xs
  plain_flat xs all (lists, each, is) = is ∙ each_list xs lists each

pub returns-clause-items : goal.returns-clause-items
returns-clause-items g c = IfOk-weaker c.joined.result _ _ (λ all is.
    let w = c.in_ok-lists.ensures.answers in (w.0, w.1, (c.in_ok-lists.lists.items, w.2, is)))
    c.joined.ensures.items

pub returns-clause-plain : goal.returns-clause-plain
returns-clause-plain g c f goes = IfOk-weaker c.joined.result _ _
    (λ all w. (w.0, w.1, plain_flat _ f goes w.0 all.items w.2)) (returns-clause-items g c)

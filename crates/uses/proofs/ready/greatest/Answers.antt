-- The greater of two numbers, of which 0 is the least.
use Rattle.std.proofs.Common.{rules, arith, ◌≡◌, max, fold}
use Rattle.std.specs.Prelude.{true}
use Rattle.parallel_bridge.proofs.OverLists.{fact_of_list}
use Rattle.uses.proofs.ready.greatest.Goals as goal

pub returns-clause-greatest : goal.returns-clause-greatest
returns-clause-greatest g c = fact_of_list c.args.numbers.now
    (λ xs greatest. greatest ≡ fold max 0 xs) c.fold.result
    (c.fold.ensures.plain 0 max max (λ a. true) (λ xs came. record {
      starts = λ e k. search rules;
      steps = λ a x b h within k. search rules;
      reduces = λ a b r h h' k. search rules;
      good_unit = search rules;
      good_step = λ a x h within. search rules;
      good_reduce = λ a b h h'. search rules;
      neutral = λ a h. omega arith;
      passes = λ a b x h h' within. omega arith;
    }))

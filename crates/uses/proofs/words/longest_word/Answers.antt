-- To take the longer word keeps the laws of folds, and the plain fold gives the first longest.
use Rattle.std.proofs.Common.{rules}
use Rattle.uses.proofs.LongestWords.{longest_of_list}
use Rattle.uses.proofs.words.longest_word.Goals as goal

pub returns-clause-longest : goal.returns-clause-longest
returns-clause-longest g c = longest_of_list _ _ _ _ c.fold.result c.fold.ensures.brackets
    (λ e k. search rules) (λ a x b k. search rules) (λ a b v k. search rules)

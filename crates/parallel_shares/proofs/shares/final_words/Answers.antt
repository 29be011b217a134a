-- One more word is read at the place of its share.
use Rattle.parallel_shares.proofs.{◌≡◌, ◌∷◌, [], ap, sym, subst, ◌∙◌, arith, inl, inr, cases_lt, get_or, get_or_append_left, get_or_push, slots_items, place_of, read_at}
use Rattle.parallel_shares.proofs.shares.final_words.Goals as goal

pub loop-share-preserved : goal.loop-share-preserved
loop-share-preserved c =
    let i = c.loop-share.invariant in
    let all = slots_items c.args.closed.now.words in
    let share = c.loop-share.share in
    let last = c.loop-share.last.items in
    let word = c.word.result in
    let here : get_or all (place_of share) 0 ≡ word = ap (λ p. get_or all p 0)
    (sym c.place_of.ensures) ∙ read_at all c.place_of.result word 0 c.word.ensures in
    record {
      each = λ k h. rw c.push_reserved.ensures.items (elim (cases_lt k share) [
        | inl l ↦ get_or_append_left last (word ∷ []) 0 k (omega (arith, l, i.count)) ∙ i.each k l
        | inr m ↦
            let is : share ≡ k = omega (arith, m, h) in
            get_or_push last word 0 k (i.count ∙ is)
            ∙ sym (subst (λ j. get_or all (place_of j) 0 ≡ word) is here)
      ]);
      count = omega (arith, c.push_reserved.ensures.len, i.count);
      room = omega (arith, c.push_reserved.ensures.capacity, i.room);
    }

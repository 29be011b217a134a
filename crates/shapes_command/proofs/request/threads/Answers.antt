-- The words of a line `threads` are a number, two texts and a number or none.
use Rattle.shapes_command.proofs.{◌≡◌, ◌-◌, ◌^◌, List, ℕ, arith, codes, digits_value, IsNumberUpTo, CountsOrNone, IsTextOrNone, word, has_form, of_word, is_count_or_none}
use Rattle.shapes_command.proofs.request.threads.Goals as goal

pub returns-in_ok-count_or_none-in-len5 : goal.returns-in_ok-count_or_none-in-len5
returns-in_ok-count_or_none-in-len5 c =
    let words = c.args.words.now in
    let form = has_form words 5 c.name-item.result c.as_str.result.now (codes "threads")
    (omega arith) (omega arith) c.name-item.is c.as_str.ensures.value c.if-eq.ensures in
    let set = of_word words 1 c.set-item.result c.deref.result.now c.set-item.is c.deref.ensures
    (λ (t : List ℕ). IsNumberUpTo (2 ^ 64 - 1) t
    × (c.in_ok-number-in-len5.field-0 ≡ digits_value 10 t))
    (omega arith) c.in_ok-number-in-len5.ensures in
    let first =
    of_word words 2 c.num_threads-item.result c.deref-in-len5.result.now c.num_threads-item.is
    c.deref-in-len5.ensures
    (λ (t : List ℕ). IsTextOrNone t c.text_or_none.result) (omega arith) c.text_or_none.ensures in
    let second =
    of_word words 3 c.num_cpus-item.result c.deref-in-len5-2.result.now c.num_cpus-item.is
    c.deref-in-len5-2.ensures
    (λ (t : List ℕ). IsTextOrNone t c.text_or_none-in-len5.result)
    (omega arith) c.text_or_none-in-len5.ensures in
    let machine =
    of_word words 4 c.machine-item.result c.deref-in-len5-3.result.now c.machine-item.is
    c.deref-in-len5-3.ensures
    (λ (t : List ℕ). CountsOrNone (2 ^ 64 - 1) t c.in_ok-count_or_none-in-len5.field-0)
    (omega arith) c.in_ok-count_or_none-in-len5.ensures in (
      (
        form,
        set.0,
        is_count_or_none (2 ^ 64 - 1)
            (word words 4) c.in_ok-count_or_none-in-len5.field-0 machine,
      ),
      set.1,
      first,
      second,
      machine,
    )

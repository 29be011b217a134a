-- The bytes are mixed in one after another, between the seed and the place.
use Rattle.commonware_parallel.proofs.{rules, ◌≡◌, ◌∙◌, ℕ, take, length, ap, ◌∷◌, [], ◌++◌, take_all, mixed_in, mixed_all, one_more, three_more}
use Rattle.commonware_parallel.proofs.mocks.hash.mix.Goals as goal

pub loop-byte-preserved : goal.loop-byte-preserved
loop-byte-preserved c = (
  c.mixed_in-hash-in-loop-byte.ensures.below,
  one_more (mixed_in c.mixed_in-seeded.result (length c.args.site.file.now)) c.loop-byte.hash
      c.mixed_in-hash-in-loop-byte.result c.as_bytes-byte-items.result.now c.loop-byte.byte-index
      c.loop-byte-test.true c.loop-byte.invariant.1 (search rules),
)

pub returns-clause-hash : goal.returns-clause-hash
returns-clause-hash c =
    let bytes = c.as_bytes-byte-items.result.now in
    let file = c.args.site.file.now in
    let start : ℕ = mixed_in c.mixed_in-seeded.result (length file) in
    let all : take c.loop-byte.byte-index bytes ≡ file =
    take_all c.loop-byte.byte-index bytes c.loop-byte-test.false
    ∙ c.as_bytes-byte-items.ensures.value in
    let mixed : c.loop-byte.hash ≡ mixed_all start file = c.loop-byte.invariant.1
    ∙ ap (mixed_all start) all in
    let ends =
    three_more start c.loop-byte.hash c.mixed_in-lined.result c.mixed_in-placed.result
    c.mixed_in.result c.args.site.line c.args.site.column c.args.len file mixed (search rules)
    (search rules) (search rules) in
    ends ∙ ap (λ (s : ℕ). mixed_all (mixed_in s (length file))
    (file ++ c.args.site.line ∷ c.args.site.column ∷ c.args.len ∷ []))
    c.mixed_in-seeded.ensures.hash

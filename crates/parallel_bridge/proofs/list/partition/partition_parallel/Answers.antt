-- The values and the keys of the segments, appended, are those of the list.
use Rattle.parallel_bridge.proofs.{◌≡◌, ◌++◌, Ok, Infallible, PartitionOf, keys_in, values_in, Shape, cutdepth, GivesSome, TryAlongCut, OnlyOk, driven, parted, partition_shape}
use Rattle.std.specs.declared.alloc.Global.{Global}
use Rattle.std.specs.declared.vec.Vec.{Vec}
use Rattle.parallel_bridge.proofs.list.partition.partition_parallel.Goals as goal

pub returns-clause-parts : goal.returns-clause-parts
returns-clause-parts g c =
    let allowed = goal.F-post g c.args.map_op.now in let k = cutdepth c.args.threads.value in
    let gives = g.P.Parts.gives in let lists = c.in_ok-lists.lists in
    parted c.put_in_lists.result (values_in lists.items) (keys_in lists.items)
    (λ us ks. GivesSome gives c.args.parts (λ xs. PartitionOf allowed xs us ks))
    (driven c.bridge.result (Ok lists) (λ out. GivesSome gives c.args.parts (λ xs. TryAlongCut
    {R = Vec (Vec g.row.U.Denot Global × Vec g.row.K.Denot Global) Global} {E = Infallible}
    (λ l o. OnlyOk (λ v. PartitionOf allowed l (values_in v.items) (keys_in v.items)) o)
    (λ a b o. OnlyOk (λ c. (values_in c.items ≡ values_in a.items ++ values_in b.items)
    × (keys_in c.items ≡ keys_in a.items ++ keys_in b.items)) o) (Shape k xs) out))
    (λ r. GivesSome gives c.args.parts
    (λ xs. PartitionOf allowed xs (values_in r.items) (keys_in r.items)))
    (λ r h. (
      h.0,
      h.1,
      partition_shape Infallible
          (λ (v : Vec (Vec g.row.U.Denot Global × Vec g.row.K.Denot Global) Global).
          values_in v.items) (λ v. keys_in v.items) allowed k h.0 r h.2,
    ))
    c.in_ok-lists.ensures.same c.bridge.ensures.along)
    c.put_in_lists.ensures.values c.put_in_lists.ensures.keys

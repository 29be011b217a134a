-- the hash has the bytes so far
use Rattle.commonware_parallel.proofs.{◌≡◌, ◌<◌, take, length, mixed_in, mixed_all}
use Rattle.commonware_parallel.proofs.mocks.hash.mix.Given as goal

abbrev pub invariant-loop-byte : goal.invariant-loop-byte
invariant-loop-byte l = (l.hash < 2147483647)
    × (l.hash ≡ mixed_all (mixed_in l.seeded (length l.fn.site.file.now))
    (take l.byte-index l.byte-items))

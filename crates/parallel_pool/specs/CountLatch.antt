-- A count latch and its shares, as contracts name them.
use Rattle.std.specs.Prelude.{◌≡◌, ℕ, List, []}
use Rattle.parallel_pool.specs.declared.latch.count_latch.CountLatch.{CountLatch}
use Rattle.parallel_pool.specs.declared.latch.count_share.CountShare.{CountShare}
use Rattle.parallel_pool.specs.declared.latch.count_share.ShareView.{ShareView}

-- how many shares the latch was made of
abbrev pub share_count : CountLatch → ℕ
share_count latch = latch.table.shared.key

-- the share is one of this latch
abbrev pub IsShareOf : CountLatch → CountShare → Type 0
IsShareOf latch share = (share.seat.table_id ≡ latch.table.shared.table_id) × (share.seat.me.1 ≡ [])
    × (share.seat.me.0.of ≡ share_count latch)

-- what the share knows of its latch
abbrev pub knows : CountShare → ShareView
knows share = share.seat.me.0

-- whether the share may still be given: 1, or 0 once it is spent
abbrev pub unspent : CountShare → ℕ
unspent share = (knows share).unspent

-- the shares that it has seen given, in order
abbrev pub gives_seen : CountShare → List ℕ
gives_seen share = (knows share).seen

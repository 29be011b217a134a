-- The text that answers a request.
use Rattle.std.specs.Prelude.{◌≡◌, ◌+◌, ◌*◌, ◌%◌, ℕ, true, List, [], ◌∷◌, ◌++◌, map, length, codes, if◌then◌else◌, String, ◌<◌, min, Option, None, Some, MatchOption}
use Rattle.std.specs.Borrow.{Bor}
use Rattle.std.specs.Fmt.{decimal}
use Rattle.std.specs.List.{join_with_byte, range_with_len, sum_by}
use Rattle.std.specs.NonZero.{non_zero_usize_get}
use Rattle.std.specs.declared.num.NonZeroUsize.{NonZeroUsize}
use Rattle.std.specs.declared.alloc.Global.{Global}
use Rattle.std.specs.declared.ops.Range.{Range}
use Rattle.parallel_shares.specs.declared.grid.Grid.{Grid}
use Rattle.parallel_shares.specs.Cut.{BalancedCut}
use Rattle.parallel_shares.specs.Grid.{critical_cost, stays_whole}
use Rattle.parallel_bridge.specs.Shapes.{Cut, cutdepth, Shape, leaf_lengths, Along}
use Rattle.parallel_pool.specs.PlannedThreads.{Writes, by_texts, number_or}
use Rattle.parallel_policy.specs.declared.site.Site.{Site}
use Rattle.commonware_parallel.specs.Explorers.{ExplorerView}
use Rattle.commonware_parallel.specs.Merkle.{MerkleRoot}
use Rattle.commonware_parallel.specs.Mixes.{mix_of}
use Rattle.commonware_parallel.specs.declared.mocks.explore_error.ExploreError.{ExploreError}
use Rattle.commonware_parallel.specs.declared.mocks.explore_error.ExploreError.TheVariants.{Differs, Build}
use Rattle.commonware_parallel.specs.declared.mocks.rule.Rule.TheVariants.{Parallel}
use Rattle.shapes_command.specs.Line.{as_line}
use Rattle.shapes_command.specs.Request.{number_of, Says}
use Rattle.shapes_command.specs.declared.request.Request.{Request}
use Rattle.shapes_command.specs.declared.request.Request.TheVariants.{Drain, Batches, Grid as OfGrid, Segments, Fold, FoldParallel, Threads, Mix, ExploreSum, Root}

-- the texts, with spaces between them
abbrev pub spaced : List (List ℕ) → List ℕ
spaced texts = join_with_byte 32 texts

-- a range, as `0..3`
abbrev pub range_text : Range ℕ → List ℕ
range_text range = decimal range.start ++ (codes ".." ++ decimal range.end)

-- what the longest chain of work costs, and whether the rows stay whole
abbrev pub grid_text : Grid → ℕ → ℕ → List ℕ
grid_text grid len workers = spaced
    (decimal (critical_cost grid len workers) ∷ (if stays_whole grid len workers then codes "whole"
    else codes "cut") ∷ [])

-- what an environment's text says of a number: nothing where there is no text, and else the number
-- that it writes, if it does
abbrev pub SaysNumber : Option (Bor (List ℕ)) → Option ℕ → Type 0
SaysNumber text number = MatchOption text (number ≡ None) (λ t. Writes t.now number)

-- for how many threads a pool is planned: what is set, above 0, or else the number by both texts
-- and the machine's, and at most 65535
abbrev pub IsPlannedFor : ℕ → Option (Bor (List ℕ)) → Option (Bor (List ℕ)) → Option NonZeroUsize
    → ℕ → Type 0
IsPlannedFor set num_threads num_cpus machine planned =
    (0 < set → planned ≡ min set 65535)
    × (set ≡ 0 → (threads : Option ℕ) × (cpus : Option ℕ) × SaysNumber num_threads threads
    × SaysNumber num_cpus cpus
    × (planned ≡ min (by_texts threads cpus (number_or 1 non_zero_usize_get machine)) 65535))

-- the parallel explorer over two threads that is planned for three
abbrev pub over_two : ExplorerView
over_two = record { planning = 3; threads = 2; rule = Parallel; starts = true }

-- the sum along a cut of the items: each segment is summed from the identity, after a further one,
-- and the sums of neighbours are added
abbrev pub SumsAlong : ℕ → Cut (String Global) → ℕ → Type 0
SumsAlong identity cut sum =
    Along (λ e. e ≡ identity) (λ a item b. b ≡ a + number_of item) (λ a b c. c ≡ a + b) cut sum

-- the hash of a seed, of a length, and of the site in the file `a` that has this line and column
abbrev pub IsMixedOf : ℕ → ℕ → ℕ → ℕ → ℕ → Type 0
IsMixedOf seed line column len hash =
    (site : Site) × (site.file.now ≡ codes "a") × (site.line ≡ line) × (site.column ≡ column)
    × (hash ≡ mix_of seed site len)

-- the node above two neighbours of a tree
abbrev pub combined : ℕ → ℕ → ℕ
combined a b = (2 * (a % 1000003) + 3 * (b % 1000003)) % 1000003

-- the root of the tree over the items
abbrev pub IsRootOf : List (String Global) → Option ℕ → Type 0
IsRootOf items root = MerkleRoot (λ a b c. c ≡ combined a b) (map number_of items) root

-- a root, or nothing where there is none
abbrev pub root_text : Option ℕ → List ℕ
root_text None = []
root_text (Some root) = decimal root

-- the rows below a number; balanced ranges, as many as are asked for; the cost of a grid; the
-- lengths of the segments of any list of that length; the sum of the items from the identity, and
-- along their shape for two threads; for how many threads a pool is planned; the hash; the sum of
-- the numbers below 100; the root over the items
abbrev pub Answers : Request → List ℕ → Type 0
Answers (Drain rows workers) text = text ≡ spaced (map decimal (range_with_len 0 rows))
Answers (Batches len count) text = (ranges : List (Range ℕ)) × BalancedCut len ranges
    × (length ranges ≡ non_zero_usize_get count) × (text ≡ spaced (map range_text ranges))
Answers (OfGrid grid len workers) text = text ≡ grid_text grid len (non_zero_usize_get workers)
Answers (Segments threads len) text =
    (items : List ℕ) → length items ≡ len
    → text ≡ spaced (map decimal (leaf_lengths
    (Shape (cutdepth (non_zero_usize_get threads)) items)))
Answers (Fold identity items) text = text ≡ decimal (identity + sum_by number_of items.now)
Answers (FoldParallel identity items) text = (sum : ℕ)
    × SumsAlong identity (Shape (cutdepth 2) items.now) sum × (text ≡ decimal sum)
Answers (Threads set num_threads num_cpus machine) text = (planned : ℕ)
    × IsPlannedFor set num_threads num_cpus machine planned × (text ≡ decimal planned)
Answers (Mix seed line column len) text = (hash : ℕ) × IsMixedOf seed line column len hash
    × (text ≡ decimal hash)
Answers ExploreSum text = text ≡ decimal 4950
Answers (Root items) text = (root : Option ℕ) × IsRootOf items.now root × (text ≡ root_text root)

-- a search that told of a difference ended at the parallel rule
abbrev pub EndsAtParallel : ExploreError → Type 0
EndsAtParallel (Differs rule) = rule ≡ Parallel
EndsAtParallel (Build error) = Unit {0}

-- the line answers the request that the words say
abbrev pub IsAnswer : List (String Global) → List ℕ → Type 0
IsAnswer words line = (request : Request) × (text : List ℕ) × Says words request
    × Answers request text × (line ≡ as_line text)

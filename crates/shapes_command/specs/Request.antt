-- Which words are a command line, and which request they say.
use Rattle.std.specs.Prelude.{◌≡◌, ℕ, ◌-◌, ◌^◌, ◌≤◌, ◌⊎◌, List, [], All, map, drop, length, slice_index_or, codes, string_bytes, String}
use Rattle.std.specs.NonZero.{non_zero_usize_get}
use Rattle.std.specs.Str.Parse.{digits_value}
use Rattle.std.specs.declared.alloc.Global.{Global}
use Rattle.shapes_command.specs.Number.{IsNumberUpTo, IsCountUpTo, IsCountOrNone, CountsOrNone, IsTextOrNone}
use Rattle.shapes_command.specs.declared.request.Request.{Request}
use Rattle.shapes_command.specs.declared.request.Request.TheVariants.{Drain, Batches, Grid, Segments, Fold, FoldParallel, Threads, Mix, ExploreSum, Root}

-- the text of the word at a place, which is empty past the last word
abbrev pub word : List (String Global) → ℕ → List ℕ
word words i = slice_index_or (map string_bytes words) i []

-- the number that the word at a place writes
abbrev pub number_at : List (String Global) → ℕ → ℕ
number_at words i = digits_value 10 (word words i)

-- that many words, of which the first is the name
abbrev pub HasForm : List (String Global) → List ℕ → ℕ → Type 0
HasForm words name count = (length words ≡ count) × (word words 0 ≡ name)

-- `drain ROWS WORKERS`, each in its range
abbrev pub IsDrainLine : List (String Global) → Type 0
IsDrainLine words = HasForm words (codes "drain") 3 × IsNumberUpTo 65535 (word words 1)
    × IsCountUpTo 16 (word words 2)

-- the request of such a line
abbrev pub SaysDrain : List (String Global) → Request → Type 0
SaysDrain words (Drain rows workers) = IsDrainLine words × (rows ≡ number_at words 1)
    × (non_zero_usize_get workers ≡ number_at words 2)
SaysDrain words _ = ⊥

-- `batches LEN COUNT`, each in its range
abbrev pub IsBatchesLine : List (String Global) → Type 0
IsBatchesLine words = HasForm words (codes "batches") 3 × IsNumberUpTo (2 ^ 64 - 1) (word words 1)
    × IsCountUpTo 65535 (word words 2)

-- the request of such a line
abbrev pub SaysBatches : List (String Global) → Request → Type 0
SaysBatches words (Batches len count) = IsBatchesLine words × (len ≡ number_at words 1)
    × (non_zero_usize_get count ≡ number_at words 2)
SaysBatches words _ = ⊥

-- `grid ROWS COST LEN WORKERS`, each in its range
abbrev pub IsGridLine : List (String Global) → Type 0
IsGridLine words = HasForm words (codes "grid") 5 × IsNumberUpTo (2 ^ 64 - 1) (word words 1)
    × IsCountUpTo (2 ^ 64 - 1) (word words 2)
    × IsNumberUpTo (2 ^ 64 - 1) (word words 3) × IsCountUpTo (2 ^ 64 - 1) (word words 4)

-- the request of such a line
abbrev pub SaysGrid : List (String Global) → Request → Type 0
SaysGrid words (Grid grid len workers) = IsGridLine words × (grid.rows ≡ number_at words 1)
    × (non_zero_usize_get grid.tile_cost ≡ number_at words 2)
    × (len ≡ number_at words 3) × (non_zero_usize_get workers ≡ number_at words 4)
SaysGrid words _ = ⊥

-- `segments N LEN`, each in its range
abbrev pub IsSegmentsLine : List (String Global) → Type 0
IsSegmentsLine words = HasForm words (codes "segments") 3 × IsCountUpTo 65535 (word words 1)
    × IsNumberUpTo (2 ^ 64 - 1) (word words 2)

-- the request of such a line
abbrev pub SaysSegments : List (String Global) → Request → Type 0
SaysSegments words (Segments threads len) = IsSegmentsLine words
    × (non_zero_usize_get threads ≡ number_at words 1) × (len ≡ number_at words 2)
SaysSegments words _ = ⊥

-- the number that a word writes
abbrev pub number_of : String Global → ℕ
number_of word = digits_value 10 (string_bytes word)

-- the word writes a number that a fold or a tree takes
abbrev pub IsItem : String Global → Type 0
IsItem item = IsNumberUpTo 1000000 (string_bytes item)

-- the words write numbers that a fold or a tree takes, and not too many
abbrev pub AreItems : List (String Global) → Type 0
AreItems items = (length items ≤ 1000) × All IsItem items

-- `fold WAY IDENTITY ITEM..` for a way, each in its range
abbrev pub IsFoldLine : List ℕ → List (String Global) → Type 0
IsFoldLine way words = (3 ≤ length words) × (word words 0 ≡ codes "fold") × (word words 1 ≡ way)
    × IsNumberUpTo 1000000 (word words 2) × AreItems (drop 3 words)

-- the request of such a line for the way `serial`
abbrev pub SaysFold : List (String Global) → Request → Type 0
SaysFold words (Fold identity items) = IsFoldLine (codes "serial") words
    × (identity ≡ number_at words 2) × (items.now ≡ drop 3 words)
SaysFold words _ = ⊥

-- and for the way `parallel`
abbrev pub SaysFoldParallel : List (String Global) → Request → Type 0
SaysFoldParallel words (FoldParallel identity items) = IsFoldLine (codes "parallel") words
    × (identity ≡ number_at words 2) × (items.now ≡ drop 3 words)
SaysFoldParallel words _ = ⊥

-- `threads SET NUM CPUS MACHINE`: a number, two texts, and a number above 0, where `-` stands for
-- none but at SET
abbrev pub IsThreadsLine : List (String Global) → Type 0
IsThreadsLine words = HasForm words (codes "threads") 5 × IsNumberUpTo (2 ^ 64 - 1) (word words 1)
    × IsCountOrNone (2 ^ 64 - 1) (word words 4)

-- the request of such a line
abbrev pub SaysThreads : List (String Global) → Request → Type 0
SaysThreads words (Threads set num_threads num_cpus machine) = IsThreadsLine words
    × (set ≡ number_at words 1)
    × IsTextOrNone (word words 2) num_threads × IsTextOrNone (word words 3) num_cpus
    × CountsOrNone (2 ^ 64 - 1) (word words 4) machine
SaysThreads words _ = ⊥

-- `mix SEED LINE COLUMN LEN`: numbers of 64 bits, but of 32 bits at LINE and COLUMN
abbrev pub IsMixLine : List (String Global) → Type 0
IsMixLine words = HasForm words (codes "mix") 5 × IsNumberUpTo (2 ^ 64 - 1) (word words 1)
    × IsNumberUpTo (2 ^ 32 - 1) (word words 2)
    × IsNumberUpTo (2 ^ 32 - 1) (word words 3) × IsNumberUpTo (2 ^ 64 - 1) (word words 4)

-- the request of such a line
abbrev pub SaysMix : List (String Global) → Request → Type 0
SaysMix words (Mix seed line column len) = IsMixLine words × (seed ≡ number_at words 1)
    × (line ≡ number_at words 2)
    × (column ≡ number_at words 3) × (len ≡ number_at words 4)
SaysMix words _ = ⊥

-- `explore WHAT` for what is searched
abbrev pub IsExploreLine : List ℕ → List (String Global) → Type 0
IsExploreLine what words = HasForm words (codes "explore") 2 × (word words 1 ≡ what)

-- the request of such a line for the sum
abbrev pub SaysExploreSum : List (String Global) → Request → Type 0
SaysExploreSum words ExploreSum = IsExploreLine (codes "sum") words
SaysExploreSum words _ = ⊥

-- `root ITEM..`, each in its range
abbrev pub IsRootLine : List (String Global) → Type 0
IsRootLine words = (1 ≤ length words) × (word words 0 ≡ codes "root") × AreItems (drop 1 words)

-- the request of such a line
abbrev pub SaysRoot : List (String Global) → Request → Type 0
SaysRoot words (Root items) = IsRootLine words × (items.now ≡ drop 1 words)
SaysRoot words _ = ⊥

-- `explore bodies`, which has no answer: the search ends at a difference
abbrev pub IsBodiesLine : List (String Global) → Type 0
IsBodiesLine words = IsExploreLine (codes "bodies") words

-- the request of no words: that of `drain 4 2`
abbrev pub IsUnasked : Request → Type 0
IsUnasked (Drain rows workers) = (rows ≡ 4) × (non_zero_usize_get workers ≡ 2)
IsUnasked _ = ⊥

-- one of the lines about work that is shared out
abbrev pub IsShareLine : List (String Global) → Type 0
IsShareLine words = IsDrainLine words ⊎ (IsBatchesLine words ⊎ IsGridLine words)

-- the request of such a line
abbrev pub SaysShare : List (String Global) → Request → Type 0
SaysShare words request = SaysDrain words request
    ⊎ (SaysBatches words request ⊎ SaysGrid words request)

-- one of the lines about lists and about the threads for them
abbrev pub IsListLine : List (String Global) → Type 0
IsListLine words = IsSegmentsLine words ⊎ (IsFoldLine (codes "serial") words ⊎ IsThreadsLine words)

-- the request of such a line
abbrev pub SaysList : List (String Global) → Request → Type 0
SaysList words request = SaysSegments words request
    ⊎ (SaysFold words request ⊎ SaysThreads words request)

-- one of the lines for which there is a search
abbrev pub IsSearchLine : List (String Global) → Type 0
IsSearchLine words = IsExploreLine (codes "sum") words ⊎ IsRootLine words

-- the request of such a line
abbrev pub SaysSearch : List (String Global) → Request → Type 0
SaysSearch words request = SaysExploreSum words request ⊎ SaysRoot words request

-- one of the lines about explorers
abbrev pub IsExplorerLine : List (String Global) → Type 0
IsExplorerLine words = IsMixLine words
    ⊎ (IsFoldLine (codes "parallel") words ⊎ IsSearchLine words)

-- the request of such a line
abbrev pub SaysExplorer : List (String Global) → Request → Type 0
SaysExplorer words request = SaysMix words request
    ⊎ (SaysFoldParallel words request ⊎ SaysSearch words request)

-- one of the lines about calls: about lists, or about explorers
abbrev pub IsCallLine : List (String Global) → Type 0
IsCallLine words = IsListLine words ⊎ IsExplorerLine words

-- the request of such a line
abbrev pub SaysCall : List (String Global) → Request → Type 0
SaysCall words request = SaysList words request ⊎ SaysExplorer words request

-- one of the lines that have words: a command with its arguments
abbrev pub IsLineOfWords : List (String Global) → Type 0
IsLineOfWords words = IsShareLine words ⊎ IsCallLine words

-- the request of such a line
abbrev pub SaysInWords : List (String Global) → Request → Type 0
SaysInWords words request = SaysShare words request ⊎ SaysCall words request

-- no words, or the words of a command that has an answer, with its arguments
abbrev pub IsRequestLine : List (String Global) → Type 0
IsRequestLine words = (length words ≡ 0) ⊎ IsLineOfWords words

-- the words of a command
abbrev pub IsCommandLine : List (String Global) → Type 0
IsCommandLine words = IsBodiesLine words ⊎ IsRequestLine words

-- the words say the request
abbrev pub Says : List (String Global) → Request → Type 0
Says words request = ((length words ≡ 0) × IsUnasked request) ⊎ SaysInWords words request

-- the request's parts are in their ranges, as those of any request that words say
abbrev pub IsInRange : Request → Type 0
IsInRange (Fold identity items) = (identity ≤ 1000000) × AreItems items.now
IsInRange (FoldParallel identity items) = (identity ≤ 1000000) × AreItems items.now
IsInRange (Root items) = AreItems items.now
IsInRange _ = Unit {0}

-- The words that the files of a strategy's calls write their clauses in, passed on from one place.
-- Declares nothing.
pub use Rattle.std.specs.Borrow.{MutBor}
pub use Rattle.std.specs.Fork.{AcceptsChunksMut, AcceptsEach, ChangesChunks, ChangesEach}
pub use Rattle.std.specs.Int.{div_ceil}
pub use Rattle.std.specs.Int.NonZero.{non_zero_usize_get}
pub use Rattle.std.specs.Iterator.{Drains, HoldsAlong, IsFinite}
pub use Rattle.std.specs.List.Sorted.{IsPermutation, IsSortedByClosure, IsStableByClosure}
pub use Rattle.parallel_bridge.specs.Comes.{Comes, ComesSerially, OkStep}
pub use Rattle.parallel_bridge.specs.Lists.{Bracketing, Brackets, MapOf}
pub use Rattle.parallel_bridge.specs.Outcomes.{UnlessRefused, listed}
pub use Rattle.parallel_bridge.specs.Parts.{PartitionOf}
pub use Rattle.parallel_bridge.specs.Sources.{GivesSome, MayCome}
pub use Rattle.parallel_bridge.specs.States.{AnyState, FoldInitSegment, FoldStep, MapStep, Stateful}
pub use Rattle.parallel_bridge.specs.Tries.{TryBracketing, TryFoldSegment, TryMapOf}
pub use Rattle.parallel_bridge.specs.Ways.{FoldedAs, FoldedInitAs, MappedInitAs, TryFoldedAs}
pub use Rattle.parallel_bridge.specs.declared.path.Path.{Path}
pub use Rattle.parallel_fault.specs.Trouble.{IsMemoryOnErr, IsMemoryOnFault}
pub use Rattle.parallel_fault.specs.declared.fault.Fault.{Fault}
pub use Rattle.parallel_fault.specs.declared.fault.Fault.TheVariants.{Memory}
pub use Rattle.parallel_fault.specs.declared.fault.Trouble.TheVariants.{Fault as OfFault}
pub use Rattle.parallel_shares.specs.Grid.{Fits}
pub use Rattle.commonware_parallel.specs.Answers.{AnswersAs, OfOne, OneOf}
pub use Rattle.commonware_parallel.specs.Batches.{IsBatch, OnSomeBatch, ranges_of}
pub use Rattle.commonware_parallel.specs.Calls.{AtSomePath, body_call, goes_by_path, join_call, multiplied_call, spawn_call}
pub use Rattle.commonware_parallel.specs.InPlace.{AcceptsParts, ChangesParts}
pub use Rattle.commonware_parallel.specs.ListCalls.{Asked, AskedOver, GoesByLength}
pub use Rattle.commonware_parallel.specs.RowFolds.{AskedByRow, FoldsRows, GivesRows, IsAdditive, IsPartOfRows}
pub use Rattle.commonware_parallel.specs.Spawned.{BeginsAs, FailsToSpawn, gives_answer}
pub use Rattle.commonware_parallel.specs.Tiles.{IsSerialCost, IsTiling, OnSomeTiles, columns_of, rows_of, tiles_place, tiles_strategy}
pub use Rattle.commonware_parallel.specs.declared.batches.Batches.{Batches}
pub use Rattle.commonware_parallel.specs.declared.call.Kind.TheVariants.{Body, Spawn}
pub use Rattle.commonware_parallel.specs.declared.call.Pick.TheVariants.{By, Into}
pub use Rattle.commonware_parallel.specs.declared.tiles.Tiles.{Tiles}

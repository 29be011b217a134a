-- A part of a row lies in the matrix, and counts of neighbouring columns add up. A call of the
-- kernel leaves its columns besides, of which nothing is said.
use Rattle.std.proofs.Common.{rules, ◌≡◌, ℕ, ◌+◌, ◌%◌, ◌^◌}
use Rattle.std.specs.List.{range_with_len}
use Rattle.std.proofs.lemmas.Result.{IfOk-weaker}
use Rattle.parallel_bridge.proofs.Laws.{map_is_function}
use Rattle.commonware_parallel.specs.RowFolds.{columns_between}
use Rattle.uses.specs.Tiles.{is_above, number_of, row_cells}
use Rattle.uses.proofs.Tiles.{in_matrix, number, numbers_added}
use Rattle.uses.proofs.tile_rows.above_by_row.Goals as goal

pub fold_rows-requires-clause-kernel_accepts : goal.fold_rows-requires-clause-kernel_accepts
fold_rows-requires-clause-kernel_accepts g c κs within = λ row columns is.
    in_matrix c.args.rows c.args.len c.args.matrix.now row columns c.requires is

pub returns-clause-counted : goal.returns-clause-counted
returns-clause-counted g c =
    let test = is_above c.args.threshold in
    let matrix = c.args.matrix.now in
    let len = c.args.len in
    IfOk-weaker c.fold_rows.result _ _
    (λ values gave. map_is_function _ (range_with_len 0 c.args.rows) values.items gave
    (λ (row : ℕ). number test matrix len row 0 len) (λ row value there is. is.1))
    (c.fold_rows.ensures.whole
    (λ row a b d left right sum there low high inside one two added. (
      columns_between a d,
      numbers_added test matrix len row a b d left right sum c.ranges.len.fits low high inside
          one.1 two.1 added,
    )))

-- The state is what came so far of a row. The closures' own clauses go along; a call of `fill`
-- leaves its columns besides, of which nothing is said.
use Rattle.commonware_parallel.proofs.{◌≡◌, ℕ, Option, None, arith, MutBor, Range, Fills}
use Rattle.commonware_parallel.proofs.RowFolds.{folds_nothing, parts_named, rows_folded}
use Rattle.commonware_parallel.specs.RowFolds.{EndsFold, FoldsOn}
use Rattle.std.proofs.lemmas.Result.{IfOk-weaker}
use Rattle.commonware_parallel.proofs.tiles.folded.fold_tiles.Goals as goal

pub fill_stretches-requires-clause-fill_accepts : goal.fill_stretches-requires-clause-fill_accepts
fill_stretches-requires-clause-fill_accepts g c κs within = λ state row columns is. (
  c.requires.kernel_accepts row columns (is.0, omega (arith, is.1), is.2),
  c.requires.merge_accepts,
)

pub merge_sorted-requires-clause-cut : goal.merge_sorted-requires-clause-cut
merge_sorted-requires-clause-cut g c = (parts_named _ _ EndsFold _ (λ p q x part h. h)
    c.args.tiles.rows c.args.tiles.len c.args.tiles.whole c.in_ok-parts.parts.items
    c.in_ok-parts.ensures.fills).0

pub returns-then-tiles-eq0-clause-folds : goal.returns-then-tiles-eq0-clause-folds
returns-then-tiles-eq0-clause-folds g c =
    IfOk-weaker c.rows_without_columns.result _ _
    (λ values gave. folds_nothing (goal.K-post g c.args.kernel.now)
    (goal.M-post g c.args.merge.now) c.args.tiles.rows c.args.tiles.len values.items
    c.if-tiles-eq0.true gave) c.rows_without_columns.ensures.values

pub returns-clause-folds : goal.returns-clause-folds
returns-clause-folds g c =
    let kernel = goal.K-post g c.args.kernel.now in
    let merge = goal.M-post g c.args.merge.now in
    let Held : Type 0 = Option g.row.R.Denot in
    let fill : MutBor Held → ℕ → Range ℕ → Unit {0} → MutBor Held → Type 0 =
    λ p row columns done q. Range ℕ × FoldsOn kernel merge p.now row columns q.now in
    rows_folded kernel merge fill (λ p q row columns h. h.1)
    c.args.tiles.rows c.args.tiles.len c.args.tiles.whole c.in_ok-parts.parts.items
    c.in_ok-values.values.items
    (parts_named (λ (s : Held). s ≡ None) (Fills fill) EndsFold _ (λ p q x part h. h)
    c.args.tiles.rows c.args.tiles.len c.args.tiles.whole c.in_ok-parts.parts.items
    c.in_ok-parts.ensures.fills) c.in_ok-values.ensures.merges

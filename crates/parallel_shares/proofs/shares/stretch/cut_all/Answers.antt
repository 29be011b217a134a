-- Each claim adds its cells, and at the end the open stretch ends.
use Rattle.parallel_shares.proofs.{◌≡◌, ℕ, ◌+◌, ◌++◌, take, get_or, subst, ◌∙◌, ap, take_more, take_all, Range, range_cells, all_cells, cells_push, Fills, Ends, Underway, way_begins, itself_ends}
use Rattle.parallel_shares.proofs.shares.stretch.cut_all.Goals as goal

pub loop-claim-init : goal.loop-claim-init
loop-claim-init g c =
    way_begins _ _ c.args.len (tt {0}) c.new-found.result.items c.new-found.ensures.items

pub loop-claim-preserved : goal.loop-claim-preserved
loop-claim-preserved g c =
    let claims = c.args.claims.now in
    let i = c.loop-claim.claim-index in
    let claim : Range ℕ = get_or claims i (record { start = 0; end = 0 }) in
    let cells : all_cells (take (i + 1) claims) ≡ all_cells (take i claims) ++ range_cells claim =
    ap all_cells (take_more claims i (record { start = 0; end = 0 }) c.loop-claim-test.true)
    ∙ cells_push (take i claims) claim in
    rw cells
    (c.in_ok-opened.ensures.chain (tt {0}) (all_cells (take i claims)) c.loop-claim.invariant)

pub returns-clause-cutting : goal.returns-clause-cutting
returns-clause-cutting g c =
    let l = c.loop-claim in
    let claims = c.args.claims.now in
    itself_ends _ _ (λ s t x r h. c.requires.whole h.0 h.1 x r h.3) c.args.len (tt {0}) (tt {0})
    (tt {0}) (all_cells claims) l.opened l.found.items c.finish_open.new.results.items
    (subst (λ rs. Underway (Fills (goal.L-post g c.args.fill.now)) (Ends (λ stretch. stretch)
    (goal.N-post g c.args.whole.now)) c.args.len (tt {0}) (all_cells rs) l.opened l.found.items
    (tt {0})) (take_all l.claim-index claims c.loop-claim-test.false) l.invariant)
    c.in_ok-finish_open.ensures.closes

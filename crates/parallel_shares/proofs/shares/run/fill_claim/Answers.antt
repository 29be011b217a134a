-- Each turn fills one piece of the claim.
use Rattle.parallel_shares.proofs.{◌++◌, ◌-◌, arith, stretch_of, range_with_len, claim_none, claim_more, claim_all}
use Rattle.parallel_shares.proofs.shares.run.fill_claim.Goals as goal

pub loop-at-init : goal.loop-at-init
loop-at-init g c = record {
  begun = omega arith;
  within = omega arith;
  accepts = c.requires.open_accepts;
  chain = λ first cells way. rw (claim_none cells c.args.claim.start) way;
}

pub fill_piece-requires : goal.fill_piece-requires
fill_piece-requires g c =
    let piece = c.front-piece in
    record {
      fill_accepts = λ state. c.requires.fill_accepts state piece.result.row _ (
        piece.ensures.piece.0,
        piece.ensures.piece.1,
        omega (
          arith,
          piece.ensures.start,
          piece.ensures.within,
          piece.ensures.piece.0,
          c.loop-at-test.true,
        ),
      );
      open_accepts = c.loop-at.invariant.accepts;
    }

pub loop-at-preserved : goal.loop-at-preserved
loop-at-preserved g c =
    let i = c.loop-at.invariant in
    let len = c.args.len in
    let at = c.loop-at.at in
    let start = c.args.claim.start in
    let piece = c.front-piece in
    record {
      begun = omega (arith, i.begun);
      within = omega (arith, i.begun, i.within, piece.ensures.within, c.loop-at-test.true);
      accepts = λ state. c.requires.finish_accepts state (stretch_of c.in_ok-fill_piece.field-0)
          (rw c.in_ok-fill_piece.ensures.row
          (omega (arith, piece.ensures.start, c.loop-at-test.true, piece.ensures.piece.0)));
      chain = λ first cells way.
          rw (← claim_more len cells start at piece.result i.begun piece.ensures.start)
          (c.in_ok-fill_piece.ensures.chain len piece.ensures.piece first
          (cells ++ range_with_len start (at - start)) (i.chain first cells way));
    }

pub returns-clause-chain : goal.returns-clause-chain
returns-clause-chain g c first cells way =
    let l = c.loop-at in
    rw (← claim_all cells c.args.claim.start l.at c.args.claim.end
    (omega (arith, c.loop-at-test.false)) l.invariant.within)
    (l.invariant.chain first cells way)

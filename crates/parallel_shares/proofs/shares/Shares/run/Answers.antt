-- Each claim is filled after those before it, and at the end the open stretch gets its result.
use Rattle.parallel_shares.proofs.{◌++◌, ◌∷◌, [], refl, sym, ap, ◌∙◌, append-nil, append_assoc, arith, All-nil, All-cons, All-append, plan_of, claims_of, own_word, IsFront, all_cells, cells_push, way_begins}
use Rattle.parallel_shares.proofs.{way_ends, grows_from, found_since}
use Rattle.parallel_shares.proofs.shares.Shares.run.Goals as goal

pub loop-init : goal.loop-init
loop-init g c = record {
  goes_on = (tt, tt);
  seat = c.requires.belongs;
  index = refl;
  accepts = tt;
  loads = λ share. omega arith;
  chain = (
    [],
    sym (append-nil (claims_of c.args.seat.now)),
    All-nil (IsFront (plan_of c.args.self.now)),
    way_begins _ _ c.args.len c.args.state.now c.new-results.result.items
        c.new-results.ensures.items,
  );
}

pub fill_claim-requires : goal.fill_claim-requires
fill_claim-requires g c =
    let cells = c.in-Some-claim.ensures.answer.1 in
    record {
      some_cells = c.requires.some_cells;
      fill_accepts = λ state row columns part. c.requires.fill_accepts state row columns
          (part.0, part.1, omega (arith, part.2, cells.1));
      finish_accepts = λ state stretch below. c.requires.finish_accepts state stretch
          (omega (arith, below, cells.1));
      open_accepts = c.loop.invariant.accepts;
    }

pub finish_open-requires : goal.finish_open-requires
finish_open-requires g c = c.loop.invariant.accepts

pub loop-preserved : goal.loop-preserved
loop-preserved g c =
    let i = c.loop.invariant in
    let gained = i.chain.0 in
    let claim = c.in-Some-claim.claim in
    let answer = c.in-Some-claim.ensures.answer in
    let front = IsFront (plan_of c.args.self.now) in
    let word = own_word c.args.self.now c.claim.new.seat in
    record {
      goes_on = (tt, tt);
      seat = c.claim.ensures.seat;
      index = c.claim.ensures.index ∙ i.index;
      loads = grows_from c.args.seat.now c.loop.seat c.claim.new.seat i.loads c.claim.ensures.loads;
      accepts = c.in_ok-opened.ensures.open_accepts;
      chain = (
        gained ++ claim ∷ [],
        answer.0 ∙ ap (λ xs. xs ++ claim ∷ []) i.chain.1
            ∙ append_assoc (claims_of c.args.seat.now) gained (claim ∷ []),
        All-append front gained (claim ∷ []) i.chain.2
            (All-cons front claim [] (word, answer.2, answer.3, answer.4) (All-nil front)),
        rw (cells_push gained claim) (c.in_ok-opened.ensures.chain c.args.state.now
            (all_cells gained) i.chain.3),
      );
    }

pub returns-in_default-clause-chain : goal.returns-in_default-clause-chain
returns-in_default-clause-chain g c =
    let chain = c.loop.invariant.chain in
    let ends = way_ends _ _ c.args.len c.args.state.now
    (all_cells chain.0) c.loop.opened c.loop.results.items c.loop.state chain.3
    c.finish_open.new.state c.finish_open.new.results.items c.in_ok-finish_open.ensures.closes
    in
    (chain.0, ends.0, c.in_default.ensures.answer.0 ∙ chain.1, chain.2, ends.1, ends.2)

pub returns-in_default-clause-done : goal.returns-in_default-clause-done
returns-in_default-clause-done g c =
    found_since c.args.self.now c.args.seat.now c.loop.seat c.claim.new.seat c.loop.invariant.index
    c.loop.invariant.loads c.in_default.ensures.answer.1

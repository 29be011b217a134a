-- How often shares were loaded: never less often, whatever the seat tries.
use Rattle.parallel_shares.proofs.Common.{◌≡◌, ◌≢◌, ℕ, true, None, [], ◌+◌, ◌≤◌, ◌∙◌, inl, inr, refl, sym, ap, subst, arith, cases_eq, cases_lt}
use Rattle.parallel_shares.proofs.Common.{Shares, Seat, shares_of, share_of, loaded_at, loads_at, loads_since, times, plan_of, known, index_of, claims_of, transit_of, has_emptied}
use Rattle.parallel_shares.proofs.Common.{own_share, own_loads, own_word, IsEmptyWord, IsSameSeat, OthersStay, LoadsGrow, LoadsOthers, NonePays, TriesClaim, TriesSteal, FoundNothing, GainsTry}
use Rattle.parallel_shares.specs.declared.shares.seat.Tried.{Tried}
use Rattle.parallel_shares.specs.declared.shares.seat.Tried.TheVariants.{Claimed, Empty, Lost, Nothing, Taken}

pub grows_from : (a b c : Seat) → LoadsGrow a b → LoadsGrow b c → LoadsGrow a c
grows_from a b c first then share = omega (arith, first share, then share)

module _ (shares : Shares) (before after : Seat) where
  -- a try to claim loads the seat's own share alone
  pub tries_grow : own_loads shares after ≡ own_loads shares before + 1
      → index_of after ≡ index_of before → OthersStay shares before after → LoadsGrow before after
  tries_grow once same others share =
      elim (cases_eq share (own_share shares before)) as
      (λ _. loads_at (known before) share ≤ loads_at (known after) share) [
        | inl own ↦
            let there = ap (λ i. loads_at (known after) (share_of (plan_of shares) i)) same in
            rw own (omega (arith, once, there))
        | inr apart ↦ omega (arith, (others share apart).1)
      ]

  -- a try to steal loads each other share
  pub steals_grow : LoadsOthers shares before after → LoadsGrow before after
  steals_grow looks share = elim (cases_eq share (own_share shares before)) [
    | inl own ↦ omega (arith, (looks.others share (inl own)).0)
    | inr apart ↦ elim (cases_lt share (shares_of (plan_of shares))) [
      | inl below ↦ omega (arith, looks.once share below apart)
      | inr past ↦ omega (arith, (looks.others share (inr past)).0)
    ]
  ]

module _ (shares : Shares) (before seen after : Seat) where
  -- a load of the seat's own share, and after it a look round
  pub each_grow : own_loads shares seen ≡ own_loads shares before + 1 → IsSameSeat before seen
      → OthersStay shares before seen → LoadsOthers shares seen after → LoadsGrow before after
  each_grow once same others looks =
      grows_from before seen after (tries_grow shares before seen once same.0 others)
      (steals_grow shares seen after looks)

  -- a look round after a load of the seat's own share, which was empty, found nothing
  found_nothing : own_loads shares seen ≡ own_loads shares before + 1 → IsSameSeat before seen
      → OthersStay shares before seen → (known seen).since ≡ [] → IsEmptyWord (own_word shares seen)
      → index_of after ≡ index_of seen → has_emptied after ≡ true → LoadsOthers shares seen after
      → NonePays (plan_of shares) (own_share shares seen) (shares_of (plan_of shares)) (known after)
      → transit_of after ≡ None → FoundNothing shares before after
  found_nothing once same others since empty index emptied looks none_pays transit =
      let own : own_share shares after ≡ own_share shares seen =
      ap (share_of (plan_of shares)) index in
      let there = looks.others (own_share shares seen) (inl refl) in
      let apart : (k : ℕ) → k ≢ own_share shares after → k ≢ own_share shares seen =
      λ k o. omega (arith, o, own) in
      let first = tries_grow shares before seen once same.0 others in
      record {
        grows = grows_from before seen after first (steals_grow shares seen after looks);
        again = omega (
          arith,
          once,
          ap (loads_at (known seen)) (ap (share_of (plan_of shares)) same.0),
          ap (loads_at (known after)) own,
          there.0,
        );
        empty = subst (λ w. IsEmptyWord w) (sym (ap (loaded_at (known after)) own ∙ there.1)) empty;
        since = λ k h o. looks.since k h (apart k o) ∙ ap (λ xs. times k xs + 1) since;
        last = ap (loads_since (known after)) own ∙ there.2
            ∙ ap (times (own_share shares seen)) since;
        more = λ k h o. omega (arith, first k, looks.once k h (apart k o));
        within = λ k h o. looks.within k h (apart k o);
        none_pays = λ k h o. none_pays k h (apart k o);
        emptied = emptied;
        transit = transit;
      }

  -- what a try to steal tells, after a try to claim that met an empty word
  pub each_gains : (answer : Tried) → own_loads shares seen ≡ own_loads shares before + 1
      → IsSameSeat before seen → OthersStay shares before seen → (known seen).since ≡ []
      → TriesClaim (plan_of shares) (own_word shares seen) before Empty seen
      → index_of after ≡ index_of seen → has_emptied after ≡ true → claims_of after ≡ claims_of seen
      → LoadsOthers shares seen after → TriesSteal (plan_of shares) seen answer after
      → GainsTry shares before answer after
  each_gains Nothing once same others since claims index emptied kept looks steals = (
    kept ∙ claims.1,
    found_nothing once same others since claims.0 index emptied looks steals.0 steals.1,
  )
  each_gains Taken once same others since claims index emptied kept looks steals = kept ∙ claims.1
  each_gains Lost once same others since claims index emptied kept looks steals = kept ∙ claims.1
  each_gains Empty once same others since claims index emptied kept looks steals = kept ∙ claims.1
  each_gains (Claimed cells) once same others since claims index emptied kept looks steals =
      absurd steals

-- what was found after a seat was also found after what it was before
pub found_since : (shares : Shares) (first mid last : Seat) → index_of mid ≡ index_of first
    → LoadsGrow first mid → FoundNothing shares mid last → FoundNothing shares first last
found_since shares first mid last same grows found =
    let own : own_share shares mid ≡ own_share shares first =
    ap (share_of (plan_of shares)) same in
    record {
      grows = grows_from first mid last grows found.grows;
      again = omega (
        arith,
        found.again,
        grows (own_share shares first),
        ap (loads_at (known mid)) own,
      );
      empty = found.empty;
      since = found.since;
      last = found.last;
      more = λ k h o. omega (arith, grows k, found.more k h o);
      within = found.within;
      none_pays = found.none_pays;
      emptied = found.emptied;
      transit = found.transit;
    }

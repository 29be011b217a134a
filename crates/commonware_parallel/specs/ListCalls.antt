-- what a list call says of the list that it went over, the path that it took and the call that the
-- strategy was asked about
use Rattle.std.specs.Prelude.{ℕ, List, length, ⊤, Option, None, Some}
use Rattle.parallel_bridge.specs.Shapes.{cutdepth}
use Rattle.parallel_bridge.specs.Sources.{GivesSome}
use Rattle.parallel_bridge.specs.declared.path.Path.{Path}
use Rattle.parallel_policy.specs.declared.Site.{Site}
use Rattle.commonware_parallel.specs.Calls.{AtSomePath, work_of}
use Rattle.commonware_parallel.specs.declared.call.Call.{Call}
use Rattle.commonware_parallel.specs.declared.call.Kind.TheVariants.{Body}
use Rattle.commonware_parallel.specs.declared.call.Pick.{Pick}

-- Some path may be taken: that is, the strategy was asked about the call that `takes` names, with
-- that length and that work.
abbrev pub Asked : (Pick → Type 0) → Type 0
Asked takes = AtSomePath takes (λ _. ⊤)

-- For a list that the source may give, some path may be taken for the call over its length, as
-- `call_of` makes it from the length, such as `body_call`.
abbrev pub AskedOver : {I X : Type 0} → (I → List X → Type 0) → I → (Call → Pick → Type 0)
    → (ℕ → Call) → Type 0
AskedOver gives source takes call_of = GivesSome gives source
    (λ xs. Asked (takes (call_of (length xs))))

module _ {I X S R : Type 0} (gives : I → List X → Type 0) (source : I)
    (takes : S → Site → Call → Pick → Type 0) (threads : S → ℕ) (strategy : S) (site : Site) where
  -- For a list that the source may give, and a path that the strategy may take for the call over
  -- its length, the result came about as `way` says (`FoldedAs`, ..), at the depth for the
  -- strategy's thread number.
  abbrev pub GoesByLength : (ℕ → Call) → (ℕ → Path → List X → R → Type 0) → R → Type 0
  GoesByLength call_of way answer = GivesSome gives source
      (λ xs. AtSomePath (takes strategy site (call_of (length xs)))
      (λ path. way (cutdepth (threads strategy)) path xs answer))

-- The work of so many items, which stand for as much as the multiplier each, where there is one.
abbrev pub work_over : Option ℕ → ℕ → ℕ
work_over None len = len
work_over (Some multiplier) len = work_of len multiplier

-- A choice between a serial and a parallel body over so many items, which stand for that work.
abbrev pub call_over : Option ℕ → ℕ → Call
call_over multiplier len =
    record { kind = Body; len = len; work = work_over multiplier len; max_parts = 1 }

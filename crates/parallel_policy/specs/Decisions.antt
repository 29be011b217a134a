-- A call that is decided by a policy's choice, and measured.
use Rattle.std.specs.Prelude.{◌≡◌, ℕ, ◌-◌, Bool, Ok, Err, Result, MatchBool, MatchOption, None, Option, Some, false, true}
use Rattle.std.specs.Borrow.{MutBor}
use Rattle.std.specs.Fn.{Once, Mut, Called}
use Rattle.parallel_fault.specs.declared.fault.Fault.TheVariants.{Memory}
use Rattle.parallel_fault.specs.declared.fault.Trouble.{Trouble}
use Rattle.parallel_fault.specs.declared.fault.Trouble.TheVariants.{Closure, Fault as OfFault}
use Rattle.parallel_fault.specs.declared.fault.Fault.{Fault}
use Rattle.parallel_policy.specs.declared.policy.Ticket.{Ticket}
use Rattle.parallel_policy.specs.declared.execution.RunExecution.{RunExecution}
use Rattle.parallel_policy.specs.declared.execution.RunExecution.TheVariants.{Serial}

-- the result is one that a body allows on this path, and there was no refusal
abbrev pub AnswersOn : {R E : Type 0} → (RunExecution → Result R E → Type 0) → RunExecution
    → Result R (Trouble E) → Type 0
AnswersOn allowed path (Ok r) = allowed path (Ok r)
AnswersOn allowed path (Err (Closure e)) = allowed path (Err e)
AnswersOn allowed path (Err (OfFault f)) = ⊥

-- the result is one that a body allows on one of the two paths, or `Memory`
abbrev pub DecidesAs : {R E : Type 0} → (RunExecution → Result R E → Type 0) → Result R (Trouble E)
    → Type 0
DecidesAs allowed (Ok r) = (path : RunExecution) × allowed path (Ok r)
DecidesAs allowed (Err (Closure e)) = (path : RunExecution) × allowed path (Err e)
DecidesAs allowed (Err (OfFault f)) = f ≡ Memory

-- a reading of a clock, which goes on by it
abbrev pub ReadsAs : {C : Type 0} → Mut C (Unit {0}) ℕ → C → ℕ → C → Type 0
ReadsAs g earlier reading later = Called g earlier tt reading later

-- a body that is lent a clock may return r on this path, and leave the clock as the later one
pub record RunsWith {F C R : Type 0}
    (g : Once F (MutBor C × (RunExecution × Unit {0})) (R × (MutBor C × Unit {0})))
    (body : F) (earlier : C) (path : RunExecution) (r : R) (later : C) : Type 0 where
  pub lent : MutBor C
  pub lends : lent.now ≡ earlier
  pub left : MutBor C
  pub met : g.post body (lent, (path, tt)) (r, (left, tt))
  pub leaves : left.now ≡ later

-- the body may return r on this path, at some state of the clock
abbrev pub RunsSomewhen : {F C R : Type 0}
    → Once F (MutBor C × (RunExecution × Unit {0})) (R × (MutBor C × Unit {0})) → F → RunExecution
    → R → Type 0
RunsSomewhen {C = C} g body path r = (earlier : C) × (later : C)
    × RunsWith g body earlier path r later

-- planned for one thread: the body ran on the serial path, and the clock wasn't read
abbrev pub RunsSerially : {C R E : Type 0} → (C → RunExecution → Result R E → C → Type 0)
    → Result R (Trouble E) → C → C → Type 0
RunsSerially runs result earlier later =
    AnswersOn (λ path r. runs earlier path r later) Serial result

module _ {S Q C R E : Type 0} (chooses : S → Q → ℕ → RunExecution × Bool → S → Type 0)
    (records : S → Q → RunExecution → ℕ → S → Type 0)
    (refused : S → Q → S → Type 0) (reads : C → ℕ → C → Type 0)
    (runs : C → RunExecution → Result R E → C → Type 0) where
  -- a measured run that returned: the clock was read, then the body ran, then the clock was read
  -- again; and one sample was recorded, of the path and of the time between the two readings, a
  -- clock that went back as 0
  pub record RecordsOnce (chosen : S) (key : Q) (path : RunExecution) (earlier : C) (r : R)
      (new : S) (later : C) : Type 0 where
    pub start : ℕ
    pub started : C
    pub starts : reads earlier start started
    pub ended : C
    pub runs_between : runs started path (Ok r) ended
    pub stop : ℕ
    pub stops : reads ended stop later
    pub recorded : records chosen key path (stop - start) new

  -- a run that isn't measured: the body ran, the clock wasn't read, and nothing was recorded
  pub record RecordsNothing (chosen : S) (path : RunExecution) (earlier : C) (r : R) (new : S)
      (later : C) : Type 0 where
    pub runs_alone : runs earlier path (Ok r) later
    pub same : new ≡ chosen

  -- a measured run that failed: the clock was read, then the body ran
  pub record FailsMeasured (path : RunExecution) (earlier : C) (e : E) (later : C) : Type 0 where
    pub start : ℕ
    pub started : C
    pub starts : reads earlier start started
    pub fails : runs started path (Err e) later

  -- the choices went on by one choice, on whose path the body ran, and where it was measured and
  -- returned by one sample, and by nothing else; a refused choice is `Memory`, and nothing
  -- ran
  abbrev pub Decides : S → Q → ℕ → C → Result R (Trouble E) → S → C → Type 0
  Decides old key parallelism earlier (Ok r) new later = (path : RunExecution) × (measured : Bool)
      × (chosen : S) × chooses old key parallelism (path, measured) chosen
      × MatchBool measured (RecordsOnce chosen key path earlier r new later)
      (RecordsNothing chosen path earlier r new later)
  Decides old key parallelism earlier (Err (Closure e)) new later = (path : RunExecution)
      × (measured : Bool) × chooses old key parallelism (path, measured) new
      × MatchBool measured (FailsMeasured path earlier e later) (runs earlier path (Err e) later)
  Decides old key parallelism earlier (Err (OfFault f)) new later = (f ≡ Memory)
      × refused old key new × (later ≡ earlier)

module _ {S Q C : Type 0} (chooses : S → Q → ℕ → RunExecution × Bool → S → Type 0)
    (refused : S → Q → S → Type 0) (reads : C → ℕ → C → Type 0) where
  -- a run begins: the clock is read if the run is measured, and else it isn't
  abbrev pub Begins : Bool → Option ℕ → C → C → Type 0
  Begins measured (Some start) earlier later = (measured ≡ true) × reads earlier start later
  Begins measured None earlier later = (measured ≡ false) × (later ≡ earlier)

  -- the choices went on by one choice, which the ticket has, and the run has begun; a refused
  -- choice is `Memory`, and the clock wasn't read
  abbrev pub Asks : S → Q → ℕ → C → Result Ticket Fault → S → C → Type 0
  Asks old key parallelism earlier (Ok ticket) new later = (measured : Bool)
      × chooses old key parallelism (ticket.execution, measured) new
      × Begins measured ticket.start earlier later
  Asks old key parallelism earlier (Err f) new later = (f ≡ Memory) × refused old key new
      × (later ≡ earlier)

-- a measured run has ended: the clock was read, and one sample was recorded, of the ticket's path
-- and of the time since the ticket's reading, a clock that went back as 0; of any other run nothing
-- was recorded, and the clock wasn't read
abbrev pub Tells : {S Q C : Type 0} → (S → Q → RunExecution → ℕ → S → Type 0)
    → (C → ℕ → C → Type 0) → S → Q → Ticket → C → S → C → Type 0
Tells records reads old key ticket earlier new later =
    MatchOption ticket.start ((new ≡ old) × (later ≡ earlier))
    (λ start. (stop : ℕ) × reads earlier stop later
    × records old key ticket.execution (stop - start) new)

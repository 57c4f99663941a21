-- A line that is under way, and the accesses of the lines so far.
use Rattle.std.specs.Prelude.{◌≡◌, ℕ, ◌+◌, ◌<◌, ◌==◌, if◌then◌else◌, List, [], ◌∷◌, ◌++◌, length, Option, Some, None}
use Rattle.std.specs.List.{filter_map}
use Rattle.nm_base.specs.Geometry.{Geometry}
use Rattle.nm_action.specs.declared.action.Action.{Action}
use Rattle.nm_action.specs.declared.action.Reply.{Reply}
use Rattle.nm_action.specs.Own.{Own}
use Rattle.nm_flat.specs.declared.access.Access.{Access}
use Rattle.nm_core.specs.Runs.{access_by}
use Rattle.nm_part.specs.Patterns.{Follows, Either}
use Rattle.nm_actor.specs.Turns.{Turns}
use Rattle.nm_access.specs.declared.made.Touch.TheVariants as touches
use Rattle.nm_access.specs.Faults.{FaultKinds}
use Rattle.nm_access.specs.Accesses.{Carried, Accessed, IsWholeAccess}
use Rattle.nm_script.specs.declared.script.Line.{Line}
use Rattle.nm_script.specs.declared.script.Line.TheVariants.{Load, Store, Add, Await}
use Rattle.nm_report.specs.declared.line_result.LineResult.{LineResult}
use Rattle.nm_report.specs.declared.line_result.LineResult.TheVariants.{Loaded, Stored, Added, Met, Missed}
use Rattle.nm_report.specs.Follows.{loads_of, AllOther, AreMade}
use Rattle.nm_cpu.specs.Programs.{CpuEnd, AfterLine, access_to, line_access, Awaits, LinesMade}

-- the access that an event of an own list is, if it is one
abbrev pub access_in : ℕ → Action × Reply → Option Access
access_in number event = access_by number event.0 event.1

-- the accesses of an own list of a processor: its loads, stores and adds, in their order
abbrev pub own_accesses : ℕ → Own → List Access
own_accesses number own = filter_map (access_in number) own

-- What a line gives.

-- an await may make one load more
abbrev pub HasLoadsLeft : Line → ℕ → Type 0
HasLoadsLeft (Await v w x max) loads = loads < max
HasLoadsLeft line loads = Unit {0}

-- what a line gave whose access was told this word, after so many loads of it were made before; none where it is an await
-- that loads again
abbrev pub line_result : Line → ℕ → ℕ → Option LineResult
line_result (Load v w) loads word = Some (Loaded word)
line_result (Store v w x) loads word = Some Stored
line_result (Add v w x) loads word = Some (Added word)
line_result (Await v w x max) loads word = if word == x then Some (Met (loads + 1)) else if loads + 1 == max then Some (Missed (loads + 1)) else None

-- so many loads of a line's await were made, and so many more may be made after the one that comes next
abbrev pub IsLoadsOf : Line → ℕ → ℕ → Type 0
IsLoadsOf (Await v w x max) loads more = loads + 1 + more ≡ max
IsLoadsOf line loads more = loads ≡ 0

-- the same of the first of some lines, where there is one
abbrev pub AreLoadsOf : List Line → ℕ → ℕ → Type 0
AreLoadsOf [] loads more = loads ≡ 0
AreLoadsOf (line ∷ lines) loads more = IsLoadsOf line loads more

-- What is left.

-- after an access of a line
abbrev pub after_access : {M X : Type 0} → FaultKinds M X → Geometry → Line → ℕ → ℕ → AfterLine X → Accessed X → Turns → CpuEnd X → Type 0
after_access kinds g (Load v w) loads more after end = after (Loaded end.word) end.held
after_access kinds g (Store v w x) loads more after end = after Stored end.held
after_access kinds g (Add v w x) loads more after end = after (Added end.word) end.held
after_access kinds g (Await v w x max) loads more after end = Either (end.word == x) (after (Met (loads + 1)) end.held) (Awaits kinds g (access_to g v w touches.Load) x (loads + 1) more after end.held)

-- after a line that gave this
abbrev pub after_line : {M X : Type 0} → FaultKinds M X → Geometry → List Line → List LineResult → AfterLine X
after_line kinds g lines results result held = LinesMade kinds g lines (results ++ result ∷ []) held

-- an access of a line, and what comes after it
abbrev pub AccessLeft : {M X : Type 0} → FaultKinds M X → Geometry → Line → List Line → List LineResult → ℕ → ℕ → Carried X → Turns → CpuEnd X → Type 0
AccessLeft kinds g line lines results loads more held = Follows (IsWholeAccess kinds g (line_access g line) held) (after_access kinds g line loads more (after_line kinds g lines results))

-- the next access, and what comes after it
abbrev pub NextLeft : {M X : Type 0} → FaultKinds M X → Geometry → List Line → List LineResult → ℕ → ℕ → Carried X → Turns → CpuEnd X → Type 0
NextLeft kinds g [] results loads more held = LinesMade kinds g [] results held
NextLeft kinds g (line ∷ lines) results loads more held = AccessLeft kinds g line lines results loads more held

-- The accesses so far.

-- so many loads of an await, none of which gave its value
pub record AreLoads (number v w x loads : ℕ) (list : List Access) : Type 0 where
  pub values : List ℕ
  pub is : list ≡ loads_of number v w values
  pub others : AllOther x values
  pub count : length values ≡ loads

-- the accesses of a line that gave nothing yet
abbrev pub IsTried : ℕ → List Line → ℕ → List Access → Type 0
IsTried number (Await v w x max ∷ lines) loads list = AreLoads number v w x loads list
IsTried number lines loads list = list ≡ []

-- the accesses are those of the lines `done` with these results, and then of the first of `lines`, which gave nothing yet
pub record FollowsSoFar (number : ℕ) (done lines : List Line) (results : List LineResult) (loads : ℕ) (list : List Access) : Type 0 where
  pub front : List Access
  pub back : List Access
  pub is : list ≡ front ++ back
  pub made : AreMade number done results front
  pub tried : IsTried number lines loads back

-- What a processor agrees with, and how far it has come.
use Rattle.std.specs.Prelude.{◌≡◌, ◌≢◌, ℕ, ◌≤◌, Bool, true, false, List, [], ◌∷◌, ◌++◌, length, vec_capacity, Option, Some, None}
use Rattle.nm_base.specs.Geometry.{Geometry, page_count}
use Rattle.nm_action.specs.declared.action.Action.{Action}
use Rattle.nm_action.specs.declared.action.AckTo.TheVariants as ack
use Rattle.nm_action.specs.declared.action.Action.TheVariants.{Ack}
use Rattle.nm_action.specs.declared.turn.Turn.{Turn}
use Rattle.nm_action.specs.declared.turn.Turn.TheVariants.{Do, End}
use Rattle.nm_action.specs.Own.{Own}
use Rattle.nm_action.specs.declared.tally.Tally.{Tally}
use Rattle.nm_action.specs.Tally.{sum_of}
use Rattle.nm_flat.specs.declared.access.Access as flat
use Rattle.nm_flat.specs.declared.access.AccessKind.TheVariants as kind
use Rattle.nm_view.specs.Views.{View, end_word}
use Rattle.nm_view.specs.Opening.{opening}
use Rattle.nm_part.specs.Patterns.{Ends, Follows, IsLeft}
use Rattle.nm_tally.specs.Counts.{events_tally}
use Rattle.nm_tally.specs.Counting.{CountsEvents}
use Rattle.nm_actor.specs.Turns.{Turns, own_list, turns_view}
use Rattle.nm_actor.specs.Actors.{IsPermittedTurn, gave_end}
use Rattle.nm_catchup.specs.Catching.{kept_of, AwaitsCatch}
use Rattle.nm_access.specs.Turning.{Hears, action_turns, IsTurnBegun}
use Rattle.nm_access.specs.Faults.{FaultKinds, HasNothingOpen, ends_tally}
use Rattle.nm_access.specs.Accesses.{Carried}
use Rattle.nm_access.specs.Accessing.{IsAccessReady, IsAccessOver}
use Rattle.nm_access.specs.Moving.{AwaitsOf, IsFresh}
use Rattle.nm_script.specs.declared.script.Line.{Line}
use Rattle.nm_script.specs.declared.script.Line.TheVariants.{Load, Store, Add, Await}
use Rattle.nm_report.specs.Follows.{access_made, AreMade}
use Rattle.nm_cpu.specs.declared.actor.Processor.{Processor}
use Rattle.nm_cpu.specs.declared.actor.CpuStage.{CpuStage}
use Rattle.nm_cpu.specs.declared.actor.CpuStage.TheVariants.{New, Opening, Accessing, Ending, Over}
use Rattle.nm_cpu.specs.Programs.{fresh_kept, carried_with, line_access, IsProgramMade, IsCpu}
use Rattle.nm_cpu.specs.Lines.{own_accesses, AreLoadsOf, IsLoadsOf, AccessLeft, NextLeft, FollowsSoFar}
use Rattle.nm_cpu.specs.Parts.{IsCpuPart}

-- In all of these `made_of` and `awaits_of` tell the data of a fault, and what it awaits.

abbrev pub geometry_of : {F : Type 0} → Processor F → Geometry
geometry_of c = c.made.geometry.now

abbrev pub made_program : {F : Type 0} → Processor F → List Line
made_program c = c.made.program.now

abbrev pub cpu_view : {F : Type 0} → Processor F → Turns → View
cpu_view c turns = turns_view (geometry_of c) c.made.number turns

abbrev pub accesses_of_turns : {F : Type 0} → Processor F → Turns → List flat.Access
accesses_of_turns c turns = own_accesses c.made.number (own_list turns)

-- Lines.

-- the lines `done` were made, with these results, and then come `lines`
pub record IsBetweenLines {F : Type 0} (c : Processor F) (done lines : List Line) (more : ℕ) (turns : Turns) : Type 0 where
  pub is : made_program c ≡ done ++ lines
  pub as_many : length done ≡ length c.results.items
  pub loads : AreLoadsOf lines c.loads more
  pub follows : FollowsSoFar c.made.number done lines c.results.items c.loads (accesses_of_turns c turns)

-- the next access is to be begun
pub record IsAtNext {F M X : Type 0} (kinds : FaultKinds M X) (c : Processor F) (turns : Turns) : Type 0 where
  pub done : List Line
  pub lines : List Line
  pub more : ℕ
  pub between : IsBetweenLines c done lines more turns
  pub cpu : IsCpu (geometry_of c) c.made.number (made_program c)
  pub room : length (made_program c) ≤ vec_capacity c.results
  pub same : c.access.geometry.now ≡ geometry_of c
  pub ends : List X
  pub counted : c.access.tally ≡ ends_tally kinds.counts ends
  pub ready : IsAccessReady (geometry_of c) (kept_of c.access.cache) (cpu_view c turns)
  pub due : IsLeft (IsProgramMade kinds (geometry_of c) (made_program c)) turns (NextLeft kinds (geometry_of c) lines c.results.items c.loads more (carried_with (kept_of c.access.cache) ends))

-- an access of a line is under way: `front` are the turns before it, and `inner` those since then
pub record IsInAccess {F M X : Type 0} (kinds : FaultKinds M X) (c : Processor F) (turns : Turns) (front inner : Turns) : Type 0 where
  pub done : List Line
  pub line : Line
  pub lines : List Line
  pub more : ℕ
  pub between : IsBetweenLines c done (line ∷ lines) more turns
  pub is : turns ≡ front ++ inner
  pub access : c.access.made ≡ line_access (geometry_of c) line
  pub held : Carried X
  pub due : IsLeft (IsProgramMade kinds (geometry_of c) (made_program c)) front (AccessLeft kinds (geometry_of c) line lines c.results.items c.loads more held)

-- a line is under way, for whose result there is room
pub record IsUnderWay {F : Type 0} (c : Processor F) : Type 0 where
  pub done : List Line
  pub line : Line
  pub lines : List Line
  pub more : ℕ
  pub is : made_program c ≡ done ++ line ∷ lines
  pub as_many : length done ≡ length c.results.items
  pub loads : IsLoadsOf line c.loads more
  pub room : length (made_program c) ≤ vec_capacity c.results

-- the access that a line made, which was told this word
abbrev pub line_touch : ℕ → Line → ℕ → flat.Access
line_touch number (Load v w) word = access_made number v w (kind.Load word)
line_touch number (Store v w x) word = access_made number v w (kind.Store x)
line_touch number (Add v w x) word = access_made number v w (kind.Add word x)
line_touch number (Await v w x max) word = access_made number v w (kind.Load word)

-- an access of a line is over, which was told this word; before it, the accesses were `list`
pub record HasTouched {F M X : Type 0} (kinds : FaultKinds M X) (c : Processor F) (word : ℕ) (turns : Turns) : Type 0 where
  pub cpu : IsCpu (geometry_of c) c.made.number (made_program c)
  pub way : IsUnderWay c
  pub list : List flat.Access
  pub follows : FollowsSoFar c.made.number way.done (way.line ∷ way.lines) c.results.items c.loads list
  pub touched : accesses_of_turns c turns ≡ list ++ line_touch c.made.number way.line word ∷ []
  pub front : Turns
  pub inner : Turns
  pub is : turns ≡ front ++ inner
  pub access : c.access.made ≡ line_access (geometry_of c) way.line
  pub held : Carried X
  pub due : IsLeft (IsProgramMade kinds (geometry_of c) (made_program c)) front (AccessLeft kinds (geometry_of c) way.line way.lines c.results.items c.loads way.more held)
  pub over : IsAccessOver kinds c.access.geometry.now c.access.made c.access.cache c.access.tally (geometry_of c) held (cpu_view c front) inner word

-- Stages.

-- it has given no turn
pub record IsAtNew {F : Type 0} (c : Processor F) (turns : Turns) (last : Option Turn) : Type 0 where
  pub none : turns ≡ []
  pub start : last ≡ None
  pub fresh : IsFresh (geometry_of c) c.access
  pub results : c.results.items ≡ []
  pub loads : c.loads ≡ 0

-- the first catch up awaits an answer
pub record IsAtOpening {F M X : Type 0} (kinds : FaultKinds M X) (c : Processor F) (turns : Turns) (last : Option Turn) : Type 0 where
  pub own : Own
  pub action : Action
  pub given : last ≡ Some (Do action)
  pub is : turns ≡ action_turns own
  pub awaited : AwaitsCatch c.access.cache fresh_kept (geometry_of c) (opening (geometry_of c) c.made.number) own action
  pub same : c.access.geometry.now ≡ geometry_of c
  pub counted : c.access.tally ≡ ends_tally kinds.counts []
  pub results : c.results.items ≡ []
  pub loads : c.loads ≡ 0
  pub silent : accesses_of_turns c turns ≡ []

-- an access awaits an answer
pub record IsAtAccess {F M X : Type 0} (kinds : FaultKinds M X) (made_of : F → M) (awaits_of : F → Geometry → View → Own → Action → Type 0) (c : Processor F) (turns : Turns) (last : Option Turn) : Type 0 where
  pub turn : Turn
  pub given : last ≡ Some turn
  pub front : Turns
  pub inner : Turns
  pub run : IsInAccess kinds c turns front inner
  pub awaited : AwaitsOf kinds made_of awaits_of c.access (geometry_of c) run.held (cpu_view c front) inner turn

-- the end is acknowledged
pub record IsAtEnding {F M X : Type 0} (kinds : FaultKinds M X) (c : Processor F) (turns : Turns) (last : Option Turn) : Type 0 where
  pub given : last ≡ Some (Do (Ack ack.End))
  pub same : c.access.geometry.now ≡ geometry_of c
  pub ends : List X
  pub counted : c.access.tally ≡ ends_tally kinds.counts ends
  pub free : HasNothingOpen (cpu_view c turns)
  pub running : (cpu_view c turns).acked ≢ end_word
  pub as_many : length c.results.items ≡ length (made_program c)
  pub follows : AreMade c.made.number (made_program c) c.results.items (accesses_of_turns c turns)
  pub due : IsLeft (IsProgramMade kinds (geometry_of c) (made_program c)) turns (Follows (Hears (geometry_of c) (Do (Ack ack.End))) (λ heard. Ends (record { results = c.results.items; ends = ends })))

-- by the stage
abbrev pub IsAtCpuStage : {F M X : Type 0} → FaultKinds M X → (F → M) → (F → Geometry → View → Own → Action → Type 0) → CpuStage → Processor F → Turns → Option Turn → Type 0
IsAtCpuStage kinds made_of awaits_of New c turns last = IsAtNew c turns last
IsAtCpuStage kinds made_of awaits_of Opening c turns last = IsAtOpening kinds c turns last
IsAtCpuStage kinds made_of awaits_of Accessing c turns last = IsAtAccess kinds made_of awaits_of c turns last
IsAtCpuStage kinds made_of awaits_of Ending c turns last = IsAtEnding kinds c turns last
IsAtCpuStage kinds made_of awaits_of Over c turns last = last ≡ Some End

-- What a processor agrees with.

-- after these turns the one that awaits its answer comes next in a whole sequence; where Start is to be heard there are none,
-- and where End was given nothing more comes
abbrev pub ComesNextTurn : {M X : Type 0} → FaultKinds M X → Geometry → List Line → Turns → Option Turn → Type 0
ComesNextTurn kinds g program turns None = turns ≡ []
ComesNextTurn kinds g program turns (Some End) = Unit {0}
ComesNextTurn kinds g program turns (Some turn) = IsTurnBegun (IsProgramMade kinds g program) turns turn

-- the turn that is kept is the last one
abbrev pub IsKeptTurn : Turn → Option Turn → Type 0
IsKeptTurn kept None = Unit {0}
IsKeptTurn kept (Some turn) = turn ≡ kept

-- the action of the last turn is permitted
abbrev pub IsPermittedLast : Geometry → View → Option Turn → Type 0
IsPermittedLast g view None = Unit {0}
IsPermittedLast g view (Some turn) = IsPermittedTurn g view turn

-- the view of a processor that has ended: nothing is open, and the end is acknowledged
pub record IsEndedCpu (view : View) : Type 0 where
  pub free : HasNothingOpen view
  pub acked : view.acked ≡ end_word

-- where End was given the view is that of a processor that has ended, and before that it has not acknowledged its end
abbrev pub IsLeftAt : View → Option Turn → Type 0
IsLeftAt view (Some End) = IsEndedCpu view
IsLeftAt view last = view.acked ≢ end_word

-- how far it has come: the last turn comes next in its sequence, and its action is permitted
pub record IsAtCpuTurn {F M X : Type 0} (kinds : FaultKinds M X) (made_of : F → M) (awaits_of : F → Geometry → View → Own → Action → Type 0) (c : Processor F) (turns : Turns) (last : Option Turn) : Type 0 where
  pub cpu : IsCpu (geometry_of c) c.made.number (made_program c)
  pub room : length (made_program c) ≤ vec_capacity c.results
  pub next : ComesNextTurn kinds (geometry_of c) (made_program c) turns last
  pub permitted : IsPermittedLast (geometry_of c) (cpu_view c turns) last
  pub left : IsLeftAt (cpu_view c turns) last
  pub at : IsAtCpuStage kinds made_of awaits_of c.stage c turns last

-- it has these answered turns, and this one awaits its answer
pub record FollowsCpu {F M X : Type 0} (kinds : FaultKinds M X) (made_of : F → M) (awaits_of : F → Geometry → View → Own → Action → Type 0) (c : Processor F) (turns : Turns) (last : Option Turn) : Type 0 where
  pub part : IsCpuPart kinds (geometry_of c) c.made.number (made_program c) turns (gave_end last) c.results.items (sum_of c.counter.tally c.access.tally)
  pub at : IsAtCpuTurn kinds made_of awaits_of c turns last
  pub events : CountsEvents c.counter (own_list turns)
  pub pages : length c.counter.locked.items ≡ page_count (geometry_of c)
  pub kept : IsKeptTurn c.given last

-- a turn is given after these turns, which with what their events count are the processor's part of a run
pub record IsAdvanced {F M X : Type 0} (kinds : FaultKinds M X) (made_of : F → M) (awaits_of : F → Geometry → View → Own → Action → Type 0) (c : Processor F) (turns : Turns) (turn : Turn) : Type 0 where
  pub at : IsAtCpuTurn kinds made_of awaits_of c turns (Some turn)
  pub part : (counts : Tally) → counts ≡ events_tally (own_list turns) → IsCpuPart kinds (geometry_of c) c.made.number (made_program c) turns (gave_end (Some turn)) c.results.items (sum_of counts c.access.tally)

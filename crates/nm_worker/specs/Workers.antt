-- An actor that follows a routine: what it agrees with, and how far it has come.
use Rattle.std.specs.Prelude.{◌≡◌, ℕ, ◌≤◌, [], ◌∷◌, ◌++◌, length, Option, Some, None}
use Rattle.nm_base.specs.Geometry.{Geometry, page_count}
use Rattle.nm_action.specs.declared.action.Action.{Action}
use Rattle.nm_action.specs.declared.action.Reply.{Reply}
use Rattle.nm_action.specs.declared.spent.Spent.{Spent}
use Rattle.nm_action.specs.declared.tally.Tally.{Tally}
use Rattle.nm_action.specs.declared.turn.Turn.{Turn}
use Rattle.nm_action.specs.declared.turn.Turn.TheVariants as turn
use Rattle.nm_action.specs.declared.turn.Heard.{Heard}
use Rattle.nm_action.specs.Own.{Own}
use Rattle.nm_view.specs.Views.{View, own_bumps, own_raises}
use Rattle.nm_view.specs.Opening.{opening}
use Rattle.nm_permit.specs.Permitted.{Allowed}
use Rattle.nm_event.specs.Fitting.{Fits}
use Rattle.nm_event.specs.After.{after_of}
use Rattle.nm_part.specs.Patterns.{Follows, IsLeft, CanEnd}
use Rattle.nm_tally.specs.declared.counter.Counter.{Counter}
use Rattle.nm_tally.specs.Counts.{zero_tally}
use Rattle.nm_tally.specs.Counting.{CountsEvents}
use Rattle.nm_actor.specs.Turns.{Turns, own_list, turns_view}
use Rattle.nm_actor.specs.Actors.{IsPermittedTurn}
use Rattle.nm_worker.specs.declared.routine.Task.{Task}
use Rattle.nm_worker.specs.declared.routine.Task.TheVariants.{Run, Put, Take, Stop}
use Rattle.nm_worker.specs.declared.routine.Ended.{Ended}
use Rattle.nm_worker.specs.Notes.{Notes, noted_turns, tally_with, notes_tally, uncounted, IsTask}
use Rattle.nm_worker.specs.Routines.{IsNextTask, IsDrawn}

-- What an actor agrees with.

-- after these notes a turn comes next in a whole sequence
pub record ComesNext {O : Type 0} (whole : Notes → O → Type 0) (notes : Notes) (given : Turn) : Type 0 where
  pub heard : Heard
  pub counts : Option Tally
  pub rest : Notes
  pub outcome : O
  pub shown : whole (notes ++ record { turn = given; heard = heard; counts = counts } ∷ rest) outcome

-- the notes and the turn that waits for its answer are the beginning of a whole sequence; where End was given, they are one
abbrev pub IsContinued : {O : Type 0} → O → (Notes → O → Type 0) → Notes → Option Turn → Type 0
IsContinued stop whole notes None = CanEnd (λ rest outcome. whole (notes ++ rest) outcome)
IsContinued stop whole notes (Some turn.End) = whole notes stop
IsContinued stop whole notes (Some given) = ComesNext whole notes given

-- How far it has come.

-- a task runs, after these notes
pub record IsAtTask {X O : Type 0} (knows : Type 0) (done : Notes → Ended X → Type 0) (left : Ended X → Notes → O → Type 0) (whole : Notes → O → Type 0) (front : Notes) : Type 0 where
  pub known : knows
  pub can : (notes : Notes) (end : Ended X) → done notes end → CanEnd (left end)
  pub due : IsLeft whole front (Follows done left)

-- a piece of work runs, with this own list so far, and awaits the answer to an action, which is the one that is kept
pub record IsAtWork {M X O : Type 0} (shape : M → Geometry → Own → X → Type 0) (awaits : Geometry → View → Own → Action → Type 0) (counts : X → Tally) (knows : View → Task M → Type 0) (left : Ended X → Notes → O → Type 0) (whole : Notes → O → Type 0) (g : Geometry) (number : ℕ) (kept : Action) (notes : Notes) (action : Action) (work : M) : Type 0 where
  pub front : Notes
  pub inner : Own
  pub is : notes ≡ front ++ uncounted inner
  pub run : IsAtTask (knows (turns_view g number (noted_turns front)) (Run work)) (IsTask shape counts g (Run work)) left whole front
  pub awaited : awaits g (turns_view g number (noted_turns front)) inner action
  pub same : kept ≡ action
  pub permitted : Allowed g (turns_view g number (noted_turns notes)) action

-- a page is being put or taken, by this turn
pub record IsAtLane {X O : Type 0} (knows : Type 0) (done : Notes → Ended X → Type 0) (left : Ended X → Notes → O → Type 0) (whole : Notes → O → Type 0) (notes : Notes) (given turn : Turn) : Type 0 where
  pub same : given ≡ turn
  pub run : IsAtTask knows done left whole notes

-- by the turn that waits for its answer, and the task: where there is none the task comes next; where the sequence has ended,
-- what was known at its end holds
abbrev pub AwaitsTurn : {P M X O : Type 0} → (P → M) → (P → Type 0) → (M → Geometry → View → Type 0) → (M → Geometry → Own → X → Type 0) → (P → Geometry → View → Own → Action → Type 0) → (X → Tally) → (View → Task M → Type 0) → (Ended X → Notes → O → Type 0) → O → (Notes → O → Type 0) → Geometry → ℕ → Action → Notes → Option Turn → Task P → Type 0
AwaitsTurn made is_new may_begin shape awaits counts knows left stop whole g number kept notes None task = IsNextTask made is_new may_begin shape counts knows left stop (λ rest outcome. whole (notes ++ rest) outcome) g (turns_view g number (noted_turns notes)) task
AwaitsTurn made is_new may_begin shape awaits counts knows left stop whole g number kept notes (Some (turn.Do action)) (Run piece) = IsAtWork shape (awaits piece) counts knows left whole g number kept notes action (made piece)
AwaitsTurn made is_new may_begin shape awaits counts knows left stop whole g number kept notes (Some (turn.Put into b)) (Put lane page) = IsAtLane (knows (turns_view g number (noted_turns notes)) (Put lane page)) (IsTask shape counts g (Put lane page)) left whole notes (turn.Put into b) (turn.Put lane page)
AwaitsTurn made is_new may_begin shape awaits counts knows left stop whole g number kept notes (Some (turn.Take from)) (Take lane) = IsAtLane (knows (turns_view g number (noted_turns notes)) (Take lane)) (IsTask shape counts g (Take lane)) left whole notes (turn.Take from) (turn.Take lane)
AwaitsTurn made is_new may_begin shape awaits counts knows left stop whole g number kept notes (Some turn.End) Stop = knows (turns_view g number (noted_turns notes)) Stop
AwaitsTurn made is_new may_begin shape awaits counts knows left stop whole g number kept notes (Some given) task = ⊥

-- a turn is given after these notes: it goes on with them, its answer is awaited, and its action is permitted
pub record IsTurnGiven {P M X O : Type 0} (made : P → M) (is_new : P → Type 0) (may_begin : M → Geometry → View → Type 0) (shape : M → Geometry → Own → X → Type 0) (awaits : P → Geometry → View → Own → Action → Type 0) (counts : X → Tally) (knows : View → Task M → Type 0) (left : Ended X → Notes → O → Type 0) (stop : O) (whole : Notes → O → Type 0) (g : Geometry) (number : ℕ) (kept : Action) (task : Task P) (given : Turn) (notes : Notes) : Type 0 where
  pub next : IsContinued stop whole notes (Some given)
  pub at : AwaitsTurn made is_new may_begin shape awaits counts knows left stop whole g number kept notes (Some given) task
  pub permitted : IsPermittedTurn g (turns_view g number (noted_turns notes)) given

-- no more was drawn than a view may
pub record IsFewDrawn (spent : Spent) : Type 0 where
  pub bumps : spent.bumps ≤ own_bumps
  pub raises : spent.raises ≤ own_raises

-- the actor has these answered turns, and this one waits for its answer: they go on as a sequence of the routine, and what is
-- counted is counted of them
pub record FollowsRoutine {P M X O : Type 0} (made : P → M) (is_new : P → Type 0) (may_begin : M → Geometry → View → Type 0) (shape : M → Geometry → Own → X → Type 0) (awaits : P → Geometry → View → Own → Action → Type 0) (counts : X → Tally) (knows : View → Task M → Type 0) (left : Ended X → Notes → O → Type 0) (stop : O) (whole : Notes → O → Type 0) (g : Geometry) (number : ℕ) (kept : Action) (task : Task P) (counter : Counter) (tally : Tally) (spent : Spent) (turns : Turns) (last : Option Turn) : Type 0 where
  pub notes : Notes
  pub is : turns ≡ noted_turns notes
  pub next : IsContinued stop whole notes last
  pub events : CountsEvents counter (own_list turns)
  pub ends : tally ≡ notes_tally notes
  pub pages : length counter.locked.items ≡ page_count g
  pub drawn : IsDrawn spent (turns_view g number turns)
  pub few : IsFewDrawn spent
  pub at : AwaitsTurn made is_new may_begin shape awaits counts knows left stop whole g number kept notes last task

-- a turn was answered, with what its answer counts, and another is given after it
pub record IsAnswerNoted (given : Notes → Type 0) (old new : Tally) (notes : Notes) (answered : Turn) (heard : Heard) : Type 0 where
  pub counts : Option Tally
  pub ends : new ≡ tally_with old counts
  pub next : given (notes ++ record { turn = answered; heard = heard; counts = counts } ∷ [])

-- the piece of work that runs awaits the answer to an action, this reply fits, and so much was drawn with it
pub record IsWorkHeard (at : Notes → Option Turn → Type 0) (g : Geometry) (number : ℕ) (spent : Spent) (reply : Reply) : Type 0 where
  pub notes : Notes
  pub action : Action
  pub here : at notes (Some (turn.Do action))
  pub fits : Fits g (turns_view g number (noted_turns notes)) action reply
  pub drawn : IsDrawn spent (after_of g (turns_view g number (noted_turns notes)) action reply)

-- a worker is new: there is a whole sequence, its first task comes next, and nothing is counted
pub record IsNewWorker (some first : Type 0) (g : Geometry) (number : ℕ) (counter : Counter) (tally : Tally) (spent : Spent) : Type 0 where
  pub can : some
  pub next : first
  pub events : CountsEvents counter []
  pub ends : tally ≡ zero_tally
  pub pages : length counter.locked.items ≡ page_count g
  pub drawn : IsDrawn spent (opening g number)
  pub few : IsFewDrawn spent

-- an actor that agrees with some turns has given End
pub record HasGivenEnd (agrees : Turns → Option Turn → Type 0) : Type 0 where
  pub turns : Turns
  pub agreed : agrees turns (Some turn.End)

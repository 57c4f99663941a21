-- How far events are those of a journal: a run, and a cursor in each program.
use Rattle.std.specs.Prelude.{◌≡◌, ℕ, ◌<◌, ◌⊎◌, true, List, [], ◌∷◌, ◌++◌, length, map, slice_index_or, slice_set, Option, Some, None, IsSomeAnd}
use Rattle.std.specs.List.{AllByRecursion}
use Rattle.nm_flat.specs.declared.access.Access.{Access}
use Rattle.nm_flat.specs.Memory.{own_part_of}
use Rattle.nm_action.specs.declared.action.Event.{Event}
use Rattle.nm_action.specs.declared.tally.Tally.{Tally}
use Rattle.nm_core.specs.State.{State}
use Rattle.nm_core.specs.Runs.{IsStep, IsRun, after_event, access_of, state_after, accesses_of}
use Rattle.nm_script.specs.Plain.{Script}
use Rattle.nm_report.specs.declared.line_result.LineResult.{LineResult}
use Rattle.nm_report.specs.Follows.{AreMade}
use Rattle.nm_event_text.specs.Events.{FitsEvent, IsEventLine}
use Rattle.nm_follow.specs.Cursors.{Cursor, IsCursorAt, new_cursor}
use Rattle.nm_journal_text.specs.Journals.{program_of, has_ended_in}

abbrev pub cursor_of : List Cursor → ℕ → Cursor
cursor_of cursors cpu = slice_index_or cursors cpu new_cursor

-- the events are a run whose accesses follow the programs so far, as far as these cursors say
pub record AreTaken (script : Script) (events : List Event) (cursors : List Cursor) : Type 0 where
  pub run : IsRun script.geometry events
  pub fits : AllByRecursion FitsEvent events
  pub cpus : length cursors ≡ script.geometry.cpus
  pub made : (cpu : ℕ) → cpu < script.geometry.cpus → IsCursorAt cpu (program_of script cpu) (cursor_of cursors cpu) (own_part_of cpu (accesses_of events))

-- what the lines of each processor gave
abbrev pub results_in : List Cursor → List (List LineResult)
results_in cursors = map (λ c. c.results) cursors

abbrev pub zero_tally : Tally
zero_tally = record { demand = 0; alias = 0; hint = 0; shadow = 0; marked = 0; spilled = 0; cold = 0; committed = 0; moved = 0; noframe = 0; gone = 0; worn = 0; aborted = 0; remapped = 0; copied = 0; words = 0; flushes = 0; reclaimed = 0 }

-- each processor whose acknowledgement is End has a result for every line
abbrev pub AreWhole : Script → State → List Cursor → Type 0
AreWhole script s cursors = (cpu : ℕ) → cpu < script.geometry.cpus → has_ended_in s cpu ≡ true → length (cursor_of cursors cpu).results ≡ length (program_of script cpu)

-- ---- one event more

-- what the cursors become by an access, if there is one: that of its processor takes it
abbrev pub AreMoved : Script → List Cursor → Option Access → List Cursor → Type 0
AreMoved script old None new = new ≡ old
AreMoved script old (Some a) new =
    (c : Cursor) × (new ≡ slice_set old a.cpu c)
    × ((list : List Access) → IsCursorAt a.cpu (program_of script a.cpu) (cursor_of old a.cpu) list → IsCursorAt a.cpu (program_of script a.cpu) c (list ++ a ∷ []))

-- no accesses that follow the program of its processor go on with the access
abbrev pub IsAccessRefused : Script → List Cursor → Access → Type 0
IsAccessRefused script cursors a =
    (list more : List Access) (results : List LineResult) → IsCursorAt a.cpu (program_of script a.cpu) (cursor_of cursors a.cpu) list
    → ¬ AreMade a.cpu (program_of script a.cpu) results (list ++ a ∷ more)

-- the event is a step, and the cursor of its processor took its access
pub record IsEventTaken (script : Script) (s : State) (cursors : List Cursor) (e : Event) (s' : State) (cursors' : List Cursor) : Type 0 where
  pub step : IsStep s e
  pub after : s' ≡ after_event s e
  pub moved : AreMoved script cursors (access_of e) cursors'

-- the event is no step, or its access follows no program
abbrev pub IsEventRefused : Script → State → List Cursor → Event → Type 0
IsEventRefused script s cursors e = (¬ IsStep s e) ⊎ IsSomeAnd (access_of e) (IsAccessRefused script cursors)

-- the cursors of a state's processors, each of which can try its line once more
pub record AreAt (script : Script) (s : State) (cursors : List Cursor) : Type 0 where
  pub machine : s.geometry ≡ script.geometry
  pub cpus : length cursors ≡ script.geometry.cpus
  pub tries : (cpu : ℕ) → cpu < script.geometry.cpus → (cursor_of cursors cpu).tries < 1000000000

-- ---- one line more

-- the line is that of an event that is taken
pub record IsLineTaken (script : Script) (s : State) (cursors : List Cursor) (line : List ℕ) (s' : State) (cursors' : List Cursor) : Type 0 where
  pub event : Event
  pub is : IsEventLine line event
  pub taken : IsEventTaken script s cursors event s' cursors'

-- the line is that of an event that is refused
pub record IsLineOfRefused (script : Script) (s : State) (cursors : List Cursor) (line : List ℕ) : Type 0 where
  pub event : Event
  pub is : IsEventLine line event
  pub refused : IsEventRefused script s cursors event

-- the line is that of no event, or of one that is refused
abbrev pub IsLineRefused : Script → State → List Cursor → List ℕ → Type 0
IsLineRefused script s cursors line = ((e : Event) → ¬ IsEventLine line e) ⊎ IsLineOfRefused script s cursors line

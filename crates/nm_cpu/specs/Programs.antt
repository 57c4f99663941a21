-- The sequence of a processor, as a finished list of turns; the last step first.
use Rattle.std.specs.Prelude.{ℕ, zero, suc, ◌+◌, ◌<◌, ◌≤◌, ◌==◌, IsSome, List, [], ◌∷◌, ◌++◌, Option, Some, None}
use Rattle.std.specs.List.{AllByRecursion}
use Rattle.nm_base.specs.Geometry.{Geometry, IsGeometry, vpage_at, backing_page, IsWritable}
use Rattle.nm_action.specs.declared.action.AckTo.TheVariants as ack
use Rattle.nm_action.specs.declared.action.Action.TheVariants.{Ack}
use Rattle.nm_action.specs.declared.turn.Turn.TheVariants.{Do}
use Rattle.nm_part.specs.Patterns.{Ends, Follows, Either}
use Rattle.nm_actor.specs.Turns.{Turns}
use Rattle.nm_catchup.specs.CatchUp.{Kept, CatchesUp}
use Rattle.nm_access.specs.declared.made.Touch.{Touch}
use Rattle.nm_access.specs.declared.made.Touch.TheVariants as touches
use Rattle.nm_access.specs.declared.made.AccessMade.{AccessMade}
use Rattle.nm_access.specs.Turning.{Hears, Acts}
use Rattle.nm_access.specs.Faults.{FaultKinds}
use Rattle.nm_access.specs.Accesses.{Carried, IsWholeAccess}
use Rattle.nm_script.specs.declared.script.Line.{Line}
use Rattle.nm_script.specs.declared.script.Line.TheVariants.{Load, Store, Add, Await}
use Rattle.nm_report.specs.declared.line_result.LineResult.{LineResult}
use Rattle.nm_report.specs.declared.line_result.LineResult.TheVariants.{Loaded, Stored, Added, Met, Missed}

-- a line of a program: its virtual page is mapped, and writable for a store or an add; the word is one of the page; an await
-- may make a load
abbrev pub IsLineOf : Geometry → Line → Type 0
IsLineOf g (Load v w) = IsSome (vpage_at g v) × (w < g.words)
IsLineOf g (Store v w x) = IsWritable g v × (w < g.words)
IsLineOf g (Add v w x) = IsWritable g v × (w < g.words)
IsLineOf g (Await v w x max) = IsSome (vpage_at g v) × (w < g.words) × (1 ≤ max)

-- a processor and its program
pub record IsCpu (g : Geometry) (number : ℕ) (program : List Line) : Type 0 where
  pub geometry : IsGeometry g
  pub exists : number < g.cpus
  pub lines : AllByRecursion (IsLineOf g) program

-- the backing page, or 0 where there is none
abbrev pub backing_or_zero : Option ℕ → ℕ
backing_or_zero None = 0
backing_or_zero (Some page) = page

-- an access to a word of a virtual page
abbrev pub access_to : Geometry → ℕ → ℕ → Touch → AccessMade
access_to g v w touch = record { vpage = v; page = backing_or_zero (backing_page g v); word = w; touch = touch }

-- the access that a line makes, or makes again
abbrev pub line_access : Geometry → Line → AccessMade
line_access g (Load v w) = access_to g v w touches.Load
line_access g (Store v w x) = access_to g v w (touches.Store x)
line_access g (Add v w x) = access_to g v w (touches.Add x)
line_access g (Await v w x max) = access_to g v w touches.Load

-- what a whole sequence shows: the results of its lines, and the ends of its faults
pub record CpuEnd (X : Type 0) : Type 0 where
  pub results : List LineResult
  pub ends : List X

-- what comes after a line, by what the line gave and what is held then
abbrev pub AfterLine : Type 0 → Type 1
AfterLine X = LineResult → Carried X → Turns → CpuEnd X → Type 0

-- An await: it loads until a load gives x, or so many more loads were made; `made` were made before.
abbrev pub Awaits : {M X : Type 0} → FaultKinds M X → Geometry → AccessMade → ℕ → ℕ → ℕ → AfterLine X → Carried X → Turns → CpuEnd X → Type 0
Awaits kinds g access x made zero after held = after (Missed made) held
Awaits kinds g access x made (suc more) after held =
    Follows (IsWholeAccess kinds g access held) (λ end. Either (end.word == x) (after (Met (made + 1)) end.held) (Awaits kinds g access x (made + 1) more after end.held))

-- A line makes one access; an await makes several.
abbrev pub LineMade : {M X : Type 0} → FaultKinds M X → Geometry → Line → AfterLine X → Carried X → Turns → CpuEnd X → Type 0
LineMade kinds g (Load v w) after held = Follows (IsWholeAccess kinds g (access_to g v w touches.Load) held) (λ end. after (Loaded end.word) end.held)
LineMade kinds g (Store v w x) after held = Follows (IsWholeAccess kinds g (access_to g v w (touches.Store x)) held) (λ end. after Stored end.held)
LineMade kinds g (Add v w x) after held = Follows (IsWholeAccess kinds g (access_to g v w (touches.Add x)) held) (λ end. after (Added end.word) end.held)
LineMade kinds g (Await v w x max) after held = Awaits kinds g (access_to g v w touches.Load) x 0 max after held

-- The lines in order, and after the last one the acknowledgement of the end.
abbrev pub LinesMade : {M X : Type 0} → FaultKinds M X → Geometry → List Line → List LineResult → Carried X → Turns → CpuEnd X → Type 0
LinesMade kinds g [] results held = Follows (Hears g (Do (Ack ack.End))) (λ heard. Ends (record { results = results; ends = held.ends }))
LinesMade kinds g (line ∷ lines) results held = LineMade kinds g line (λ result now. LinesMade kinds g lines (results ++ result ∷ []) now) held

-- what a processor keeps before its first catch up: no translations, and nothing acknowledged
abbrev pub fresh_kept : Kept
fresh_kept = record { cache = record { sets = 16; ways = 4; entries = [] }; acked = None }

abbrev pub carried_with : {X : Type 0} → Kept → List X → Carried X
carried_with kept ends = record { kept = kept; ends = ends }

-- A processor catches up, and makes the lines of its program.
abbrev pub IsProgramMade : {M X : Type 0} → FaultKinds M X → Geometry → List Line → Turns → CpuEnd X → Type 0
IsProgramMade kinds g program = Follows (Acts (CatchesUp g fresh_kept)) (λ kept. LinesMade kinds g program [] (carried_with kept []))

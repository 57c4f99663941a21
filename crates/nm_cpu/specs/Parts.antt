-- The part of a processor in a run: its turns, its results and its tally.
use Rattle.std.specs.Prelude.{◌≡◌, ℕ, Bool, true, false, List}
use Rattle.nm_base.specs.Geometry.{Geometry}
use Rattle.nm_action.specs.declared.tally.Tally.{Tally}
use Rattle.nm_action.specs.declared.turn.Turn.{Turn}
use Rattle.nm_action.specs.Tally.{sum_of}
use Rattle.nm_tally.specs.Counts.{events_tally}
use Rattle.nm_actor.specs.Turns.{Turns, own_list}
use Rattle.nm_access.specs.Turning.{IsTurnBegun}
use Rattle.nm_access.specs.Faults.{FaultKinds, ends_tally}
use Rattle.nm_script.specs.declared.script.Line.{Line}
use Rattle.nm_report.specs.declared.line_result.LineResult.{LineResult}
use Rattle.nm_report.specs.Follows.{FollowsProgram}
use Rattle.nm_cpu.specs.Programs.{IsProgramMade}
use Rattle.nm_cpu.specs.Lines.{own_accesses}

-- the turns are the beginning of a whole sequence, of which one turn more is to come at least
pub record IsSequenceBegun {M X : Type 0} (kinds : FaultKinds M X) (g : Geometry) (program : List Line) (turns : Turns) : Type 0 where
  pub next : Turn
  pub begun : IsTurnBegun (IsProgramMade kinds g program) turns next

-- the turns are a whole sequence that shows the results and the ends of the faults, where the processor has ended, and else
-- the beginning of a longer one
abbrev pub IsSequence : {M X : Type 0} → FaultKinds M X → Geometry → List Line → Turns → Bool → List LineResult → List X → Type 0
IsSequence kinds g program turns true results ends = IsProgramMade kinds g program turns (record { results = results; ends = ends })
IsSequence kinds g program turns false results ends = IsSequenceBegun kinds g program turns

-- the turns of a processor with this program, which has ended or has not: they are of its sequence; the results are those
-- with which its accesses follow the program; the tally is the sum of what its events count, and what its ended faults do
pub record IsCpuPart {M X : Type 0} (kinds : FaultKinds M X) (g : Geometry) (number : ℕ) (program : List Line) (turns : Turns) (ended : Bool) (results : List LineResult) (tally : Tally) : Type 0 where
  pub ends : List X
  pub sequence : IsSequence kinds g program turns ended results ends
  pub follows : FollowsProgram number ended program results (own_accesses number (own_list turns))
  pub counted : tally ≡ sum_of (events_tally (own_list turns)) (ends_tally kinds.counts ends)

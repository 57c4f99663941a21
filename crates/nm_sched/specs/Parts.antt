-- What the parts of the migrator and of the reclaimer are.
use Rattle.std.specs.Prelude.{ℕ, ◌+◌, Bool, Option}
use Rattle.nm_base.specs.Geometry.{Geometry}
use Rattle.nm_action.specs.declared.tally.Tally.{Tally}
use Rattle.nm_actor.specs.Turns.{Turns, turns_view}
use Rattle.nm_routine_part.specs.Parts.{IsEmptyAtEnd}
use Rattle.nm_migrator.specs.Parts as migrator
use Rattle.nm_kswap.specs.Parts as reclaimer

-- of a migrator that sends a page to the locked move after so many aborts; one that has ended leaves nothing open in its view
pub record IsMigratorRun (g : Geometry) (retry : Option ℕ) (turns : Turns) (has_ended : Bool) (tally : Tally) : Type 0 where
  pub part : migrator.IsMigratorPart g retry turns has_ended tally
  pub left : IsEmptyAtEnd has_ended (turns_view g g.cpus turns)

-- of a reclaimer; one that has ended leaves nothing open in its view
pub record IsReclaimerRun (g : Geometry) (turns : Turns) (has_ended : Bool) (tally : Tally) : Type 0 where
  pub part : reclaimer.IsReclaimerPart g turns has_ended tally
  pub left : IsEmptyAtEnd has_ended (turns_view g (g.cpus + 1) turns)

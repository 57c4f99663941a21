-- What a shootdown leaves of a view: the flush of each operation that was due has ended.
use Rattle.std.specs.Prelude.{◌≡◌, ℕ, ◌+◌, if◌then◌else◌, IsTrue, Some, false, map}
use Rattle.nm_base.specs.Geometry.{Geometry}
use Rattle.nm_view.specs.Views.{Op, View}
use Rattle.nm_view.specs.Operations.{IsFlushEnded}
use Rattle.nm_permit.specs.Permitted.{MayBump}

-- a shootdown of so many processors may begin
pub record MayShoot (cpus : ℕ) (g : Geometry) (view : View) : Type 0 where
  pub all : cpus ≡ g.cpus
  pub bump : MayBump view

-- an operation after a shootdown with this number: it is due no more; where it was due its flush has that number and has
-- ended; a flush that had ended has still ended; nothing else of it has changed
pub record IsFlushOf (g : Geometry) (number : ℕ) (old new : Op) : Type 0 where
  pub same : new ≡ record old { due = false; flush = new.flush; seen = new.seen }
  pub flush : new.flush ≡ (if old.due then Some number else old.flush)
  pub due : IsTrue old.due → IsFlushEnded g new
  pub kept : IsFlushEnded g old → IsFlushEnded g new

-- the view after a shootdown: one bump more, and each operation flushed
pub record IsFlushed (g : Geometry) (view : View) (number : ℕ) (left : View) : Type 0 where
  pub flushed : Op → Op
  pub is : left ≡ record view { bumps = view.bumps + 1; ops = map flushed view.ops }
  pub each : (o : Op) → IsFlushOf g number o (flushed o)

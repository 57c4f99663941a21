-- The batch as a part.
use Rattle.std.specs.Prelude.{◌≡◌, ℕ, List, length}
use Rattle.nm_base.specs.Geometry.{Geometry}
use Rattle.nm_action.specs.Own.{Own}
use Rattle.nm_action.specs.declared.action.Action.{Action}
use Rattle.nm_view.specs.Views.{View}
use Rattle.nm_txn.specs.declared.end.TxnEnd.{TxnEnd}
use Rattle.nm_txn.specs.Batches.{BatchMade, IsBatch}
use Rattle.nm_batch.specs.declared.task.BatchTask.{BatchTask}
use Rattle.nm_batch.specs.Leaving.{IsBatchLeft}
use Rattle.nm_batch.specs.Runs.{BatchRunMade, batch_run_made, IsNewBatchRun, AwaitsBatchRun}

-- what it was begun with, in which geometry
abbrev pub batch_of : BatchTask → BatchRunMade
batch_of t = batch_run_made t.run

-- it has given no action
abbrev pub IsNewBatchTask : BatchTask → Type 0
IsNewBatchTask t = IsNewBatchRun t.run

-- it awaits the answer that what it runs awaits
abbrev pub AwaitsBatchTask : BatchTask → Geometry → View → Own → Action → Type 0
AwaitsBatchTask t = AwaitsBatchRun t.run

-- the list is that of a batch with so many ends
pub record HasBatchEnds (made : BatchMade) (g : Geometry) (own : Own) (count : ℕ) : Type 0 where
  pub ends : List TxnEnd
  pub shown : IsBatch made g own ends
  pub count_is : count ≡ length ends

-- and these are the ends that the list shows
pub record IsToldEnds (made : BatchMade) (ends : List TxnEnd) (g : Geometry) (own : Own) (count : ℕ) : Type 0 where
  pub shown : IsBatch made g own ends
  pub count_is : count ≡ length ends

-- what it leaves
pub record IsBatchTaskLeft (made : BatchMade) (view : View) (count : ℕ) (left : View) : Type 0 where
  pub ends : List TxnEnd
  pub count_is : count ≡ length ends
  pub left_is : IsBatchLeft made view ends left

-- The demotion of a page, as a pattern over finished lists, the last step first.
use Rattle.std.specs.Prelude.{ℕ, List, true}
use Rattle.nm_base.specs.Geometry.{Geometry}
use Rattle.nm_action.specs.declared.action.Action.TheVariants.{Unlock}
use Rattle.nm_action.specs.Own.{Own}
use Rattle.nm_part.specs.Patterns.{Ends, Follows}
use Rattle.nm_compose.specs.Acts.{IsAct}
use Rattle.nm_pool.specs.Pool.{IsPool}
use Rattle.nm_pool.specs.declared.job.PoolJob.TheVariants.{Back}
use Rattle.nm_transfer.specs.Transferring.{transfer_made, IsTransfer}
use Rattle.nm_transfer.specs.declared.transfer.Source.{Source}
use Rattle.nm_transfer.specs.declared.transfer.Source.TheVariants as sources
use Rattle.nm_transfer.specs.declared.transfer.Rights.TheVariants.{Plain}
use Rattle.nm_transfer.specs.declared.transfer.TransferMade.{TransferMade}
use Rattle.nm_demote.specs.declared.select.DemoteMade.{DemoteMade}
use Rattle.nm_demote.specs.declared.select.Early.{Early}
use Rattle.nm_demote.specs.declared.select.Early.TheVariants as early
use Rattle.nm_demote.specs.declared.select.Selected.{Selected}
use Rattle.nm_demote.specs.declared.select.Selected.TheVariants as selected
use Rattle.nm_demote.specs.declared.demote.DemoteEnd.{DemoteEnd}
use Rattle.nm_demote.specs.declared.demote.DemoteEnd.TheVariants.{Remapped, Copied, NoFrame, Gone, Worn, Busy}
use Rattle.nm_demote.specs.Selecting.{IsSelecting}

-- 11. The page is unlocked, and the frame of its old home is put back.
abbrev pub demoted_end : Source → DemoteEnd
demoted_end sources.Shadow = Remapped
demoted_end sources.Copy = Copied

abbrev pub GivesBackDemoted : Geometry → ℕ → Source → Own → DemoteEnd → Type 0
GivesBackDemoted g home source = Follows (IsPool g (Back home)) (λ back. Ends (demoted_end source))

abbrev pub UnlocksDemoted : Geometry → DemoteMade → ℕ → Source → Own → DemoteEnd → Type 0
UnlocksDemoted g made home source = Follows (IsAct (Unlock made.page) g) (λ unlocked. GivesBackDemoted g home source)

-- 7 to 10. The page is taken out of the table; its shadow becomes its home, or it is copied; and it is mapped to the new home
-- with the hint, writable where the word that was taken was writable or had the right saved, dirty as that word, not accessed
-- and with no right saved.
abbrev pub demote_transfer : Geometry → DemoteMade → ℕ → ℕ → Source → List ℕ → TransferMade
demote_transfer g made home frame source pages = record (transfer_made g made.page home frame source Plain pages) { hint = true }

abbrev pub MovesDown : Geometry → DemoteMade → ℕ → ℕ → Source → List ℕ → Own → DemoteEnd → Type 0
MovesDown g made home frame source pages = Follows (IsTransfer (demote_transfer g made home frame source pages) g) (λ taken. UnlocksDemoted g made home source)

-- how a demotion ends that ended early
abbrev pub demote_early_end : Early → DemoteEnd
demote_early_end (early.NoFrame n) = NoFrame n
demote_early_end early.Gone = Gone
demote_early_end early.Worn = Worn

-- 1 to 6. The steps before; where the page is not ready after them, the demotion ends.
abbrev pub AfterSelecting : Geometry → DemoteMade → Selected → Own → DemoteEnd → Type 0
AfterSelecting g made selected.Busy = Ends Busy
AfterSelecting g made (selected.Closed why) = Ends (demote_early_end why)
AfterSelecting g made (selected.Ready home frame source pages) = MovesDown g made home frame source pages

abbrev pub IsDemotion : DemoteMade → Geometry → Own → DemoteEnd → Type 0
IsDemotion made g = Follows (IsSelecting made g) (AfterSelecting g made)

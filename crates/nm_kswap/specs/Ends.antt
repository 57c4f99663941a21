-- How the pieces of the reclaimer's work ended: what is told by an end, and what it counts. Of an end of another kind nothing is
-- claimed.
use Rattle.std.specs.Prelude.{ℕ, Bool, false, List, Option, Some, None}
use Rattle.nm_action.specs.declared.spent.Spent.{Spent}
use Rattle.nm_action.specs.declared.tally.Tally.{Tally}
use Rattle.nm_compose.specs.declared.or.Or.TheVariants.{This, Other}
use Rattle.nm_tally.specs.Counts.{zero_tally}
use Rattle.nm_pool.specs.declared.job.PoolEnd.TheVariants as pools
use Rattle.nm_inspect.specs.declared.inspect.Inspected.{Inspected}
use Rattle.nm_inspect.specs.declared.inspect.Inspected.TheVariants as inspected
use Rattle.nm_demote.specs.declared.demote.DemoteEnd.{DemoteEnd}
use Rattle.nm_demote.specs.declared.demote.DemoteEnd.TheVariants.{Remapped, Copied, Gone}
use Rattle.nm_kswap.specs.Works.{ReclaimerWorkEnd}

-- whether all processors have ended
abbrev pub asked_in : ReclaimerWorkEnd → Bool
asked_in (This all) = all
asked_in end = false

-- how many frames of the tier are free
abbrev pub level_in : ReclaimerWorkEnd → ℕ
level_in (Other (This (pools.Level n))) = n
level_in end = 0

-- what was found of a page
abbrev pub inspected_in : ReclaimerWorkEnd → Inspected
inspected_in (Other (Other (This found))) = found
inspected_in end = inspected.InUse

-- how a demotion ended, and what was drawn then
abbrev pub demoted_in : ReclaimerWorkEnd → DemoteEnd
demoted_in (Other (Other (Other told))) = told.end.end
demoted_in end = Gone

abbrev pub nothing_drawn : Spent
nothing_drawn = record { bumps = 0; raises = 0 }

abbrev pub spent_in : ReclaimerWorkEnd → Spent
spent_in (Other (Other (Other told))) = told.spent
spent_in end = nothing_drawn

-- the list for taken words that a demotion gives back
abbrev pub taken_words_in : ReclaimerWorkEnd → Option (List (ℕ × ℕ))
taken_words_in (Other (Other (Other told))) = Some told.end.taken
taken_words_in end = None

-- how many frames of its tier a demotion made free
abbrev pub frames_freed : DemoteEnd → ℕ
frames_freed Remapped = 1
frames_freed Copied = 1
frames_freed end = 0

-- the end of a demotion counts where the page was moved
abbrev pub demotion_counts : DemoteEnd → Tally
demotion_counts Remapped = record zero_tally { remapped = 1 }
demotion_counts Copied = record zero_tally { copied = 1 }
demotion_counts end = zero_tally

abbrev pub reclaimer_counts : ReclaimerWorkEnd → Tally
reclaimer_counts (Other (Other (Other told))) = demotion_counts told.end.end
reclaimer_counts end = zero_tally

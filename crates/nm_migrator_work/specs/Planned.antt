-- What the migrator keeps from step to step, and how the pages that were taken from the pending ones are moved.
use Rattle.std.specs.Prelude.{ℕ, ◌+◌, ◌-◌, ◌^◌, ◌==◌, ◌&&◌, ◌||◌, nat_le, min, Bool, true, false, List, [], ◌∷◌, ◌++◌, length, replicate, slice_index, slice_set, Option, Some, None}
use Rattle.nm_base.specs.Geometry.{Geometry, page_count}
use Rattle.nm_action.specs.declared.spent.Spent.{Spent}
use Rattle.nm_txn.specs.declared.end.TxnEnd.{TxnEnd}
use Rattle.nm_txn.specs.declared.end.TxnEnd.TheVariants as ends
use Rattle.nm_locked.specs.declared.locked.LockedEnd.{LockedEnd}
use Rattle.nm_locked.specs.declared.locked.LockedEnd.TheVariants as moves
use Rattle.nm_drawing.specs.declared.drawing.Drawn.{Drawn}
use Rattle.nm_vpages.specs.VPages.{vpages_of}
use Rattle.nm_migrator_work.specs.Ends.{nothing_drawn}

-- how often the transactions of each page were aborted since the page was last marked as pending, by page; and what the actor
-- has drawn
pub record MigratorKept : Type 0 where
  pub aborts : List ℕ
  pub spent : Spent

abbrev pub nothing_kept : Geometry → MigratorKept
nothing_kept g = record { aborts = replicate (page_count g) 0; spent = nothing_drawn }

-- a page is marked as pending: its count of aborts is 0 again
abbrev pub unaborted : ℕ → MigratorKept → MigratorKept
unaborted page kept = record kept { aborts = slice_set kept.aborts page 0 }

-- one abort more of a page; a count that has reached 2^32 - 1, the greatest retry, stays there
abbrev pub aborted_more : ℕ → List ℕ → List ℕ
aborted_more page aborts = slice_set aborts page (min (slice_index aborts page + 1) (2 ^ 32 - 1))

-- Pages.

abbrev pub has_any : List ℕ → Bool
has_any [] = false
has_any (v ∷ vs) = true

-- some virtual page of the geometry is mapped to the page
abbrev pub is_mapped : Geometry → ℕ → Bool
is_mapped g page = has_any (vpages_of g page)

abbrev pub is_among : ℕ → List ℕ → Bool
is_among page [] = false
is_among page (b ∷ pages) = (b == page) || is_among page pages

-- so many pages are taken at most
abbrev pub most_taken : ℕ
most_taken = 8

-- The plan.

-- pages that are moved together, each with a virtual page; and pages that are moved while they are locked, each with its
-- count of virtual pages
pub record Plan : Type 0 where
  pub pieces : List (ℕ × ℕ)
  pub moves : List (ℕ × ℕ)

abbrev pub no_plan : Plan
no_plan = record { pieces = []; moves = [] }

-- so many aborts are enough for the locked move, where there is a retry
abbrev pub is_retried : Option ℕ → ℕ → Bool
is_retried None aborts = false
is_retried (Some retry) aborts = nat_le retry aborts

-- a page with so many words that are not 0 is moved while it is locked: there are two at least; or there is one, and its
-- aborts are enough
abbrev pub is_moved_locked : Option ℕ → ℕ → ℕ → Bool
is_moved_locked retry aborts count = nat_le 2 count || ((count == 1) && is_retried retry aborts)

-- the first of a list; of the other where that is empty
abbrev pub first_of : List ℕ → ℕ
first_of [] = 0
first_of (v ∷ vs) = v

abbrev pub first_or : List ℕ → List ℕ → ℕ
first_or [] others = first_of others
first_or (v ∷ vs) others = v

-- the plan with one page more, of which these virtual pages have words that are not 0
abbrev pub planned_by : Bool → Geometry → ℕ → List ℕ → Plan → Plan
planned_by true g page mapped plan = record plan { moves = plan.moves ++ (page, length mapped) ∷ [] }
planned_by false g page mapped plan = record plan { pieces = plan.pieces ++ (page, first_or mapped (vpages_of g page)) ∷ [] }

abbrev pub planned : Geometry → Option ℕ → List ℕ → ℕ → List ℕ → Plan → Plan
planned g retry aborts page mapped plan = planned_by (is_moved_locked retry (slice_index aborts page) (length mapped)) g page mapped plan

-- After a batch.

-- a piece that ended so is tried again
abbrev pub is_again : TxnEnd → Bool
is_again (ends.Aborted word) = true
is_again ends.Busy = true
is_again end = false

abbrev pub where_again : Bool → ℕ → List ℕ → List ℕ
where_again true page pages = page ∷ pages
where_again false page pages = pages

-- the pages of the pieces that are tried again, in order
abbrev pub again_of : List (ℕ × ℕ) → List TxnEnd → List ℕ
again_of [] ends = []
again_of (p ∷ ps) [] = []
again_of (p ∷ ps) (end ∷ ends) = where_again (is_again end) p.0 (again_of ps ends)

-- the aborts after the end of a piece
abbrev pub aborts_after : ℕ → TxnEnd → List ℕ → List ℕ
aborts_after page (ends.Aborted word) aborts = aborted_more page aborts
aborts_after page end aborts = aborts

-- the aborts after the ends of these pieces
abbrev pub aborts_with : List (ℕ × ℕ) → List TxnEnd → List ℕ → List ℕ
aborts_with [] ends aborts = aborts
aborts_with (p ∷ ps) [] aborts = aborts
aborts_with (p ∷ ps) (end ∷ ends) aborts = aborts_with ps ends (aborts_after p.0 end aborts)

-- what is kept after a batch
abbrev pub batched : List (ℕ × ℕ) → Drawn (List TxnEnd) → MigratorKept → MigratorKept
batched pieces told kept = record { aborts = aborts_with pieces told.end kept.aborts; spent = told.spent }

-- After a locked move.

abbrev pub is_busy_move : LockedEnd → Bool
is_busy_move moves.Busy = true
is_busy_move end = false

abbrev pub kept_drawn : Spent → MigratorKept → MigratorKept
kept_drawn spent kept = record kept { spent = spent }

-- The search for a frame, as a finished list of actions and replies, the last step first.
use Rattle.std.specs.Prelude.{ℕ, zero, suc, ◌-◌, length, slice_index, Option, Some, None}
use Rattle.std.specs.List.{range_with_len}
use Rattle.nm_base.specs.Geometry.{Geometry}
use Rattle.nm_action.specs.Own.{Own}
use Rattle.nm_part.specs.Patterns.{Ends, Follows, Each, Sometimes}
use Rattle.nm_compose.specs.declared.or.Or.{Or}
use Rattle.nm_compose.specs.declared.or.Or.TheVariants.{This, Other}
use Rattle.nm_policy.specs.Watermarks.{watermarks_of}
use Rattle.nm_pool.specs.declared.job.PoolEnd.{PoolEnd}
use Rattle.nm_pool.specs.declared.job.PoolEnd.TheVariants as pools
use Rattle.nm_pool.specs.declared.job.PoolJob.TheVariants.{Take}
use Rattle.nm_pool.specs.Pool.{IsPool}
use Rattle.nm_obtain.specs.declared.obtain.Obtained.{Obtained}
use Rattle.nm_obtain.specs.declared.obtain.Obtained.TheVariants as obtained
use Rattle.nm_obtain.specs.Obtains.{IsObtain}
use Rattle.nm_missing_fault.specs.declared.search.SearchMade.{SearchMade}

-- the watermark `low` of tier 0
abbrev pub low_mark : Geometry → ℕ
low_mark g = (watermarks_of (slice_index g.tiers 0)).low

-- the frame that a step had, if it had one
abbrev pub frame_taken : PoolEnd → Option ℕ
frame_taken (pools.Got frame) = Some frame
frame_taken (pools.AtFloor n) = None
frame_taken (pools.Level n) = None
frame_taken pools.Back = None

abbrev pub frame_obtained : Obtained → Option ℕ
frame_obtained (obtained.Got frame) = Some frame
frame_obtained (obtained.AtFloor n) = None

abbrev pub frame_found : Or PoolEnd Obtained → Option ℕ
frame_found (This end) = frame_taken end
frame_found (Other end) = frame_obtained end

-- the first frame that is had ends the search; else this comes next
abbrev pub FoundOr : (Own → ℕ → Type 0) → Option ℕ → Own → ℕ → Type 0
FoundOr next (Some frame) = Ends frame
FoundOr next None = next

-- Last, a frame of tier 0, down to the last one; where there is none, all this is made again.
abbrev pub TakesLast : Geometry → (Own → ℕ → Type 0) → Own → ℕ → Type 0
TakesLast g again = Follows (IsPool g (Take 0 0)) (λ end. FoundOr again (frame_taken end))

-- Before that, a frame of each slower tier, from this one on.
abbrev pub SeeksIn : SearchMade → Geometry → ℕ → Unit {0} → (Unit {0} → Own → ℕ → Type 0) → Own → ℕ → Type 0
SeeksIn made g tier kept after = Follows (IsObtain (record { page = made.page; tier = tier }) g) (λ end. FoundOr (after kept) (frame_obtained end))

abbrev pub SeeksFrom : SearchMade → Geometry → ℕ → (Own → ℕ → Type 0) → Own → ℕ → Type 0
SeeksFrom made g tier again = Each (SeeksIn made g) (range_with_len tier (length g.tiers - tier)) tt (λ kept. TakesLast g again)

-- First, a frame of tier 0 above its watermark `low`.
abbrev pub Round : SearchMade → Geometry → (Own → ℕ → Type 0) → Own → ℕ → Type 0
Round made g again = Follows (IsPool g (Take 0 (low_mark g))) (λ end. FoundOr (SeeksFrom made g 1 again) (frame_taken end))

-- at most so many times
abbrev pub Rounds : SearchMade → Geometry → ℕ → Own → ℕ → Type 0
Rounds made g zero own frame = ⊥
Rounds made g (suc n) own frame = Round made g (Rounds made g n) own frame

abbrev pub IsSearch : SearchMade → Geometry → Own → ℕ → Type 0
IsSearch made g = Sometimes (Rounds made g)

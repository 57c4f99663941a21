-- The steps of a transaction up to its first flush, as a pattern over finished lists, the last step first.
use Rattle.std.specs.Prelude.{ℕ, ◌+◌, ◌-◌, ◌==◌, not, ◌&&◌, Bool, false, List, [], ◌∷◌, length, slice_index, None}
use Rattle.nm_base.specs.Geometry.{Geometry, tier_of}
use Rattle.nm_base.specs.ShadowWord.{shadow_frame}
use Rattle.nm_policy.specs.Watermarks.{watermarks_of}
use Rattle.nm_action.specs.declared.action.Action.TheVariants.{Lock, Unlock, Mark, Read, SetShadow, ClearDirty, Raise, Arm}
use Rattle.nm_action.specs.declared.action.Cell.TheVariants as cells
use Rattle.nm_action.specs.declared.action.Reply.{Reply}
use Rattle.nm_action.specs.declared.action.Reply.TheVariants.{Done}
use Rattle.nm_action.specs.Own.{Own}
use Rattle.nm_part.specs.Patterns.{Ends, Follows, Either}
use Rattle.nm_compose.specs.Acts.{IsAct}
use Rattle.nm_pool.specs.Pool.{IsPool}
use Rattle.nm_pool.specs.declared.job.PoolJob.TheVariants.{Take, Back}
use Rattle.nm_pool.specs.declared.job.PoolEnd.{PoolEnd}
use Rattle.nm_pool.specs.declared.job.PoolEnd.TheVariants as pools
use Rattle.nm_vpages.specs.VPages.{vpages_of}
use Rattle.nm_mappings.specs.Visits.{IsVisits, looks_made, arms_made}
use Rattle.nm_copying.specs.Copying.{told}
use Rattle.nm_prepare.specs.declared.prepare.PrepareMade.{PrepareMade}
use Rattle.nm_prepare.specs.declared.prepare.Early.{Early}
use Rattle.nm_prepare.specs.declared.prepare.Early.TheVariants.{NoFrame, Gone, Worn}
use Rattle.nm_prepare.specs.declared.prepare.Prepared.{Prepared}
use Rattle.nm_prepare.specs.declared.prepare.Prepared.TheVariants.{Busy, Closed, Ready}
use Rattle.nm_prepare.specs.Worn.{is_worn}

-- The tests.

-- a home word names a frame that is not in tier 0
abbrev pub is_slow_home : Geometry → ℕ → Bool
is_slow_home g word = not (word == 0) && not (tier_of g (word - 1) == 0)

-- a frame is in the last tier
abbrev pub is_in_last : Geometry → ℕ → Bool
is_in_last g frame = tier_of g frame + 1 == length g.tiers

-- the virtual pages whose words are not 0 are this one alone
abbrev pub is_only : ℕ → List ℕ → Bool
is_only v [] = false
is_only v (u ∷ []) = u == v
is_only v (u ∷ (w ∷ ws)) = false

-- the tier to which a page with this home moves, and how many of its frames stay free
abbrev pub tier_above : Geometry → ℕ → ℕ
tier_above g home = tier_of g home - 1

abbrev pub floor_above : Geometry → ℕ → ℕ
floor_above g home = (watermarks_of (slice_index g.tiers (tier_above g home))).min

-- The early end: the page is pending no more, and it is unlocked.
abbrev pub Closes : Geometry → PrepareMade → Early → Own → Prepared → Type 0
Closes g made early = Follows (IsAct (Mark made.page 2 0) g) (λ marked. Follows (IsAct (Unlock made.page) g) (λ unlocked. Ends (Closed early)))

-- 6. The dirty bit of v is cleared, and v is raised.
abbrev pub Clears : Geometry → PrepareMade → ℕ → ℕ → Own → Prepared → Type 0
Clears g made home frame = Follows (IsAct (ClearDirty made.vpage) g) (λ cleared. Follows (IsAct (Raise made.vpage) g) (λ raised. Ends (Ready home frame)))

-- 5. A shadow of the home is given up: its word is set to none, and its frame is put back.
abbrev pub Discards : Geometry → PrepareMade → ℕ → ℕ → ℕ → Own → Prepared → Type 0
Discards g made home shadow frame = Either (shadow == 0) (Clears g made home frame)
    (Follows (IsAct (SetShadow made.page home None) g) (λ set. Follows (IsPool g (Back (shadow_frame shadow))) (λ back. Clears g made home frame)))

-- no list has this pattern
abbrev pub Never : Own → Prepared → Type 0
Never own outcome = ⊥

-- Where the frames of the faster tier are too few, v is armed, and the work ends so.
abbrev pub AfterTake : Geometry → PrepareMade → ℕ → ℕ → PoolEnd → Own → Prepared → Type 0
AfterTake g made home shadow (pools.Got frame) = Discards g made home shadow frame
AfterTake g made home shadow (pools.AtFloor n) = Follows (IsAct (Arm made.vpage) g) (λ armed. Closes g made (NoFrame n))
AfterTake g made home shadow (pools.Level n) = Never
AfterTake g made home shadow pools.Back = Never

-- A frame of the next faster tier is taken.
abbrev pub Takes : Geometry → PrepareMade → ℕ → ℕ → Own → Prepared → Type 0
Takes g made home shadow = Follows (IsPool g (Take (tier_above g home) (floor_above g home))) (AfterTake g made home shadow)

-- A home that is not in the last tier can have a shadow, which is read first.
abbrev pub ReadsShadow : Geometry → PrepareMade → ℕ → Own → Prepared → Type 0
ReadsShadow g made home = Either (is_in_last g home) (Takes g made home 0)
    (Follows (IsAct (Read made.page (cells.Shadow home)) g) (λ reply. Takes g made home (told reply)))

-- 4. Each virtual page of the page is looked at; where not v alone has a word, each that has one is armed, and the work ends.
abbrev pub AfterLooks : Geometry → PrepareMade → ℕ → List ℕ → Own → Prepared → Type 0
AfterLooks g made home found = Either (is_only made.vpage found) (ReadsShadow g made home)
    (Follows (IsVisits (arms_made made.page found) g) (λ armed. Closes g made Gone))

abbrev pub Looks : Geometry → PrepareMade → ℕ → Own → Prepared → Type 0
Looks g made home = Follows (IsVisits (looks_made made.page (vpages_of g made.page)) g) (AfterLooks g made home)

-- 3. The home is read; where there is none, or it is in tier 0, the work ends.
abbrev pub AfterHome : Geometry → PrepareMade → Reply → Own → Prepared → Type 0
AfterHome g made reply = Either (is_slow_home g (told reply)) (Looks g made (told reply - 1)) (Closes g made Gone)

abbrev pub ReadsHome : Geometry → PrepareMade → Own → Prepared → Type 0
ReadsHome g made = Follows (IsAct (Read made.page (cells.Home made.page)) g) (AfterHome g made)

-- 2. Where almost all numbers are drawn, the work ends.
-- 1. The page is locked; where that is Busy, the work ends.
abbrev pub AfterLock : Geometry → PrepareMade → Reply → Own → Prepared → Type 0
AfterLock g made Done = Either (is_worn made.spent) (Closes g made Worn) (ReadsHome g made)
AfterLock g made _ = Ends Busy

abbrev pub IsPrepare : PrepareMade → Geometry → Own → Prepared → Type 0
IsPrepare made g = Follows (IsAct (Lock made.page) g) (AfterLock g made)

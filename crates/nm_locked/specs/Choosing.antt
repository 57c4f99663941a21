-- The steps of a locked move before the page is taken out of the table, as a pattern over finished lists, the last step
-- first.
use Rattle.std.specs.Prelude.{ℕ, ◌-◌, ◌==◌, List, [], ◌∷◌, length, None}
use Rattle.nm_base.specs.Geometry.{Geometry}
use Rattle.nm_base.specs.ShadowWord.{shadow_frame}
use Rattle.nm_action.specs.declared.action.Action.TheVariants.{Lock, Unlock, Mark, Read, SetShadow}
use Rattle.nm_action.specs.declared.action.Cell.TheVariants as cells
use Rattle.nm_action.specs.declared.action.Reply.{Reply}
use Rattle.nm_action.specs.declared.action.Reply.TheVariants.{Done}
use Rattle.nm_action.specs.Own.{Own}
use Rattle.nm_part.specs.Patterns.{Ends, Follows, Either}
use Rattle.nm_compose.specs.Acts.{IsAct}
use Rattle.nm_pool.specs.Pool.{IsPool}
use Rattle.nm_pool.specs.declared.job.PoolJob.TheVariants.{Take, Back}
use Rattle.nm_pool.specs.declared.job.PoolEnd.{PoolEnd}
use Rattle.nm_pool.specs.declared.job.PoolEnd.TheVariants as pools
use Rattle.nm_vpages.specs.VPages.{vpages_of}
use Rattle.nm_mappings.specs.Visits.{IsVisits, looks_made, arms_made}
use Rattle.nm_copying.specs.Copying.{told}
use Rattle.nm_prepare.specs.Worn.{is_worn}
use Rattle.nm_prepare.specs.Preparing.{is_slow_home, tier_above, floor_above}
use Rattle.nm_locked.specs.declared.choose.ChooseMade.{ChooseMade}
use Rattle.nm_locked.specs.declared.choose.Early.{Early}
use Rattle.nm_locked.specs.declared.choose.Early.TheVariants.{NoFrame, Gone, Worn}
use Rattle.nm_locked.specs.declared.choose.Chosen.{Chosen}
use Rattle.nm_locked.specs.declared.choose.Chosen.TheVariants.{Busy, Closed, Ready}

-- The early end: the page is pending no more, and it is unlocked.
abbrev pub UnlocksInMove : Geometry → ChooseMade → Early → Own → Chosen → Type 0
UnlocksInMove g made early = Follows (IsAct (Unlock made.page) g) (λ unlocked. Ends (Closed early))

abbrev pub ClosesInMove : Geometry → ChooseMade → Early → Own → Chosen → Type 0
ClosesInMove g made early = Follows (IsAct (Mark made.page 2 0) g) (λ marked. UnlocksInMove g made early)

-- each virtual page that has a word is armed before
abbrev pub ArmsAll : Geometry → ChooseMade → Early → List ℕ → Own → Chosen → Type 0
ArmsAll g made early pages = Follows (IsVisits (arms_made made.page pages) g) (λ armed. ClosesInMove g made early)

-- 6. The shadow word of the home is read; a shadow is given up: the word is set to none, and its frame is put back.
abbrev pub PutsBackInMove : Geometry → ChooseMade → ℕ → ℕ → ℕ → List ℕ → Own → Chosen → Type 0
PutsBackInMove g made home shadow frame pages = Follows (IsPool g (Back (shadow_frame shadow))) (λ back. Ends (Ready home frame pages))

abbrev pub DiscardsInMove : Geometry → ChooseMade → ℕ → ℕ → ℕ → List ℕ → Own → Chosen → Type 0
DiscardsInMove g made home shadow frame pages = Either (shadow == 0) (Ends (Ready home frame pages))
    (Follows (IsAct (SetShadow made.page home None) g) (λ set. PutsBackInMove g made home shadow frame pages))

abbrev pub ReadsShadowInMove : Geometry → ChooseMade → ℕ → ℕ → List ℕ → Own → Chosen → Type 0
ReadsShadowInMove g made home frame pages = Follows (IsAct (Read made.page (cells.Shadow home)) g) (λ reply. DiscardsInMove g made home (told reply) frame pages)

-- no list has this pattern
abbrev pub NeverInMove : Own → Chosen → Type 0
NeverInMove own outcome = ⊥

-- 5. A frame of the next faster tier is taken; where its frames are too few, the work ends.
abbrev pub AfterTakeInMove : Geometry → ChooseMade → ℕ → List ℕ → PoolEnd → Own → Chosen → Type 0
AfterTakeInMove g made home pages (pools.Got frame) = ReadsShadowInMove g made home frame pages
AfterTakeInMove g made home pages (pools.AtFloor n) = ArmsAll g made (NoFrame n) pages
AfterTakeInMove g made home pages (pools.Level n) = NeverInMove
AfterTakeInMove g made home pages pools.Back = NeverInMove

abbrev pub TakesInMove : Geometry → ChooseMade → ℕ → List ℕ → Own → Chosen → Type 0
TakesInMove g made home pages = Follows (IsPool g (Take (tier_above g home) (floor_above g home))) (AfterTakeInMove g made home pages)

-- 4. Each virtual page of the page is looked at; where another number of them have words, the work ends.
abbrev pub AfterLooksInMove : Geometry → ChooseMade → ℕ → List ℕ → Own → Chosen → Type 0
AfterLooksInMove g made home pages = Either (length pages == made.count) (TakesInMove g made home pages) (ArmsAll g made Gone pages)

abbrev pub LooksInMove : Geometry → ChooseMade → ℕ → Own → Chosen → Type 0
LooksInMove g made home = Follows (IsVisits (looks_made made.page (vpages_of g made.page)) g) (AfterLooksInMove g made home)

-- 3. The home is read; where there is none, or it is in tier 0, the work ends.
abbrev pub AfterHomeInMove : Geometry → ChooseMade → ℕ → Own → Chosen → Type 0
AfterHomeInMove g made word = Either (is_slow_home g word) (LooksInMove g made (word - 1)) (ClosesInMove g made Gone)

abbrev pub ReadsHomeInMove : Geometry → ChooseMade → Own → Chosen → Type 0
ReadsHomeInMove g made = Follows (IsAct (Read made.page (cells.Home made.page)) g) (λ reply. AfterHomeInMove g made (told reply))

-- 2. Where almost all numbers are drawn, the work ends.
-- 1. The page is locked; where that is Busy, the work ends.
abbrev pub AfterLockInMove : Geometry → ChooseMade → Reply → Own → Chosen → Type 0
AfterLockInMove g made Done = Either (is_worn made.spent) (ClosesInMove g made Worn) (ReadsHomeInMove g made)
AfterLockInMove g made _ = Ends Busy

abbrev pub IsChoosing : ChooseMade → Geometry → Own → Chosen → Type 0
IsChoosing made g = Follows (IsAct (Lock made.page) g) (AfterLockInMove g made)

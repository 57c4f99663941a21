-- Each pattern of the steps before the page is taken out of the table has a list.
use Rattle.std.proofs.Common.{◌≡◌, ℕ, ◌-◌, ◌==◌, List, length, None}
use Rattle.nm_base.specs.Geometry.{Geometry, IsGeometry}
use Rattle.nm_base.specs.ShadowWord.{shadow_frame}
use Rattle.nm_action.specs.declared.action.Action.TheVariants.{Lock, Unlock, Mark, Read, SetShadow}
use Rattle.nm_action.specs.declared.action.Cell.TheVariants as cells
use Rattle.nm_action.specs.declared.action.Reply.{Reply}
use Rattle.nm_action.specs.declared.action.Reply.TheVariants as replies
use Rattle.nm_action.specs.Own.{Own}
use Rattle.nm_part.specs.Patterns.{Ends, Follows, Either, CanEnd}
use Rattle.nm_part.proofs.Patterns.{can-ends, can-follow, can-either}
use Rattle.nm_compose.specs.Acts.{IsAct}
use Rattle.nm_compose.proofs.Acting.{some-act}
use Rattle.nm_pool.specs.Pool.{IsPool}
use Rattle.nm_pool.specs.declared.job.PoolJob.TheVariants.{Take, Back}
use Rattle.nm_pool.specs.declared.job.PoolEnd.{PoolEnd}
use Rattle.nm_pool.specs.declared.job.PoolEnd.TheVariants as pools
use Rattle.nm_vpages.specs.VPages.{vpages_of}
use Rattle.nm_mappings.specs.Visits.{IsVisits, looks_made, arms_made}
use Rattle.nm_mappings.proofs.Visiting.{some-visits}
use Rattle.nm_copying.specs.Copying.{told}
use Rattle.nm_prepare.specs.Worn.{is_worn}
use Rattle.nm_prepare.specs.Preparing.{is_slow_home, tier_above, floor_above}
use Rattle.nm_prepare.proofs.Ending.{some-back, some-take}
use Rattle.nm_locked.specs.declared.choose.ChooseMade.{ChooseMade}
use Rattle.nm_locked.specs.declared.choose.Early.{Early}
use Rattle.nm_locked.specs.declared.choose.Early.TheVariants.{NoFrame, Gone, Worn}
use Rattle.nm_locked.specs.declared.choose.Chosen.{Chosen}
use Rattle.nm_locked.specs.declared.choose.Chosen.TheVariants.{Busy, Closed, Ready}
use Rattle.nm_locked.specs.Choosing.{UnlocksInMove, ClosesInMove, ArmsAll, PutsBackInMove, DiscardsInMove, ReadsShadowInMove, AfterTakeInMove, TakesInMove, AfterLooksInMove, LooksInMove, AfterHomeInMove, ReadsHomeInMove, AfterLockInMove, IsChoosing}

pub can-unlocks : (g : Geometry) (made : ChooseMade) (early : Early) → CanEnd (UnlocksInMove g made early)
can-unlocks g made early = can-follow (IsAct (Unlock made.page) g) (λ unlocked. Ends (Closed early)) (some-act (Unlock made.page) g) (can-ends (Closed early))

pub can-closes : (g : Geometry) (made : ChooseMade) (early : Early) → CanEnd (ClosesInMove g made early)
can-closes g made early = can-follow (IsAct (Mark made.page 2 0) g) (λ marked. UnlocksInMove g made early) (some-act (Mark made.page 2 0) g) (can-unlocks g made early)

pub can-arms : (g : Geometry) (made : ChooseMade) (early : Early) (pages : List ℕ) → CanEnd (ArmsAll g made early pages)
can-arms g made early pages = can-follow (IsVisits (arms_made made.page pages) g) (λ armed. ClosesInMove g made early) (some-visits (arms_made made.page pages) g) (can-closes g made early)

pub can-puts-back : (g : Geometry) (made : ChooseMade) (home shadow frame : ℕ) (pages : List ℕ) → CanEnd (PutsBackInMove g made home shadow frame pages)
can-puts-back g made home shadow frame pages = can-follow (IsPool g (Back (shadow_frame shadow))) (λ back. Ends (Ready home frame pages)) (some-back g (shadow_frame shadow)) (can-ends (Ready home frame pages))

pub can-discards : (g : Geometry) (made : ChooseMade) (home shadow frame : ℕ) (pages : List ℕ) → CanEnd (DiscardsInMove g made home shadow frame pages)
can-discards g made home shadow frame pages = can-either (shadow == 0) (Ends (Ready home frame pages)) (Follows (IsAct (SetShadow made.page home None) g) (λ set. PutsBackInMove g made home shadow frame pages))
    (can-ends (Ready home frame pages))
    (can-follow (IsAct (SetShadow made.page home None) g) (λ set. PutsBackInMove g made home shadow frame pages) (some-act (SetShadow made.page home None) g) (can-puts-back g made home shadow frame pages))

pub can-reads-shadow : (g : Geometry) (made : ChooseMade) (home frame : ℕ) (pages : List ℕ) → CanEnd (ReadsShadowInMove g made home frame pages)
can-reads-shadow g made home frame pages =
    let some = some-act (Read made.page (cells.Shadow home)) g in
    can-follow (IsAct (Read made.page (cells.Shadow home)) g) (λ reply. DiscardsInMove g made home (told reply) frame pages) some (can-discards g made home (told some.outcome) frame pages)

-- after each end that a taking of a frame has
pub can-after-take : (g : Geometry) (made : ChooseMade) (home : ℕ) (pages : List ℕ) (tier floor : ℕ) (own : Own) (end : PoolEnd) → IsPool g (Take tier floor) own end → CanEnd (AfterTakeInMove g made home pages end)
can-after-take g made home pages tier floor own (pools.Got frame) h = can-reads-shadow g made home frame pages
can-after-take g made home pages tier floor own (pools.AtFloor n) h = can-arms g made (NoFrame n) pages
can-after-take g made home pages tier floor own (pools.Level n) h = absurd h.work
can-after-take g made home pages tier floor own pools.Back h = absurd h.work

pub can-takes : (g : Geometry) (made : ChooseMade) (home : ℕ) (pages : List ℕ) → IsGeometry g → CanEnd (TakesInMove g made home pages)
can-takes g made home pages h =
    let some = some-take g home (floor_above g home) h in
    can-follow (IsPool g (Take (tier_above g home) (floor_above g home))) (AfterTakeInMove g made home pages) some (can-after-take g made home pages (tier_above g home) (floor_above g home) some.rest some.outcome some.shown)

pub can-after-looks : (g : Geometry) (made : ChooseMade) (home : ℕ) (pages : List ℕ) → IsGeometry g → CanEnd (AfterLooksInMove g made home pages)
can-after-looks g made home pages h = can-either (length pages == made.count) (TakesInMove g made home pages) (ArmsAll g made Gone pages) (can-takes g made home pages h) (can-arms g made Gone pages)

pub can-looks : (g : Geometry) (made : ChooseMade) (home : ℕ) → IsGeometry g → CanEnd (LooksInMove g made home)
can-looks g made home h =
    let some = some-visits (looks_made made.page (vpages_of g made.page)) g in
    can-follow (IsVisits (looks_made made.page (vpages_of g made.page)) g) (AfterLooksInMove g made home) some (can-after-looks g made home some.outcome h)

pub can-after-home : (g : Geometry) (made : ChooseMade) (word : ℕ) → IsGeometry g → CanEnd (AfterHomeInMove g made word)
can-after-home g made word h = can-either (is_slow_home g word) (LooksInMove g made (word - 1)) (ClosesInMove g made Gone) (can-looks g made (word - 1) h) (can-closes g made Gone)

pub can-reads-home : (g : Geometry) (made : ChooseMade) → IsGeometry g → CanEnd (ReadsHomeInMove g made)
can-reads-home g made h =
    let some = some-act (Read made.page (cells.Home made.page)) g in
    can-follow (IsAct (Read made.page (cells.Home made.page)) g) (λ reply. AfterHomeInMove g made (told reply)) some (can-after-home g made (told some.outcome) h)

pub can-after-lock : (g : Geometry) (made : ChooseMade) (reply : Reply) → IsGeometry g → CanEnd (AfterLockInMove g made reply)
can-after-lock g made replies.Done h = can-either (is_worn made.spent) (ClosesInMove g made Worn) (ReadsHomeInMove g made) (can-closes g made Worn) (can-reads-home g made h)
can-after-lock g made _ h = can-ends Busy

-- the pattern has a list
pub some-choosing : (made : ChooseMade) (g : Geometry) → IsGeometry g → CanEnd (IsChoosing made g)
some-choosing made g h = let some = some-act (Lock made.page) g in can-follow (IsAct (Lock made.page) g) (AfterLockInMove g made) some (can-after-lock g made some.outcome h)

-- Parts of the reclaimer, which make no Mark.
use Rattle.std.proofs.Common.{ℕ, ◌+◌, ◌-◌, ◌==◌, nat_lt, List, [], ◌∷◌, None}
use Rattle.nm_base.specs.Geometry.{Geometry}
use Rattle.nm_base.specs.ShadowWord.{shadow_frame}
use Rattle.nm_action.specs.declared.action.AckTo.{AckTo}
use Rattle.nm_action.specs.declared.action.Action.TheVariants.{Lock, Unlock, Read, SetShadow}
use Rattle.nm_action.specs.declared.action.Cell.TheVariants as cells
use Rattle.nm_action.specs.declared.action.Reply.{Reply}
use Rattle.nm_action.specs.declared.action.Reply.TheVariants.{Done, Word, Busy, Lost}
use Rattle.nm_action.specs.Own.{Own}
use Rattle.nm_part.specs.Patterns.{Ends, Follows, Either}
use Rattle.nm_compose.specs.Acts.{IsAct}
use Rattle.nm_pool.specs.Pool.{IsPool}
use Rattle.nm_pool.specs.declared.job.PoolJob.TheVariants.{Take, Back}
use Rattle.nm_pool.specs.declared.job.PoolEnd.{PoolEnd}
use Rattle.nm_pool.specs.declared.job.PoolEnd.TheVariants as pools
use Rattle.nm_vpages.specs.VPages.{vpages_of}
use Rattle.nm_mappings.specs.Visits.{IsVisits, looks_made}
use Rattle.nm_copying.specs.Copying.{told}
use Rattle.nm_prepare.specs.Worn.{is_worn}
use Rattle.nm_looks.specs.declared.seen.Seen.{Seen}
use Rattle.nm_looks.specs.Seeing.{IsLooks}
use Rattle.nm_looks.specs.Softening.{IsSoftens}
use Rattle.nm_looks.specs.Parts.{page_looks}
use Rattle.nm_inspect.specs.declared.inspect.Inspected.TheVariants as inspected
use Rattle.nm_inspect.specs.Inspecting.{InspectData, SoftensInUse, AfterInspectLooks, IsInspection}
use Rattle.nm_reclaim.specs.declared.sweep.ReclaimMade.{ReclaimMade}
use Rattle.nm_reclaim.specs.Reclaims.{pages_visited, most_freed, word_in, is_shadow_in, PutsBack, DiscardsShadow, LeavesPage, VisitAfterShadow, VisitAfterHome, VisitAfterLock, Visits, IsReclaim}
use Rattle.nm_obtain.specs.declared.obtain.ObtainMade.{ObtainMade}
use Rattle.nm_obtain.specs.declared.obtain.Obtained.{Obtained}
use Rattle.nm_obtain.specs.declared.obtain.Obtained.TheVariants.{Got, AtFloor}
use Rattle.nm_obtain.specs.Obtains.{AfterSecondTry, TriesAgain, reclaim_for, AfterFirstTry, IsObtain}
use Rattle.nm_transfer.specs.declared.transfer.Source.TheVariants as sources
use Rattle.nm_transfer.specs.Transferring.{IsTransfer}
use Rattle.nm_demote.specs.declared.select.DemoteMade.{DemoteMade}
use Rattle.nm_demote.specs.declared.select.Early.{Early}
use Rattle.nm_demote.specs.declared.select.Early.TheVariants as early
use Rattle.nm_demote.specs.declared.select.Selected.{Selected}
use Rattle.nm_demote.specs.declared.select.Selected.TheVariants as selected
use Rattle.nm_demote.specs.declared.demote.DemoteEnd.TheVariants as demoted
use Rattle.nm_demote.specs.Selecting.{UnlocksEarly, AfterObtain, obtain_for, SeeksFrame, AfterLooksToDemote, LooksToDemote, ReadsShadowToDemote, has_slower, AfterHomeToDemote, ReadsHomeToDemote, AfterLockToDemote, IsSelecting}
use Rattle.nm_demote.specs.Demotions.{demoted_end, GivesBackDemoted, UnlocksDemoted, demote_transfer, demote_early_end, AfterSelecting, IsDemotion}
use Rattle.nm_marks.specs.Contents.{ListsOnly}
use Rattle.nm_marks.proofs.Patterns.{only-ends, only-follows, only-then, only-either, only-each}
use Rattle.nm_part_marks.specs.Actions.{IsActionOf}
use Rattle.nm_part_marks.proofs.Leaves.{pool-actions, visits-actions, looks-actions, softens-actions, transfer-actions}

-- ---- reclaims

-- what comes after a page in a sweep makes no Mark
abbrev RestOnly : (ℕ → ℕ → Type 0) → (AckTo → Type 0) → (ℕ → Own → ℕ → Type 0) → Type 0
RestOnly may ack after = (freed : ℕ) → ListsOnly (IsActionOf may ack) (after freed)

leaves-actions : (may : ℕ → ℕ → Type 0) (ack : AckTo → Type 0) (g : Geometry) (page freed : ℕ) (after : ℕ → Own → ℕ → Type 0) → RestOnly may ack after → ListsOnly (IsActionOf may ack) (LeavesPage g page freed after)
leaves-actions may ack g page freed after rest = only-then (IsActionOf may ack) (Unlock page) g (λ unlocked. after freed) tt (λ unlocked. rest freed)

discard-actions : (may : ℕ → ℕ → Type 0) (ack : AckTo → Type 0) (g : Geometry) (page master shadow freed : ℕ) (after : ℕ → Own → ℕ → Type 0) → RestOnly may ack after → ListsOnly (IsActionOf may ack) (DiscardsShadow g page master shadow freed after)
discard-actions may ack g page master shadow freed after rest =
    let M = IsActionOf may ack in
    only-then M (SetShadow page master None) g (λ set. Follows (IsAct (Unlock page) g) (λ unlocked. PutsBack g shadow freed after)) tt (λ set.
    only-then M (Unlock page) g (λ unlocked. PutsBack g shadow freed after) tt (λ unlocked.
    only-follows M (IsPool g (Back shadow)) (λ end. after (freed + 1)) (pool-actions may ack g (Back shadow)) (λ end. rest (freed + 1))))

visit-home-actions : (may : ℕ → ℕ → Type 0) (ack : AckTo → Type 0) (g : Geometry) (made : ReclaimMade) (page word freed : ℕ) (after : ℕ → Own → ℕ → Type 0) → RestOnly may ack after → ListsOnly (IsActionOf may ack) (VisitAfterHome g made page word freed after)
visit-home-actions may ack g made page word freed after rest =
    let M = IsActionOf may ack in
    only-either M (word == 0) (LeavesPage g page freed after) (Follows (IsAct (Read page (cells.Shadow (word - 1))) g) (λ reply. VisitAfterShadow g made page (word - 1) (word_in reply) freed after))
    (leaves-actions may ack g page freed after rest)
    (only-then M (Read page (cells.Shadow (word - 1))) g (λ reply. VisitAfterShadow g made page (word - 1) (word_in reply) freed after) tt (λ reply.
    only-either M (is_shadow_in g made.tier (word_in reply)) (DiscardsShadow g page (word - 1) (shadow_frame (word_in reply)) freed after) (LeavesPage g page freed after)
    (discard-actions may ack g page (word - 1) (shadow_frame (word_in reply)) freed after rest) (leaves-actions may ack g page freed after rest)))

visit-lock-actions : (may : ℕ → ℕ → Type 0) (ack : AckTo → Type 0) (g : Geometry) (made : ReclaimMade) (page : ℕ) (reply : Reply) (freed : ℕ) (after : ℕ → Own → ℕ → Type 0) → RestOnly may ack after → ListsOnly (IsActionOf may ack) (VisitAfterLock g made page reply freed after)
visit-lock-actions may ack g made page Done freed after rest =
    only-then (IsActionOf may ack) (Read page (cells.Home page)) g (λ reply. VisitAfterHome g made page (word_in reply) freed after) tt (λ reply. visit-home-actions may ack g made page (word_in reply) freed after rest)
visit-lock-actions may ack g made page (Word n) freed after rest = rest freed
visit-lock-actions may ack g made page (Busy n) freed after rest = rest freed
visit-lock-actions may ack g made page (Lost n) freed after rest = rest freed

pub reclaim-actions : (may : ℕ → ℕ → Type 0) (ack : AckTo → Type 0) (g : Geometry) (made : ReclaimMade) → ListsOnly (IsActionOf may ack) (IsReclaim g made)
reclaim-actions may ack g made =
    only-each (IsActionOf may ack) (Visits g made) (pages_visited g made) (λ all. Ends all)
    (λ page freed next rest. only-either (IsActionOf may ack) (nat_lt freed (most_freed made)) (Follows (IsAct (Lock page) g) (λ reply. VisitAfterLock g made page reply freed next)) (next freed)
    (only-then (IsActionOf may ack) (Lock page) g (λ reply. VisitAfterLock g made page reply freed next) tt (λ reply. visit-lock-actions may ack g made page reply freed next rest)) (rest freed))
    (λ all. only-ends (IsActionOf may ack) all) 0

-- ---- frames that are sought

second-actions : (may : ℕ → ℕ → Type 0) (ack : AckTo → Type 0) (end : PoolEnd) → ListsOnly (IsActionOf may ack) (AfterSecondTry end)
second-actions may ack (pools.Got frame) = only-ends (IsActionOf may ack) (Got frame)
second-actions may ack (pools.AtFloor n) = only-ends (IsActionOf may ack) (AtFloor n)
second-actions may ack (pools.Level n) = λ own outcome h. absurd h
second-actions may ack pools.Back = λ own outcome h. absurd h

first-actions : (may : ℕ → ℕ → Type 0) (ack : AckTo → Type 0) (g : Geometry) (made : ObtainMade) (end : PoolEnd) → ListsOnly (IsActionOf may ack) (AfterFirstTry g made end)
first-actions may ack g made (pools.Got frame) = only-ends (IsActionOf may ack) (Got frame)
first-actions may ack g made (pools.AtFloor n) =
    only-follows (IsActionOf may ack) (IsReclaim g (reclaim_for made)) (λ freed. TriesAgain g made) (reclaim-actions may ack g (reclaim_for made))
    (λ freed. only-follows (IsActionOf may ack) (IsPool g (Take made.tier 0)) AfterSecondTry (pool-actions may ack g (Take made.tier 0)) (second-actions may ack))
first-actions may ack g made (pools.Level n) = λ own outcome h. absurd h
first-actions may ack g made pools.Back = λ own outcome h. absurd h

pub obtain-actions : (may : ℕ → ℕ → Type 0) (ack : AckTo → Type 0) (made : ObtainMade) (g : Geometry) → ListsOnly (IsActionOf may ack) (IsObtain made g)
obtain-actions may ack made g = only-follows (IsActionOf may ack) (IsPool g (Take made.tier 0)) (AfterFirstTry g made) (pool-actions may ack g (Take made.tier 0)) (first-actions may ack g made)

-- ---- demotions

unlocks-actions : (may : ℕ → ℕ → Type 0) (ack : AckTo → Type 0) (g : Geometry) (made : DemoteMade) (why : Early) → ListsOnly (IsActionOf may ack) (UnlocksEarly g made why)
unlocks-actions may ack g made why = only-then (IsActionOf may ack) (Unlock made.page) g (λ unlocked. Ends (selected.Closed why)) tt (λ unlocked. only-ends (IsActionOf may ack) (selected.Closed why))

obtained-actions : (may : ℕ → ℕ → Type 0) (ack : AckTo → Type 0) (g : Geometry) (made : DemoteMade) (home : ℕ) (pages : List ℕ) (end : Obtained) → ListsOnly (IsActionOf may ack) (AfterObtain g made home pages end)
obtained-actions may ack g made home pages (Got frame) = only-ends (IsActionOf may ack) (selected.Ready home frame sources.Copy pages)
obtained-actions may ack g made home pages (AtFloor n) = unlocks-actions may ack g made (early.NoFrame n)

selects-actions : (may : ℕ → ℕ → Type 0) (ack : AckTo → Type 0) (g : Geometry) (made : DemoteMade) (home shadow : ℕ) (pages : List ℕ) → ListsOnly (IsActionOf may ack) (AfterLooksToDemote g made home shadow pages)
selects-actions may ack g made home shadow [] = unlocks-actions may ack g made early.Gone
selects-actions may ack g made home shadow (v ∷ vs) =
    only-either (IsActionOf may ack) (shadow == 0) (SeeksFrame g made home (v ∷ vs)) (Ends (selected.Ready home (shadow_frame shadow) sources.Shadow (v ∷ vs)))
    (only-follows (IsActionOf may ack) (IsObtain (obtain_for g made home) g) (AfterObtain g made home (v ∷ vs)) (obtain-actions may ack (obtain_for g made home) g) (obtained-actions may ack g made home (v ∷ vs)))
    (only-ends (IsActionOf may ack) (selected.Ready home (shadow_frame shadow) sources.Shadow (v ∷ vs)))

demote-home-actions : (may : ℕ → ℕ → Type 0) (ack : AckTo → Type 0) (g : Geometry) (made : DemoteMade) (word : ℕ) → ListsOnly (IsActionOf may ack) (AfterHomeToDemote g made word)
demote-home-actions may ack g made word =
    let M = IsActionOf may ack in
    only-either M (has_slower g word) (ReadsShadowToDemote g made (word - 1)) (UnlocksEarly g made early.Gone)
    (only-then M (Read made.page (cells.Shadow (word - 1))) g (λ reply. LooksToDemote g made (word - 1) (told reply)) tt (λ reply.
    only-follows M (IsVisits (looks_made made.page (vpages_of g made.page)) g) (AfterLooksToDemote g made (word - 1) (told reply)) (visits-actions may ack (looks_made made.page (vpages_of g made.page)) g) (selects-actions may ack g made (word - 1) (told reply))))
    (unlocks-actions may ack g made early.Gone)

demote-lock-actions : (may : ℕ → ℕ → Type 0) (ack : AckTo → Type 0) (g : Geometry) (made : DemoteMade) (reply : Reply) → ListsOnly (IsActionOf may ack) (AfterLockToDemote g made reply)
demote-lock-actions may ack g made Done =
    only-either (IsActionOf may ack) (is_worn made.spent) (UnlocksEarly g made early.Worn) (ReadsHomeToDemote g made) (unlocks-actions may ack g made early.Worn)
    (only-then (IsActionOf may ack) (Read made.page (cells.Home made.page)) g (λ reply. AfterHomeToDemote g made (told reply)) tt (λ reply. demote-home-actions may ack g made (told reply)))
demote-lock-actions may ack g made (Word n) = only-ends (IsActionOf may ack) selected.Busy
demote-lock-actions may ack g made (Busy n) = only-ends (IsActionOf may ack) selected.Busy
demote-lock-actions may ack g made (Lost n) = only-ends (IsActionOf may ack) selected.Busy

demoted-actions : (may : ℕ → ℕ → Type 0) (ack : AckTo → Type 0) (g : Geometry) (made : DemoteMade) (end : Selected) → ListsOnly (IsActionOf may ack) (AfterSelecting g made end)
demoted-actions may ack g made selected.Busy = only-ends (IsActionOf may ack) demoted.Busy
demoted-actions may ack g made (selected.Closed why) = only-ends (IsActionOf may ack) (demote_early_end why)
demoted-actions may ack g made (selected.Ready home frame source pages) =
    let M = IsActionOf may ack in
    only-follows M (IsTransfer (demote_transfer g made home frame source pages) g) (λ taken. UnlocksDemoted g made home source) (transfer-actions may ack (demote_transfer g made home frame source pages) g) (λ taken.
    only-then M (Unlock made.page) g (λ unlocked. GivesBackDemoted g home source) tt (λ unlocked.
    only-follows M (IsPool g (Back home)) (λ back. Ends (demoted_end source)) (pool-actions may ack g (Back home)) (λ back. only-ends M (demoted_end source))))

pub demotion-actions : (may : ℕ → ℕ → Type 0) (ack : AckTo → Type 0) (made : DemoteMade) (g : Geometry) → ListsOnly (IsActionOf may ack) (IsDemotion made g)
demotion-actions may ack made g =
    only-follows (IsActionOf may ack) (IsSelecting made g) (AfterSelecting g made) (only-then (IsActionOf may ack) (Lock made.page) g (AfterLockToDemote g made) tt (demote-lock-actions may ack g made)) (demoted-actions may ack g made)

-- ---- inspections

in-use-actions : (may : ℕ → ℕ → Type 0) (ack : AckTo → Type 0) (g : Geometry) (seen : Seen) → ListsOnly (IsActionOf may ack) (SoftensInUse g seen)
in-use-actions may ack g seen = only-follows (IsActionOf may ack) (IsSoftens seen.mapped g) (λ softened. Ends inspected.InUse) (softens-actions may ack seen.mapped g) (λ softened. only-ends (IsActionOf may ack) inspected.InUse)

pub inspection-actions : (may : ℕ → ℕ → Type 0) (ack : AckTo → Type 0) (made : InspectData) (g : Geometry) → ListsOnly (IsActionOf may ack) (IsInspection made g)
inspection-actions may ack made g =
    let A = IsActionOf may ack in
    only-follows A (IsLooks (page_looks made.0 made.1.page made.1.tier) g) (AfterInspectLooks g) (looks-actions may ack (page_looks made.0 made.1.page made.1.tier) g) (λ seen.
    only-either A seen.inside (Either seen.accessed (SoftensInUse g seen) (Ends inspected.Idle)) (Ends inspected.Elsewhere)
    (only-either A seen.accessed (SoftensInUse g seen) (Ends inspected.Idle) (in-use-actions may ack g seen) (only-ends A inspected.Idle))
    (only-ends A inspected.Elsewhere))

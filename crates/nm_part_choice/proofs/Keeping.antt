-- Parts of the reclaimer leave no choice.
use Rattle.std.proofs.Common.{ℕ, zero, suc, true, false, ◌+◌, ◌-◌, ◌==◌, nat_lt, List, [], ◌∷◌, None}
use Rattle.nm_base.specs.Geometry.{Geometry}
use Rattle.nm_base.specs.ShadowWord.{shadow_frame}
use Rattle.nm_action.specs.declared.action.Action.TheVariants.{Lock, Unlock, Read, SeeAck, SetShadow}
use Rattle.nm_action.specs.declared.action.Cell.TheVariants as cells
use Rattle.nm_action.specs.declared.action.Reply.{Reply}
use Rattle.nm_action.specs.declared.action.Reply.TheVariants.{Done, Word, Busy, Lost}
use Rattle.nm_action.specs.Own.{Own}
use Rattle.nm_part.specs.Patterns.{Ends, Follows, Either}
use Rattle.nm_compose.specs.Acts.{IsAct}
use Rattle.nm_pool.specs.Pool.{IsPool}
use Rattle.nm_pool.specs.declared.job.PoolJob.TheVariants.{Take, Back}
use Rattle.nm_pool.specs.declared.job.PoolEnd.{PoolEnd}
use Rattle.nm_pool.specs.declared.job.PoolEnd.TheVariants as pools
use Rattle.nm_vpages.specs.VPages.{vpages_of}
use Rattle.nm_mappings.specs.Visits.{IsVisits, looks_made}
use Rattle.nm_copying.specs.Copying.{told}
use Rattle.nm_prepare.specs.Worn.{is_worn}
use Rattle.nm_looks.specs.declared.seen.Seen.{Seen}
use Rattle.nm_looks.specs.Seeing.{IsLooks}
use Rattle.nm_looks.specs.Softening.{IsSoftens}
use Rattle.nm_looks.specs.Parts.{page_looks}
use Rattle.nm_inspect.specs.declared.inspect.Inspected.TheVariants as inspected
use Rattle.nm_inspect.specs.Inspecting.{InspectData, SoftensInUse, AfterInspectLooks, IsInspection}
use Rattle.nm_reclaim.specs.declared.sweep.ReclaimMade.{ReclaimMade}
use Rattle.nm_reclaim.specs.Reclaims.{pages_visited, most_freed, word_in, is_shadow_in, PutsBack, DiscardsShadow, LeavesPage, VisitAfterShadow, VisitAfterHome, VisitAfterLock, Visits, IsReclaim}
use Rattle.nm_obtain.specs.declared.obtain.ObtainMade.{ObtainMade}
use Rattle.nm_obtain.specs.declared.obtain.Obtained.{Obtained}
use Rattle.nm_obtain.specs.declared.obtain.Obtained.TheVariants.{Got, AtFloor}
use Rattle.nm_obtain.specs.Obtains.{AfterSecondTry, TriesAgain, reclaim_for, AfterFirstTry, IsObtain}
use Rattle.nm_transfer.specs.declared.transfer.Source.TheVariants as sources
use Rattle.nm_transfer.specs.Transferring.{IsTransfer}
use Rattle.nm_demote.specs.declared.select.DemoteMade.{DemoteMade}
use Rattle.nm_demote.specs.declared.select.Early.{Early}
use Rattle.nm_demote.specs.declared.select.Early.TheVariants as early
use Rattle.nm_demote.specs.declared.select.Selected.{Selected}
use Rattle.nm_demote.specs.declared.select.Selected.TheVariants as selected
use Rattle.nm_demote.specs.declared.demote.DemoteEnd.TheVariants as demoted
use Rattle.nm_demote.specs.Selecting.{UnlocksEarly, AfterObtain, obtain_for, SeeksFrame, AfterLooksToDemote, LooksToDemote, ReadsShadowToDemote, has_slower, AfterHomeToDemote, ReadsHomeToDemote, AfterLockToDemote, IsSelecting}
use Rattle.nm_demote.specs.Demotions.{demoted_end, GivesBackDemoted, UnlocksDemoted, demote_transfer, demote_early_end, AfterSelecting, IsDemotion}
use Rattle.nm_ended.specs.Asking.{tells_end, AsksFrom, IsAsking}
use Rattle.nm_choice.specs.Deterministic.{AreRepliesApart, IsDeterministicPart}
use Rattle.nm_choice.proofs.Patterns.{one-ends, one-follows, one-either, one-each}
use Rattle.nm_choice.proofs.Acts.{one-then}
use Rattle.nm_part_choice.proofs.Leaves.{pool-one, visits-one, looks-one, softens-one, transfer-one}

-- ---- reclaims

-- what comes after a page in a sweep leaves no choice
abbrev RestOne : (ℕ → Own → ℕ → Type 0) → Type 0
RestOne after = (freed : ℕ) → IsDeterministicPart (after freed)

leaves-one : (g : Geometry) (page freed : ℕ) (after : ℕ → Own → ℕ → Type 0) → RestOne after → IsDeterministicPart (LeavesPage g page freed after)
leaves-one g page freed after rest = one-then (Unlock page) g (λ unlocked. after freed) (λ unlocked. rest freed)

discard-one : (g : Geometry) (page master shadow freed : ℕ) (after : ℕ → Own → ℕ → Type 0) → RestOne after → IsDeterministicPart (DiscardsShadow g page master shadow freed after)
discard-one g page master shadow freed after rest =
    one-then (SetShadow page master None) g (λ set. Follows (IsAct (Unlock page) g) (λ unlocked. PutsBack g shadow freed after)) (λ set.
    one-then (Unlock page) g (λ unlocked. PutsBack g shadow freed after) (λ unlocked.
    one-follows AreRepliesApart (IsPool g (Back shadow)) (λ end. after (freed + 1)) (pool-one g (Back shadow)) (λ end. rest (freed + 1))))

visit-home-one : (g : Geometry) (made : ReclaimMade) (page word freed : ℕ) (after : ℕ → Own → ℕ → Type 0) → RestOne after → IsDeterministicPart (VisitAfterHome g made page word freed after)
visit-home-one g made page word freed after rest =
    one-either AreRepliesApart (word == 0) (LeavesPage g page freed after) (Follows (IsAct (Read page (cells.Shadow (word - 1))) g) (λ reply. VisitAfterShadow g made page (word - 1) (word_in reply) freed after))
    (leaves-one g page freed after rest)
    (one-then (Read page (cells.Shadow (word - 1))) g (λ reply. VisitAfterShadow g made page (word - 1) (word_in reply) freed after) (λ reply.
    one-either AreRepliesApart (is_shadow_in g made.tier (word_in reply)) (DiscardsShadow g page (word - 1) (shadow_frame (word_in reply)) freed after) (LeavesPage g page freed after)
    (discard-one g page (word - 1) (shadow_frame (word_in reply)) freed after rest) (leaves-one g page freed after rest)))

visit-lock-one : (g : Geometry) (made : ReclaimMade) (page : ℕ) (reply : Reply) (freed : ℕ) (after : ℕ → Own → ℕ → Type 0) → RestOne after → IsDeterministicPart (VisitAfterLock g made page reply freed after)
visit-lock-one g made page Done freed after rest =
    one-then (Read page (cells.Home page)) g (λ reply. VisitAfterHome g made page (word_in reply) freed after) (λ reply. visit-home-one g made page (word_in reply) freed after rest)
visit-lock-one g made page (Word n) freed after rest = rest freed
visit-lock-one g made page (Busy n) freed after rest = rest freed
visit-lock-one g made page (Lost n) freed after rest = rest freed

pub reclaim-one : (g : Geometry) (made : ReclaimMade) → IsDeterministicPart (IsReclaim g made)
reclaim-one g made =
    one-each AreRepliesApart (Visits g made) (pages_visited g made) (λ all. Ends all)
    (λ page freed next rest. one-either AreRepliesApart (nat_lt freed (most_freed made)) (Follows (IsAct (Lock page) g) (λ reply. VisitAfterLock g made page reply freed next)) (next freed)
    (one-then (Lock page) g (λ reply. VisitAfterLock g made page reply freed next) (λ reply. visit-lock-one g made page reply freed next rest)) (rest freed))
    (λ all. one-ends AreRepliesApart all) 0

-- ---- frames that are sought

second-one : (end : PoolEnd) → IsDeterministicPart (AfterSecondTry end)
second-one (pools.Got frame) = one-ends AreRepliesApart (Got frame)
second-one (pools.AtFloor n) = one-ends AreRepliesApart (AtFloor n)
second-one (pools.Level n) = λ own other outcome end h k. absurd h
second-one pools.Back = λ own other outcome end h k. absurd h

first-one : (g : Geometry) (made : ObtainMade) (end : PoolEnd) → IsDeterministicPart (AfterFirstTry g made end)
first-one g made (pools.Got frame) = one-ends AreRepliesApart (Got frame)
first-one g made (pools.AtFloor n) =
    one-follows AreRepliesApart (IsReclaim g (reclaim_for made)) (λ freed. TriesAgain g made) (reclaim-one g (reclaim_for made))
    (λ freed. one-follows AreRepliesApart (IsPool g (Take made.tier 0)) AfterSecondTry (pool-one g (Take made.tier 0)) (second-one))
first-one g made (pools.Level n) = λ own other outcome end h k. absurd h
first-one g made pools.Back = λ own other outcome end h k. absurd h

pub obtain-one : (made : ObtainMade) (g : Geometry) → IsDeterministicPart (IsObtain made g)
obtain-one made g = one-follows AreRepliesApart (IsPool g (Take made.tier 0)) (AfterFirstTry g made) (pool-one g (Take made.tier 0)) (first-one g made)

-- ---- demotions

unlocks-one : (g : Geometry) (made : DemoteMade) (why : Early) → IsDeterministicPart (UnlocksEarly g made why)
unlocks-one g made why = one-then (Unlock made.page) g (λ unlocked. Ends (selected.Closed why)) (λ unlocked. one-ends AreRepliesApart (selected.Closed why))

obtained-one : (g : Geometry) (made : DemoteMade) (home : ℕ) (pages : List ℕ) (end : Obtained) → IsDeterministicPart (AfterObtain g made home pages end)
obtained-one g made home pages (Got frame) = one-ends AreRepliesApart (selected.Ready home frame sources.Copy pages)
obtained-one g made home pages (AtFloor n) = unlocks-one g made (early.NoFrame n)

selects-one : (g : Geometry) (made : DemoteMade) (home shadow : ℕ) (pages : List ℕ) → IsDeterministicPart (AfterLooksToDemote g made home shadow pages)
selects-one g made home shadow [] = unlocks-one g made early.Gone
selects-one g made home shadow (v ∷ vs) =
    one-either AreRepliesApart (shadow == 0) (SeeksFrame g made home (v ∷ vs)) (Ends (selected.Ready home (shadow_frame shadow) sources.Shadow (v ∷ vs)))
    (one-follows AreRepliesApart (IsObtain (obtain_for g made home) g) (AfterObtain g made home (v ∷ vs)) (obtain-one (obtain_for g made home) g) (obtained-one g made home (v ∷ vs)))
    (one-ends AreRepliesApart (selected.Ready home (shadow_frame shadow) sources.Shadow (v ∷ vs)))

demote-home-one : (g : Geometry) (made : DemoteMade) (word : ℕ) → IsDeterministicPart (AfterHomeToDemote g made word)
demote-home-one g made word =
    one-either AreRepliesApart (has_slower g word) (ReadsShadowToDemote g made (word - 1)) (UnlocksEarly g made early.Gone)
    (one-then (Read made.page (cells.Shadow (word - 1))) g (λ reply. LooksToDemote g made (word - 1) (told reply)) (λ reply.
    one-follows AreRepliesApart (IsVisits (looks_made made.page (vpages_of g made.page)) g) (AfterLooksToDemote g made (word - 1) (told reply)) (visits-one (looks_made made.page (vpages_of g made.page)) g) (selects-one g made (word - 1) (told reply))))
    (unlocks-one g made early.Gone)

demote-lock-one : (g : Geometry) (made : DemoteMade) (reply : Reply) → IsDeterministicPart (AfterLockToDemote g made reply)
demote-lock-one g made Done =
    one-either AreRepliesApart (is_worn made.spent) (UnlocksEarly g made early.Worn) (ReadsHomeToDemote g made) (unlocks-one g made early.Worn)
    (one-then (Read made.page (cells.Home made.page)) g (λ reply. AfterHomeToDemote g made (told reply)) (λ reply. demote-home-one g made (told reply)))
demote-lock-one g made (Word n) = one-ends AreRepliesApart selected.Busy
demote-lock-one g made (Busy n) = one-ends AreRepliesApart selected.Busy
demote-lock-one g made (Lost n) = one-ends AreRepliesApart selected.Busy

demoted-one : (g : Geometry) (made : DemoteMade) (end : Selected) → IsDeterministicPart (AfterSelecting g made end)
demoted-one g made selected.Busy = one-ends AreRepliesApart demoted.Busy
demoted-one g made (selected.Closed why) = one-ends AreRepliesApart (demote_early_end why)
demoted-one g made (selected.Ready home frame source pages) =
    one-follows AreRepliesApart (IsTransfer (demote_transfer g made home frame source pages) g) (λ taken. UnlocksDemoted g made home source) (transfer-one (demote_transfer g made home frame source pages) g) (λ taken.
    one-then (Unlock made.page) g (λ unlocked. GivesBackDemoted g home source) (λ unlocked.
    one-follows AreRepliesApart (IsPool g (Back home)) (λ back. Ends (demoted_end source)) (pool-one g (Back home)) (λ back. one-ends AreRepliesApart (demoted_end source))))

pub demotion-one : (made : DemoteMade) (g : Geometry) → IsDeterministicPart (IsDemotion made g)
demotion-one made g =
    one-follows AreRepliesApart (IsSelecting made g) (AfterSelecting g made) (one-then (Lock made.page) g (AfterLockToDemote g made) (demote-lock-one g made)) (demoted-one g made)

-- ---- inspections

in-use-one : (g : Geometry) (seen : Seen) → IsDeterministicPart (SoftensInUse g seen)
in-use-one g seen = one-follows AreRepliesApart (IsSoftens seen.mapped g) (λ softened. Ends inspected.InUse) (softens-one seen.mapped g) (λ softened. one-ends AreRepliesApart inspected.InUse)

pub inspection-one : (made : InspectData) (g : Geometry) → IsDeterministicPart (IsInspection made g)
inspection-one made g =
    one-follows AreRepliesApart (IsLooks (page_looks made.0 made.1.page made.1.tier) g) (AfterInspectLooks g) (looks-one (page_looks made.0 made.1.page made.1.tier) g) (λ seen.
    one-either AreRepliesApart seen.inside (Either seen.accessed (SoftensInUse g seen) (Ends inspected.Idle)) (Ends inspected.Elsewhere)
    (one-either AreRepliesApart seen.accessed (SoftensInUse g seen) (Ends inspected.Idle) (in-use-one g seen) (one-ends AreRepliesApart inspected.Idle))
    (one-ends AreRepliesApart inspected.Elsewhere))

-- ---- the question whether all have ended

asks-from : (g : Geometry) (cpu more : ℕ) → IsDeterministicPart (AsksFrom g cpu more)
asks-from g cpu zero = one-ends AreRepliesApart true
asks-from g cpu (suc more) =
    one-then (SeeAck cpu) g (λ reply. Either (tells_end reply) (AsksFrom g (cpu + 1) more) (Ends false)) (λ reply.
    one-either AreRepliesApart (tells_end reply) (AsksFrom g (cpu + 1) more) (Ends false) (asks-from g (cpu + 1) more) (one-ends AreRepliesApart false))

pub asking-one : (cpus : ℕ) (g : Geometry) → IsDeterministicPart (IsAsking cpus g)
asking-one cpus g = asks-from g 0 cpus

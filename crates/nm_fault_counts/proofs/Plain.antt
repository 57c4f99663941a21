-- Parts of faults that set no home and map nothing.
use Rattle.std.proofs.Common.{ℕ, zero, suc, ◌+◌, ◌-◌, ◌==◌, nat_lt, length, Option, List, [], ◌∷◌, ◌++◌, Some, None, sym, subst}
use Rattle.std.specs.List.{range_with_len}
use Rattle.nm_base.specs.Geometry.{Geometry}
use Rattle.nm_base.specs.ShadowWord.{shadow_frame}
use Rattle.nm_action.specs.declared.action.Action.{Action}
use Rattle.nm_action.specs.declared.action.Action.TheVariants.{Lock, Unlock, Read, SetShadow, TakeTurn, GiveFrame, ReleaseTurn, CopyStore}
use Rattle.nm_action.specs.declared.action.Cell.TheVariants as cells
use Rattle.nm_action.specs.declared.action.Reply.{Reply}
use Rattle.nm_action.specs.declared.action.Reply.TheVariants.{Done, Word, Busy, Lost}
use Rattle.nm_action.specs.Own.{Own}
use Rattle.nm_part.specs.Patterns.{Ends, Follows}
use Rattle.nm_compose.specs.Acts.{IsAct}
use Rattle.nm_pool.specs.Pool.{tier_for, refused, scanned, IsWork, IsPool}
use Rattle.nm_pool.specs.declared.job.PoolJob.{PoolJob}
use Rattle.nm_pool.specs.declared.job.PoolJob.TheVariants.{Take, Level, Back}
use Rattle.nm_pool.specs.declared.job.PoolEnd.{PoolEnd}
use Rattle.nm_pool.specs.declared.job.PoolEnd.TheVariants as ends
use Rattle.nm_copying.specs.declared.zeroes.ZeroesMade.{ZeroesMade}
use Rattle.nm_copying.specs.Zeroing.{ZeroOf, IsZeroing}
use Rattle.nm_reclaim.specs.declared.sweep.ReclaimMade.{ReclaimMade}
use Rattle.nm_reclaim.specs.Reclaims.{pages_visited, most_freed, word_in, is_shadow_in, PutsBack, DiscardsShadow, LeavesPage, VisitAfterShadow, VisitAfterHome, VisitAfterLock, Visits, IsReclaim}
use Rattle.nm_obtain.specs.declared.obtain.ObtainMade.{ObtainMade}
use Rattle.nm_obtain.specs.declared.obtain.Obtained.TheVariants.{Got, AtFloor}
use Rattle.nm_obtain.specs.Obtains.{AfterSecondTry, TriesAgain, reclaim_for, AfterFirstTry, IsObtain}
use Rattle.nm_missing_fault.specs.declared.search.SearchMade.{SearchMade}
use Rattle.nm_missing_fault.specs.Searching.{low_mark, frame_taken, frame_obtained, FoundOr, TakesLast, SeeksIn, SeeksFrom, Round, Rounds, IsSearch}
use Rattle.nm_marks.specs.Contents.{HasOnly, ListsOnly}
use Rattle.nm_marks.proofs.Contents.{only-both}
use Rattle.nm_marks.proofs.Patterns.{only-ends, only-follows, only-then, only-either, only-each, only-sometimes}
use Rattle.nm_fault_counts.proofs.Lists.{IsPlain}

-- ---- pool tasks

refused-plain : (tier : ℕ) (words : List ℕ) → HasOnly IsPlain (refused tier words)
refused-plain tier [] = tt
refused-plain tier (w ∷ words) = (tt, refused-plain tier words)

scanned-plain : (tier k : ℕ) (words : List ℕ) → HasOnly IsPlain (scanned tier k words)
scanned-plain tier k [] = tt
scanned-plain tier k (w ∷ words) = (tt, scanned-plain tier (k + 1) words)

work-plain : (g : Geometry) (job : PoolJob) (own : Own) (end : PoolEnd) → IsWork g job own end → HasOnly IsPlain own
work-plain g (Take tier floor) own (ends.Got frame) h =
    let M : Own → Type 0 = λ l. HasOnly IsPlain l in
    subst M (sym h.is) (only-both IsPlain (scanned tier 0 h.words) ((GiveFrame frame, Word h.old) ∷ []) (scanned-plain tier 0 h.words) (tt, tt))
work-plain g (Take tier floor) own (ends.AtFloor n) h =
    let M : Own → Type 0 = λ l. HasOnly IsPlain l in
    subst M (sym h.0.is) (scanned-plain tier 0 h.0.words)
work-plain g (Take tier floor) own (ends.Level n) h = absurd h
work-plain g (Take tier floor) own ends.Back h = absurd h
work-plain g (Level tier) own (ends.Got frame) h = absurd h
work-plain g (Level tier) own (ends.AtFloor n) h = absurd h
work-plain g (Level tier) own (ends.Level n) h =
    let M : Own → Type 0 = λ l. HasOnly IsPlain l in
    subst M (sym h.is) (scanned-plain tier 0 h.words)
work-plain g (Level tier) own ends.Back h = absurd h
work-plain g (Back frame) own (ends.Got f) h = absurd h
work-plain g (Back frame) own (ends.AtFloor n) h = absurd h
work-plain g (Back frame) own (ends.Level n) h = absurd h
work-plain g (Back frame) own ends.Back h =
    let M : Own → Type 0 = λ l. HasOnly IsPlain l in
    subst M (sym h.is) (tt, tt)

pub pool-plain : (g : Geometry) (job : PoolJob) → ListsOnly IsPlain (IsPool g job)
pool-plain g job own end h =
    let M : Own → Type 0 = λ l. HasOnly IsPlain l in
    let last : Own = (ReleaseTurn (tier_for g job), Done) ∷ [] in
    let begun : Own = (TakeTurn (tier_for g job), Done) ∷ h.inner in
    let so : HasOnly IsPlain (refused (tier_for g job) h.busy ++ begun) =
    only-both IsPlain (refused (tier_for g job) h.busy) begun (refused-plain (tier_for g job) h.busy) (tt, work-plain g job h.inner end h.work) in
    subst M (sym h.is) (only-both IsPlain (refused (tier_for g job) h.busy ++ begun) last so (tt, tt))

-- ---- words that are set to 0

pub zeroing-plain : (made : ZeroesMade) (g : Geometry) → ListsOnly IsPlain (IsZeroing made g)
zeroing-plain made g =
    only-each IsPlain (ZeroOf made g) (range_with_len 0 (made.words - 0)) (λ kept. Ends tt)
    (λ index kept next rest. only-then IsPlain (CopyStore None made.frame index 0) g (λ stored. next kept) tt (λ stored. rest kept))
    (λ kept. only-ends IsPlain tt) tt

-- ---- reclaims

-- what comes after a page in a sweep is plain
abbrev RestPlain : (ℕ → Own → ℕ → Type 0) → Type 0
RestPlain after = (freed : ℕ) → ListsOnly IsPlain (after freed)

leaves-plain : (g : Geometry) (page freed : ℕ) (after : ℕ → Own → ℕ → Type 0) → RestPlain after → ListsOnly IsPlain (LeavesPage g page freed after)
leaves-plain g page freed after rest = only-then IsPlain (Unlock page) g (λ unlocked. after freed) tt (λ unlocked. rest freed)

discard-plain : (g : Geometry) (page master shadow freed : ℕ) (after : ℕ → Own → ℕ → Type 0) → RestPlain after → ListsOnly IsPlain (DiscardsShadow g page master shadow freed after)
discard-plain g page master shadow freed after rest =
    let M : Action → Type 0 = IsPlain in
    only-then M (SetShadow page master None) g (λ set. Follows (IsAct (Unlock page) g) (λ unlocked. PutsBack g shadow freed after)) tt (λ set.
    only-then M (Unlock page) g (λ unlocked. PutsBack g shadow freed after) tt (λ unlocked.
    only-follows M (IsPool g (Back shadow)) (λ end. after (freed + 1)) (pool-plain g (Back shadow)) (λ end. rest (freed + 1))))

visit-home-plain : (g : Geometry) (made : ReclaimMade) (page word freed : ℕ) (after : ℕ → Own → ℕ → Type 0) → RestPlain after → ListsOnly IsPlain (VisitAfterHome g made page word freed after)
visit-home-plain g made page word freed after rest =
    let M : Action → Type 0 = IsPlain in
    only-either M (word == 0) (LeavesPage g page freed after) (Follows (IsAct (Read page (cells.Shadow (word - 1))) g) (λ reply. VisitAfterShadow g made page (word - 1) (word_in reply) freed after))
    (leaves-plain g page freed after rest)
    (only-then M (Read page (cells.Shadow (word - 1))) g (λ reply. VisitAfterShadow g made page (word - 1) (word_in reply) freed after) tt (λ reply.
    only-either M (is_shadow_in g made.tier (word_in reply)) (DiscardsShadow g page (word - 1) (shadow_frame (word_in reply)) freed after) (LeavesPage g page freed after)
    (discard-plain g page (word - 1) (shadow_frame (word_in reply)) freed after rest) (leaves-plain g page freed after rest)))

visit-lock-plain : (g : Geometry) (made : ReclaimMade) (page : ℕ) (reply : Reply) (freed : ℕ) (after : ℕ → Own → ℕ → Type 0) → RestPlain after → ListsOnly IsPlain (VisitAfterLock g made page reply freed after)
visit-lock-plain g made page Done freed after rest =
    only-then IsPlain (Read page (cells.Home page)) g (λ reply. VisitAfterHome g made page (word_in reply) freed after) tt (λ reply. visit-home-plain g made page (word_in reply) freed after rest)
visit-lock-plain g made page (Word n) freed after rest = rest freed
visit-lock-plain g made page (Busy n) freed after rest = rest freed
visit-lock-plain g made page (Lost n) freed after rest = rest freed

reclaim-plain : (g : Geometry) (made : ReclaimMade) → ListsOnly IsPlain (IsReclaim g made)
reclaim-plain g made =
    only-each IsPlain (Visits g made) (pages_visited g made) (λ all. Ends all)
    (λ page freed next rest. only-either IsPlain (nat_lt freed (most_freed made)) (Follows (IsAct (Lock page) g) (λ reply. VisitAfterLock g made page reply freed next)) (next freed)
    (only-then IsPlain (Lock page) g (λ reply. VisitAfterLock g made page reply freed next) tt (λ reply. visit-lock-plain g made page reply freed next rest)) (rest freed))
    (λ all. only-ends IsPlain all) 0

-- ---- frames that are sought

second-plain : (end : PoolEnd) → ListsOnly IsPlain (AfterSecondTry end)
second-plain (ends.Got frame) = only-ends IsPlain (Got frame)
second-plain (ends.AtFloor n) = only-ends IsPlain (AtFloor n)
second-plain (ends.Level n) = λ own outcome h. absurd h
second-plain ends.Back = λ own outcome h. absurd h

first-plain : (g : Geometry) (made : ObtainMade) (end : PoolEnd) → ListsOnly IsPlain (AfterFirstTry g made end)
first-plain g made (ends.Got frame) = only-ends IsPlain (Got frame)
first-plain g made (ends.AtFloor n) =
    only-follows IsPlain (IsReclaim g (reclaim_for made)) (λ freed. TriesAgain g made) (reclaim-plain g (reclaim_for made))
    (λ freed. only-follows IsPlain (IsPool g (Take made.tier 0)) AfterSecondTry (pool-plain g (Take made.tier 0)) (second-plain))
first-plain g made (ends.Level n) = λ own outcome h. absurd h
first-plain g made ends.Back = λ own outcome h. absurd h

obtain-plain : (made : ObtainMade) (g : Geometry) → ListsOnly IsPlain (IsObtain made g)
obtain-plain made g = only-follows IsPlain (IsPool g (Take made.tier 0)) (AfterFirstTry g made) (pool-plain g (Take made.tier 0)) (first-plain g made)

-- ---- the search for a frame

found-plain : (next : Own → ℕ → Type 0) (frame : Option ℕ) → ListsOnly IsPlain next → ListsOnly IsPlain (FoundOr next frame)
found-plain next (Some frame) rest = only-ends IsPlain frame
found-plain next None rest = rest

round-plain : (made : SearchMade) (g : Geometry) (again : Own → ℕ → Type 0) → ListsOnly IsPlain again → ListsOnly IsPlain (Round made g again)
round-plain made g again rest =
    let M : Action → Type 0 = IsPlain in
    let last : ListsOnly M (TakesLast g again) = only-follows M (IsPool g (Take 0 0)) (λ end. FoundOr again (frame_taken end)) (pool-plain g (Take 0 0)) (λ end. found-plain again (frame_taken end) rest) in
    let seeks : ListsOnly M (SeeksFrom made g 1 again) =
    only-each M (SeeksIn made g) (range_with_len 1 (length g.tiers - 1)) (λ kept. TakesLast g again)
    (λ tier kept next then. only-follows M (IsObtain (record { page = made.page; tier = tier }) g) (λ end. FoundOr (next kept) (frame_obtained end)) (obtain-plain (record { page = made.page; tier = tier }) g) (λ end. found-plain (next kept) (frame_obtained end) (then kept)))
    (λ kept. last) tt in
    only-follows M (IsPool g (Take 0 (low_mark g))) (λ end. FoundOr (SeeksFrom made g 1 again) (frame_taken end)) (pool-plain g (Take 0 (low_mark g))) (λ end. found-plain (SeeksFrom made g 1 again) (frame_taken end) seeks)

rounds-plain : (made : SearchMade) (g : Geometry) (n : ℕ) → ListsOnly IsPlain (Rounds made g n)
rounds-plain made g zero = λ own frame h. absurd h
rounds-plain made g (suc n) = round-plain made g (Rounds made g n) (rounds-plain made g n)

pub search-plain : (made : SearchMade) (g : Geometry) → ListsOnly IsPlain (IsSearch made g)
search-plain made g = only-sometimes IsPlain (Rounds made g) (rounds-plain made g)

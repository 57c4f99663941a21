-- Parts that make no Mark at all.
use Rattle.std.proofs.Common.{ℕ, ◌+◌, ◌-◌, List, [], ◌∷◌, ◌++◌, Some, None, sym, subst}
use Rattle.std.specs.List.{range_with_len}
use Rattle.nm_base.specs.Geometry.{Geometry}
use Rattle.nm_action.specs.declared.action.AckTo.{AckTo}
use Rattle.nm_action.specs.declared.action.Action.TheVariants.{TakeTurn, GiveFrame, ReleaseTurn, CopyLoad, CopyStore, Unmap, Raise, Map, SetHome, SetShadow, Lock}
use Rattle.nm_action.specs.declared.action.Reply.TheVariants.{Done, Word}
use Rattle.nm_action.specs.Own.{Own}
use Rattle.nm_part.specs.Patterns.{Ends, Follows}
use Rattle.nm_compose.specs.Acts.{IsAct}
use Rattle.nm_shoot.specs.Shootdown.{asked, asked_from, IsShootdown}
use Rattle.nm_pool.specs.Pool.{tier_for, refused, scanned, IsWork, IsPool}
use Rattle.nm_pool.specs.declared.job.PoolJob.{PoolJob}
use Rattle.nm_pool.specs.declared.job.PoolJob.TheVariants.{Take, Level, Back}
use Rattle.nm_pool.specs.declared.job.PoolEnd.{PoolEnd}
use Rattle.nm_pool.specs.declared.job.PoolEnd.TheVariants as ends
use Rattle.nm_copying.specs.declared.copies.CopiesMade.{CopiesMade}
use Rattle.nm_copying.specs.declared.zeroes.ZeroesMade.{ZeroesMade}
use Rattle.nm_copying.specs.Copying.{told, CopyOf, IsCopying}
use Rattle.nm_copying.specs.Zeroing.{ZeroOf, IsZeroing}
use Rattle.nm_commit.specs.declared.unmap.UnmapMade.{UnmapMade}
use Rattle.nm_commit.specs.Unmapping.{RaisesOne, UnmapsOne}
use Rattle.nm_mappings.specs.declared.visits.Visit.{Visit}
use Rattle.nm_mappings.specs.declared.visits.Visit.TheVariants as visits
use Rattle.nm_mappings.specs.declared.visits.VisitsMade.{VisitsMade}
use Rattle.nm_mappings.specs.Visits.{visit_action, found_after, VisitAt, IsVisits, raises_made}
use Rattle.nm_looks.specs.Seeing.{LooksData, look_at, nothing_seen, seen_after, LookAt, IsLooks}
use Rattle.nm_looks.specs.Softening.{soften_at, SoftenAt, IsSoftens}
use Rattle.nm_shadow_fault.specs.Locking.{lock_refused, LocksPage}
use Rattle.nm_transfer.specs.declared.transfer.Source.{Source}
use Rattle.nm_transfer.specs.declared.transfer.Source.TheVariants as sources
use Rattle.nm_transfer.specs.declared.transfer.TransferMade.{TransferMade}
use Rattle.nm_transfer.specs.Words.{mapped_word}
use Rattle.nm_transfer.specs.Transferring.{MapAt, MapsOf, HomesPage, FillsFrom, Fills, Flushes, Raises, UnmapAt, taken_after, IsTransfer}
use Rattle.nm_marks.specs.Contents.{HasOnly, ListsOnly}
use Rattle.nm_marks.proofs.Contents.{only-both}
use Rattle.nm_marks.proofs.Patterns.{only-ends, only-follows, only-then, only-each}
use Rattle.nm_part_marks.specs.Actions.{IsActionOf}

-- ---- shootdowns

asked-actions : (may : ℕ → ℕ → Type 0) (ack : AckTo → Type 0) (p : ℕ) (words : List ℕ) → HasOnly (IsActionOf may ack) (asked p words)
asked-actions may ack p [] = tt
asked-actions may ack p (w ∷ words) = (tt, asked-actions may ack p words)

from-actions : (may : ℕ → ℕ → Type 0) (ack : AckTo → Type 0) (p : ℕ) (each : List (List ℕ)) → HasOnly (IsActionOf may ack) (asked_from p each)
from-actions may ack p [] = tt
from-actions may ack p (words ∷ each) = only-both (IsActionOf may ack) (asked p words) (asked_from (p + 1) each) (asked-actions may ack p words) (from-actions may ack (p + 1) each)

pub shootdown-actions : (may : ℕ → ℕ → Type 0) (ack : AckTo → Type 0) (cpus : ℕ) → ListsOnly (IsActionOf may ack) (IsShootdown cpus)
shootdown-actions may ack cpus own number h =
    let M : Own → Type 0 = λ l. HasOnly (IsActionOf may ack) l in
    subst M (sym h.is) (tt, from-actions may ack 0 h.words)

-- ---- pool tasks

refused-actions : (may : ℕ → ℕ → Type 0) (ack : AckTo → Type 0) (tier : ℕ) (words : List ℕ) → HasOnly (IsActionOf may ack) (refused tier words)
refused-actions may ack tier [] = tt
refused-actions may ack tier (w ∷ words) = (tt, refused-actions may ack tier words)

scanned-actions : (may : ℕ → ℕ → Type 0) (ack : AckTo → Type 0) (tier k : ℕ) (words : List ℕ) → HasOnly (IsActionOf may ack) (scanned tier k words)
scanned-actions may ack tier k [] = tt
scanned-actions may ack tier k (w ∷ words) = (tt, scanned-actions may ack tier (k + 1) words)

work-actions : (may : ℕ → ℕ → Type 0) (ack : AckTo → Type 0) (g : Geometry) (job : PoolJob) (own : Own) (end : PoolEnd) → IsWork g job own end → HasOnly (IsActionOf may ack) own
work-actions may ack g (Take tier floor) own (ends.Got frame) h =
    let M : Own → Type 0 = λ l. HasOnly (IsActionOf may ack) l in
    subst M (sym h.is) (only-both (IsActionOf may ack) (scanned tier 0 h.words) ((GiveFrame frame, Word h.old) ∷ []) (scanned-actions may ack tier 0 h.words) (tt, tt))
work-actions may ack g (Take tier floor) own (ends.AtFloor n) h =
    let M : Own → Type 0 = λ l. HasOnly (IsActionOf may ack) l in
    subst M (sym h.0.is) (scanned-actions may ack tier 0 h.0.words)
work-actions may ack g (Take tier floor) own (ends.Level n) h = absurd h
work-actions may ack g (Take tier floor) own ends.Back h = absurd h
work-actions may ack g (Level tier) own (ends.Got frame) h = absurd h
work-actions may ack g (Level tier) own (ends.AtFloor n) h = absurd h
work-actions may ack g (Level tier) own (ends.Level n) h =
    let M : Own → Type 0 = λ l. HasOnly (IsActionOf may ack) l in
    subst M (sym h.is) (scanned-actions may ack tier 0 h.words)
work-actions may ack g (Level tier) own ends.Back h = absurd h
work-actions may ack g (Back frame) own (ends.Got f) h = absurd h
work-actions may ack g (Back frame) own (ends.AtFloor n) h = absurd h
work-actions may ack g (Back frame) own (ends.Level n) h = absurd h
work-actions may ack g (Back frame) own ends.Back h =
    let M : Own → Type 0 = λ l. HasOnly (IsActionOf may ack) l in
    subst M (sym h.is) (tt, tt)

pub pool-actions : (may : ℕ → ℕ → Type 0) (ack : AckTo → Type 0) (g : Geometry) (job : PoolJob) → ListsOnly (IsActionOf may ack) (IsPool g job)
pool-actions may ack g job own end h =
    let M : Own → Type 0 = λ l. HasOnly (IsActionOf may ack) l in
    let last : Own = (ReleaseTurn (tier_for g job), Done) ∷ [] in
    let begun : Own = (TakeTurn (tier_for g job), Done) ∷ h.inner in
    let so : HasOnly (IsActionOf may ack) (refused (tier_for g job) h.busy ++ begun) =
    only-both (IsActionOf may ack) (refused (tier_for g job) h.busy) begun (refused-actions may ack (tier_for g job) h.busy) (tt, work-actions may ack g job h.inner end h.work) in
    subst M (sym h.is) (only-both (IsActionOf may ack) (refused (tier_for g job) h.busy ++ begun) last so (tt, tt))

-- ---- locks

lock-actions : (may : ℕ → ℕ → Type 0) (ack : AckTo → Type 0) (page : ℕ) (words : List ℕ) → HasOnly (IsActionOf may ack) (lock_refused page words)
lock-actions may ack page [] = tt
lock-actions may ack page (w ∷ words) = (tt, lock-actions may ack page words)

pub locks-actions : (may : ℕ → ℕ → Type 0) (ack : AckTo → Type 0) (page : ℕ) → ListsOnly (IsActionOf may ack) (LocksPage page)
locks-actions may ack page own locked h =
    let M : Own → Type 0 = λ l. HasOnly (IsActionOf may ack) l in
    subst M (sym h.is) (only-both (IsActionOf may ack) (lock_refused page h.busy) ((Lock page, Done) ∷ []) (lock-actions may ack page h.busy) (tt, tt))

-- ---- copies and zeroes

pub copying-actions : (may : ℕ → ℕ → Type 0) (ack : AckTo → Type 0) (made : CopiesMade) (g : Geometry) → ListsOnly (IsActionOf may ack) (IsCopying made g)
copying-actions may ack made g =
    only-each (IsActionOf may ack) (CopyOf made g) (range_with_len 0 (made.words - 0)) (λ kept. Ends tt)
    (λ index kept next rest. only-then (IsActionOf may ack) (CopyLoad made.page index) g (λ reply. Follows (IsAct (CopyStore (Some made.page) made.frame index (told reply)) g) (λ stored. next kept)) tt
    (λ reply. only-then (IsActionOf may ack) (CopyStore (Some made.page) made.frame index (told reply)) g (λ stored. next kept) tt (λ stored. rest kept)))
    (λ kept. only-ends (IsActionOf may ack) tt) tt

pub zeroing-actions : (may : ℕ → ℕ → Type 0) (ack : AckTo → Type 0) (made : ZeroesMade) (g : Geometry) → ListsOnly (IsActionOf may ack) (IsZeroing made g)
zeroing-actions may ack made g =
    only-each (IsActionOf may ack) (ZeroOf made g) (range_with_len 0 (made.words - 0)) (λ kept. Ends tt)
    (λ index kept next rest. only-then (IsActionOf may ack) (CopyStore None made.frame index 0) g (λ stored. next kept) tt (λ stored. rest kept))
    (λ kept. only-ends (IsActionOf may ack) tt) tt

-- ---- table words

pub unmaps-actions : (may : ℕ → ℕ → Type 0) (ack : AckTo → Type 0) (made : UnmapMade) (g : Geometry) → ListsOnly (IsActionOf may ack) (UnmapsOne made g)
unmaps-actions may ack made g =
    only-then (IsActionOf may ack) (Unmap made.vpage) g (λ reply. RaisesOne made g (told reply)) tt
    (λ reply. only-then (IsActionOf may ack) (Raise made.vpage) g (λ raised. Ends (told reply)) tt (λ raised. only-ends (IsActionOf may ack) (told reply)))

visit-action-is : (may : ℕ → ℕ → Type 0) (ack : AckTo → Type 0) (visit : Visit) (v : ℕ) → IsActionOf may ack (visit_action visit v)
visit-action-is may ack visits.Look v = tt
visit-action-is may ack visits.Arm v = tt
visit-action-is may ack visits.Raise v = tt

pub visits-actions : (may : ℕ → ℕ → Type 0) (ack : AckTo → Type 0) (made : VisitsMade) (g : Geometry) → ListsOnly (IsActionOf may ack) (IsVisits made g)
visits-actions may ack made g =
    only-each (IsActionOf may ack) (VisitAt g made.visit) made.pages (λ all. Ends all)
    (λ v found next rest. only-then (IsActionOf may ack) (visit_action made.visit v) g (λ reply. next (found_after v reply found)) (visit-action-is may ack made.visit v) (λ reply. rest (found_after v reply found)))
    (λ all. only-ends (IsActionOf may ack) all) []

pub looks-actions : (may : ℕ → ℕ → Type 0) (ack : AckTo → Type 0) (made : LooksData) (g : Geometry) → ListsOnly (IsActionOf may ack) (IsLooks made g)
looks-actions may ack made g =
    only-each (IsActionOf may ack) (LookAt made g) made.1.pages (λ all. Ends all)
    (λ v seen next rest. only-then (IsActionOf may ack) (look_at v) g (λ reply. next (seen_after made.0 made.1.tier v reply seen)) tt (λ reply. rest (seen_after made.0 made.1.tier v reply seen)))
    (λ all. only-ends (IsActionOf may ack) all) nothing_seen

pub softens-actions : (may : ℕ → ℕ → Type 0) (ack : AckTo → Type 0) (pages : List ℕ) (g : Geometry) → ListsOnly (IsActionOf may ack) (IsSoftens pages g)
softens-actions may ack pages g =
    only-each (IsActionOf may ack) (SoftenAt g) pages (λ kept. Ends tt)
    (λ v kept next rest. only-then (IsActionOf may ack) (soften_at v) g (λ reply. next kept) tt (λ reply. rest kept))
    (λ kept. only-ends (IsActionOf may ack) tt) tt

-- ---- transfers

maps-actions : (may : ℕ → ℕ → Type 0) (ack : AckTo → Type 0) (g : Geometry) (made : TransferMade) (rest taken : List (ℕ × ℕ)) → ListsOnly (IsActionOf may ack) (MapsOf g made rest taken)
maps-actions may ack g made all taken =
    only-each (IsActionOf may ack) (MapAt g made) all (λ kept. Ends taken)
    (λ p kept next rest. only-then (IsActionOf may ack) (Map p.0 (mapped_word made.rights made.frame made.hint p.1)) g (λ reply. next kept) tt (λ reply. rest kept))
    (λ kept. only-ends (IsActionOf may ack) taken) tt

homes-actions : (may : ℕ → ℕ → Type 0) (ack : AckTo → Type 0) (g : Geometry) (made : TransferMade) (taken : List (ℕ × ℕ)) → ListsOnly (IsActionOf may ack) (HomesPage g made taken)
homes-actions may ack g made taken = only-then (IsActionOf may ack) (SetHome made.page made.frame) g (λ reply. MapsOf g made taken taken) tt (λ reply. maps-actions may ack g made taken taken)

fills-actions : (may : ℕ → ℕ → Type 0) (ack : AckTo → Type 0) (source : Source) (g : Geometry) (made : TransferMade) (taken : List (ℕ × ℕ)) → ListsOnly (IsActionOf may ack) (FillsFrom source g made taken)
fills-actions may ack sources.Copy g made taken = only-follows (IsActionOf may ack) (IsCopying made.copies.made g) (λ copied. HomesPage g made taken) (copying-actions may ack made.copies.made g) (λ copied. homes-actions may ack g made taken)
fills-actions may ack sources.Shadow g made taken = only-then (IsActionOf may ack) (SetShadow made.page made.home None) g (λ reply. HomesPage g made taken) tt (λ reply. homes-actions may ack g made taken)

raises-actions : (may : ℕ → ℕ → Type 0) (ack : AckTo → Type 0) (g : Geometry) (made : TransferMade) (taken : List (ℕ × ℕ)) → ListsOnly (IsActionOf may ack) (Raises g made taken)
raises-actions may ack g made taken =
    only-follows (IsActionOf may ack) (IsVisits (raises_made made.page made.pages) g) (λ found. Flushes g made taken) (visits-actions may ack (raises_made made.page made.pages) g)
    (λ found. only-follows (IsActionOf may ack) (IsShootdown made.cpus) (λ number. Fills g made taken) (shootdown-actions may ack made.cpus) (λ number. fills-actions may ack made.source g made taken))

pub transfer-actions : (may : ℕ → ℕ → Type 0) (ack : AckTo → Type 0) (made : TransferMade) (g : Geometry) → ListsOnly (IsActionOf may ack) (IsTransfer made g)
transfer-actions may ack made g =
    only-each (IsActionOf may ack) (UnmapAt g) made.pages (Raises g made)
    (λ v taken next rest. only-then (IsActionOf may ack) (Unmap v) g (λ reply. next (taken_after v reply taken)) tt (λ reply. rest (taken_after v reply taken)))
    (raises-actions may ack g made) []

-- Each pattern of the steps up to the first flush has a list.
use Rattle.std.proofs.Common.{ℕ, suc, ◌+◌, ◌-◌, ◌<◌, ◌≤◌, ◌==◌, nat_lt, if◌then◌else◌, Bool, true, false, List, [], ◌∷◌, length, None, refl, arith}
use Rattle.nm_base.specs.Geometry.{Geometry, IsGeometry, tier_among, tier_of}
use Rattle.nm_base.specs.ShadowWord.{shadow_frame}
use Rattle.nm_action.specs.declared.action.Action.TheVariants.{Lock, Unlock, Mark, Read, SetShadow, ClearDirty, Raise, Arm, TakeTurn, PutFrame, ReleaseTurn}
use Rattle.nm_action.specs.declared.action.Cell.TheVariants as cells
use Rattle.nm_action.specs.declared.action.Reply.{Reply}
use Rattle.nm_action.specs.declared.action.Reply.TheVariants.{Done, Word}
use Rattle.nm_action.specs.Own.{Own}
use Rattle.nm_part.specs.Patterns.{Ends, Follows, CanEnd}
use Rattle.nm_part.proofs.Patterns.{can-ends, can-follow, can-either}
use Rattle.nm_compose.specs.Acts.{IsAct}
use Rattle.nm_compose.proofs.Acting.{some-act}
use Rattle.nm_pool.specs.Pool.{IsPool}
use Rattle.nm_pool.specs.declared.job.PoolJob.TheVariants.{Take, Back}
use Rattle.nm_pool.specs.declared.job.PoolEnd.{PoolEnd}
use Rattle.nm_pool.specs.declared.job.PoolEnd.TheVariants as pools
use Rattle.nm_pool.proofs.Begun.{some-pool}
use Rattle.nm_vpages.specs.VPages.{vpages_of}
use Rattle.nm_mappings.specs.Visits.{IsVisits, looks_made, arms_made}
use Rattle.nm_mappings.specs.declared.visits.VisitsMade.{VisitsMade}
use Rattle.nm_mappings.proofs.Visiting.{some-visits}
use Rattle.nm_copying.specs.Copying.{told}
use Rattle.nm_prepare.specs.declared.prepare.PrepareMade.{PrepareMade}
use Rattle.nm_prepare.specs.declared.prepare.Early.{Early}
use Rattle.nm_prepare.specs.declared.prepare.Early.TheVariants.{NoFrame, Gone, Worn}
use Rattle.nm_prepare.specs.declared.prepare.Prepared.TheVariants.{Busy, Closed, Ready}
use Rattle.nm_prepare.specs.Worn.{is_worn}
use Rattle.nm_prepare.specs.Preparing.{is_slow_home, is_only, is_in_last, tier_above, floor_above, Closes, Clears, Discards, AfterTake, Takes, ReadsShadow, AfterLooks, Looks, AfterHome, ReadsHome, AfterLock, IsPrepare}

-- The tasks.

-- there is a list of each frame that is put back
pub some-back : (g : Geometry) (frame : ℕ) → CanEnd (IsPool g (Back frame))
some-back g frame = record {
  rest = (TakeTurn (tier_of g frame), Done) ∷ (PutFrame frame, Word 0) ∷ (ReleaseTurn (tier_of g frame), Done) ∷ [];
  outcome = pools.Back;
  shown = record { busy = []; inner = (PutFrame frame, Word 0) ∷ []; work = record { old = 0; is = refl }; is = refl };
}

tier-go : (t : Bool) (a n : ℕ) → a ≤ n → (if t then 0 else a + 1) ≤ suc n
tier-go true a n h = omega arith
tier-go false a n h = omega arith

tier-most : (ns : List ℕ) (f : ℕ) → tier_among ns f ≤ length ns
tier-most [] f = omega arith
tier-most (n ∷ ns) f = tier-go (nat_lt f n) (tier_among ns (f - n)) (length ns) (tier-most ns (f - n))

above-exists : (g : Geometry) (home : ℕ) → IsGeometry g → tier_above g home < length g.tiers
above-exists g home h = let two = h.ranges.1.0 in let most = tier-most g.tiers home in omega arith

pub some-take : (g : Geometry) (home floor : ℕ) → IsGeometry g → CanEnd (IsPool g (Take (tier_above g home) floor))
some-take g home floor h =
    let p = some-pool g (Take (tier_above g home) floor) (above-exists g home h) in
    record { rest = p.rest; outcome = p.outcome; shown = p.whole }

-- The patterns, last first.

pub can-unlock : (g : Geometry) (made : PrepareMade) (early : Early) → CanEnd (Follows (IsAct (Unlock made.page) g) (λ unlocked. Ends (Closed early)))
can-unlock g made early = can-follow (IsAct (Unlock made.page) g) (λ unlocked. Ends (Closed early)) (some-act (Unlock made.page) g) (can-ends (Closed early))

pub can-closes : (g : Geometry) (made : PrepareMade) (early : Early) → CanEnd (Closes g made early)
can-closes g made early = can-follow (IsAct (Mark made.page 2 0) g) (λ marked. Follows (IsAct (Unlock made.page) g) (λ unlocked. Ends (Closed early))) (some-act (Mark made.page 2 0) g) (can-unlock g made early)

pub can-raise : (g : Geometry) (made : PrepareMade) (home frame : ℕ) → CanEnd (Follows (IsAct (Raise made.vpage) g) (λ raised. Ends (Ready home frame)))
can-raise g made home frame = can-follow (IsAct (Raise made.vpage) g) (λ raised. Ends (Ready home frame)) (some-act (Raise made.vpage) g) (can-ends (Ready home frame))

pub can-clears : (g : Geometry) (made : PrepareMade) (home frame : ℕ) → CanEnd (Clears g made home frame)
can-clears g made home frame = can-follow (IsAct (ClearDirty made.vpage) g) (λ cleared. Follows (IsAct (Raise made.vpage) g) (λ raised. Ends (Ready home frame))) (some-act (ClearDirty made.vpage) g) (can-raise g made home frame)

pub can-back : (g : Geometry) (made : PrepareMade) (home shadow frame : ℕ) → CanEnd (Follows (IsPool g (Back (shadow_frame shadow))) (λ back. Clears g made home frame))
can-back g made home shadow frame = can-follow (IsPool g (Back (shadow_frame shadow))) (λ back. Clears g made home frame) (some-back g (shadow_frame shadow)) (can-clears g made home frame)

pub can-discards : (g : Geometry) (made : PrepareMade) (home shadow frame : ℕ) → CanEnd (Discards g made home shadow frame)
can-discards g made home shadow frame = can-either (shadow == 0) (Clears g made home frame)
    (Follows (IsAct (SetShadow made.page home None) g) (λ set. Follows (IsPool g (Back (shadow_frame shadow))) (λ back. Clears g made home frame)))
    (can-clears g made home frame)
    (can-follow (IsAct (SetShadow made.page home None) g) (λ set. Follows (IsPool g (Back (shadow_frame shadow))) (λ back. Clears g made home frame)) (some-act (SetShadow made.page home None) g) (can-back g made home shadow frame))

-- after each end that a taking of a frame has
pub can-after-take : (g : Geometry) (made : PrepareMade) (home shadow tier floor : ℕ) (own : Own) (end : PoolEnd) → IsPool g (Take tier floor) own end → CanEnd (AfterTake g made home shadow end)
can-after-take g made home shadow tier floor own (pools.Got frame) h = can-discards g made home shadow frame
can-after-take g made home shadow tier floor own (pools.AtFloor n) h = can-follow (IsAct (Arm made.vpage) g) (λ armed. Closes g made (NoFrame n)) (some-act (Arm made.vpage) g) (can-closes g made (NoFrame n))
can-after-take g made home shadow tier floor own (pools.Level n) h = absurd h.work
can-after-take g made home shadow tier floor own pools.Back h = absurd h.work

pub can-takes : (g : Geometry) (made : PrepareMade) (home shadow : ℕ) → IsGeometry g → CanEnd (Takes g made home shadow)
can-takes g made home shadow h =
    let some = some-take g home (floor_above g home) h in
    can-follow (IsPool g (Take (tier_above g home) (floor_above g home))) (AfterTake g made home shadow) some
    (can-after-take g made home shadow (tier_above g home) (floor_above g home) some.rest some.outcome some.shown)

pub can-reads-shadow : (g : Geometry) (made : PrepareMade) (home : ℕ) → IsGeometry g → CanEnd (ReadsShadow g made home)
can-reads-shadow g made home h = can-either (is_in_last g home) (Takes g made home 0) (Follows (IsAct (Read made.page (cells.Shadow home)) g) (λ reply. Takes g made home (told reply)))
    (can-takes g made home 0 h)
    (can-follow (IsAct (Read made.page (cells.Shadow home)) g) (λ reply. Takes g made home (told reply)) (some-act (Read made.page (cells.Shadow home)) g) (can-takes g made home (told (some-act (Read made.page (cells.Shadow home)) g).outcome) h))

pub can-arms : (g : Geometry) (made : PrepareMade) (found : List ℕ) → CanEnd (Follows (IsVisits (arms_made made.page found) g) (λ armed. Closes g made Gone))
can-arms g made found = can-follow (IsVisits (arms_made made.page found) g) (λ armed. Closes g made Gone) (some-visits (arms_made made.page found) g) (can-closes g made Gone)

pub can-after-looks : (g : Geometry) (made : PrepareMade) (home : ℕ) (found : List ℕ) → IsGeometry g → CanEnd (AfterLooks g made home found)
can-after-looks g made home found h = can-either (is_only made.vpage found) (ReadsShadow g made home) (Follows (IsVisits (arms_made made.page found) g) (λ armed. Closes g made Gone)) (can-reads-shadow g made home h) (can-arms g made found)

pub can-looks : (g : Geometry) (made : PrepareMade) (home : ℕ) → IsGeometry g → CanEnd (Looks g made home)
can-looks g made home h =
    let made_of : VisitsMade = looks_made made.page (vpages_of g made.page) in
    can-follow (IsVisits made_of g) (AfterLooks g made home) (some-visits made_of g) (can-after-looks g made home (some-visits made_of g).outcome h)

pub can-after-home : (g : Geometry) (made : PrepareMade) (reply : Reply) → IsGeometry g → CanEnd (AfterHome g made reply)
can-after-home g made reply h = can-either (is_slow_home g (told reply)) (Looks g made (told reply - 1)) (Closes g made Gone) (can-looks g made (told reply - 1) h) (can-closes g made Gone)

pub can-reads-home : (g : Geometry) (made : PrepareMade) → IsGeometry g → CanEnd (ReadsHome g made)
can-reads-home g made h = can-follow (IsAct (Read made.page (cells.Home made.page)) g) (AfterHome g made) (some-act (Read made.page (cells.Home made.page)) g) (can-after-home g made (some-act (Read made.page (cells.Home made.page)) g).outcome h)

pub can-after-lock : (g : Geometry) (made : PrepareMade) (reply : Reply) → IsGeometry g → CanEnd (AfterLock g made reply)
can-after-lock g made Done h = can-either (is_worn made.spent) (Closes g made Worn) (ReadsHome g made) (can-closes g made Worn) (can-reads-home g made h)
can-after-lock g made _ h = can-ends Busy

-- the pattern has a list
pub some-prepare : (made : PrepareMade) (g : Geometry) → IsGeometry g → CanEnd (IsPrepare made g)
some-prepare made g h = can-follow (IsAct (Lock made.page) g) (AfterLock g made) (some-act (Lock made.page) g) (can-after-lock g made (some-act (Lock made.page) g).outcome h)

-- What is told of the pieces of the reclaimer's work.
use Rattle.std.proofs.Common.{◌≡◌, ℕ, Bool, refl}
use Rattle.nm_base.specs.Geometry.{Geometry}
use Rattle.nm_action.specs.declared.spent.Spent.{Spent}
use Rattle.nm_action.specs.declared.tally.Tally.{Tally}
use Rattle.nm_action.specs.Own.{Own}
use Rattle.nm_compose.specs.declared.or.Or.TheVariants.{This, Other}
use Rattle.nm_tally.specs.Counts.{zero_tally}
use Rattle.nm_ended.specs.Asking.{IsAsking}
use Rattle.nm_pool.specs.Pool.{IsPool}
use Rattle.nm_pool.specs.declared.job.PoolJob.TheVariants.{Level}
use Rattle.nm_pool.specs.declared.job.PoolEnd.{PoolEnd}
use Rattle.nm_pool.specs.declared.job.PoolEnd.TheVariants as pools
use Rattle.nm_inspect.specs.declared.inspect.Inspected.{Inspected}
use Rattle.nm_inspect.specs.Inspecting.{IsInspection}
use Rattle.nm_demote.specs.declared.select.DemoteMade.{DemoteMade}
use Rattle.nm_demote.specs.declared.demote.DemoteEnd.{DemoteEnd}
use Rattle.nm_demote.specs.declared.demote.DemoteOver.{DemoteOver}
use Rattle.nm_demote.specs.Demotions.{IsDemotion}
use Rattle.nm_drawing.specs.declared.drawing.Drawn.{Drawn}
use Rattle.nm_drawing.specs.Draws.{IsDrawingList}
use Rattle.nm_kswap.specs.Works.{ReclaimerWorkEnd, IsReclaimerWork, made_asking, made_level, made_inspect, made_demote}
use Rattle.nm_kswap.specs.Ends.{asked_in, level_in, inspected_in, demoted_in, spent_in, demotion_counts, reclaimer_counts}
use Rattle.nm_choice.specs.Deterministic.{AreRepliesApart, AgreeOnTold}
use Rattle.nm_note_choice.proofs.Works.{IsOfKind, kind-told, with_spent, with_counts, drawing-told}
use Rattle.nm_part_choice.proofs.Leaves.{pool-one}
use Rattle.nm_part_choice.proofs.Keeping.{demotion-one, inspection-one, asking-one}

-- ---- the question whether all have ended

asks_kind : (g : Geometry) (own : Own) (end : ReclaimerWorkEnd) → IsReclaimerWork (made_asking g) g own end → IsOfKind {Y = ReclaimerWorkEnd} This (IsAsking g.cpus g) own end
asks_kind g own (This all) h = record { part = all; is = refl; shown = h }
asks_kind g own (Other end) h = absurd h

abbrev told_all : Bool → Bool × Tally
told_all all = (all, zero_tally)

pub asks-told : (g : Geometry) → AgreeOnTold AreRepliesApart (with_counts asked_in reclaimer_counts) (IsReclaimerWork (made_asking g) g) (IsReclaimerWork (made_asking g) g)
asks-told g = kind-told (IsReclaimerWork (made_asking g) g) This (IsAsking g.cpus g) (λ (all : Bool). all) (with_counts asked_in reclaimer_counts) told_all (λ all. refl) (asks_kind g) (asking-one g.cpus g)

-- ---- the free frames of a tier

abbrev into_level : PoolEnd → ReclaimerWorkEnd
into_level end = Other (This end)

abbrev level_of : PoolEnd → ℕ
level_of (pools.Got frame) = 0
level_of (pools.AtFloor n) = 0
level_of (pools.Level n) = n
level_of pools.Back = 0

abbrev told_level : PoolEnd → ℕ × Tally
told_level end = (level_of end, zero_tally)

levels_kind : (g : Geometry) (tier : ℕ) (own : Own) (end : ReclaimerWorkEnd) → IsReclaimerWork (made_level g tier) g own end → IsOfKind into_level (IsPool g (Level tier)) own end
levels_kind g tier own (This all) h = absurd h
levels_kind g tier own (Other (This end)) h = record { part = end; is = refl; shown = h }
levels_kind g tier own (Other (Other end)) h = absurd h

level_is : (end : PoolEnd) → with_counts level_in reclaimer_counts (into_level end) ≡ told_level end
level_is (pools.Got frame) = refl
level_is (pools.AtFloor n) = refl
level_is (pools.Level n) = refl
level_is pools.Back = refl

pub levels-told : (g : Geometry) (tier : ℕ) → AgreeOnTold AreRepliesApart (with_counts level_in reclaimer_counts) (IsReclaimerWork (made_level g tier) g) (IsReclaimerWork (made_level g tier) g)
levels-told g tier = kind-told (IsReclaimerWork (made_level g tier) g) into_level (IsPool g (Level tier)) (λ (end : PoolEnd). end) (with_counts level_in reclaimer_counts) told_level level_is (levels_kind g tier) (pool-one g (Level tier))

-- ---- inspections

abbrev into_found : Inspected → ReclaimerWorkEnd
into_found end = Other (Other (This end))

abbrev told_found : Inspected → Inspected × Tally
told_found found = (found, zero_tally)

inspects_kind : (g : Geometry) (page tier : ℕ) (own : Own) (end : ReclaimerWorkEnd) → IsReclaimerWork (made_inspect g page tier) g own end → IsOfKind into_found (IsInspection (record { 0 = g; 1 = record { page = page; tier = tier } }) g) own end
inspects_kind g page tier own (This all) h = absurd h
inspects_kind g page tier own (Other (This end)) h = absurd h
inspects_kind g page tier own (Other (Other (This end))) h = record { part = end; is = refl; shown = h }
inspects_kind g page tier own (Other (Other (Other end))) h = absurd h

pub inspects-told : (g : Geometry) (page tier : ℕ) → AgreeOnTold AreRepliesApart (with_counts inspected_in reclaimer_counts) (IsReclaimerWork (made_inspect g page tier) g) (IsReclaimerWork (made_inspect g page tier) g)
inspects-told g page tier = kind-told (IsReclaimerWork (made_inspect g page tier) g) into_found (IsInspection (record { 0 = g; 1 = record { page = page; tier = tier } }) g) (λ (end : Inspected). end) (with_counts inspected_in reclaimer_counts) told_found (λ found. refl) (inspects_kind g page tier) (inspection-one (record { 0 = g; 1 = record { page = page; tier = tier } }) g)

-- ---- demotions

abbrev into_demoted : Drawn DemoteOver → ReclaimerWorkEnd
into_demoted end = Other (Other (Other end))

abbrev end_of : DemoteOver → DemoteEnd
end_of over = over.end

-- what a demotion tells: how it ended, and what was drawn then
abbrev pub demote_tells : ReclaimerWorkEnd → DemoteEnd × Spent
demote_tells end = (demoted_in end, spent_in end)

abbrev told_demoted : DemoteEnd × Spent → (DemoteEnd × Spent) × Tally
told_demoted told = (told, demotion_counts told.0)

abbrev demote_made : ℕ → Spent → DemoteMade
demote_made page spent = record { page = page; spent = spent }

demoted_over : (g : Geometry) (page : ℕ) (spent : Spent) → AgreeOnTold AreRepliesApart end_of (λ own over. IsDemotion (demote_made page spent) g own over.end) (λ own over. IsDemotion (demote_made page spent) g own over.end)
demoted_over g page spent own other one two h k = demotion-one (demote_made page spent) g own other one.end two.end h k

demotes_kind : (g : Geometry) (page : ℕ) (spent : Spent) (own : Own) (end : ReclaimerWorkEnd) → IsReclaimerWork (made_demote g page spent) g own end → IsOfKind into_demoted (λ own told. IsDrawingList (λ (over : DemoteOver). IsDemotion (demote_made page spent) g own over.end) spent own told) own end
demotes_kind g page spent own (This all) h = absurd h
demotes_kind g page spent own (Other (This end)) h = absurd h
demotes_kind g page spent own (Other (Other (This end))) h = absurd h
demotes_kind g page spent own (Other (Other (Other end))) h = record { part = end; is = refl; shown = h }

pub demotes-told : (g : Geometry) (page : ℕ) (spent : Spent) → AgreeOnTold AreRepliesApart (with_counts demote_tells reclaimer_counts) (IsReclaimerWork (made_demote g page spent) g) (IsReclaimerWork (made_demote g page spent) g)
demotes-told g page spent = kind-told (IsReclaimerWork (made_demote g page spent) g) into_demoted (λ own told. IsDrawingList (λ (over : DemoteOver). IsDemotion (demote_made page spent) g own over.end) spent own told) (with_spent end_of) (with_counts demote_tells reclaimer_counts) told_demoted (λ told. refl)
    (demotes_kind g page spent) (drawing-told (λ own (over : DemoteOver). IsDemotion (demote_made page spent) g own over.end) spent end_of (demoted_over g page spent))

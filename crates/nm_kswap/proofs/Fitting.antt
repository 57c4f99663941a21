-- What is left after the piece of a stage is what the stage at which the reclaimer goes on begins.
use Rattle.std.proofs.Common.{◌≡◌, ℕ, zero, suc, ◌+◌, ◌-◌, nat_lt, nat_le, if◌then◌else◌, Bool, true, false, length, refl, sym, subst, arith}
use Rattle.nm_base.specs.Geometry.{Geometry, page_count}
use Rattle.nm_part.specs.Patterns.{Either}
use Rattle.nm_inspect.specs.declared.inspect.Inspected.{Inspected}
use Rattle.nm_inspect.specs.declared.inspect.Inspected.TheVariants.{Elsewhere, InUse, Idle}
use Rattle.nm_worker.specs.Notes.{Notes}
use Rattle.nm_kswap.specs.declared.stage.Kept.{Kept}
use Rattle.nm_kswap.specs.declared.stage.Visit.{Visit}
use Rattle.nm_kswap.specs.declared.stage.Stage.{Stage}
use Rattle.nm_kswap.specs.declared.stage.Stage.TheVariants.{New, Asking, Counting, Inspecting, Demoting, Over}
use Rattle.nm_kswap.specs.Works.{ReclaimerWorkEnd}
use Rattle.nm_kswap.specs.Ends.{asked_in, level_in, inspected_in, demoted_in, spent_in, frames_freed}
use Rattle.nm_kswap.specs.Reclaiming.{Sequence, hand_of, hand_moved, with_drawn, marks_of, last_tier, has_vpage, AfterInspect, Inspects, VisitsPages, Tiers}
use Rattle.nm_kswap.specs.Knowing.{RunsWork}
use Rattle.nm_kswap.specs.Stages.{Going, to_stage, tier_stage, to_visit, to_demote, going_on, AfterRound, AfterTier, AfterVisit, StageOn, StageLeft}

-- Which stage comes next of the tiers that are left.

tiers-by : (g : Geometry) (last : Bool) (tier : ℕ) (kept : Kept) (rounds : ℕ) (notes : Notes) (outcome : Unit {0}) (more : Bool) → nat_lt (tier + 1) (length g.tiers) ≡ more
    → StageOn g kept (if more then Counting last tier else (if last then Over else Asking)) rounds notes outcome → Tiers g tier (last_tier g - tier) kept (AfterRound g rounds last) notes outcome
tiers-by g last tier kept rounds notes outcome true is h =
    let one : last_tier g - tier ≡ suc (last_tier g - (tier + 1)) = grind (arith, is) in
    let T : ℕ → Type 0 = λ n. Tiers g tier n kept (AfterRound g rounds last) notes outcome in
    subst T (sym one) h
tiers-by g true tier kept rounds notes outcome false is h =
    let none : last_tier g - tier ≡ 0 = grind (arith, is) in
    let T : ℕ → Type 0 = λ n. Tiers g tier n kept (AfterRound g rounds true) notes outcome in
    subst T (sym none) h
tiers-by g false tier kept rounds notes outcome false is h =
    let none : last_tier g - tier ≡ 0 = grind (arith, is) in
    let T : ℕ → Type 0 = λ n. Tiers g tier n kept (AfterRound g rounds false) notes outcome in
    subst T (sym none) h

tiers-fit : (g : Geometry) (last : Bool) (tier : ℕ) (kept : Kept) (rounds : ℕ) (notes : Notes) (outcome : Unit {0})
    → StageOn g kept (tier_stage g last tier) rounds notes outcome → Tiers g tier (last_tier g - tier) kept (AfterRound g rounds last) notes outcome
tiers-fit g last tier kept rounds notes outcome h = tiers-by g last tier kept rounds notes outcome (nat_lt (tier + 1) (length g.tiers)) refl h

-- what a stage begins with what is kept then
abbrev pub GoingOn : Geometry → Going → ℕ → Sequence
GoingOn g going rounds notes outcome = StageOn g going.kept going.stage rounds notes outcome

-- Which stage comes next of the visits that are left.

visits-by : (g : Geometry) (last : Bool) (tier level left : ℕ) (kept : Kept) (rounds : ℕ) (notes : Notes) (outcome : Unit {0}) (below some : Bool)
    → (GoingOn g (to_visit g last tier level left (hand_moved g tier kept)) rounds notes outcome → VisitsPages g tier left level (hand_moved g tier kept) (AfterTier g rounds last tier) notes outcome)
    → GoingOn g (if below then (if some then to_stage (Inspecting (record { last = last; tier = tier; level = level; page = hand_of tier kept; left = left })) (hand_moved g tier kept) else to_visit g last tier level left (hand_moved g tier kept)) else to_stage (tier_stage g last (tier + 1)) kept) rounds notes outcome
    → Either below (Either some (Inspects g tier (hand_of tier kept) level (hand_moved g tier kept) (λ level kept. VisitsPages g tier left level kept (AfterTier g rounds last tier))) (VisitsPages g tier left level (hand_moved g tier kept) (AfterTier g rounds last tier))) (AfterTier g rounds last tier kept) notes outcome
visits-by g last tier level left kept rounds notes outcome true true later h = h
visits-by g last tier level left kept rounds notes outcome true false later h = later h
visits-by g last tier level left kept rounds notes outcome false some later h = tiers-fit g last (tier + 1) kept rounds notes outcome h

visits-fit : (g : Geometry) (last : Bool) (tier level left : ℕ) (kept : Kept) (rounds : ℕ) (notes : Notes) (outcome : Unit {0})
    → GoingOn g (to_visit g last tier level left kept) rounds notes outcome → VisitsPages g tier left level kept (AfterTier g rounds last tier) notes outcome
visits-fit g last tier level zero kept rounds notes outcome h = tiers-fit g last (tier + 1) kept rounds notes outcome h
visits-fit g last tier level (suc left) kept rounds notes outcome h =
    visits-by g last tier level left kept rounds notes outcome (nat_lt level (marks_of g tier).high) (has_vpage g (hand_of tier kept))
    (visits-fit g last tier level left (hand_moved g tier kept) rounds notes outcome) h

-- The stages.

level-by : (g : Geometry) (last : Bool) (tier level : ℕ) (kept : Kept) (rounds : ℕ) (notes : Notes) (outcome : Unit {0}) (low : Bool)
    → GoingOn g (if low then to_visit g last tier level (page_count g) kept else to_stage (tier_stage g last (tier + 1)) kept) rounds notes outcome
    → Either low (VisitsPages g tier (page_count g) level kept (AfterTier g rounds last tier)) (AfterTier g rounds last tier kept) notes outcome
level-by g last tier level kept rounds notes outcome true h = visits-fit g last tier level (page_count g) kept rounds notes outcome h
level-by g last tier level kept rounds notes outcome false h = tiers-fit g last (tier + 1) kept rounds notes outcome h

inspected-by : (g : Geometry) (visit : Visit) (kept : Kept) (found : Inspected) (rounds : ℕ) (notes : Notes) (outcome : Unit {0})
    → GoingOn g (to_demote g visit kept found) rounds notes outcome → AfterInspect g visit.page visit.level kept (AfterVisit g rounds visit) found notes outcome
inspected-by g visit kept Elsewhere rounds notes outcome h = visits-fit g visit.last visit.tier visit.level visit.left kept rounds notes outcome h
inspected-by g visit kept InUse rounds notes outcome h = visits-fit g visit.last visit.tier visit.level visit.left kept rounds notes outcome h
inspected-by g visit kept Idle rounds notes outcome h = h

pub going-fits : (g : Geometry) (kept : Kept) (stage : Stage) (end : ReclaimerWorkEnd) (rounds : ℕ) (notes : Notes) (outcome : Unit {0}) → RunsWork stage
    → GoingOn g (going_on g kept stage end) rounds notes outcome → StageLeft g kept stage end rounds notes outcome
going-fits g kept New end rounds notes outcome runs h = absurd runs
going-fits g kept Asking end rounds notes outcome runs h =
    let all : last_tier g - 0 ≡ last_tier g = omega arith in
    let T : ℕ → Type 0 = λ n. Tiers g 0 n kept (AfterRound g rounds (asked_in end)) notes outcome in
    subst T all (tiers-fit g (asked_in end) 0 kept rounds notes outcome h)
going-fits g kept (Counting last tier) end rounds notes outcome runs h = level-by g last tier (level_in end) kept rounds notes outcome (nat_le (level_in end) (marks_of g tier).low) h
going-fits g kept (Inspecting visit) end rounds notes outcome runs h = inspected-by g visit kept (inspected_in end) rounds notes outcome h
going-fits g kept (Demoting visit) end rounds notes outcome runs h = visits-fit g visit.last visit.tier (visit.level + frames_freed (demoted_in end)) visit.left (with_drawn (spent_in end) kept) rounds notes outcome h
going-fits g kept Over end rounds notes outcome runs h = absurd runs

-- How far the reclaimer has come, and where it goes on.
use Rattle.std.specs.Prelude.{ℕ, zero, suc, ◌+◌, ◌-◌, nat_lt, nat_le, if◌then◌else◌, Bool, List, length, Option}
use Rattle.nm_base.specs.Geometry.{Geometry, page_count}
use Rattle.nm_part.specs.Patterns.{Ends, Either, Sometimes}
use Rattle.nm_inspect.specs.declared.inspect.Inspected.{Inspected}
use Rattle.nm_inspect.specs.declared.inspect.Inspected.TheVariants.{Elsewhere, InUse, Idle}
use Rattle.nm_worker.specs.declared.routine.Task.{Task}
use Rattle.nm_worker.specs.declared.routine.Task.TheVariants.{Run, Stop}
use Rattle.nm_worker.specs.declared.routine.Ended.{Ended}
use Rattle.nm_worker.specs.declared.routine.Ended.TheVariants as ended
use Rattle.nm_kswap.specs.declared.stage.Kept.{Kept}
use Rattle.nm_kswap.specs.declared.stage.Visit.{Visit}
use Rattle.nm_kswap.specs.declared.stage.Stage.{Stage}
use Rattle.nm_kswap.specs.declared.stage.Stage.TheVariants.{New, Asking, Counting, Inspecting, Demoting, Over}
use Rattle.nm_kswap.specs.Works.{ReclaimerWorkMade, ReclaimerWorkEnd, made_asking, made_level, made_inspect, made_demote}
use Rattle.nm_kswap.specs.Ends.{asked_in, level_in, inspected_in, demoted_in, spent_in, taken_words_in, frames_freed}
use Rattle.nm_kswap.specs.Reclaiming.{Sequence, hand_of, hand_moved, with_drawn, marks_of, last_tier, has_vpage, Demotes, AfterInspect, Inspects, VisitsPages, Relieves, Tiers, ReclaimerRounds}

-- the task of a stage
abbrev pub task_at : Geometry → Kept → Stage → Task ReclaimerWorkMade
task_at g kept New = Stop
task_at g kept Asking = Run (made_asking g)
task_at g kept (Counting last tier) = Run (made_level g tier)
task_at g kept (Inspecting visit) = Run (made_inspect g visit.page visit.tier)
task_at g kept (Demoting visit) = Run (made_demote g visit.page kept.spent)
task_at g kept Over = Stop

-- Where it goes on.

-- a stage, and what is kept when it begins
pub record Going : Type 0 where
  pub stage : Stage
  pub kept : Kept

abbrev pub to_stage : Stage → Kept → Going
to_stage stage kept = record { stage = stage; kept = kept }

-- the tiers from this one on are left of the round
abbrev pub tier_stage : Geometry → Bool → ℕ → Stage
tier_stage g last tier = if nat_lt (tier + 1) (length g.tiers) then Counting last tier else (if last then Over else Asking)

-- so many visits are left at most
abbrev pub to_visit : Geometry → Bool → ℕ → ℕ → ℕ → Kept → Going
to_visit g last tier level zero kept = to_stage (tier_stage g last (tier + 1)) kept
to_visit g last tier level (suc left) kept =
    if nat_lt level (marks_of g tier).high
    then (if has_vpage g (hand_of tier kept) then to_stage (Inspecting (record { last = last; tier = tier; level = level; page = hand_of tier kept; left = left })) (hand_moved g tier kept) else to_visit g last tier level left (hand_moved g tier kept))
    else to_stage (tier_stage g last (tier + 1)) kept

abbrev pub to_demote : Geometry → Visit → Kept → Inspected → Going
to_demote g visit kept Elsewhere = to_visit g visit.last visit.tier visit.level visit.left kept
to_demote g visit kept InUse = to_visit g visit.last visit.tier visit.level visit.left kept
to_demote g visit kept Idle = to_stage (Demoting visit) kept

-- after the piece of a stage, by how that ended
abbrev pub going_on : Geometry → Kept → Stage → ReclaimerWorkEnd → Going
going_on g kept New end = to_stage Over kept
going_on g kept Asking end = to_stage (tier_stage g (asked_in end) 0) kept
going_on g kept (Counting last tier) end = if nat_le (level_in end) (marks_of g tier).low then to_visit g last tier (level_in end) (page_count g) kept else to_stage (tier_stage g last (tier + 1)) kept
going_on g kept (Inspecting visit) end = to_demote g visit kept (inspected_in end)
going_on g kept (Demoting visit) end = to_visit g visit.last visit.tier (visit.level + frames_freed (demoted_in end)) visit.left (with_drawn (spent_in end) kept)
going_on g kept Over end = to_stage Over kept

-- the list for taken words, which a demotion gives back
abbrev pub words_after : Stage → ReclaimerWorkEnd → Option (List (ℕ × ℕ)) → Option (List (ℕ × ℕ))
words_after (Demoting visit) end taken = taken_words_in end
words_after stage end taken = taken

-- What is left, where so many rounds more are made at most.

abbrev pub AfterRound : Geometry → ℕ → Bool → Kept → Sequence
AfterRound g rounds last kept = Either last (Ends tt) (ReclaimerRounds g rounds kept)

abbrev pub AfterTier : Geometry → ℕ → Bool → ℕ → Kept → Sequence
AfterTier g rounds last tier kept = Tiers g (tier + 1) (last_tier g - (tier + 1)) kept (AfterRound g rounds last)

abbrev pub AfterVisit : Geometry → ℕ → Visit → ℕ → Kept → Sequence
AfterVisit g rounds visit level kept = VisitsPages g visit.tier visit.left level kept (AfterTier g rounds visit.last visit.tier)

-- from a stage on
abbrev pub StageOn : Geometry → Kept → Stage → ℕ → Sequence
StageOn g kept New rounds notes outcome = ⊥
StageOn g kept Asking rounds notes outcome = ReclaimerRounds g rounds kept notes outcome
StageOn g kept (Counting last tier) rounds notes outcome = Relieves g tier kept (AfterTier g rounds last tier) notes outcome
StageOn g kept (Inspecting visit) rounds notes outcome = Inspects g visit.tier visit.page visit.level kept (AfterVisit g rounds visit) notes outcome
StageOn g kept (Demoting visit) rounds notes outcome = Demotes g visit.page visit.level kept (AfterVisit g rounds visit) notes outcome
StageOn g kept Over rounds notes outcome = Ends tt notes outcome

-- after the piece of a stage, by how that ended
abbrev pub StageLeft : Geometry → Kept → Stage → ReclaimerWorkEnd → ℕ → Sequence
StageLeft g kept New end rounds notes outcome = ⊥
StageLeft g kept Asking end rounds notes outcome = Tiers g 0 (last_tier g) kept (AfterRound g rounds (asked_in end)) notes outcome
StageLeft g kept (Counting last tier) end rounds notes outcome = Either (nat_le (level_in end) (marks_of g tier).low) (VisitsPages g tier (page_count g) (level_in end) kept (AfterTier g rounds last tier)) (AfterTier g rounds last tier kept) notes outcome
StageLeft g kept (Inspecting visit) end rounds notes outcome = AfterInspect g visit.page visit.level kept (AfterVisit g rounds visit) (inspected_in end) notes outcome
StageLeft g kept (Demoting visit) end rounds notes outcome = AfterVisit g rounds visit (visit.level + frames_freed (demoted_in end)) (with_drawn (spent_in end) kept) notes outcome
StageLeft g kept Over end rounds notes outcome = ⊥

abbrev pub TaskLeft : Geometry → Kept → Stage → Ended ReclaimerWorkEnd → Sequence
TaskLeft g kept stage (ended.Run end) = Sometimes (StageLeft g kept stage end)
TaskLeft g kept stage end = λ notes outcome. ⊥

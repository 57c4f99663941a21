-- The pattern has a list from each stage on.
use Rattle.std.proofs.Common.{ℕ, zero, suc, ◌+◌, ◌-◌, ◌<◌, ◌≤◌, nat_lt, nat_le, Bool, true, [], ◌∷◌, ◌++◌, length, refl, arith}
use Rattle.nm_base.specs.Geometry.{Geometry, page_count}
use Rattle.nm_action.specs.declared.action.Action.TheVariants.{SeeAck}
use Rattle.nm_action.specs.declared.action.Reply.TheVariants.{Word}
use Rattle.nm_action.specs.declared.spent.Spent.{Spent}
use Rattle.nm_action.specs.Own.{Own}
use Rattle.nm_view.specs.Views.{end_word}
use Rattle.nm_part.specs.Patterns.{Ends, Either, Sometimes, CanEnd}
use Rattle.nm_part.proofs.Patterns.{can-ends, can-either, can-sometimes}
use Rattle.nm_compose.specs.declared.or.Or.TheVariants.{This, Other}
use Rattle.nm_ended.specs.Asking.{AsksFrom}
use Rattle.nm_pool.specs.declared.job.PoolJob.TheVariants.{Level}
use Rattle.nm_pool.proofs.Begun.{some-pool}
use Rattle.nm_inspect.specs.Inspecting.{InspectData}
use Rattle.nm_inspect.specs.declared.inspect.Inspected.{Inspected}
use Rattle.nm_inspect.specs.declared.inspect.Inspected.TheVariants.{Elsewhere, InUse, Idle}
use Rattle.nm_inspect.proofs.Steps.{some-inspection}
use Rattle.nm_demote.proofs.DemoteSteps.{some-demotion}
use Rattle.nm_drawing.specs.Draws.{drawn_over}
use Rattle.nm_worker.specs.Notes.{worked}
use Rattle.nm_kswap.specs.declared.stage.Kept.{Kept}
use Rattle.nm_kswap.specs.declared.stage.Stage.{Stage}
use Rattle.nm_kswap.specs.declared.stage.Stage.TheVariants.{New, Asking, Counting, Inspecting, Demoting, Over}
use Rattle.nm_kswap.specs.Works.{ReclaimerWorkMade, ReclaimerWorkEnd, IsReclaimerWork, made_asking, made_level, made_inspect, made_demote}
use Rattle.nm_kswap.specs.Ends.{asked_in, level_in, inspected_in, demoted_in, spent_in, frames_freed, reclaimer_counts}
use Rattle.nm_kswap.specs.Reclaiming.{Sequence, hand_of, hand_moved, with_drawn, marks_of, last_tier, has_vpage, kept_at_first, Does, Demotes, AfterInspect, Inspects, Visit as Visited, VisitsPages, Relieves, Tiers, ReclaimerRounds, IsReclaiming}
use Rattle.nm_kswap.specs.Stages.{AfterRound, AfterTier, AfterVisit, StageLeft}
use Rattle.nm_kswap.specs.Knowing.{IsStageOf, RunsWork}

-- The pieces.

-- all of so many processors have ended
asks-ended : (g : Geometry) (cpu more : ℕ) → (own : Own) × AsksFrom g cpu more own true
asks-ended g cpu zero = ([], record { none = refl; is = refl })
asks-ended g cpu (suc more) =
    let later = asks-ended g (cpu + 1) more in
    ((SeeAck cpu, Word end_word) ∷ later.0, record { end = Word end_word; front = (SeeAck cpu, Word end_word) ∷ []; back = later.0; shown = record { is = refl; kind = λ view. tt }; rest = later.1; is = refl })

-- a piece that has a list can be done, and what comes after it be finished
does-can : (g : Geometry) (work : ReclaimerWorkMade) (after : ReclaimerWorkEnd → Sequence) (some : CanEnd (IsReclaimerWork work g)) → CanEnd (after some.outcome) → CanEnd (Does g work after)
does-can g work after some can = record {
  rest = worked (reclaimer_counts some.outcome) some.rest ++ can.rest;
  outcome = can.outcome;
  shown = record { end = some.outcome; front = worked (reclaimer_counts some.outcome) some.rest; back = can.rest; shown = record { own = some.rest; shown = some.shown; is = refl }; rest = can.shown; is = refl };
}

some-level : (g : Geometry) (tier : ℕ) → tier < length g.tiers → CanEnd (IsReclaimerWork (made_level g tier) g)
some-level g tier there = let some = some-pool g (Level tier) there in record { rest = some.rest; outcome = Other (This some.outcome); shown = some.whole }

some-inspect : (g : Geometry) (page tier : ℕ) → CanEnd (IsReclaimerWork (made_inspect g page tier) g)
some-inspect g page tier =
    let made : InspectData = record { 0 = g; 1 = record { page = page; tier = tier } } in
    let some = some-inspection made g in record { rest = some.rest; outcome = Other (Other (This some.outcome)); shown = some.shown }

some-demote : (g : Geometry) (page : ℕ) (spent : Spent) → CanEnd (IsReclaimerWork (made_demote g page spent) g)
some-demote g page spent =
    let some = some-demotion (record { page = page; spent = spent }) g in
    record { rest = some.rest; outcome = Other (Other (Other (record { end = record { end = some.outcome; taken = [] }; spent = drawn_over spent some.rest }))); shown = record { shown = some.shown; drawn = refl } }

-- The steps, where what comes after them can be finished.

demotes-can : (g : Geometry) (page level : ℕ) (kept : Kept) (after : ℕ → Kept → Sequence) → ((level : ℕ) (kept : Kept) → CanEnd (after level kept)) → CanEnd (Demotes g page level kept after)
demotes-can g page level kept after can =
    let some = some-demote g page kept.spent in
    does-can g (made_demote g page kept.spent) (λ end. after (level + frames_freed (demoted_in end)) (with_drawn (spent_in end) kept)) some
    (can (level + frames_freed (demoted_in some.outcome)) (with_drawn (spent_in some.outcome) kept))

after-inspect-can : (g : Geometry) (page level : ℕ) (kept : Kept) (after : ℕ → Kept → Sequence) (found : Inspected) → ((level : ℕ) (kept : Kept) → CanEnd (after level kept)) → CanEnd (AfterInspect g page level kept after found)
after-inspect-can g page level kept after Elsewhere can = can level kept
after-inspect-can g page level kept after InUse can = can level kept
after-inspect-can g page level kept after Idle can = demotes-can g page level kept after can

inspects-can : (g : Geometry) (tier page level : ℕ) (kept : Kept) (after : ℕ → Kept → Sequence) → ((level : ℕ) (kept : Kept) → CanEnd (after level kept)) → CanEnd (Inspects g tier page level kept after)
inspects-can g tier page level kept after can =
    let some = some-inspect g page tier in
    does-can g (made_inspect g page tier) (λ end. AfterInspect g page level kept after (inspected_in end)) some (after-inspect-can g page level kept after (inspected_in some.outcome) can)

visit-can : (g : Geometry) (tier page level : ℕ) (kept : Kept) (after : ℕ → Kept → Sequence) → ((level : ℕ) (kept : Kept) → CanEnd (after level kept)) → CanEnd (Visited g tier page level kept after)
visit-can g tier page level kept after can =
    can-either (has_vpage g page) (Inspects g tier page level kept after) (after level kept) (inspects-can g tier page level kept after can) (can level kept)

visits-can : (g : Geometry) (tier more level : ℕ) (kept : Kept) (after : Kept → Sequence) → ((kept : Kept) → CanEnd (after kept)) → CanEnd (VisitsPages g tier more level kept after)
visits-can g tier zero level kept after can = can kept
visits-can g tier (suc more) level kept after can =
    can-either (nat_lt level (marks_of g tier).high) (Visited g tier (hand_of tier kept) level (hand_moved g tier kept) (λ level kept. VisitsPages g tier more level kept after)) (after kept)
    (visit-can g tier (hand_of tier kept) level (hand_moved g tier kept) (λ level kept. VisitsPages g tier more level kept after) (λ level kept. visits-can g tier more level kept after can)) (can kept)

relieves-can : (g : Geometry) (tier : ℕ) (kept : Kept) (after : Kept → Sequence) → tier < length g.tiers → ((kept : Kept) → CanEnd (after kept)) → CanEnd (Relieves g tier kept after)
relieves-can g tier kept after there can =
    let some = some-level g tier there in
    does-can g (made_level g tier) (λ end. Either (nat_le (level_in end) (marks_of g tier).low) (VisitsPages g tier (page_count g) (level_in end) kept after) (after kept)) some
    (can-either (nat_le (level_in some.outcome) (marks_of g tier).low) (VisitsPages g tier (page_count g) (level_in some.outcome) kept after) (after kept) (visits-can g tier (page_count g) (level_in some.outcome) kept after can) (can kept))

tiers-can : (g : Geometry) (tier more : ℕ) (kept : Kept) (after : Kept → Sequence) → tier + more ≤ length g.tiers → ((kept : Kept) → CanEnd (after kept)) → CanEnd (Tiers g tier more kept after)
tiers-can g tier zero kept after there can = can kept
tiers-can g tier (suc more) kept after there can =
    relieves-can g tier kept (λ kept. Tiers g (tier + 1) more kept after) (omega (arith, there)) (λ kept. tiers-can g (tier + 1) more kept after (omega (arith, there)) can)

-- one round, after which all processors have ended
rounds-can : (g : Geometry) (kept : Kept) → CanEnd (ReclaimerRounds g 1 kept)
rounds-can g kept =
    let asked = asks-ended g 0 g.cpus in
    does-can g (made_asking g) (λ end. Tiers g 0 (last_tier g) kept (λ kept. Either (asked_in end) (Ends tt) (ReclaimerRounds g 0 kept))) (record { rest = asked.0; outcome = This true; shown = asked.1 })
    (tiers-can g 0 (last_tier g) kept (λ kept. Ends tt) (omega arith) (λ kept. can-ends tt))

-- What is left at a stage.

after-round-can : (g : Geometry) (last : Bool) (kept : Kept) → CanEnd (AfterRound g 1 last kept)
after-round-can g last kept = can-either last (Ends tt) (ReclaimerRounds g 1 kept) (can-ends tt) (rounds-can g kept)

after-tier-can : (g : Geometry) (last : Bool) (tier : ℕ) (kept : Kept) → tier + 1 < length g.tiers → CanEnd (AfterTier g 1 last tier kept)
after-tier-can g last tier kept there = tiers-can g (tier + 1) (last_tier g - (tier + 1)) kept (AfterRound g 1 last) (omega (arith, there)) (after-round-can g last)

stage-can : (g : Geometry) (kept : Kept) (stage : Stage) (end : ReclaimerWorkEnd) → IsStageOf g stage → RunsWork stage → CanEnd (StageLeft g kept stage end 1)
stage-can g kept New end there runs = absurd runs
stage-can g kept Asking end there runs = tiers-can g 0 (last_tier g) kept (AfterRound g 1 (asked_in end)) (omega arith) (after-round-can g (asked_in end))
stage-can g kept (Counting last tier) end there runs =
    can-either (nat_le (level_in end) (marks_of g tier).low) (VisitsPages g tier (page_count g) (level_in end) kept (AfterTier g 1 last tier)) (AfterTier g 1 last tier kept)
    (visits-can g tier (page_count g) (level_in end) kept (AfterTier g 1 last tier) (λ kept. after-tier-can g last tier kept there)) (after-tier-can g last tier kept there)
stage-can g kept (Inspecting visit) end there runs =
    after-inspect-can g visit.page visit.level kept (AfterVisit g 1 visit) (inspected_in end)
    (λ level kept. visits-can g visit.tier visit.left level kept (AfterTier g 1 visit.last visit.tier) (λ kept. after-tier-can g visit.last visit.tier kept there.tier))
stage-can g kept (Demoting visit) end there runs =
    visits-can g visit.tier visit.left (visit.level + frames_freed (demoted_in end)) (with_drawn (spent_in end) kept) (AfterTier g 1 visit.last visit.tier) (λ kept. after-tier-can g visit.last visit.tier kept there.tier)
stage-can g kept Over end there runs = absurd runs

-- what is left after the piece of a stage has a list
pub left-can : (g : Geometry) (kept : Kept) (stage : Stage) (end : ReclaimerWorkEnd) → IsStageOf g stage → RunsWork stage → CanEnd (Sometimes (StageLeft g kept stage end))
left-can g kept stage end there runs = can-sometimes (StageLeft g kept stage end) 1 (stage-can g kept stage end there runs)

-- the whole pattern has a list
pub reclaiming-can : (g : Geometry) → CanEnd (IsReclaiming g)
reclaiming-can g = can-sometimes (λ rounds. ReclaimerRounds g rounds kept_at_first) 1 (rounds-can g kept_at_first)

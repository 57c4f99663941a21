-- What the worker of the reclaimer agrees with is a reclaimer's part.
use Rattle.std.proofs.Common.{◌<◌, false, [], Option, Some, None, refl, arith}
use Rattle.nm_base.specs.Geometry.{Geometry, IsGeometry}
use Rattle.nm_action.specs.declared.action.Action.{Action}
use Rattle.nm_action.specs.declared.turn.Turn.{Turn}
use Rattle.nm_action.specs.Own.{Own}
use Rattle.nm_action.specs.Tally.{sum_of}
use Rattle.nm_view.specs.Opening.{opening}
use Rattle.nm_view.specs.Views.{View}
use Rattle.nm_actor.specs.Turns.{Turns, turns_view}
use Rattle.nm_part.specs.Patterns.{CanEnd}
use Rattle.nm_worker.specs.Routines.{IsNextTask}
use Rattle.nm_worker.specs.Workers.{FollowsRoutine, IsNewWorker}
use Rattle.nm_actor.specs.Actors.{gave_end}
use Rattle.nm_routine_part.specs.Parts.{IsEmptyAtEnd}
use Rattle.nm_routine_part.proofs.Parts.{part-of-routine, part-at-first, empty-at-end}
use Rattle.nm_kswap.proofs.Lists.{reclaiming-can}
use Rattle.nm_kswap.proofs.Starting.{reclaiming-acts}
use Rattle.nm_kswap.specs.declared.work.ReclaimerPiece.{ReclaimerPiece}
use Rattle.nm_kswap.specs.Works.{reclaimer_work_made, MayReclaimerWork, IsReclaimerWork}
use Rattle.nm_kswap.specs.Ends.{reclaimer_counts}
use Rattle.nm_kswap.specs.Reclaiming.{IsReclaiming}
use Rattle.nm_kswap.specs.Knowing.{KnowsReclaiming, ReclaimingLeft}
use Rattle.nm_kswap.specs.Parts.{reclaimer_number, IsReclaimerPart, ReclaimerWorker}

-- what the worker says of itself
abbrev pub FollowsReclaiming : (ReclaimerPiece → Type 0) → (ReclaimerPiece → Geometry → View → Own → Action → Type 0) → ReclaimerWorker → Turns → Option Turn → Type 0
FollowsReclaiming is_new awaits w turns last = FollowsRoutine reclaimer_work_made is_new MayReclaimerWork IsReclaimerWork awaits reclaimer_counts (KnowsReclaiming w.routine) (ReclaimingLeft w.routine) tt (IsReclaiming w.routine.geometry.now) w.routine.geometry.now (reclaimer_number w.routine.geometry.now) w.action w.task w.events w.ends w.spent turns last

pub worker-part : (is_new : ReclaimerPiece → Type 0) (awaits : ReclaimerPiece → Geometry → View → Own → Action → Type 0) (w : ReclaimerWorker) (turns : Turns) (given : Turn)
    → FollowsReclaiming is_new awaits w turns (Some given) → IsReclaimerPart w.routine.geometry.now turns (gave_end (Some given)) (sum_of w.events.tally w.ends)
worker-part is_new awaits w turns given h =
    part-of-routine reclaimer_work_made is_new MayReclaimerWork IsReclaimerWork awaits reclaimer_counts (KnowsReclaiming w.routine) (ReclaimingLeft w.routine) tt (IsReclaiming w.routine.geometry.now) w.routine.geometry.now (reclaimer_number w.routine.geometry.now) w.action w.task w.events w.ends w.spent turns given h

pub worker-empty : (is_new : ReclaimerPiece → Type 0) (awaits : ReclaimerPiece → Geometry → View → Own → Action → Type 0) (w : ReclaimerWorker) (turns : Turns) (last : Option Turn)
    → FollowsReclaiming is_new awaits w turns last → IsEmptyAtEnd (gave_end last) (turns_view w.routine.geometry.now (reclaimer_number w.routine.geometry.now) turns)
worker-empty is_new awaits w turns last h =
    empty-at-end reclaimer_work_made is_new MayReclaimerWork IsReclaimerWork awaits reclaimer_counts (KnowsReclaiming w.routine) (ReclaimingLeft w.routine) tt (IsReclaiming w.routine.geometry.now) w.routine.geometry.now (reclaimer_number w.routine.geometry.now) w.action w.task w.events w.ends w.spent turns last (λ view known. known.resting.empty) h

-- a new worker agrees with no turns
pub new-follows : (is_new : ReclaimerPiece → Type 0) (awaits : ReclaimerPiece → Geometry → View → Own → Action → Type 0) (w : ReclaimerWorker)
    → IsNewWorker (CanEnd (IsReclaiming w.routine.geometry.now)) (IsNextTask reclaimer_work_made is_new MayReclaimerWork IsReclaimerWork reclaimer_counts (KnowsReclaiming w.routine) (ReclaimingLeft w.routine) tt (IsReclaiming w.routine.geometry.now) w.routine.geometry.now (opening w.routine.geometry.now (reclaimer_number w.routine.geometry.now)) w.task) w.routine.geometry.now (reclaimer_number w.routine.geometry.now) w.events w.ends w.spent
    → FollowsReclaiming is_new awaits w [] None
new-follows is_new awaits w new = record { notes = []; is = refl; next = new.can; events = new.events; ends = new.ends; pages = new.pages; drawn = new.drawn; few = new.few; at = new.next }

pub new-part : (is_new : ReclaimerPiece → Type 0) (awaits : ReclaimerPiece → Geometry → View → Own → Action → Type 0) (w : ReclaimerWorker)
    → IsGeometry w.routine.geometry.now → FollowsReclaiming is_new awaits w [] None → IsReclaimerPart w.routine.geometry.now [] false (sum_of w.events.tally w.ends)
new-part is_new awaits w fine h =
    let g = w.routine.geometry.now in
    let some : 0 < g.cpus = omega (arith, fine.ranges.2.0) in
    part-at-first reclaimer_work_made is_new MayReclaimerWork IsReclaimerWork awaits reclaimer_counts (KnowsReclaiming w.routine) (ReclaimingLeft w.routine) tt (IsReclaiming w.routine.geometry.now) w.routine.geometry.now (reclaimer_number w.routine.geometry.now) w.action w.task w.events w.ends w.spent (reclaiming-can g) (reclaiming-acts g some) h

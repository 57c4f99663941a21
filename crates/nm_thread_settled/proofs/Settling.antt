-- A run on threads whose actors have ended is settled: the lane Pending, which the migrator alone uses, answered it first in, first out.
use Rattle.std.proofs.Common.{◌≡◌, ◌≢◌, ℕ, ◌<◌, ◌+◌, List, [], Option, ap, subst, ◌∙◌, inl, inr, arith}
use Rattle.std.proofs.lemmas.Bool.{cases_lt}
use Rattle.nm_base.specs.Geometry.{Geometry, IsGeometry}
use Rattle.nm_action.specs.declared.action.Event.{Event}
use Rattle.nm_action.specs.declared.turn.Lane.TheVariants.{Pending}
use Rattle.nm_view.specs.Opening.{IsActor}
use Rattle.nm_core.specs.Roles.{IsSettled}
use Rattle.nm_core.specs.Runs.{IsRun, state_after}
use Rattle.nm_core.specs.State.{actor_count}
use Rattle.nm_actor.specs.Lanes.{LaneMove}
use Rattle.nm_actor.specs.Turns.{Turns, lane_list}
use Rattle.nm_actor.specs.Alone.{MovesLeave, FitsLane}
use Rattle.nm_script.specs.declared.script.Line.{Line}
use Rattle.nm_queue.specs.Histories.{moves_by, pages_left}
use Rattle.nm_pending.proofs.Off.{off-list}
use Rattle.nm_settled_turns.specs.EndedParts.{IsMergeOf, AreEndedParts}
use Rattle.nm_settled_turns.proofs.Parts.{others-off}
use Rattle.nm_settled_turns.proofs.Settling.{parts-settle}
use Rattle.nm_thread_settled.specs.Emptied.{IsEmptiedLane}
use Rattle.nm_thread_settled.proofs.Passing.{pass-alone}

-- nobody but the migrator did anything in the lane
others-none : (g : Geometry) (programs : ℕ → List Line) (retry : Option ℕ) (turns : ℕ → Turns) → AreEndedParts g programs retry turns → ((actor : ℕ) → ¬ IsActor g actor → turns actor ≡ []) → (actor : ℕ) → actor ≢ g.cpus → lane_list Pending (turns actor) ≡ []
others-none g programs retry turns ended nobody actor other = elim (cases_lt actor (actor_count g)) [
  | inl there ↦ off-list (turns actor) (others-off g programs retry turns ended actor there other)
  | inr past ↦ ap (λ (l : Turns). lane_list Pending l) (nobody actor (λ there. absurd (omega (arith, there, past))))
]

migrator-fits : (g : Geometry) (programs : ℕ → List Line) (retry : Option ℕ) (turns : ℕ → Turns) → AreEndedParts g programs retry turns → ((actor : ℕ) → ¬ IsActor g actor → turns actor ≡ []) → IsEmptiedLane Pending turns → FitsLane Pending [] (turns g.cpus) []
migrator-fits g programs retry turns ended nobody lane =
    let M : List LaneMove → Type 0 = λ l. MovesLeave [] l [] in
    let L : List ℕ → Type 0 = λ l. MovesLeave [] (moves_by g.cpus lane.history) l in
    let only : (other : ℕ) → other ≢ g.cpus → moves_by other lane.history ≡ [] = λ other not. lane.parts other ∙ others-none g programs retry turns ended nobody other not in
    subst M (lane.parts g.cpus) (subst L lane.none (pass-alone lane.history g.cpus lane.fifo only))

pub threads-settle : (g : Geometry) (events : List Event) (programs : ℕ → List Line) (retry : Option ℕ) (turns : ℕ → Turns) → IsGeometry g → IsRun g events → IsMergeOf turns events → AreEndedParts g programs retry turns
    → ((actor : ℕ) → ¬ IsActor g actor → turns actor ≡ []) → IsEmptiedLane Pending turns → IsSettled (state_after g events)
threads-settle g events programs retry turns is run merge ended nobody lane = parts-settle g events programs retry turns is run merge ended (migrator-fits g programs retry turns ended nobody lane)

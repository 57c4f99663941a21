-- A run of a script ends where every actor has ended, and then it is settled, or where all turns were made.
use Rattle.std.proofs.Common.{◌≡◌, ℕ, ◌+◌, ◌<◌, ◌==◌, ◌&&◌, ◌||◌, Bool, true, List, [], ◌∷◌, length, refl, sym, ap, subst, inl, inr, ◌∙◌}
use Rattle.nm_base.specs.Geometry.{Geometry, IsGeometry}
use Rattle.nm_action.specs.declared.action.Event.{Event}
use Rattle.nm_action.specs.declared.tally.Tally.{Tally}
use Rattle.nm_action.specs.declared.turn.Lane.TheVariants.{Pending}
use Rattle.nm_view.specs.Opening.{IsActor}
use Rattle.nm_core.specs.Roles.{IsSettled}
use Rattle.nm_core.specs.Runs.{IsRun, state_after}
use Rattle.nm_core.specs.State.{actor_count}
use Rattle.nm_actor.specs.Turns.{Turns}
use Rattle.nm_actor.specs.Alone.{FitsLane}
use Rattle.nm_script.specs.Plain.{Script}
use Rattle.nm_schedule.specs.declared.turn.Played.{Played}
use Rattle.nm_schedule.specs.declared.turn.SimTurn.{SimTurn}
use Rattle.nm_schedule.specs.Played.{turns_by, has_ended, events_of, order_of}
use Rattle.nm_schedule.specs.Picks.{most_turns}
use Rattle.nm_crew.specs.Crewed.{counts_at}
use Rattle.nm_sched.specs.Plain.{SimRun}
use Rattle.nm_sched.specs.Runs.{IsRunOfScript}
use Rattle.nm_play.proofs.Own.{own-turns}
use Rattle.nm_programs.specs.Cpus.{program_of}
use Rattle.nm_pending.specs.PendingTurns.{FitsPending}
use Rattle.nm_pending.proofs.Fitting.{fits-lane}
use Rattle.nm_pending.proofs.Leaving.{drained-fits}
use Rattle.nm_settled_play.proofs.Ending.{all-ended}
use Rattle.nm_settled_turns.specs.EndedParts.{AreEndedParts}
use Rattle.nm_settled_turns.proofs.Parts.{others-off, drained}
use Rattle.nm_settled_turns.proofs.Settling.{parts-settle}
use Rattle.nm_settled_run.specs.AllEnded.{has_ended_in, HaveAllEnded}
use Rattle.nm_settled_run.proofs.Parts.{AreAllEnded, parts-ended}

-- the order of some turns tells who has ended
ended-in : (actor : ℕ) (played : List Played) → has_ended played actor ≡ has_ended_in (order_of played) actor
ended-in actor [] = refl
ended-in actor (p ∷ played) = ap (λ (b : Bool). ((p.actor == actor) && p.ended) || b) (ended-in actor played)

-- each actor has ended
settled-by : (script : Script) (run : SimRun) → IsGeometry script.geometry → (shown : IsRunOfScript script run) → ((actor : ℕ) → IsActor script.geometry actor → has_ended shown.played actor ≡ true) → IsSettled (state_after script.geometry run.events)
settled-by script run is shown ended =
    let g = script.geometry in
    let played = shown.played in
    let sim = shown.simulated in
    let tally : ℕ → Tally = λ actor. counts_at shown.tallies actor in
    let R : List Event → Type 0 = λ l. IsRun g l in
    let S : List Event → Type 0 = λ l. IsSettled (state_after g l) in
    let lasts : IsRun g (events_of played) = subst R sim.listed sim.run in
    let all : AreAllEnded script run played tally = record { ended = ended; cpus = shown.cpus; migrator = shown.migrator; reclaimer = shown.reclaimer } in
    let turns : ℕ → Turns = λ actor. turns_by actor played in
    let parts : AreEndedParts g (program_of script) script.retry turns = parts-ended script run played tally all in
    let queued : FitsPending [] (turns_by g.cpus played) = fits-lane g script.schedule played g.cpus sim.scheduled (others-off g (program_of script) script.retry turns parts) in
    let fits : FitsLane Pending [] (turns_by g.cpus played) [] = drained-fits (turns_by g.cpus played) queued (drained g (program_of script) script.retry turns parts Pending) in
    subst S (sym sim.listed) (parts-settle g (events_of played) (program_of script) script.retry turns is lasts (λ actor. own-turns actor played) parts fits)

pub settled-run : (script : Script) (run : SimRun) → IsGeometry script.geometry → IsRunOfScript script run → HaveAllEnded script.geometry run.order → IsSettled (state_after script.geometry run.events)
settled-run script run is shown all =
    settled-by script run is shown (λ actor there. ended-in actor shown.played ∙ ap (λ (l : List SimTurn). has_ended_in l actor) (sym shown.simulated.ordered) ∙ all actor there)

pub unsettled-run : (script : Script) (run : SimRun) → IsGeometry script.geometry → IsRunOfScript script run → ¬ IsSettled (state_after script.geometry run.events) → run.turns ≡ most_turns script.schedule
unsettled-run script run is shown unsettled = elim shown.simulated.scheduled.stops [
  | inl none ↦ absurd (unsettled (settled-by script run is shown (λ actor there. all-ended (actor_count script.geometry) shown.played none actor there)))
  | inr many ↦ shown.simulated.many ∙ many
]

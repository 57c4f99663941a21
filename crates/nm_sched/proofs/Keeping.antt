-- The run of which a watcher kept the events and the turns.
use Rattle.std.proofs.Common.{◌≡◌, ℕ, List, sym, ap, subst, ◌∙◌}
use Rattle.nm_action.specs.declared.action.Event.{Event}
use Rattle.nm_action.specs.declared.tally.Tally.{Tally}
use Rattle.nm_core.specs.EndWords.{EndWords}
use Rattle.nm_script.specs.Plain.{Script}
use Rattle.nm_report.specs.declared.line_result.LineResult.{LineResult}
use Rattle.nm_schedule.specs.declared.turn.SimTurn.{SimTurn}
use Rattle.nm_play.specs.Played.{AreKept}
use Rattle.nm_sched.specs.Plain.{SimRun}
use Rattle.nm_sched.specs.Runs.{IsRunOfScript, IsWatchedRunOfScript}

pub kept-run : (script : Script) (events : List Event) (order : List SimTurn) (results : List (List LineResult)) (end : EndWords) (tally : Tally) (turns : ℕ)
    → IsWatchedRunOfScript script (AreKept events order) results end tally turns
    → IsRunOfScript script (record { events = events; order = order; results = results; end = end; tally = tally; turns = turns })
kept-run script events order results end tally turns h =
    let run : List Event → List SimTurn → SimRun = λ e o. record { events = e; order = o; results = results; end = end; tally = tally; turns = turns } in
    let listed : h.events ≡ events = h.run.simulated.listed ∙ sym h.told.listed in
    let ordered : h.order ≡ order = h.run.simulated.ordered ∙ sym h.told.ordered in
    subst (λ o. IsRunOfScript script (run events o)) ordered (subst (λ e. IsRunOfScript script (run e h.order)) listed h.run)

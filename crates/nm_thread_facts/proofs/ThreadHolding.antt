-- What is true of a run that threads made.
use Rattle.std.proofs.Common.{◌≡◌, ℕ, suc, zero, ◌+◌, ◌<◌, true, List, Option, sym, ap, subst, ◌∙◌}
use Rattle.nm_base.specs.Geometry.{Geometry}
use Rattle.nm_flat.specs.declared.access.Access.{Access}
use Rattle.nm_flat.specs.Memory.{own_part_of}
use Rattle.nm_action.specs.declared.tally.Tally.{Tally}
use Rattle.nm_action.specs.declared.turn.Lane.TheVariants.{Pending}
use Rattle.nm_core.specs.Roles.{IsSettled}
use Rattle.nm_core.specs.Runs.{accesses_of, state_after}
use Rattle.nm_actor.specs.Turns.{Turns, own_list}
use Rattle.nm_script.specs.Plain.{Script}
use Rattle.nm_script.specs.Script.{IsScript}
use Rattle.nm_report.specs.declared.line_result.LineResult.{LineResult}
use Rattle.nm_report.specs.Follows.{FollowsProgram}
use Rattle.nm_crew.specs.Crewed.{counts_at}
use Rattle.nm_crew.proofs.Accesses.{own_accesses, accesses-own}
use Rattle.nm_journal_text.specs.Journals.{program_of, results_at}
use Rattle.nm_sched.specs.Parts.{IsReclaimerRun}
use Rattle.nm_settled_turns.specs.EndedParts.{IsEndedProcessor, IsEndedMigrator, IsEndedReclaimer, AreEndedParts}
use Rattle.nm_thread_settled.proofs.Settling.{threads-settle}
use Rattle.nm_thread_run.specs.Runs.{IsWholeCpu, IsWholeMigrator}
use Rattle.nm_run_facts.proofs.RunHolding.{run_holds}
use Rattle.nm_thread_facts.specs.ThreadRuns.{ThreadRun, IsThreadRun, HoldsOfThreads}

-- ---- the actors have ended

processor_ended : (s : Script) (cpu : ℕ) (results : List LineResult) (counts : Tally) (turns : Turns) → IsWholeCpu s cpu results counts turns → IsEndedProcessor s.geometry (program_of s cpu) cpu turns
processor_ended s cpu results counts turns h = record { end = record { results = results; ends = h.part.ends }; made = h.part.sequence; left = h.left }

migrator_ended : (s : Script) (counts : Tally) (turns : Turns) → IsWholeMigrator s counts turns → IsEndedMigrator s.geometry s.retry turns
migrator_ended s counts turns h =
    let p = h.part.part in
    record { resumed = suc zero; notes = p.notes; kept = p.carried.outcome; is = p.is; made = p.carried.shown; left = h.left }

reclaimer_ended : (g : Geometry) (counts : Tally) (turns : Turns) → IsReclaimerRun g turns true counts → IsEndedReclaimer g turns
reclaimer_ended g counts turns h =
    let p = h.part in
    record { notes = p.notes; is = p.is; made = p.carried.shown; left = h.left }

pub parts_ended : (s : Script) (run : ThreadRun) (h : IsThreadRun s run) → AreEndedParts s.geometry (program_of s) s.retry h.turns
parts_ended s run h = record {
  cpus = λ cpu there. processor_ended s cpu (results_at run.results cpu) (counts_at h.tallies cpu) (h.turns cpu) (h.cpus cpu there);
  migrator = migrator_ended s (counts_at h.tallies s.geometry.cpus) (h.turns s.geometry.cpus) h.migrator;
  reclaimer = reclaimer_ended s.geometry (counts_at h.tallies (s.geometry.cpus + 1)) (h.turns (s.geometry.cpus + 1)) h.reclaimer;
}

-- ---- each processor made its whole program

program_made : (s : Script) (run : ThreadRun) → IsThreadRun s run → (cpu : ℕ) → cpu < s.geometry.cpus
    → FollowsProgram cpu true (program_of s cpu) (results_at run.results cpu) (own_part_of cpu (accesses_of run.events))
program_made s run h cpu there =
    let F : List Access → Type 0 = λ l. FollowsProgram cpu true (program_of s cpu) (results_at run.results cpu) l in
    let same : own_part_of cpu (accesses_of run.events) ≡ own_accesses cpu (own_list (h.turns cpu)) =
    accesses-own cpu run.events ∙ ap (own_accesses cpu) (h.merge cpu) in
    subst F (sym same) (h.cpus cpu there).follows

-- ---- the run

pub threads_hold : (s : Script) (run : ThreadRun) → IsScript s → IsThreadRun s run → HoldsOfThreads s run
threads_hold s run is h =
    let settled : IsSettled (state_after s.geometry run.events) =
    threads-settle s.geometry run.events (program_of s) s.retry h.turns is.geometry h.is_run h.merge (parts_ended s run h) h.nobody (h.lanes Pending) in
    record {
      facts = run_holds s run.results run.end run.events is.geometry h.is_run (λ cpu there. record { ended = true; follows = program_made s run h cpu there }) h.ends;
      whole = program_made s run h;
      settled = h.ends.settled.1 settled;
    }

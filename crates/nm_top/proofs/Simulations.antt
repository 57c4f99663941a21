-- What is true of each run of a script.
use Rattle.std.proofs.Common.{◌≡◌, ℕ, List, sym, ap, subst, ◌∙◌}
use Rattle.nm_script.specs.Plain.{Script}
use Rattle.nm_script.specs.Script.{IsScript}
use Rattle.nm_gen.specs.Generated.{generated}
use Rattle.nm_report.specs.Plain.{Report}
use Rattle.nm_report.specs.Texts.{report_text}
use Rattle.nm_report.specs.Summary.{summary_text}
use Rattle.nm_sched.specs.Plain.{SimRun}
use Rattle.nm_sched.specs.Runs.{IsRunOfScript, report_of}
use Rattle.nm_schedule.specs.Played.{has_ended}
use Rattle.nm_settled_run.proofs.Settling.{settled-run, unsettled-run}
use Rattle.nm_one_script.proofs.OneScript.{one-script}
use Rattle.nm_run_facts.proofs.RunHolding.{run_holds}
use Rattle.nm_thread_facts.specs.ThreadRuns.{ThreadRun, IsThreadRun, HoldsOfThreads, thread_report}
use Rattle.std.specs.List.{AllByRecursion}
use Rattle.nm_event_text.specs.Events.{FitsEvent}
use Rattle.nm_journal_text.specs.Journals.{IsJournalThatHolds}
use Rattle.nm_sim_journal.specs.SimJournals.{journal_of}
use Rattle.nm_sim_journal.proofs.SimHolding.{journal_holds}
use Rattle.nm_top.specs.Output.{HoldsOfSimulation, IsJournalOf, IsReportOf, IsSummary, IsThreadReportOf}

pub HoldsOfSimulation-run : (s : Script) (run : SimRun) → IsScript s → IsRunOfScript s run → HoldsOfSimulation s run
HoldsOfSimulation-run s run is made = record {
  facts = run_holds s run.results run.end run.events is.geometry made.simulated.run
      (λ cpu there. record { ended = has_ended made.played cpu; follows = (made.cpus cpu there).follows }) made.simulated.ends;
  ended = λ all. made.simulated.ends.settled.1 (settled-run s run is.geometry made all);
  all_turns = λ unsettled. unsettled-run s run is.geometry made (λ settled. unsettled (made.simulated.ends.settled.1 settled));
}

-- the report of a run that was made
pub IsReportOf-made : (s : Script) (run : SimRun) (r : Report) (text : List ℕ) → IsRunOfScript s run → HoldsOfSimulation s run → r ≡ report_of s run → text ≡ report_text r → IsReportOf s text
IsReportOf-made s run r text made holds same is = record { run = run; scheduled = made; only = λ other h. one-script s other run h made; holds = holds; printed = is ∙ ap report_text same }

-- the summary of a run that was made
pub IsSummary-made : (n size : ℕ) (s : Script) (run : SimRun) (r : Report) (text : List ℕ) → s ≡ generated n size → IsRunOfScript s run → HoldsOfSimulation s run → r ≡ report_of s run
    → text ≡ summary_text n size r → IsSummary n size text
IsSummary-made n size s run r text drawn made holds same is = record {
  run = run;
  scheduled = subst (λ (t : Script). IsRunOfScript t run) drawn made;
  only = subst (λ (t : Script). (other : SimRun) → IsRunOfScript t other → other ≡ run) drawn (λ other h. one-script s other run h made);
  holds = subst (λ (t : Script). HoldsOfSimulation t run) drawn holds;
  printed = is ∙ ap (summary_text n size) (same ∙ ap (λ (t : Script). report_of t run) drawn);
}

-- the report of a run that threads made
pub IsThreadReportOf-made : (s : Script) (run : ThreadRun) (r : Report) (text : List ℕ) → IsThreadRun s run → HoldsOfThreads s run → r ≡ thread_report s run → text ≡ report_text r → IsThreadReportOf s text
IsThreadReportOf-made s run r text made holds same is = record { run = run; made = made; holds = holds; printed = is ∙ ap report_text same }

-- the journal of a run that was made
pub IsJournalOf-made : (s : Script) (run : SimRun) (text : List ℕ) → IsScript s → IsRunOfScript s run → HoldsOfSimulation s run → AllByRecursion FitsEvent run.events → text ≡ journal_of s run → IsJournalOf s text
IsJournalOf-made s run text script made holds fits is = record {
  tells = record { run = run; scheduled = made; only = λ other h. one-script s other run h made; holds = holds; printed = is };
  holds = subst IsJournalThatHolds (sym is) (journal_holds s run script made fits);
}

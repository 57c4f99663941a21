-- Two runs of one script are the same.
use Rattle.std.proofs.Common.{◌≡◌, ◌<◌, ◌+◌, ℕ, Bool, List, [], length, sym, ap, subst, ◌∙◌, inl, inr, arith}
use Rattle.std.proofs.lemmas.List.{ext_get_or}
use Rattle.nm_action.specs.declared.action.Event.{Event}
use Rattle.nm_action.specs.declared.tally.Tally.{Tally}
use Rattle.nm_tally.specs.Counts.{zero_tally}
use Rattle.nm_core.specs.EndWords.{EndWords, IsEndOf}
use Rattle.nm_core.specs.Runs.{state_after}
use Rattle.nm_actor.specs.Turns.{Turns, own_list}
use Rattle.nm_script.specs.Plain.{Script}
use Rattle.nm_report.specs.declared.line_result.LineResult.{LineResult}
use Rattle.nm_schedule.specs.declared.turn.Played.{Played}
use Rattle.nm_schedule.specs.declared.turn.SimTurn.{SimTurn}
use Rattle.nm_schedule.specs.Played.{events_of, order_of, turns_by, has_ended}
use Rattle.nm_crew.specs.Crewed.{tally_of, counts_at}
use Rattle.nm_cpu_fault.specs.ProcessorFaults.{processor_faults}
use Rattle.nm_cpu.specs.Parts.{IsCpuPart}
use Rattle.nm_cpu_counts.specs.Counting.{processor_tally}
use Rattle.nm_programs.specs.Cpus.{program_of}
use Rattle.nm_programs.specs.Plain.{SimRun}
use Rattle.nm_programs.specs.Runs.{results_of, IsRunWith}
use Rattle.nm_one_part.proofs.CpuParts.{cpu-results}
use Rattle.nm_one_run.proofs.OneRun.{one_run}
use Rattle.nm_one_sim.specs.OnePart.{LeavesOnePart}
use Rattle.nm_one_sim.proofs.Actors.{IsPartOf, IsOneOf, which-one, no-choice, run-by}
use Rattle.nm_one_sim.proofs.Ends.{one-end}

-- the turns are the same
same-turns : (m r : Turns → Bool → Tally → Type 0) (script : Script) (run other : SimRun) → LeavesOnePart m → LeavesOnePart r → (h : IsRunWith m r script run) → (k : IsRunWith m r script other) → h.played ≡ k.played
same-turns m r script run other one two h k = one_run script.geometry script.schedule (IsPartOf m r script) h.played k.played (no-choice m r script one two) (run-by m r script run h) (run-by m r script other k)

-- so are the results
same-results : (m r : Turns → Bool → Tally → Type 0) (script : Script) (run other : SimRun) → (h : IsRunWith m r script run) → (k : IsRunWith m r script other) → h.played ≡ k.played → run.results ≡ other.results
same-results m r script run other h k same =
    ext_get_or [] run.results other.results (h.printable.results ∙ sym k.printable.results) (λ cpu lt.
    let there : cpu < script.geometry.cpus = omega (arith, lt, h.printable.results) in
    let P : List Played → Type 0 = λ l. IsCpuPart processor_faults script.geometry cpu (program_of script cpu) (turns_by cpu l) (has_ended l cpu) (results_of other cpu) (counts_at k.tallies cpu) in
    cpu-results processor_faults script.geometry cpu (program_of script cpu) (turns_by cpu h.played) (has_ended h.played cpu) (has_ended h.played cpu) (results_of run cpu) (results_of other cpu) (counts_at h.tallies cpu) (counts_at k.tallies cpu)
    (h.cpus cpu there).part (subst P (sym same) (k.cpus cpu there).part))

-- and what each actor counted
same-counts : (m r : Turns → Bool → Tally → Type 0) (script : Script) (run other : SimRun) (actor : ℕ) → LeavesOnePart m → LeavesOnePart r → (h : IsRunWith m r script run) → (k : IsRunWith m r script other) → h.played ≡ k.played → IsOneOf script.geometry.cpus actor → counts_at h.tallies actor ≡ counts_at k.tallies actor
same-counts m r script run other actor one two h k same (inl lt) =
    (h.cpus actor lt).counted ∙ ap (λ (l : List Played). processor_tally (own_list (turns_by actor l))) same ∙ sym (k.cpus actor lt).counted
same-counts m r script run other actor one two h k same (inr (inl is)) =
    let n = script.geometry.cpus in
    let P : List Played → Type 0 = λ l. m (turns_by n l) (has_ended l n) (counts_at k.tallies n) in
    ap (λ (i : ℕ). counts_at h.tallies i) is ∙ one.counts (turns_by n h.played) (has_ended h.played n) (has_ended h.played n) (counts_at h.tallies n) (counts_at k.tallies n) h.migrator (subst P (sym same) k.migrator)
    ∙ sym (ap (λ (i : ℕ). counts_at k.tallies i) is)
same-counts m r script run other actor one two h k same (inr (inr is)) =
    let n = script.geometry.cpus + 1 in
    let P : List Played → Type 0 = λ l. r (turns_by n l) (has_ended l n) (counts_at k.tallies n) in
    ap (λ (i : ℕ). counts_at h.tallies i) is ∙ two.counts (turns_by n h.played) (has_ended h.played n) (has_ended h.played n) (counts_at h.tallies n) (counts_at k.tallies n) h.reclaimer (subst P (sym same) k.reclaimer)
    ∙ sym (ap (λ (i : ℕ). counts_at k.tallies i) is)

same-tallies : (m r : Turns → Bool → Tally → Type 0) (script : Script) (run other : SimRun) → LeavesOnePart m → LeavesOnePart r → (h : IsRunWith m r script run) → (k : IsRunWith m r script other) → h.played ≡ k.played → h.tallies ≡ k.tallies
same-tallies m r script run other one two h k same =
    ext_get_or zero_tally h.tallies k.tallies (h.actors ∙ sym k.actors) (λ actor lt. same-counts m r script run other actor one two h k same (which-one script.geometry.cpus actor (omega (arith, lt, h.actors))))

same-run : (a b : SimRun) → a.events ≡ b.events → a.order ≡ b.order → a.results ≡ b.results → a.end ≡ b.end → a.tally ≡ b.tally → a.turns ≡ b.turns → a ≡ b
same-run a b events order results end tally turns =
    let run : List Event → List SimTurn → List (List LineResult) → EndWords → Tally → ℕ → SimRun = λ e o r w t n. record { events = e; order = o; results = r; end = w; tally = t; turns = n } in
    ap (λ e. run e a.order a.results a.end a.tally a.turns) events ∙ ap (λ o. run b.events o a.results a.end a.tally a.turns) order ∙ ap (λ r. run b.events b.order r a.end a.tally a.turns) results
    ∙ ap (λ w. run b.events b.order b.results w a.tally a.turns) end ∙ ap (λ t. run b.events b.order b.results b.end t a.turns) tally ∙ ap (λ n. run b.events b.order b.results b.end b.tally n) turns

pub one-sim : (m r : Turns → Bool → Tally → Type 0) (script : Script) (run other : SimRun) → LeavesOnePart m → LeavesOnePart r → IsRunWith m r script run → IsRunWith m r script other → run ≡ other
one-sim m r script run other one two h k =
    let g = script.geometry in
    let same = same-turns m r script run other one two h k in
    let events : run.events ≡ other.events = h.simulated.listed ∙ ap events_of same ∙ sym k.simulated.listed in
    let E : List Event → Type 0 = λ l. IsEndOf (state_after g l) other.end in
    same-run run other events (h.simulated.ordered ∙ ap order_of same ∙ sym k.simulated.ordered) (same-results m r script run other h k same)
    (one-end (state_after g run.events) run.end other.end h.simulated.ends (subst E (sym events) k.simulated.ends))
    (h.tally ∙ ap tally_of (same-tallies m r script run other one two h k same) ∙ sym k.tally) (h.simulated.many ∙ ap (λ (l : List Played). length l) same ∙ sym k.simulated.many)

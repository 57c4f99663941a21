-- The actors of a run, each by its number.
use Rattle.std.proofs.Common.{◌≡◌, ◌<◌, ◌+◌, ◌⊎◌, ℕ, zero, suc, Bool, true, List, ◌∷◌, ◌++◌, refl, sym, subst, inl, inr, arith}
use Rattle.nm_base.specs.Geometry.{Geometry}
use Rattle.nm_action.specs.declared.action.Event.{Event}
use Rattle.nm_action.specs.declared.tally.Tally.{Tally}
use Rattle.nm_action.specs.declared.turn.Turn.{Turn}
use Rattle.nm_action.specs.declared.turn.Heard.{Heard}
use Rattle.nm_view.specs.Opening.{IsActor}
use Rattle.nm_core.specs.Runs.{IsRun}
use Rattle.nm_actor.specs.Turns.{Turns}
use Rattle.nm_script.specs.declared.script.Line.{Line}
use Rattle.nm_script.specs.Plain.{Script}
use Rattle.nm_report.specs.declared.line_result.LineResult.{LineResult}
use Rattle.nm_schedule.specs.Played.{turns_by, has_ended}
use Rattle.nm_crew.specs.Crewed.{counts_at}
use Rattle.nm_cpu_fault.specs.ProcessorFaults.{processor_faults}
use Rattle.nm_cpu.specs.Programs.{IsProgramMade}
use Rattle.nm_cpu.specs.Parts.{IsCpuPart}
use Rattle.nm_programs.specs.Cpus.{program_of}
use Rattle.nm_programs.specs.Plain.{SimRun}
use Rattle.nm_programs.specs.Runs.{results_of, IsRunWith}
use Rattle.nm_choice.specs.Deterministic.{IsDeterministicActor}
use Rattle.nm_part_choice.proofs.Faults.{fault-one}
use Rattle.nm_cpu_choice.proofs.Making.{program-one}
use Rattle.nm_one_part.proofs.CpuParts.{cpu-next, cpu-ends, cpu-same}
use Rattle.nm_one_run.specs.Single.{IsRunBy, LeaveNoChoice}
use Rattle.nm_one_sim.specs.OnePart.{LeavesOnePart}

-- what is said of an actor whose turns are counted, with some counts
pub record HasCounts (part : Turns → Bool → Tally → Type 0) (turns : Turns) (ended : Bool) : Type 0 where
  pub tally : Tally
  pub shown : part turns ended tally

-- the same of a processor, with some results
pub record HasCpuPart (script : Script) (cpu : ℕ) (turns : Turns) (ended : Bool) : Type 0 where
  pub results : List LineResult
  pub tally : Tally
  pub shown : IsCpuPart processor_faults script.geometry cpu (program_of script cpu) turns ended results tally

-- the part of the actor of a number
pub record IsPartOf (migrator_part reclaimer_part : Turns → Bool → Tally → Type 0) (script : Script) (actor : ℕ) (turns : Turns) (ended : Bool) : Type 0 where
  pub exists : IsActor script.geometry actor
  pub cpu : actor < script.geometry.cpus → HasCpuPart script actor turns ended
  pub migrator : actor ≡ script.geometry.cpus → HasCounts migrator_part turns ended
  pub reclaimer : actor ≡ script.geometry.cpus + 1 → HasCounts reclaimer_part turns ended

-- a processor, the migrator or the reclaimer
abbrev pub IsOneOf : ℕ → ℕ → Type 0
IsOneOf cpus actor = (actor < cpus) ⊎ ((actor ≡ cpus) ⊎ (actor ≡ cpus + 1))

one-more : (cpus actor : ℕ) → IsOneOf cpus actor → IsOneOf (suc cpus) (suc actor)
one-more cpus actor (inl lt) = inl (omega (arith, lt))
one-more cpus actor (inr (inl is)) = inr (inl (omega (arith, is)))
one-more cpus actor (inr (inr is)) = inr (inr (omega (arith, is)))

pub which-one : (cpus actor : ℕ) → actor < cpus + 2 → IsOneOf cpus actor
which-one zero zero lt = inr (inl refl)
which-one zero (suc zero) lt = inr (inr refl)
which-one zero (suc (suc actor)) lt = absurd (omega (arith, lt))
which-one (suc cpus) zero lt = inl (omega arith)
which-one (suc cpus) (suc actor) lt = one-more cpus actor (which-one cpus actor (omega (arith, lt)))

-- ---- none of them has a choice

one-choice : (g : Geometry) (program : List Line) → IsDeterministicActor (IsProgramMade processor_faults g program)
one-choice g program = program-one processor_faults g program fault-one

next-by : (m r : Turns → Bool → Tally → Type 0) (script : Script) (actor : ℕ) (front rest more : Turns) (t u : Turn × Heard) (e f : Bool) → LeavesOnePart m → LeavesOnePart r → IsOneOf script.geometry.cpus actor
    → IsPartOf m r script actor (front ++ t ∷ rest) e → IsPartOf m r script actor (front ++ u ∷ more) f → t.0 ≡ u.0
next-by m r script actor front rest more t u e f one other (inl lt) h k =
    let a = h.cpu lt in
    let b = k.cpu lt in
    cpu-next processor_faults script.geometry actor (program_of script actor) front rest more t u e f a.results b.results a.tally b.tally (one-choice script.geometry (program_of script actor)) a.shown b.shown
next-by m r script actor front rest more t u e f one other (inr (inl is)) h k = one.next front rest more t u e f (h.migrator is).tally (k.migrator is).tally (h.migrator is).shown (k.migrator is).shown
next-by m r script actor front rest more t u e f one other (inr (inr is)) h k = other.next front rest more t u e f (h.reclaimer is).tally (k.reclaimer is).tally (h.reclaimer is).shown (k.reclaimer is).shown

ends-by : (m r : Turns → Bool → Tally → Type 0) (script : Script) (actor : ℕ) (turns : Turns) (t : Turn × Heard) (more : Turns) (e : Bool) → LeavesOnePart m → LeavesOnePart r → IsOneOf script.geometry.cpus actor
    → IsPartOf m r script actor turns true → IsPartOf m r script actor (turns ++ t ∷ more) e → ⊥
ends-by m r script actor turns t more e one other (inl lt) h k =
    let a = h.cpu lt in
    let b = k.cpu lt in
    cpu-ends processor_faults script.geometry actor (program_of script actor) turns more t e a.results b.results a.tally b.tally (one-choice script.geometry (program_of script actor)) a.shown b.shown
ends-by m r script actor turns t more e one other (inr (inl is)) h k = one.ends turns more t e (h.migrator is).tally (k.migrator is).tally (h.migrator is).shown (k.migrator is).shown
ends-by m r script actor turns t more e one other (inr (inr is)) h k = other.ends turns more t e (h.reclaimer is).tally (k.reclaimer is).tally (h.reclaimer is).shown (k.reclaimer is).shown

same-by : (m r : Turns → Bool → Tally → Type 0) (script : Script) (actor : ℕ) (turns : Turns) (e f : Bool) → LeavesOnePart m → LeavesOnePart r → IsOneOf script.geometry.cpus actor
    → IsPartOf m r script actor turns e → IsPartOf m r script actor turns f → e ≡ f
same-by m r script actor turns e f one other (inl lt) h k =
    let a = h.cpu lt in
    let b = k.cpu lt in
    cpu-same processor_faults script.geometry actor (program_of script actor) turns e f a.results b.results a.tally b.tally (one-choice script.geometry (program_of script actor)) a.shown b.shown
same-by m r script actor turns e f one other (inr (inl is)) h k = one.same turns e f (h.migrator is).tally (k.migrator is).tally (h.migrator is).shown (k.migrator is).shown
same-by m r script actor turns e f one other (inr (inr is)) h k = other.same turns e f (h.reclaimer is).tally (k.reclaimer is).tally (h.reclaimer is).shown (k.reclaimer is).shown

pub no-choice : (m r : Turns → Bool → Tally → Type 0) (script : Script) → LeavesOnePart m → LeavesOnePart r → LeaveNoChoice (IsPartOf m r script)
no-choice m r script one other = record {
  next = λ actor front rest more t u e f h k. next-by m r script actor front rest more t u e f one other (which-one script.geometry.cpus actor h.exists) h k;
  ends = λ actor turns t more e h k. ends-by m r script actor turns t more e one other (which-one script.geometry.cpus actor h.exists) h k;
  same = λ actor turns e f h k. same-by m r script actor turns e f one other (which-one script.geometry.cpus actor h.exists) h k;
}

-- ---- the actors of a run

pub run-by : (m r : Turns → Bool → Tally → Type 0) (script : Script) (run : SimRun) → (h : IsRunWith m r script run) → IsRunBy script.geometry script.schedule (IsPartOf m r script) h.played
run-by m r script run h =
    let played = h.played in
    let R : List Event → Type 0 = λ l. IsRun script.geometry l in
    let M : ℕ → Type 0 = λ actor. HasCounts m (turns_by actor played) (has_ended played actor) in
    let K : ℕ → Type 0 = λ actor. HasCounts r (turns_by actor played) (has_ended played actor) in
    record {
      scheduled = h.simulated.scheduled;
      run = subst R h.simulated.listed h.simulated.run;
      parts = λ actor there. record {
        exists = there;
        cpu = λ lt. record { results = results_of run actor; tally = counts_at h.tallies actor; shown = (h.cpus actor lt).part };
        migrator = λ is. subst M (sym is) (record { tally = counts_at h.tallies script.geometry.cpus; shown = h.migrator });
        reclaimer = λ is. subst K (sym is) (record { tally = counts_at h.tallies (script.geometry.cpus + 1); shown = h.reclaimer });
      };
    }

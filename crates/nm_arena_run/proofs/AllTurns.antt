-- The turns of every actor of a run on a board.
use Rattle.std.proofs.Common.{◌≡◌, ℕ, ◌+◌, ◌<◌, ◌≤◌, true, List, [], inl, inr, refl, sym, subst, arith}
use Rattle.std.proofs.lemmas.Bool.{cases_eq, cases_lt}
use Rattle.nm_action.specs.declared.tally.Tally.{Tally}
use Rattle.nm_view.specs.Opening.{IsActor}
use Rattle.nm_actor.specs.Boards.{BoardState, stood}
use Rattle.nm_actor.specs.Turns.{Turns, own_list, lane_lists}
use Rattle.nm_script.specs.Plain.{Script}
use Rattle.nm_report.specs.declared.line_result.LineResult.{LineResult}
use Rattle.nm_crew.specs.Crewed.{counts_at}
use Rattle.nm_journal_text.specs.Journals.{results_at}
use Rattle.nm_sched.specs.Parts.{IsReclaimerRun}
use Rattle.nm_thread_run.specs.Runs.{IsBoardRun, IsWholeCpu, IsWholeMigrator}

-- the turns of an actor, which are those of its kind; a number that is no actor's has none
pub record AtActor {N : Type 0} (s : Script) (b : BoardState N) (results : List (List LineResult)) (tallies : List Tally) (actor : ℕ) : Type 0 where
  pub turns : Turns
  pub lanes : b.lanes actor ≡ lane_lists turns
  pub seat : IsActor s.geometry actor → b.seats actor ≡ stood (own_list turns)
  pub nobody : ¬ IsActor s.geometry actor → turns ≡ []
  pub cpu : actor < s.geometry.cpus → IsWholeCpu s actor (results_at results actor) (counts_at tallies actor) turns
  pub migrator : actor ≡ s.geometry.cpus → IsWholeMigrator s (counts_at tallies actor) turns
  pub reclaimer : actor ≡ s.geometry.cpus + 1 → IsReclaimerRun s.geometry turns true (counts_at tallies actor)

cpu_at : {N : Type 0} (s : Script) (old b : BoardState N) (results : List (List LineResult)) (tally : Tally) (run : IsBoardRun s old b results tally) (actor : ℕ) → actor < s.geometry.cpus → AtActor s b results run.tallies actor
cpu_at s old b results tally run actor lt =
    let h = run.cpus actor lt in
    record {
      turns = h.turns;
      lanes = h.lanes;
      seat = λ there. h.seat;
      nobody = λ not. absurd (not (omega (arith, lt)));
      cpu = λ there. h.told;
      migrator = λ is. absurd (omega (arith, lt, is));
      reclaimer = λ is. absurd (omega (arith, lt, is));
    }

migrator_at : {N : Type 0} (s : Script) (old b : BoardState N) (results : List (List LineResult)) (tally : Tally) (run : IsBoardRun s old b results tally) → AtActor s b results run.tallies s.geometry.cpus
migrator_at s old b results tally run =
    let h = run.migrator in
    record {
      turns = h.turns;
      lanes = h.lanes;
      seat = λ there. h.seat;
      nobody = λ not. absurd (not (omega (arith)));
      cpu = λ lt. absurd (omega (arith, lt));
      migrator = λ is. h.told;
      reclaimer = λ is. absurd (omega (arith, is));
    }

reclaimer_at : {N : Type 0} (s : Script) (old b : BoardState N) (results : List (List LineResult)) (tally : Tally) (run : IsBoardRun s old b results tally) → AtActor s b results run.tallies (s.geometry.cpus + 1)
reclaimer_at s old b results tally run =
    let h = run.reclaimer in
    record {
      turns = h.turns;
      lanes = h.lanes;
      seat = λ there. h.seat;
      nobody = λ not. absurd (not (omega (arith)));
      cpu = λ lt. absurd (omega (arith, lt));
      migrator = λ is. absurd (omega (arith, is));
      reclaimer = λ is. h.told;
    }

nobody_at : {N : Type 0} (s : Script) (b : BoardState N) (results : List (List LineResult)) (tallies : List Tally) (actor : ℕ) → s.geometry.cpus + 2 ≤ actor
    → b.lanes actor ≡ record { candidates = []; pending = [] } → AtActor s b results tallies actor
nobody_at s b results tallies actor past lanes = record {
  turns = [];
  lanes = lanes;
  seat = λ there. absurd (omega (arith, there, past));
  nobody = λ not. refl;
  cpu = λ lt. absurd (omega (arith, lt, past));
  migrator = λ is. absurd (omega (arith, is, past));
  reclaimer = λ is. absurd (omega (arith, is, past));
}

-- each number is a processor's, the migrator's, the reclaimer's or nobody's
pub at_actor : {N : Type 0} (s : Script) (old b : BoardState N) (results : List (List LineResult)) (tally : Tally) (run : IsBoardRun s old b results tally)
    → ((actor : ℕ) → ¬ IsActor s.geometry actor → b.lanes actor ≡ record { candidates = []; pending = [] }) → (actor : ℕ) → AtActor s b results run.tallies actor
at_actor s old b results tally run nobody actor =
    let At : ℕ → Type 0 = λ n. AtActor s b results run.tallies n in
    elim (cases_lt actor s.geometry.cpus) [
      | inl lt ↦ cpu_at s old b results tally run actor lt
      | inr past ↦ elim (cases_eq actor s.geometry.cpus) [
        | inl is ↦ subst At (sym is) (migrator_at s old b results tally run)
        | inr other ↦ elim (cases_eq actor (s.geometry.cpus + 1)) [
          | inl is ↦ subst At (sym is) (reclaimer_at s old b results tally run)
          | inr beyond ↦ (
              let far : s.geometry.cpus + 2 ≤ actor = omega (arith, past, other, beyond) in
              nobody_at s b results run.tallies actor far (nobody actor (λ there. omega (arith, there, far))))
        ]
      ]
    ]

-- The run that threads made of a script.
use Rattle.std.proofs.Common.{◌≡◌, ℕ, ◌+◌, ◌<◌, ◌≤◌, List, [], length, map, get_or, inl, inr, refl, sym, ap, subst, ◌∙◌, arith}
use Rattle.std.proofs.lemmas.Bool.{cases_lt}
use Rattle.std.specs.List.{range_with_len}
use Rattle.std.proofs.lemmas.List.{get_or_past}
use Rattle.std.proofs.lemmas.List.FromFn.{get_or-map-range_with_len, length-map-range_with_len}
use Rattle.nm_base.specs.Geometry.{Geometry, frame_count}
use Rattle.nm_action.specs.Own.{Own}
use Rattle.nm_action.specs.declared.action.Event.{Event}
use Rattle.nm_action.specs.declared.tally.Tally.{Tally}
use Rattle.nm_action.specs.declared.turn.Lane.{Lane}
use Rattle.nm_action.specs.declared.turn.Lane.TheVariants.{Candidates, Pending}
use Rattle.nm_view.specs.Opening.{IsActor}
use Rattle.nm_core.specs.EndWords.{EndWords, HasEndRoom, IsEndOf}
use Rattle.nm_core.specs.Runs.{IsRun, state_after}
use Rattle.nm_core.specs.State.{actor_count}
use Rattle.nm_actor.specs.Boards.{BoardState}
use Rattle.nm_actor.specs.Turns.{Turns, own_list}
use Rattle.nm_arena.specs.Faces.{ArenaFace, SeatFace}
use Rattle.nm_arena.specs.Ends.{IsEndOfRun, own_lists}
use Rattle.nm_arena_chair.specs.Names.{BoardName}
use Rattle.nm_arena_board.specs.BoardFaces.{told_own}
use Rattle.nm_queue.specs.Passes.{PassState, QueueState, IsWholeHistory}
use Rattle.nm_runs.proofs.EachRun.{lawful_run}
use Rattle.nm_script.specs.Plain.{Script}
use Rattle.nm_script.specs.Script.{IsScript}
use Rattle.nm_report.specs.declared.line_result.LineResult.{LineResult}
use Rattle.nm_report.specs.Ends.{NamesInRange}
use Rattle.nm_report.specs.Texts.{AllFit, IsPrintable}
use Rattle.nm_report.proofs.Pieces.{AllFit-made}
use Rattle.nm_crew.proofs.Ends.{room-of, names-of}
use Rattle.nm_journal_text.specs.Journals.{program_of, results_at}
use Rattle.nm_thread_facts.specs.ThreadRuns.{ThreadRun, IsThreadRun, thread_report}
use Rattle.nm_thread_settled.specs.Emptied.{IsEmptiedLane}
use Rattle.nm_arena_run.specs.Machines.{IsLeftByRun}
use Rattle.nm_arena_run.proofs.AllTurns.{AtActor, at_actor}
use Rattle.nm_arena_run.proofs.LanesLeft.{lane_emptied}

-- ---- the merge

-- the own list that the first seat has of an actor is that of its turns
seat_own : (s : Script) (lists : List Own) (many : ℕ) (b : BoardState BoardName) (results : List (List LineResult)) (tallies : List Tally) (actor : ℕ) → many ≡ s.geometry.cpus + 2
    → lists ≡ map (λ (a : ℕ). told_own (b.seats a)) (range_with_len 0 many) → (h : AtActor s b results tallies actor) → get_or lists actor [] ≡ own_list h.turns
seat_own s lists many b results tallies actor as_many told h =
    let own : ℕ → Own = λ (a : ℕ). told_own (b.seats a) in
    ap (λ (l : List Own). get_or l actor []) told ∙ elim (cases_lt actor (s.geometry.cpus + 2)) [
      | inl there ↦ get_or-map-range_with_len own 0 many actor actor [] (omega (arith, there, as_many)) (omega (arith)) ∙ ap told_own (h.seat there)
      | inr past ↦ get_or_past (map own (range_with_len 0 many)) actor [] (omega (arith, past, as_many, length-map-range_with_len own 0 many)) ∙ sym (ap own_list (h.nobody (λ there. omega (arith, there, past))))
    ]

-- ---- the report

fits_program : (s : Script) (results : List (List LineResult)) (cpu n : ℕ) → length results ≡ n → (cpu < n → AllFit (program_of s cpu) (results_at results cpu)) → AllFit (program_of s cpu) (results_at results cpu)
fits_program s results cpu n many fits = elim (cases_lt cpu n) [
  | inl lt ↦ fits lt
  | inr past ↦ (
      let Fits : List LineResult → Type 0 = λ r. AllFit (program_of s cpu) r in
      let none : results_at results cpu ≡ [] = get_or_past results cpu [] (omega (arith, past, many)) in
      subst Fits (sym none) tt)
]

printable_run : (s : Script) (run : ThreadRun) → IsScript s → length run.results ≡ s.geometry.cpus → ((cpu : ℕ) → cpu < s.geometry.cpus → AllFit (program_of s cpu) (results_at run.results cpu))
    → IsRun s.geometry run.events → IsEndOf (state_after s.geometry run.events) run.end → IsPrintable (thread_report s run)
printable_run s run is many fits made ends =
    let lawful = lawful_run s.geometry run.events is.geometry made in
    let Room : Geometry → Type 0 = λ g. HasEndRoom g run.end in
    let Names : Geometry → Type 0 = λ g. NamesInRange g run.end in
    let Few : Geometry → Type 0 = λ g. frame_count g ≤ 4096 in
    record {
      programs = is.programs;
      results = many;
      fits = λ cpu. fits_program s run.results cpu s.geometry.cpus many (fits cpu);
      room = subst Room lawful.machine (room-of (state_after s.geometry run.events) run.end lawful.kept ends);
      names = subst Names lawful.machine (names-of (state_after s.geometry run.events) run.end lawful.kept ends (subst Few (sym lawful.machine) is.geometry.ranges.1.3));
    }

-- ---- the run

past_all : (g : Geometry) (actor : ℕ) → ¬ IsActor g actor → g.cpus + 2 ≤ actor
past_all g actor not = elim (cases_lt actor (g.cpus + 2)) [
  | inl there ↦ absurd (not there)
  | inr past ↦ past
]

pub thread_run_made : (s : Script) (arena : ArenaFace) (candidates pending : QueueState) (results : List (List LineResult)) (tally : Tally) (seat : SeatFace) (candidate_pass pending_pass : PassState) (end : EndWords)
    → IsScript s → IsLeftByRun s arena candidates pending results tally seat candidate_pass pending_pass
    → IsWholeHistory candidate_pass.known → IsWholeHistory pending_pass.known → IsEndOfRun arena.geometry seat end
    → (events : List Event) × IsThreadRun s (record { events = events; results = results; end = end; tally = tally })
thread_run_made s arena candidates pending results tally seat candidate_pass pending_pass end is h whole whole' closed =
    let g = s.geometry in
    let run = h.run in
    let events = closed.run in
    let empty : (actor : ℕ) → ¬ IsActor g actor → h.board.lanes actor ≡ record { candidates = []; pending = [] } = λ actor not. run.nobody actor (omega (arith, past_all g actor not)) ∙ h.new actor in
    let all : (actor : ℕ) → AtActor s h.board results run.tallies actor = at_actor s h.old h.board results tally run empty in
    let turns : ℕ → Turns = λ actor. (all actor).turns in
    let Made : Geometry → Type 0 = λ k. IsRun k events in
    let Ends : Geometry → Type 0 = λ k. IsEndOf (state_after k events) end in
    let made : IsRun g events = subst Made h.machine closed.is_run in
    let ends : IsEndOf (state_after g events) end = subst Ends h.machine closed.words in
    let many : actor_count arena.geometry ≡ g.cpus + 2 = ap (λ (k : Geometry). actor_count k) h.machine in
    let lanes = λ (actor : ℕ). (all actor).lanes in
    let nobody : (actor : ℕ) → ¬ IsActor h.board.geometry actor → h.board.lanes actor ≡ record { candidates = []; pending = [] } =
    subst (λ (k : Geometry). (actor : ℕ) → ¬ IsActor k actor → h.board.lanes actor ≡ record { candidates = []; pending = [] }) (sym h.told) empty in
    let given : ThreadRun = record { events = events; results = results; end = end; tally = tally } in (
      events,
      record {
        turns = turns;
        tallies = run.tallies;
        is_run = made;
        merge = λ actor. closed.merge actor ∙ seat_own s (own_lists seat.seats) (actor_count arena.geometry) h.board results run.tallies actor many h.own (all actor);
        nobody = λ actor not. (all actor).nobody not;
        lanes = λ (lane : Lane). elim lane as (λ l. IsEmptiedLane l turns) [
          | Candidates ↦ lane_emptied Candidates h.board _ turns (h.candidate_moves whole) (run.emptied Candidates) lanes nobody
          | Pending ↦ lane_emptied Pending h.board _ turns (h.pending_moves whole') (run.emptied Pending) lanes nobody
        ];
        actors = run.actors;
        cpus = λ cpu lt. (all cpu).cpu lt;
        migrator = (all g.cpus).migrator refl;
        reclaimer = (all (g.cpus + 1)).reclaimer refl;
        tally = run.counted;
        ends = ends;
        printable = printable_run s given is run.many (λ cpu lt. AllFit-made cpu (program_of s cpu) (results_at results cpu) _ ((all cpu).cpu lt).follows.pieces) made ends;
      },
    )

-- The facts of a run of a schedule.
use Rattle.std.proofs.Common.{◌≡◌, ◌<◌, ◌≤◌, ◌^◌, ℕ, List, [], ◌∷◌, ◌++◌, length, sym, ap, subst, ◌∙◌, append_assoc, arith}
use Rattle.std.proofs.lemmas.List.{append-nil, length-map}
use Rattle.nm_base.specs.Geometry.{Geometry, IsGeometry, frame_count}
use Rattle.nm_action.specs.declared.action.Event.{Event}
use Rattle.nm_core.specs.State.{State}
use Rattle.nm_core.specs.Runs.{IsRun, IsRunFrom, after_event, state_after}
use Rattle.nm_core.specs.State.{start}
use Rattle.nm_core.specs.EndWords.{EndWords, HasEndRoom, IsEndOf}
use Rattle.nm_script.specs.declared.schedule.Schedule.{Schedule}
use Rattle.nm_script.specs.declared.schedule.Schedule.TheVariants.{Serial, Shuffle, Plan}
use Rattle.nm_script.specs.Script.{IsSchedule}
use Rattle.nm_schedule.specs.declared.turn.Played.{Played}
use Rattle.nm_schedule.specs.declared.turn.SimTurn.{SimTurn}
use Rattle.nm_schedule.specs.Picks.{most_turns}
use Rattle.nm_schedule.specs.Played.{sim_turn, events_of, order_of}
use Rattle.nm_schedule.specs.Scheduled.{AreTurns, IsScheduled}
use Rattle.nm_schedule.proofs.Snoc.{length-snoc}
use Rattle.nm_report.specs.Ends.{NamesInRange}
use Rattle.nm_report.proofs.Counts.{counts-tier}
use Rattle.nm_runs.proofs.EachRun.{lawful_run}
use Rattle.nm_laws.specs.Facts.{HoldsOfRun}
use Rattle.nm_laws.proofs.Holding.{facts_in_run}
use Rattle.nm_laws.proofs.OneRole.{counts_in_run}
use Rattle.nm_crew.specs.Simulated.{IsTierCounted, IsSimulated}
use Rattle.nm_crew.proofs.Ends.{room-of, names-of}

-- ---- how many turns there are

-- the turns of a schedule are no more than its most
few-from : (g : Geometry) (schedule : Schedule) (before played : List Played) → AreTurns g schedule before played → length before ≤ most_turns schedule → length (before ++ played) ≤ most_turns schedule
few-from g schedule before [] h few =
    let P : List Played → Type 0 = λ l. length l ≤ most_turns schedule in
    subst P (sym (append-nil before)) few
few-from g schedule before (p ∷ played) h few =
    let P : List Played → Type 0 = λ l. length l ≤ most_turns schedule in
    let early : length before < most_turns schedule = h.0.early in
    subst P (append_assoc before (p ∷ []) played) (few-from g schedule (before ++ p ∷ []) played h.1 (omega (arith, early, length-snoc before p)))

few-turns : (cpus : ℕ) (schedule : Schedule) → IsSchedule cpus schedule → most_turns schedule ≤ 8000000
few-turns cpus (Serial turns) is = is
few-turns cpus (Shuffle number turns) is = is.1
few-turns cpus (Plan turns items) is = is.0

pub few-played : (g : Geometry) (schedule : Schedule) (played : List Played) → IsSchedule g.cpus schedule → IsScheduled g schedule played → length played ≤ 8000000
few-played g schedule played is h =
    let few : length played ≤ most_turns schedule = few-from g schedule [] played h.turns (omega arith) in
    omega (arith, few, few-turns g.cpus schedule is)

-- ---- fronts of a run

run-front : (s : State) (front rest : List Event) → IsRunFrom s (front ++ rest) → IsRunFrom s front
run-front s [] rest run = tt
run-front s (e ∷ front) rest run = (run.0, run-front (after_event s e) front rest run.1)

pub facts-at : (g : Geometry) (events : List Event) → IsGeometry g → IsRun g events → (front rest : List Event) → events ≡ front ++ rest → HoldsOfRun g front
facts-at g events is run front rest split = facts_in_run g front is (run-front (start g) front rest (subst (IsRun g) split run))

-- ---- the tiers

pub tier-at : (g : Geometry) (events : List Event) (end : EndWords) (tier : ℕ) → IsGeometry g → IsRun g events → (state_after g events).geometry ≡ g → IsEndOf (state_after g events) end → HasEndRoom g end → tier < length g.tiers → IsTierCounted (state_after g events) end tier
tier-at g events end tier is run machine ends room lt =
    let Room : Geometry → Type 0 = λ k. HasEndRoom k end in
    let There : Geometry → Type 0 = λ k. tier < length k.tiers in
    record {
      tests = counts_in_run g events end tier is run ends lt;
      sum = counts-tier (state_after g events).geometry end tier (subst Room (sym machine) room) (subst There (sym machine) lt);
    }

-- ---- the run

pub simulated-of : (g : Geometry) (schedule : Schedule) (state : State) (events : List Event) (order : List SimTurn) (turns : ℕ) (end : EndWords) (played : List Played)
    → IsGeometry g → IsScheduled g schedule played → events ≡ events_of played → order ≡ order_of played → IsRun g events → state ≡ state_after g events → turns ≡ length order → IsEndOf state end
    → IsSimulated g schedule events order turns end played
simulated-of g schedule state events order turns end played is scheduled listed ordered run reached many ends =
    let s : State = state_after g events in
    let lawful = lawful_run g events is run in
    let End : State → Type 0 = λ t. IsEndOf t end in
    let Room : Geometry → Type 0 = λ k. HasEndRoom k end in
    let Names : Geometry → Type 0 = λ k. NamesInRange k end in
    let Few : Geometry → Type 0 = λ k. frame_count k ≤ 4096 in
    let at-end : IsEndOf s end = subst End reached ends in
    let room : HasEndRoom g end = subst Room lawful.machine (room-of s end lawful.kept at-end) in
    record {
      scheduled = scheduled;
      listed = listed;
      ordered = ordered;
      many = many ∙ ap length ordered ∙ length-map played sim_turn;
      run = run;
      facts = facts-at g events is run;
      ends = at-end;
      room = room;
      names = subst Names lawful.machine (names-of s end lawful.kept at-end (subst Few (sym lawful.machine) is.ranges.1.3));
      tiers = λ tier lt. tier-at g events end tier is run lawful.machine at-end room lt;
    }

-- the machine of a state that was reached
pub machine-of : (g : Geometry) (events : List Event) (state : State) → IsGeometry g → IsRun g events → state ≡ state_after g events → state.geometry ≡ g
machine-of g events state is run reached = ap (λ s. s.geometry) reached ∙ (lawful_run g events is run).machine

-- a list of turns has fewer than 2^32
pub few-order : (g : Geometry) (schedule : Schedule) (played : List Played) (order : List SimTurn) → IsSchedule g.cpus schedule → IsScheduled g schedule played → order ≡ order_of played → length order < 2 ^ 32
few-order g schedule played order is scheduled ordered =
    let few = few-played g schedule played is scheduled in
    omega (arith, few, ap length ordered ∙ length-map played sim_turn)

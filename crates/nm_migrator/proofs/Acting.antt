-- The actor that follows the migrator's routine.
use Rattle.std.proofs.Common.{◌≡◌, ℕ, zero, suc, ◌+◌, true, false, [], ◌∷◌, ◌++◌, None, Option, Some, refl, sym, ap, subst, ◌∙◌, append_assoc, append-nil, arith}
use Rattle.nm_base.specs.Geometry.{Geometry}
use Rattle.nm_action.specs.declared.tally.Tally.{Tally}
use Rattle.nm_action.specs.declared.turn.Turn.{Turn}
use Rattle.nm_action.specs.declared.turn.Turn.TheVariants as turn
use Rattle.nm_action.specs.declared.turn.Heard.{Heard}
use Rattle.nm_actor.specs.Turns.{Turns, turns_view}
use Rattle.nm_actor.specs.Actors.{answered, gave_end}
use Rattle.nm_worker.specs.Notes.{noted_turns}
use Rattle.nm_routine_part.specs.Parts.{HasMore, IsEmptyAtEnd, IsRoutinePart}
use Rattle.nm_routine_part.proofs.Parts.{part-of-routine, first-more, part-at-first, empty-at-end}
use Rattle.nm_migrator_work.specs.Works.{migrator_work_made, IsNewMigratorWork, MayMigratorWork, IsMigratorWork, AwaitsMigratorWork}
use Rattle.nm_migrator.specs.declared.actor.MigratorActor.{MigratorActor}
use Rattle.nm_migrator_work.specs.Ends.{migrator_counts}
use Rattle.nm_migrator.specs.Migrating.{MigratesFrom, IsMigratingBy}
use Rattle.nm_migrator.specs.Stages.{migrator_kept, migrating_left, IsMigratingAt}
use Rattle.nm_migrator.specs.Parts.{MigratorWorker, migrator_made, HasMadeWhole, IsMigratorPartBy, AgreesWorker, worker_counted, IsNewMigratorWorker, IsNewMigrator, AgreesMigrator}
use Rattle.nm_worker.proofs.Starting.{acts-first}
use Rattle.nm_migrator.proofs.Ending.{some-from, no-from, no-migrating}
use Rattle.nm_migrator.proofs.Again.{migrates-on}

part-by : (w : MigratorWorker) (turns : Turns) (given : Turn) → AgreesWorker w turns (Some given) → IsRoutinePart (IsMigratingBy w.routine.resumed.number w.routine.geometry.now w.routine.retry) turns (gave_end (Some given)) (worker_counted w)
part-by w turns given h =
    part-of-routine migrator_work_made IsNewMigratorWork MayMigratorWork IsMigratorWork AwaitsMigratorWork migrator_counts (IsMigratingAt w.routine) (migrating_left w.routine) (migrator_kept w.routine) (IsMigratingBy w.routine.resumed.number w.routine.geometry.now w.routine.retry) w.routine.geometry.now w.routine.geometry.now.cpus w.action w.task w.events w.ends w.spent turns given h

empty-by : (w : MigratorWorker) (turns : Turns) (last : Option Turn) → AgreesWorker w turns last → IsEmptyAtEnd (gave_end last) (turns_view w.routine.geometry.now w.routine.geometry.now.cpus turns)
empty-by w turns last h =
    empty-at-end migrator_work_made IsNewMigratorWork MayMigratorWork IsMigratorWork AwaitsMigratorWork migrator_counts (IsMigratingAt w.routine) (migrating_left w.routine) (migrator_kept w.routine) (IsMigratingBy w.routine.resumed.number w.routine.geometry.now w.routine.retry) w.routine.geometry.now w.routine.geometry.now.cpus w.action w.task w.events w.ends w.spent turns last (λ view known. known.resting.empty) h

-- what was made stays made where a turn is answered
past-on : (resumed : ℕ) (g : Geometry) (retry : Option ℕ) (turns : Turns) (last : Option Turn) (heard : Heard) → HasMadeWhole resumed g retry turns → HasMadeWhole resumed g retry (answered last heard turns)
past-on zero g retry turns last heard h = tt
past-on (suc n) g retry turns None heard h = h
past-on (suc n) g retry turns (Some given) heard h = record {
  before = h.before;
  kept = h.kept;
  shown = h.shown;
  later = h.later ++ (given, heard) ∷ [];
  is = ap (λ (l : Turns). l ++ (given, heard) ∷ []) h.is ∙ append_assoc (noted_turns h.before) h.later ((given, heard) ∷ []);
}

-- the actor agrees with what its worker agrees with, where it has given a turn after those with which it agreed
pub agrees-by : (old a : MigratorActor) (turns : Turns) (last : Option Turn) (heard : Heard) (given : Turn) → migrator_made a ≡ migrator_made old
    → AgreesMigrator old turns last → AgreesWorker a.worker (answered last heard turns) (Some given) → AgreesMigrator a (answered last heard turns) (Some given)
agrees-by old a turns last heard given same h agreed =
    let all = answered last heard turns in
    let made = migrator_made old in
    let P : Geometry × Option ℕ × ℕ → Type 0 = λ m. HasMadeWhole m.2 m.0 m.1 all in
    record {
      worker = agreed;
      part = record { part = part-by a.worker all given agreed; past = subst P (sym same) (past-on made.2 made.0 made.1 turns last heard h.part.past) };
      empty = empty-by a.worker all (Some given) agreed;
    }

opens-by : (w : MigratorWorker) → IsNewMigratorWorker w → AgreesWorker w [] None
opens-by w new = record { notes = []; is = refl; next = new.can; events = new.events; ends = new.ends; pages = new.pages; drawn = new.drawn; few = new.few; at = new.next }

-- it is new where its worker is, and was not resumed
pub new-by : (a : MigratorActor) → (migrator_made a).2 ≡ 0 → IsNewMigratorWorker a.worker → IsNewMigrator a
new-by a none new =
    let w = a.worker in
    let P : ℕ → Type 0 = λ n. HasMadeWhole n w.routine.geometry.now w.routine.retry [] in
    record {
      worker = new;
      part = record { past = subst P (sym none) tt; part = part-at-first migrator_work_made IsNewMigratorWork MayMigratorWork IsMigratorWork AwaitsMigratorWork migrator_counts (IsMigratingAt w.routine) (migrating_left w.routine) (migrator_kept w.routine) (IsMigratingBy w.routine.resumed.number w.routine.geometry.now w.routine.retry) w.routine.geometry.now w.routine.geometry.now.cpus w.action w.task w.events w.ends w.spent new.can (no-migrating w.routine.resumed.number w.routine.geometry.now w.routine.retry) (opens-by w new) };
    }

-- what was its part when it ended goes on where it is resumed
part-on : (made : Geometry × Option ℕ × ℕ) (turns : Turns) (tally : Tally) → IsMigratorPartBy made turns true tally → IsMigratorPartBy (record { 0 = made.0; 1 = made.1; 2 = suc made.2 }) turns false tally
part-on made turns tally ended =
    let h = ended.part in
    let kept = h.carried.outcome in
    let some = some-from made.0 made.1 kept in
    let more : HasMore (MigratesFrom made.0 made.1 kept) [] = first-more (MigratesFrom made.0 made.1 kept) some.rest some.outcome some.shown (no-from made.0 made.1 kept) in
    record {
      part = record {
        notes = h.notes;
        is = h.is;
        carried = record {
          next = more.next;
          rest = more.rest;
          outcome = more.outcome;
          shown = migrates-on made.2 made.0 made.1 h.notes kept h.carried.shown (more.next ∷ more.rest) more.outcome more.shown;
        };
        counted = h.counted;
      };
      past = record { before = h.notes; kept = kept; shown = h.carried.shown; later = []; is = h.is ∙ sym (append-nil (noted_turns h.notes)) };
    }

pub resumed-by : (a b : MigratorActor) (turns : Turns) → migrator_made b ≡ record { 0 = (migrator_made a).0; 1 = (migrator_made a).1; 2 = (migrator_made a).2 + 1 } → worker_counted b.worker ≡ worker_counted a.worker
    → AgreesMigrator a turns (Some turn.End) → AgreesWorker b.worker turns None → AgreesMigrator b turns None
resumed-by a b turns same counts h agreed =
    let M : Geometry × Option ℕ × ℕ → Type 0 = λ m. IsMigratorPartBy m turns false (worker_counted a.worker) in
    let T : Tally → Type 0 = λ t. IsMigratorPartBy (migrator_made b) turns false t in
    let N : ℕ → Type 0 = λ n. M (record { 0 = (migrator_made a).0; 1 = (migrator_made a).1; 2 = n }) in
    let one : suc (migrator_made a).2 ≡ (migrator_made a).2 + 1 = omega arith in
    record { worker = agreed; part = subst T (sym counts) (subst M (sym same) (subst N one (part-on (migrator_made a) turns (worker_counted a.worker) h.part))); empty = tt }

-- it gives a turn before it ends
pub migrator-acts : (a : MigratorActor) → ¬ AgreesMigrator a [] (Some turn.End)
migrator-acts a h =
    let w = a.worker in
    acts-first migrator_work_made IsNewMigratorWork MayMigratorWork IsMigratorWork AwaitsMigratorWork migrator_counts (IsMigratingAt w.routine) (migrating_left w.routine) (migrator_kept w.routine) (IsMigratingBy w.routine.resumed.number w.routine.geometry.now w.routine.retry) w.routine.geometry.now w.routine.geometry.now.cpus w.action w.task w.events w.ends w.spent
    (no-migrating w.routine.resumed.number w.routine.geometry.now w.routine.retry) h.worker

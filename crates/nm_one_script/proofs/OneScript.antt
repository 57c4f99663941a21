-- Two runs of one script are the same.
use Rattle.std.proofs.Common.{◌≡◌, Bool}
use Rattle.nm_action.specs.declared.tally.Tally.{Tally}
use Rattle.nm_actor.specs.Turns.{Turns}
use Rattle.nm_script.specs.Plain.{Script}
use Rattle.nm_routine_part.specs.Parts.{IsRoutinePart}
use Rattle.nm_migrator.specs.Migrating.{IsMigrating}
use Rattle.nm_kswap.specs.Reclaiming.{IsReclaiming}
use Rattle.nm_sched.specs.Plain.{SimRun}
use Rattle.nm_sched.specs.Parts.{IsMigratorRun, IsReclaimerRun}
use Rattle.nm_sched.specs.Runs.{IsRunOfScript}
use Rattle.nm_reclaimer_choice.proofs.Reclaiming.{reclaiming-one}
use Rattle.nm_migrator_choice.proofs.Migrating.{migrating-one}
use Rattle.nm_one_sim.specs.OnePart.{LeavesOnePart}
use Rattle.nm_one_sim.proofs.OneSim.{one-sim}
use Rattle.nm_one_sim.proofs.Routines.{routine-leaves-one-part, one-part-of}

migrator-part : (script : Script) → LeavesOnePart (IsMigratorRun script.geometry script.retry)
migrator-part script =
    let whole = IsMigrating script.geometry script.retry in
    one-part-of (IsMigratorRun script.geometry script.retry) (IsRoutinePart whole) (λ turns ended tally h. h.part) (routine-leaves-one-part whole (migrating-one script.geometry script.retry))

reclaimer-part : (script : Script) → LeavesOnePart (IsReclaimerRun script.geometry)
reclaimer-part script =
    let whole = IsReclaiming script.geometry in
    one-part-of (IsReclaimerRun script.geometry) (IsRoutinePart whole) (λ turns ended tally h. h.part) (routine-leaves-one-part whole (reclaiming-one script.geometry))

pub one-script : (script : Script) (run other : SimRun) → IsRunOfScript script run → IsRunOfScript script other → run ≡ other
one-script script run other h k =
    one-sim (IsMigratorRun script.geometry script.retry) (IsReclaimerRun script.geometry) script run other (migrator-part script) (reclaimer-part script) h k

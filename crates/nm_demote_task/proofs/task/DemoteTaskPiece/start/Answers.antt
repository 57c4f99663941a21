use Rattle.std.proofs.Common.{[], refl}
use Rattle.nm_demote_task.specs.Tasks.{demote_task_made}
use Rattle.nm_demote_task.proofs.Tasks.{new-run, may-run, run-asked, counts-kept}
use Rattle.nm_demote_task.proofs.task.DemoteTaskPiece.start.Goals as goal

pub returns-clause-step : goal.returns-clause-step
returns-clause-step c = λ g v may.
    let made = demote_task_made c.args.self.now in
    let n = new-run _ _ made c.args.self.now.run c.in-Some.run' c.in-Some.is c.requires.new.run in
    run-asked _ _ made _ _ _ g v [] c.start-action.result refl refl n.for c.start-action.ensures.made refl (counts-kept c.args.self.now _ [] refl refl c.requires.new.counts) (c.start-action.ensures.step g v (may-run made _ g v n.for may))

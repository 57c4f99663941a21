use Rattle.std.proofs.Common.{refl}
use Rattle.nm_reclaim.specs.Tasks.{task_made}
use Rattle.nm_reclaim.proofs.Tasks.{nothing-left, nothing-done, nothing-freed, new-sweep, task-first}
use Rattle.nm_reclaim.proofs.Views.{forgets-none}
use Rattle.nm_reclaim.proofs.task.ReclaimTaskPart.first.Goals as goal

pub returns-in-Nothing-clause-step : goal.returns-in-Nothing-clause-step
returns-in-Nothing-clause-step c = λ g v may. record {
  shown = nothing-done g c.args.self.now.asked (nothing-left (task_made c.args.self.now) c.args.self.now.work g v c.in-Nothing.is c.requires.new may);
  left = record { is = refl; owned = forgets-none c.args.self.now.asked.skip v.owned };
  over = nothing-freed c.args.self.now.work c.in-Nothing.is;
}

pub returns-in-Visits-clause-step : goal.returns-in-Visits-clause-step
returns-in-Visits-clause-step c = λ g v may.
    task-first (task_made c.args.self.now) _ _ _ g v c.start.result may (new-sweep (task_made c.args.self.now) c.args.self.now.work c.in-Visits.work c.in-Visits.is c.requires.new) c.start.ensures.made c.start.ensures.step

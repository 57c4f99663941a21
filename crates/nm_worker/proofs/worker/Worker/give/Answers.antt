use Rattle.nm_worker.proofs.Giving.{start-given, put-given, take-given, stop-given}
use Rattle.nm_worker.proofs.worker.Worker.give.Goals as goal

pub returns-in-Run-clause-given : goal.returns-in-Run-clause-given
returns-in-Run-clause-given g c =
    start-given g.P.Part.made g.P.Part.is_new g.P.Part.may_begin g.P.Part.shape g.P.Part.awaits g.R.Routine.counts (g.R.Routine.knows c.args.self.now.routine) (g.R.Routine.left c.args.self.now.routine) (g.R.Routine.stop c.args.self.now.routine) (g.R.Routine.shape (g.R.Routine.made c.args.self.now.routine)) (g.R.Routine.geometry (g.R.Routine.made c.args.self.now.routine)) (g.R.Routine.number (g.R.Routine.made c.args.self.now.routine)) c.args.self.now.task _ c.start-action.new.self c.start-action.result
    c.in-Run.is c.start-action.ensures.made c.start-action.ensures.step

pub returns-in-Put-clause-given : goal.returns-in-Put-clause-given
returns-in-Put-clause-given g c =
    put-given g.P.Part.made g.P.Part.is_new g.P.Part.may_begin g.P.Part.shape g.P.Part.awaits g.R.Routine.counts (g.R.Routine.knows c.args.self.now.routine) (g.R.Routine.left c.args.self.now.routine) (g.R.Routine.stop c.args.self.now.routine) (g.R.Routine.shape (g.R.Routine.made c.args.self.now.routine)) (g.R.Routine.geometry (g.R.Routine.made c.args.self.now.routine)) (g.R.Routine.number (g.R.Routine.made c.args.self.now.routine)) c.args.self.now.action c.args.self.now.task _ _ c.in-Put.is

pub returns-in-Take-clause-given : goal.returns-in-Take-clause-given
returns-in-Take-clause-given g c =
    take-given g.P.Part.made g.P.Part.is_new g.P.Part.may_begin g.P.Part.shape g.P.Part.awaits g.R.Routine.counts (g.R.Routine.knows c.args.self.now.routine) (g.R.Routine.left c.args.self.now.routine) (g.R.Routine.stop c.args.self.now.routine) (g.R.Routine.shape (g.R.Routine.made c.args.self.now.routine)) (g.R.Routine.geometry (g.R.Routine.made c.args.self.now.routine)) (g.R.Routine.number (g.R.Routine.made c.args.self.now.routine)) c.args.self.now.action c.args.self.now.task _ c.in-Take.is

pub returns-in-Stop-clause-given : goal.returns-in-Stop-clause-given
returns-in-Stop-clause-given g c =
    stop-given g.P.Part.made g.P.Part.is_new g.P.Part.may_begin g.P.Part.shape g.P.Part.awaits g.R.Routine.counts (g.R.Routine.knows c.args.self.now.routine) (g.R.Routine.left c.args.self.now.routine) (g.R.Routine.stop c.args.self.now.routine) (g.R.Routine.shape (g.R.Routine.made c.args.self.now.routine)) (g.R.Routine.geometry (g.R.Routine.made c.args.self.now.routine)) (g.R.Routine.number (g.R.Routine.made c.args.self.now.routine)) c.args.self.now.action c.args.self.now.task c.in-Stop.is

use Rattle.nm_worker.proofs.BeginningAgain.{has-stopped, resumed-agrees}
use Rattle.nm_worker.proofs.worker.Worker.resume.Goals as goal

pub resume-requires-clause-stopped : goal.resume-requires-clause-stopped
resume-requires-clause-stopped g c =
    has-stopped g.P.Part.made g.P.Part.is_new g.P.Part.may_begin g.P.Part.shape g.P.Part.awaits g.R.Routine.counts (g.R.Routine.knows c.args.self.now.routine) (g.R.Routine.left c.args.self.now.routine) (g.R.Routine.stop c.args.self.now.routine) (g.R.Routine.shape (g.R.Routine.made c.args.self.now.routine)) (g.R.Routine.geometry (g.R.Routine.made c.args.self.now.routine)) (g.R.Routine.number (g.R.Routine.made c.args.self.now.routine)) c.args.self.now.action c.args.self.now.task c.args.self.now.events c.args.self.now.ends c.args.self.now.spent c.requires.ended

pub returns-clause-agrees : goal.returns-clause-agrees
returns-clause-agrees g c =
    resumed-agrees g.P.Part.made g.P.Part.is_new g.P.Part.may_begin g.P.Part.shape g.P.Part.awaits g.R.Routine.counts g.R.Routine.knows g.R.Routine.left g.R.Routine.stop g.R.Routine.made g.R.Routine.shape g.R.Routine.geometry g.R.Routine.number c.args.self.now.routine c.resume.new.self c.args.self.now.action c.args.self.now.task c.resume.result c.args.self.now.events c.args.self.now.ends c.args.self.now.spent
    c.resume.ensures.geometry c.resume.ensures.number c.resume.ensures.next

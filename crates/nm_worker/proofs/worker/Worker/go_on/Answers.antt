use Rattle.nm_worker.proofs.Going.{go-on-given}
use Rattle.nm_worker.proofs.worker.Worker.go_on.Goals as goal

pub returns-clause-given : goal.returns-clause-given
returns-clause-given g c =
    go-on-given g.P.Part.made g.P.Part.is_new g.P.Part.may_begin g.P.Part.shape g.P.Part.awaits g.P.Part.leaves g.P.Part.ended g.R.Routine.counts g.R.Routine.knows g.R.Routine.left g.R.Routine.stop g.R.Routine.made g.R.Routine.shape g.R.Routine.geometry g.R.Routine.number c.args.self.now.routine c.go_on.new.self c.give.new.self.routine
    c.args.self.now.task c.go_on.result c.give.new.self.task c.give.new.self.action c.give.result c.args.end c.args.self.now.spent
    c.go_on.ensures.made c.give.ensures.routine c.go_on.ensures.next c.give.ensures.given

use Rattle.nm_compose.proofs.Running.{running-first}
use Rattle.nm_compose.proofs.composite.CompositePiece.start.Goals as goal

pub returns-clause-step : goal.returns-clause-step
returns-clause-step g c = λ h view may. let run = c.requires.new.run h view may in
    running-first g.P.Part.may_begin g.P.Part.shape (g.P.Part.awaits c.start.new.self) (g.L.Plan.knows c.args.self.now.plan) (g.L.Plan.left c.args.self.now.plan) (g.L.Plan.shape (g.L.Plan.made c.args.self.now.plan)) (g.P.Part.made c.args.self.now.piece) (g.P.Part.made c.start.new.self) h view c.start.result
    c.start.ensures.made run (c.start.ensures.step h view run.begin)

use Rattle.nm_compose.proofs.Running.{running-heard, running-more, running-over, running-ended, running-next}
use Rattle.nm_compose.proofs.composite.CompositePart.after.Goals as goal

pub after-requires : goal.after-requires
after-requires g c = running-heard g.P.Part.shape (g.P.Part.awaits c.args.self.now.piece) (g.L.Plan.knows c.args.self.now.plan) (g.L.Plan.left c.args.self.now.plan) (g.L.Plan.shape (g.L.Plan.made c.args.self.now.plan)) (g.P.Part.made c.args.self.now.piece) c.args.reply c.requires

pub go_on-requires : goal.go_on-requires
go_on-requires g c =
    let shape = g.L.Plan.shape (g.L.Plan.made c.args.self.now.plan) in
    let h = c.requires in
    running-ended g.P.Part.shape g.P.Part.leaves (g.P.Part.ended c.after.new.self) (g.L.Plan.knows c.args.self.now.plan) (g.L.Plan.left c.args.self.now.plan) shape (g.P.Part.made c.after.new.self) h.geometry h.view _ c.in-Over.end
    (running-over g.P.Part.shape g.P.Part.leaves (g.P.Part.ended c.after.new.self) (g.P.Part.awaits c.args.self.now.piece) (g.P.Part.awaits c.after.new.self) (g.L.Plan.knows c.args.self.now.plan) (g.L.Plan.left c.args.self.now.plan) shape (g.P.Part.made c.args.self.now.piece) (g.P.Part.made c.after.new.self) h.geometry h.view h.own h.action c.args.reply c.in-Over.end c.after.result
    h.awaited h.fits c.after.ensures.made c.in-Over.is c.after.ensures.step)

pub returns-in-Do-clause-step : goal.returns-in-Do-clause-step
returns-in-Do-clause-step g c = λ h v own action a f.
    running-more g.P.Part.shape g.P.Part.leaves (g.P.Part.ended c.after.new.self) (g.P.Part.awaits c.args.self.now.piece) (g.P.Part.awaits c.after.new.self) (g.L.Plan.knows c.args.self.now.plan) (g.L.Plan.left c.args.self.now.plan) (g.L.Plan.shape (g.L.Plan.made c.args.self.now.plan)) (g.P.Part.made c.args.self.now.piece) (g.P.Part.made c.after.new.self) h v own action c.in-Do.action c.args.reply c.after.result
    a f c.after.ensures.made c.in-Do.is c.after.ensures.step

pub returns-in-Over-clause-step : goal.returns-in-Over-clause-step
returns-in-Over-clause-step g c = λ h v own action a f.
    let over = running-over g.P.Part.shape g.P.Part.leaves (g.P.Part.ended c.after.new.self) (g.P.Part.awaits c.args.self.now.piece) (g.P.Part.awaits c.after.new.self) (g.L.Plan.knows c.args.self.now.plan) (g.L.Plan.left c.args.self.now.plan) (g.L.Plan.shape (g.L.Plan.made c.args.self.now.plan)) (g.P.Part.made c.args.self.now.piece) (g.P.Part.made c.after.new.self) h v own action c.args.reply c.in-Over.end c.after.result a f c.after.ensures.made c.in-Over.is c.after.ensures.step in
    running-next g.P.Part.shape (g.P.Part.awaits c.go_on.new.self.piece) (g.L.Plan.knows c.go_on.new.self.plan) (g.L.Plan.left c.go_on.new.self.plan) g.L.Plan.shape g.L.Plan.leaves (λ h own outcome. g.L.Plan.ended c.go_on.new.self.plan h outcome) (g.L.Plan.made c.args.self.now.plan) (g.L.Plan.made c.go_on.new.self.plan) (g.P.Part.made c.go_on.new.self.piece) h v _ c.go_on.result
    c.go_on.ensures.made (c.go_on.ensures.step h v over.now _ over.inner over.known over.shown over.leaving over.over over.due)

use Rattle.nm_event.specs.After.{view_after}
use Rattle.nm_compose.proofs.Running.{running-new}
use Rattle.nm_compose.proofs.composite.Composite.go_on.Goals as goal

pub returns-in-Run-clause-step : goal.returns-in-Run-clause-step
returns-in-Run-clause-step g c = λ h view now own inner known shown leaves over due.
    let next = c.in-Run.ensures.next h view now (view_after h view own) inner known shown leaves over in
    running-new g.P.Part.may_begin g.P.Part.shape (g.P.Part.awaits c.start.new.self) (g.L.Plan.knows c.go_on.new.self) (g.L.Plan.left c.go_on.new.self) (g.L.Plan.shape (g.L.Plan.made c.args.self.now.plan)) (g.L.Plan.left c.args.self.now.plan h c.args.end) (g.P.Part.made c.in-Run.piece) (g.P.Part.made c.start.new.self) h view own c.start.result
    due c.start.ensures.made next.run (c.start.ensures.step h (view_after h view own) next.run.begin)

-- the plan gave it for the view that its last piece left
pub start-requires-clause-begin : goal.start-requires-clause-begin
start-requires-clause-begin g c =
    let h = c.requires in
    let next = c.in-Run.ensures.next h.geometry h.first h.now h.later h.own h.known h.shown h.left h.over in
    record { geometry = h.geometry; view = h.later; allowed = next.run.begin }

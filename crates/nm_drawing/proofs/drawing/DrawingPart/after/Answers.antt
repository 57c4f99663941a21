use Rattle.nm_drawing.proofs.Draws.{drawing-heard, drawing-counts, drawing-more, drawing-over}
use Rattle.nm_drawing.proofs.drawing.DrawingPart.after.Goals as goal

pub count-self-requires : goal.count-self-requires
count-self-requires g c = drawing-counts (g.P.Part.awaits c.args.self.now.piece) c.args.self.now.action c.args.self.now.begun c.args.self.now.spent c.args.reply c.requires

pub after-requires : goal.after-requires
after-requires g c = drawing-heard (g.P.Part.awaits c.args.self.now.piece) c.args.self.now.action c.args.self.now.begun c.args.self.now.spent c.args.reply c.requires

pub returns-in-Do-clause-step : goal.returns-in-Do-clause-step
returns-in-Do-clause-step g c =
    drawing-more (g.P.Part.awaits c.args.self.now.piece) (g.P.Part.awaits c.after.new.self) (g.P.Part.shape (g.P.Part.made c.args.self.now.piece)) (g.P.Part.leaves (g.P.Part.made c.args.self.now.piece)) (g.P.Part.ended c.after.new.self)
    c.args.self.now.action c.args.self.now.begun c.args.self.now.spent c.count-self.result c.args.reply c.after.result c.in-Do.action c.count-self.ensures c.in-Do.is c.after.ensures.step

pub returns-in-Over-clause-step : goal.returns-in-Over-clause-step
returns-in-Over-clause-step g c =
    drawing-over (g.P.Part.awaits c.args.self.now.piece) (g.P.Part.awaits c.after.new.self) (g.P.Part.shape (g.P.Part.made c.args.self.now.piece)) (g.P.Part.leaves (g.P.Part.made c.args.self.now.piece)) (g.P.Part.ended c.after.new.self)
    c.args.self.now.action c.args.self.now.begun c.args.self.now.spent c.count-self.result c.args.reply c.after.result c.in-Over.end c.count-self.ensures c.in-Over.is c.after.ensures.step

use Rattle.nm_drawing.proofs.Draws.{drawing-starts}
use Rattle.nm_drawing.proofs.drawing.DrawingPiece.start.Goals as goal

pub returns-clause-step : goal.returns-clause-step
returns-clause-step g c =
    drawing-starts (g.P.Part.may_begin (g.P.Part.made c.args.self.now.piece)) (g.P.Part.awaits c.start-action.new.self) (g.P.Part.shape (g.P.Part.made c.args.self.now.piece)) (g.P.Part.is_new c.args.self.now.piece)
    c.args.self.now.begun c.args.self.now.spent c.start-action.result c.requires.new c.start-action.ensures.step

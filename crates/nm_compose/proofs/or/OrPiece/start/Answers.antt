use Rattle.nm_compose.proofs.Choosing.{this-asked, other-asked}
use Rattle.nm_compose.proofs.or.OrPiece.start.Goals as goal

pub returns-in-This-clause-step : goal.returns-in-This-clause-step
returns-in-This-clause-step g c = λ h v may.
    let begun = rw c.in-This.is at may in
    rw c.in-This.is (this-asked g.A.Part.awaits g.B.Part.awaits g.A.Part.shape g.B.Part.shape c.start.new.self _ h v _ c.start.result (c.start.ensures.step h v begun))

pub returns-in-Other-clause-step : goal.returns-in-Other-clause-step
returns-in-Other-clause-step g c = λ h v may.
    let begun = rw c.in-Other.is at may in
    rw c.in-Other.is (other-asked g.A.Part.awaits g.B.Part.awaits g.A.Part.shape g.B.Part.shape c.start-in-Other.new.self _ h v _ c.start-in-Other.result (c.start-in-Other.ensures.step h v begun))

use Rattle.nm_compose.proofs.Choosing.{this-given, other-given}
use Rattle.nm_compose.proofs.or.OrPart.first.Goals as goal

pub returns-in-This-clause-step : goal.returns-in-This-clause-step
returns-in-This-clause-step g c = λ h v may.
    let begun = rw c.in-This.is at may in
    rw (c.in-This.is, c.this.ensures) (this-given g.A.Part.awaits g.B.Part.awaits g.A.Part.shape g.B.Part.shape g.A.Part.leaves g.B.Part.leaves g.A.Part.ended g.B.Part.ended c.first.new.self _ h v _ c.first.result (c.first.ensures.step h v begun))

pub returns-in-Other-clause-step : goal.returns-in-Other-clause-step
returns-in-Other-clause-step g c = λ h v may.
    let begun = rw c.in-Other.is at may in
    rw (c.in-Other.is, c.other.ensures) (other-given g.A.Part.awaits g.B.Part.awaits g.A.Part.shape g.B.Part.shape g.A.Part.leaves g.B.Part.leaves g.A.Part.ended g.B.Part.ended c.first-in-Other.new.self _ h v _ c.first-in-Other.result (c.first-in-Other.ensures.step h v begun))

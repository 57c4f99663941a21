use Rattle.nm_compose.proofs.Choosing.{this-given, other-given}
use Rattle.nm_compose.proofs.or.OrPart.after.Goals as goal

pub returns-in-This-clause-step : goal.returns-in-This-clause-step
returns-in-This-clause-step g c = λ h v own action a f.
    let awaited = rw c.in-This.is at a in
    rw (c.in-This.is, c.this.ensures) (this-given g.A.Part.awaits g.B.Part.awaits g.A.Part.shape g.B.Part.shape g.A.Part.leaves g.B.Part.leaves g.A.Part.ended g.B.Part.ended c.after.new.self _ h v _ c.after.result (c.after.ensures.step h v own action awaited f))

pub returns-in-Other-clause-step : goal.returns-in-Other-clause-step
returns-in-Other-clause-step g c = λ h v own action a f.
    let awaited = rw c.in-Other.is at a in
    rw (c.in-Other.is, c.other.ensures) (other-given g.A.Part.awaits g.B.Part.awaits g.A.Part.shape g.B.Part.shape g.A.Part.leaves g.B.Part.leaves g.A.Part.ended g.B.Part.ended c.after-in-Other.new.self _ h v _ c.after-in-Other.result (c.after-in-Other.ensures.step h v own action awaited f))

-- The fault waits, or does not.
use Rattle.nm_access.proofs.Faulting.{give-goes, give-waits}
use Rattle.nm_access.proofs.access.Access.give.Goals as goal

pub returns-then-waits-clause-step : goal.returns-then-waits-clause-step
returns-then-waits-clause-step g c = λ g' was view turns h. give-waits _ g.F.Part.made g.F.Part.awaits c.args.self.now c.poll.new.self c.args.action c.poll.result c.waits.result g' was view turns c.poll.ensures.kept c.poll.ensures.stage c.poll.ensures.poll c.if-waits.true c.waits.ensures h

pub returns-else-waits-clause-step : goal.returns-else-waits-clause-step
returns-else-waits-clause-step g c = λ g' was view turns h. give-goes _ g.F.Part.made g.F.Part.awaits c.args.self.now c.args.action c.waits.result g' was view turns c.if-waits.false c.waits.ensures h

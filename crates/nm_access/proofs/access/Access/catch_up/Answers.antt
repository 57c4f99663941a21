-- The catch up begins.
use Rattle.nm_access.proofs.Trying.{trying-goes}
use Rattle.nm_access.proofs.access.Access.catch_up.Goals as goal

pub returns-clause-step : goal.returns-clause-step
returns-clause-step g c = λ g' was view turns h. trying-goes _ g.F.Part.made g.F.Part.awaits c.args.self.now c.poll.new.self c.poll.result g' was view turns c.poll.ensures.kept c.poll.ensures.stage c.poll.ensures.poll h

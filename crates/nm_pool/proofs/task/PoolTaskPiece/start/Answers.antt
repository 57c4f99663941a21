use Rattle.nm_pool.proofs.Steps.{steps-first}
use Rattle.nm_pool.proofs.task.PoolTaskPiece.start.Goals as goal

pub returns-clause-step : goal.returns-clause-step
returns-clause-step c = λ g v may. rw (c.go.ensures.stage, c.go.ensures.action) (steps-first g v c.args.self.now.made c.args.self.now.scan c.requires.new.scan may)

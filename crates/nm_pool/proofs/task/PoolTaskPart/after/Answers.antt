use Rattle.nm_pool.proofs.Steps.{step-busy, step-done, step-word, step-given, step-put, step-over}
use Rattle.nm_pool.proofs.task.PoolTaskPart.after.Goals as goal

pub returns-in-Busy-clause-step : goal.returns-in-Busy-clause-step
returns-in-Busy-clause-step c = λ g v own action a _. step-busy c.args.self.now c.go.new.self _ _ _ c.in-Turning.is c.in-Busy.is c.go.ensures.stage c.go.ensures.action g v own action a

pub returns-in-Done-clause-step : goal.returns-in-Done-clause-step
returns-in-Done-clause-step c = λ g v own action a _. step-done c.args.self.now c.go_on.new.self _ _ c.in-Turning.is c.in-Done.is c.go_on.ensures.stage c.go_on.ensures.action g v own action a

pub returns-in-Word-reply-clause-step : goal.returns-in-Word-reply-clause-step
returns-in-Word-reply-clause-step c = λ g v own action a f. step-word c.args.self.now c.go_on-in-Scanning.new.self _ _ _ _ c.in-Scanning.is c.in-Word-reply.is c.scanned-self.ensures c.go_on-in-Scanning.ensures.stage c.go_on-in-Scanning.ensures.action g v own action a f

pub returns-in-Giving-clause-step : goal.returns-in-Giving-clause-step
returns-in-Giving-clause-step c = λ g v own action a f. step-given c.args.self.now c.go-in-Giving.new.self _ _ _ c.in-Giving.is c.go-in-Giving.ensures.stage c.go-in-Giving.ensures.action g v own action a f

pub returns-in-Putting-clause-step : goal.returns-in-Putting-clause-step
returns-in-Putting-clause-step c = λ g v own action a f. step-put c.args.self.now c.go-in-Putting.new.self _ _ _ c.in-Putting.is c.go-in-Putting.ensures.stage c.go-in-Putting.ensures.action g v own action a f

pub returns-in-Releasing-clause-step : goal.returns-in-Releasing-clause-step
returns-in-Releasing-clause-step c = λ g v own action a f. step-over c.args.self.now _ _ c.in-Releasing.is g v own action a f

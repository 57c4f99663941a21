use Rattle.nm_shoot.proofs.Steps.{after-bump, after-less, after-enough}
use Rattle.nm_shoot.proofs.shoot.ShootPart.after.Goals as goal

pub returns-in-Bumping-clause-step : goal.returns-in-Bumping-clause-step
returns-in-Bumping-clause-step c = λ g v own action a _. after-bump c.args.self.now c.see.new.self _ _ _ c.in-Bumping.is c.in-Word.is c.see.ensures.stage c.see.ensures.step g v own action a

pub returns-then-word-number-clause-step : goal.returns-then-word-number-clause-step
returns-then-word-number-clause-step c = λ g v own action a _. after-less c.args.self.now c.see-then-word-number.new.self _ _ _ _ _ c.in-Seeing.is c.in-Word.is c.if-word-number.true c.see-then-word-number.ensures.stage c.see-then-word-number.ensures.step g v own action a

pub returns-else-word-number-clause-step : goal.returns-else-word-number-clause-step
returns-else-word-number-clause-step c = λ g v own action a _. after-enough c.args.self.now c.see-else-word-number.new.self _ _ _ _ _ c.in-Seeing.is c.in-Word.is c.if-word-number.false c.see-else-word-number.ensures.stage c.see-else-word-number.ensures.step g v own action a

use Rattle.nm_shoot.proofs.Steps.{steps-first}
use Rattle.nm_shoot.proofs.shoot.ShootPiece.start.Goals as goal

pub returns-clause-step : goal.returns-clause-step
returns-clause-step c = λ g v may. steps-first c.args.self.now.cpus g v may

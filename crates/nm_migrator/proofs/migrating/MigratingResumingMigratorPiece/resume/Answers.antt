use Rattle.nm_migrator_work.specs.Works.{IsNewMigratorWork}
use Rattle.nm_migrator.proofs.Again.{begun-again}
use Rattle.nm_migrator.proofs.migrating.MigratingResumingMigratorPiece.resume.Goals as goal

pub returns-clause-next : goal.returns-clause-next
returns-clause-next c = begun-again IsNewMigratorWork c.args.self.now c.go.new.self c.once_more-self.result c.go.result c.once_more-self.ensures c.go.ensures.stage c.go.ensures.made c.go.ensures.new

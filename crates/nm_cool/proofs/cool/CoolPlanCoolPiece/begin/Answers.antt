use Rattle.nm_cool.specs.declared.cool.CoolStage.TheVariants.{Locking}
use Rattle.nm_cool.specs.Cooling.{IsCooling}
use Rattle.nm_cool.specs.Stages.{cool_data}
use Rattle.nm_cool.proofs.Steps.{gives-cool, runs-locking}
use Rattle.nm_cool.proofs.cool.CoolPlanCoolPiece.begin.Goals as goal

pub returns-clause-run : goal.returns-clause-run
returns-clause-run c = λ g view may.
    let old = c.args.self.now in
    (gives-cool old c.go.new.self Locking c.go.result (IsCooling (cool_data old) g) g view view c.go.ensures.stage c.go.ensures.made c.go.ensures.new (runs-locking (cool_data old) g view may)).run

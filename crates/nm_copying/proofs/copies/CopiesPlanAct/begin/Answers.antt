use Rattle.nm_copying.specs.declared.copies.Stage.TheVariants.{Loading}
use Rattle.nm_copying.specs.Copying.{IsCopying}
use Rattle.nm_copying.proofs.Copied.{runs-first, copy-now}
use Rattle.nm_copying.proofs.copies.CopiesPlanAct.begin.Goals as goal

pub returns-clause-run : goal.returns-clause-run
returns-clause-run c = λ g view may.
    (copy-now c.args.self.now c.go.new.self (Loading 0) c.go.result (IsCopying c.args.self.now.made g) g view view c.go.ensures.stage c.go.ensures.act (runs-first c.args.self.now.made g view may)).run

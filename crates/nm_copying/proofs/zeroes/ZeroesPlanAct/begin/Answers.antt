use Rattle.nm_copying.specs.declared.zeroes.ZeroStage.TheVariants.{Zeroing}
use Rattle.nm_copying.specs.Zeroing.{IsZeroing}
use Rattle.nm_copying.proofs.Zeroed.{zeroes-first, zero-now}
use Rattle.nm_copying.proofs.zeroes.ZeroesPlanAct.begin.Goals as goal

pub returns-clause-run : goal.returns-clause-run
returns-clause-run c = λ g view may.
    (zero-now c.args.self.now c.go.new.self (Zeroing 0) c.go.result (IsZeroing c.args.self.now.made g) g view view c.go.ensures.stage c.go.ensures.act (zeroes-first c.args.self.now.made g view may)).run

use Rattle.nm_shadow_fault.specs.declared.shadow.ShadowStage.TheVariants.{Locking}
use Rattle.nm_shadow_fault.specs.ShadowFault.{IsShadowFault}
use Rattle.nm_shadow_fault.specs.Granting.{fault_made}
use Rattle.nm_shadow_fault.proofs.Stepping.{gives-now, runs-lock}
use Rattle.nm_shadow_fault.proofs.shadow.ShadowFaultPlanFaultPiece.begin.Goals as goal

pub returns-clause-run : goal.returns-clause-run
returns-clause-run c = λ g view may.
    (gives-now c.args.self.now c.go.new.self Locking c.go.result (IsShadowFault c.args.self.now.made g) g view view
    (record { is = c.go.ensures.stage; makes = c.go.ensures.made; fresh = c.go.ensures.new }) (runs-lock (fault_made c.args.self.now.geometry.now c.args.self.now.made) g view may)).run

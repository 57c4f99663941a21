use Rattle.nm_inspect.specs.declared.inspect.InspectStage.TheVariants.{Looking}
use Rattle.nm_inspect.specs.Inspecting.{IsInspection}
use Rattle.nm_inspect.specs.Stages.{inspect_data}
use Rattle.nm_inspect.proofs.Steps.{gives-inspect, runs-looks}
use Rattle.nm_inspect.proofs.inspect.InspectPlanInspectPiece.begin.Goals as goal

pub returns-clause-run : goal.returns-clause-run
returns-clause-run c = λ g view may.
    let old = c.args.self.now in
    (gives-inspect old c.go.new.self Looking c.go.result (IsInspection (inspect_data old) g) g view view c.go.ensures.stage c.go.ensures.made c.go.ensures.new (runs-looks (inspect_data old) g view may)).run

use Rattle.std.proofs.Common.{sym, subst}
use Rattle.nm_commit.specs.declared.decide.DecideStage.{DecideStage}
use Rattle.nm_commit.specs.Deciding.{IsDeciding}
use Rattle.nm_commit.specs.Stages.{decide_made}
use Rattle.nm_commit.proofs.Runs.{gives-decide, RunsDecide}
use Rattle.nm_commit.proofs.Steps.{runs-first, may-here}
use Rattle.nm_commit.proofs.decide.DecidePlanDecidePiece.begin.Goals as goal

pub returns-clause-run : goal.returns-clause-run
returns-clause-run c = λ g view may.
    let S : DecideStage → Type 0 = λ s. RunsDecide c.args.self.now.made s (IsDeciding c.args.self.now.made g) g view view in
    gives-decide c.args.self.now c.go.new.self c.first_stage-stage.result (decide_made c.go.result) (IsDeciding c.args.self.now.made g) g view view may.same c.go.ensures.stage c.go.ensures.made
    (subst S (sym c.first_stage-stage.ensures) (runs-first c.args.self.now.made g view (may-here c.args.self.now.geometry.now c.args.self.now.made g view may)))

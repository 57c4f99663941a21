use Rattle.std.proofs.Common.{sym, ap, ◌∙◌}
use Rattle.nm_vpages.proofs.Numbers.{at-least-zero}
use Rattle.nm_transfer.specs.declared.transfer.Transfer.{Transfer}
use Rattle.nm_transfer.proofs.Running.{begins}
use Rattle.nm_transfer.proofs.transfer.TransferPlanTransferPiece.begin.Goals as goal

pub unreachable-requires : goal.unreachable-requires
unreachable-requires c = c.requires.some (sym (at-least-zero c.args.self.now.made.pages) ∙ c.in_default.ensures.none)

pub returns-clause-run : goal.returns-clause-run
returns-clause-run c = λ g view may.
    (begins c.args.self.now.made c.go.new.self c.go.result c.in-Some.vpage g view
    (ap (λ (t : Transfer). t.made) c.go.ensures.stage) (ap (λ (t : Transfer). t.stage) c.go.ensures.stage) (ap (λ (t : Transfer). t.taken) c.go.ensures.stage ∙ c.requires.none)
    c.go.ensures.made c.go.ensures.new c.in-Some.ensures.small c.in-Some.ensures.some may).run

use Rattle.nm_migrator_work.specs.declared.work.MigratorWork.TheVariants.{Mark, Looks, Cool, Batch, Move, Ask}
use Rattle.nm_migrator_work.specs.Kinds.{IsListBy, LeavesBy, AwaitsBy, EndedBy}
use Rattle.nm_migrator_work.proofs.Choosing.{step-given}
use Rattle.nm_migrator_work.proofs.work.MigratorWorkPart.first.Goals as goal

pub returns-in-Mark-clause-step : goal.returns-in-Mark-clause-step
returns-in-Mark-clause-step g c = λ h v may.
    let begun = rw c.in-Mark.is at may in
    rw (c.in-Mark.is, c.mark.ensures) (step-given (g.M.Part.awaits c.first.new.self) (AwaitsBy g.M.Part.awaits g.L.Part.awaits g.C.Part.awaits g.B.Part.awaits g.V.Part.awaits g.A.Part.awaits (Mark c.first.new.self)) (g.M.Part.shape (g.M.Part.made c.in-Mark.part)) (IsListBy g.M.Part.shape g.L.Part.shape g.C.Part.shape g.B.Part.shape g.V.Part.shape g.A.Part.shape (Mark (g.M.Part.made c.in-Mark.part)))
    (g.M.Part.leaves (g.M.Part.made c.in-Mark.part)) (LeavesBy g.M.Part.leaves g.L.Part.leaves g.C.Part.leaves g.B.Part.leaves g.V.Part.leaves g.A.Part.leaves (Mark (g.M.Part.made c.in-Mark.part))) (g.M.Part.ended c.first.new.self) (EndedBy g.M.Part.ended g.L.Part.ended g.C.Part.ended g.B.Part.ended g.V.Part.ended g.A.Part.ended (Mark c.first.new.self)) (λ x. Mark x)
    (λ k u own action w. w) (λ k own x w. w) (λ k u x later w. w) (λ k own x w. w) h v _ c.first.result (c.first.ensures.step h v begun))

pub returns-in-Looks-clause-step : goal.returns-in-Looks-clause-step
returns-in-Looks-clause-step g c = λ h v may.
    let begun = rw c.in-Looks.is at may in
    rw (c.in-Looks.is, c.looks.ensures) (step-given (g.L.Part.awaits c.first-in-Looks.new.self) (AwaitsBy g.M.Part.awaits g.L.Part.awaits g.C.Part.awaits g.B.Part.awaits g.V.Part.awaits g.A.Part.awaits (Looks c.first-in-Looks.new.self)) (g.L.Part.shape (g.L.Part.made c.in-Looks.part)) (IsListBy g.M.Part.shape g.L.Part.shape g.C.Part.shape g.B.Part.shape g.V.Part.shape g.A.Part.shape (Looks (g.L.Part.made c.in-Looks.part)))
    (g.L.Part.leaves (g.L.Part.made c.in-Looks.part)) (LeavesBy g.M.Part.leaves g.L.Part.leaves g.C.Part.leaves g.B.Part.leaves g.V.Part.leaves g.A.Part.leaves (Looks (g.L.Part.made c.in-Looks.part))) (g.L.Part.ended c.first-in-Looks.new.self) (EndedBy g.M.Part.ended g.L.Part.ended g.C.Part.ended g.B.Part.ended g.V.Part.ended g.A.Part.ended (Looks c.first-in-Looks.new.self)) (λ x. Looks x)
    (λ k u own action w. w) (λ k own x w. w) (λ k u x later w. w) (λ k own x w. w) h v _ c.first-in-Looks.result (c.first-in-Looks.ensures.step h v begun))

pub returns-in-Cool-clause-step : goal.returns-in-Cool-clause-step
returns-in-Cool-clause-step g c = λ h v may.
    let begun = rw c.in-Cool.is at may in
    rw (c.in-Cool.is, c.cool.ensures) (step-given (g.C.Part.awaits c.first-in-Cool.new.self) (AwaitsBy g.M.Part.awaits g.L.Part.awaits g.C.Part.awaits g.B.Part.awaits g.V.Part.awaits g.A.Part.awaits (Cool c.first-in-Cool.new.self)) (g.C.Part.shape (g.C.Part.made c.in-Cool.part)) (IsListBy g.M.Part.shape g.L.Part.shape g.C.Part.shape g.B.Part.shape g.V.Part.shape g.A.Part.shape (Cool (g.C.Part.made c.in-Cool.part)))
    (g.C.Part.leaves (g.C.Part.made c.in-Cool.part)) (LeavesBy g.M.Part.leaves g.L.Part.leaves g.C.Part.leaves g.B.Part.leaves g.V.Part.leaves g.A.Part.leaves (Cool (g.C.Part.made c.in-Cool.part))) (g.C.Part.ended c.first-in-Cool.new.self) (EndedBy g.M.Part.ended g.L.Part.ended g.C.Part.ended g.B.Part.ended g.V.Part.ended g.A.Part.ended (Cool c.first-in-Cool.new.self)) (λ x. Cool x)
    (λ k u own action w. w) (λ k own x w. w) (λ k u x later w. w) (λ k own x w. w) h v _ c.first-in-Cool.result (c.first-in-Cool.ensures.step h v begun))

pub returns-in-Batch-clause-step : goal.returns-in-Batch-clause-step
returns-in-Batch-clause-step g c = λ h v may.
    let begun = rw c.in-Batch.is at may in
    rw (c.in-Batch.is, c.batch.ensures) (step-given (g.B.Part.awaits c.first-in-Batch.new.self) (AwaitsBy g.M.Part.awaits g.L.Part.awaits g.C.Part.awaits g.B.Part.awaits g.V.Part.awaits g.A.Part.awaits (Batch c.first-in-Batch.new.self)) (g.B.Part.shape (g.B.Part.made c.in-Batch.part)) (IsListBy g.M.Part.shape g.L.Part.shape g.C.Part.shape g.B.Part.shape g.V.Part.shape g.A.Part.shape (Batch (g.B.Part.made c.in-Batch.part)))
    (g.B.Part.leaves (g.B.Part.made c.in-Batch.part)) (LeavesBy g.M.Part.leaves g.L.Part.leaves g.C.Part.leaves g.B.Part.leaves g.V.Part.leaves g.A.Part.leaves (Batch (g.B.Part.made c.in-Batch.part))) (g.B.Part.ended c.first-in-Batch.new.self) (EndedBy g.M.Part.ended g.L.Part.ended g.C.Part.ended g.B.Part.ended g.V.Part.ended g.A.Part.ended (Batch c.first-in-Batch.new.self)) (λ x. Batch x)
    (λ k u own action w. w) (λ k own x w. w) (λ k u x later w. w) (λ k own x w. w) h v _ c.first-in-Batch.result (c.first-in-Batch.ensures.step h v begun))

pub returns-in-Move-clause-step : goal.returns-in-Move-clause-step
returns-in-Move-clause-step g c = λ h v may.
    let begun = rw c.in-Move.is at may in
    rw (c.in-Move.is, c.locked.ensures) (step-given (g.V.Part.awaits c.first-in-Move.new.self) (AwaitsBy g.M.Part.awaits g.L.Part.awaits g.C.Part.awaits g.B.Part.awaits g.V.Part.awaits g.A.Part.awaits (Move c.first-in-Move.new.self)) (g.V.Part.shape (g.V.Part.made c.in-Move.part)) (IsListBy g.M.Part.shape g.L.Part.shape g.C.Part.shape g.B.Part.shape g.V.Part.shape g.A.Part.shape (Move (g.V.Part.made c.in-Move.part)))
    (g.V.Part.leaves (g.V.Part.made c.in-Move.part)) (LeavesBy g.M.Part.leaves g.L.Part.leaves g.C.Part.leaves g.B.Part.leaves g.V.Part.leaves g.A.Part.leaves (Move (g.V.Part.made c.in-Move.part))) (g.V.Part.ended c.first-in-Move.new.self) (EndedBy g.M.Part.ended g.L.Part.ended g.C.Part.ended g.B.Part.ended g.V.Part.ended g.A.Part.ended (Move c.first-in-Move.new.self)) (λ x. Move x)
    (λ k u own action w. w) (λ k own x w. w) (λ k u x later w. w) (λ k own x w. w) h v _ c.first-in-Move.result (c.first-in-Move.ensures.step h v begun))

pub returns-in-Ask-clause-step : goal.returns-in-Ask-clause-step
returns-in-Ask-clause-step g c = λ h v may.
    let begun = rw c.in-Ask.is at may in
    rw (c.in-Ask.is, c.ask.ensures) (step-given (g.A.Part.awaits c.first-in-Ask.new.self) (AwaitsBy g.M.Part.awaits g.L.Part.awaits g.C.Part.awaits g.B.Part.awaits g.V.Part.awaits g.A.Part.awaits (Ask c.first-in-Ask.new.self)) (g.A.Part.shape (g.A.Part.made c.in-Ask.part)) (IsListBy g.M.Part.shape g.L.Part.shape g.C.Part.shape g.B.Part.shape g.V.Part.shape g.A.Part.shape (Ask (g.A.Part.made c.in-Ask.part)))
    (g.A.Part.leaves (g.A.Part.made c.in-Ask.part)) (LeavesBy g.M.Part.leaves g.L.Part.leaves g.C.Part.leaves g.B.Part.leaves g.V.Part.leaves g.A.Part.leaves (Ask (g.A.Part.made c.in-Ask.part))) (g.A.Part.ended c.first-in-Ask.new.self) (EndedBy g.M.Part.ended g.L.Part.ended g.C.Part.ended g.B.Part.ended g.V.Part.ended g.A.Part.ended (Ask c.first-in-Ask.new.self)) (λ x. Ask x)
    (λ k u own action w. w) (λ k own x w. w) (λ k u x later w. w) (λ k own x w. w) h v _ c.first-in-Ask.result (c.first-in-Ask.ensures.step h v begun))

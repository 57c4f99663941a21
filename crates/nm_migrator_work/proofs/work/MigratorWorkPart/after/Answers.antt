use Rattle.nm_migrator_work.specs.declared.work.MigratorWork.TheVariants.{Mark, Looks, Cool, Batch, Move, Ask}
use Rattle.nm_migrator_work.specs.Kinds.{IsListBy, LeavesBy, AwaitsBy, EndedBy}
use Rattle.nm_migrator_work.proofs.Choosing.{step-given}
use Rattle.nm_migrator_work.proofs.work.MigratorWorkPart.after.Goals as goal

pub returns-in-Mark-clause-step : goal.returns-in-Mark-clause-step
returns-in-Mark-clause-step g c = λ h v own action a f.
    let begun = rw c.in-Mark.is at a in
    rw (c.in-Mark.is, c.mark.ensures) (step-given (g.M.Part.awaits c.after.new.self) (AwaitsBy g.M.Part.awaits g.L.Part.awaits g.C.Part.awaits g.B.Part.awaits g.V.Part.awaits g.A.Part.awaits (Mark c.after.new.self)) (g.M.Part.shape (g.M.Part.made c.in-Mark.part)) (IsListBy g.M.Part.shape g.L.Part.shape g.C.Part.shape g.B.Part.shape g.V.Part.shape g.A.Part.shape (Mark (g.M.Part.made c.in-Mark.part)))
    (g.M.Part.leaves (g.M.Part.made c.in-Mark.part)) (LeavesBy g.M.Part.leaves g.L.Part.leaves g.C.Part.leaves g.B.Part.leaves g.V.Part.leaves g.A.Part.leaves (Mark (g.M.Part.made c.in-Mark.part))) (g.M.Part.ended c.after.new.self) (EndedBy g.M.Part.ended g.L.Part.ended g.C.Part.ended g.B.Part.ended g.V.Part.ended g.A.Part.ended (Mark c.after.new.self)) (λ x. Mark x)
    (λ k u own action w. w) (λ k own x w. w) (λ k u x later w. w) (λ k own x w. w) h v _ c.after.result (c.after.ensures.step h v own action begun f))

pub returns-in-Looks-clause-step : goal.returns-in-Looks-clause-step
returns-in-Looks-clause-step g c = λ h v own action a f.
    let begun = rw c.in-Looks.is at a in
    rw (c.in-Looks.is, c.looks.ensures) (step-given (g.L.Part.awaits c.after-in-Looks.new.self) (AwaitsBy g.M.Part.awaits g.L.Part.awaits g.C.Part.awaits g.B.Part.awaits g.V.Part.awaits g.A.Part.awaits (Looks c.after-in-Looks.new.self)) (g.L.Part.shape (g.L.Part.made c.in-Looks.part)) (IsListBy g.M.Part.shape g.L.Part.shape g.C.Part.shape g.B.Part.shape g.V.Part.shape g.A.Part.shape (Looks (g.L.Part.made c.in-Looks.part)))
    (g.L.Part.leaves (g.L.Part.made c.in-Looks.part)) (LeavesBy g.M.Part.leaves g.L.Part.leaves g.C.Part.leaves g.B.Part.leaves g.V.Part.leaves g.A.Part.leaves (Looks (g.L.Part.made c.in-Looks.part))) (g.L.Part.ended c.after-in-Looks.new.self) (EndedBy g.M.Part.ended g.L.Part.ended g.C.Part.ended g.B.Part.ended g.V.Part.ended g.A.Part.ended (Looks c.after-in-Looks.new.self)) (λ x. Looks x)
    (λ k u own action w. w) (λ k own x w. w) (λ k u x later w. w) (λ k own x w. w) h v _ c.after-in-Looks.result (c.after-in-Looks.ensures.step h v own action begun f))

pub returns-in-Cool-clause-step : goal.returns-in-Cool-clause-step
returns-in-Cool-clause-step g c = λ h v own action a f.
    let begun = rw c.in-Cool.is at a in
    rw (c.in-Cool.is, c.cool.ensures) (step-given (g.C.Part.awaits c.after-in-Cool.new.self) (AwaitsBy g.M.Part.awaits g.L.Part.awaits g.C.Part.awaits g.B.Part.awaits g.V.Part.awaits g.A.Part.awaits (Cool c.after-in-Cool.new.self)) (g.C.Part.shape (g.C.Part.made c.in-Cool.part)) (IsListBy g.M.Part.shape g.L.Part.shape g.C.Part.shape g.B.Part.shape g.V.Part.shape g.A.Part.shape (Cool (g.C.Part.made c.in-Cool.part)))
    (g.C.Part.leaves (g.C.Part.made c.in-Cool.part)) (LeavesBy g.M.Part.leaves g.L.Part.leaves g.C.Part.leaves g.B.Part.leaves g.V.Part.leaves g.A.Part.leaves (Cool (g.C.Part.made c.in-Cool.part))) (g.C.Part.ended c.after-in-Cool.new.self) (EndedBy g.M.Part.ended g.L.Part.ended g.C.Part.ended g.B.Part.ended g.V.Part.ended g.A.Part.ended (Cool c.after-in-Cool.new.self)) (λ x. Cool x)
    (λ k u own action w. w) (λ k own x w. w) (λ k u x later w. w) (λ k own x w. w) h v _ c.after-in-Cool.result (c.after-in-Cool.ensures.step h v own action begun f))

pub returns-in-Batch-clause-step : goal.returns-in-Batch-clause-step
returns-in-Batch-clause-step g c = λ h v own action a f.
    let begun = rw c.in-Batch.is at a in
    rw (c.in-Batch.is, c.batch.ensures) (step-given (g.B.Part.awaits c.after-in-Batch.new.self) (AwaitsBy g.M.Part.awaits g.L.Part.awaits g.C.Part.awaits g.B.Part.awaits g.V.Part.awaits g.A.Part.awaits (Batch c.after-in-Batch.new.self)) (g.B.Part.shape (g.B.Part.made c.in-Batch.part)) (IsListBy g.M.Part.shape g.L.Part.shape g.C.Part.shape g.B.Part.shape g.V.Part.shape g.A.Part.shape (Batch (g.B.Part.made c.in-Batch.part)))
    (g.B.Part.leaves (g.B.Part.made c.in-Batch.part)) (LeavesBy g.M.Part.leaves g.L.Part.leaves g.C.Part.leaves g.B.Part.leaves g.V.Part.leaves g.A.Part.leaves (Batch (g.B.Part.made c.in-Batch.part))) (g.B.Part.ended c.after-in-Batch.new.self) (EndedBy g.M.Part.ended g.L.Part.ended g.C.Part.ended g.B.Part.ended g.V.Part.ended g.A.Part.ended (Batch c.after-in-Batch.new.self)) (λ x. Batch x)
    (λ k u own action w. w) (λ k own x w. w) (λ k u x later w. w) (λ k own x w. w) h v _ c.after-in-Batch.result (c.after-in-Batch.ensures.step h v own action begun f))

pub returns-in-Move-clause-step : goal.returns-in-Move-clause-step
returns-in-Move-clause-step g c = λ h v own action a f.
    let begun = rw c.in-Move.is at a in
    rw (c.in-Move.is, c.locked.ensures) (step-given (g.V.Part.awaits c.after-in-Move.new.self) (AwaitsBy g.M.Part.awaits g.L.Part.awaits g.C.Part.awaits g.B.Part.awaits g.V.Part.awaits g.A.Part.awaits (Move c.after-in-Move.new.self)) (g.V.Part.shape (g.V.Part.made c.in-Move.part)) (IsListBy g.M.Part.shape g.L.Part.shape g.C.Part.shape g.B.Part.shape g.V.Part.shape g.A.Part.shape (Move (g.V.Part.made c.in-Move.part)))
    (g.V.Part.leaves (g.V.Part.made c.in-Move.part)) (LeavesBy g.M.Part.leaves g.L.Part.leaves g.C.Part.leaves g.B.Part.leaves g.V.Part.leaves g.A.Part.leaves (Move (g.V.Part.made c.in-Move.part))) (g.V.Part.ended c.after-in-Move.new.self) (EndedBy g.M.Part.ended g.L.Part.ended g.C.Part.ended g.B.Part.ended g.V.Part.ended g.A.Part.ended (Move c.after-in-Move.new.self)) (λ x. Move x)
    (λ k u own action w. w) (λ k own x w. w) (λ k u x later w. w) (λ k own x w. w) h v _ c.after-in-Move.result (c.after-in-Move.ensures.step h v own action begun f))

pub returns-in-Ask-clause-step : goal.returns-in-Ask-clause-step
returns-in-Ask-clause-step g c = λ h v own action a f.
    let begun = rw c.in-Ask.is at a in
    rw (c.in-Ask.is, c.ask.ensures) (step-given (g.A.Part.awaits c.after-in-Ask.new.self) (AwaitsBy g.M.Part.awaits g.L.Part.awaits g.C.Part.awaits g.B.Part.awaits g.V.Part.awaits g.A.Part.awaits (Ask c.after-in-Ask.new.self)) (g.A.Part.shape (g.A.Part.made c.in-Ask.part)) (IsListBy g.M.Part.shape g.L.Part.shape g.C.Part.shape g.B.Part.shape g.V.Part.shape g.A.Part.shape (Ask (g.A.Part.made c.in-Ask.part)))
    (g.A.Part.leaves (g.A.Part.made c.in-Ask.part)) (LeavesBy g.M.Part.leaves g.L.Part.leaves g.C.Part.leaves g.B.Part.leaves g.V.Part.leaves g.A.Part.leaves (Ask (g.A.Part.made c.in-Ask.part))) (g.A.Part.ended c.after-in-Ask.new.self) (EndedBy g.M.Part.ended g.L.Part.ended g.C.Part.ended g.B.Part.ended g.V.Part.ended g.A.Part.ended (Ask c.after-in-Ask.new.self)) (λ x. Ask x)
    (λ k u own action w. w) (λ k own x w. w) (λ k u x later w. w) (λ k own x w. w) h v _ c.after-in-Ask.result (c.after-in-Ask.ensures.step h v own action begun f))

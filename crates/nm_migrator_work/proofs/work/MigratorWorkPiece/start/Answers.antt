use Rattle.nm_migrator_work.specs.declared.work.MigratorWork.TheVariants.{Mark, Looks, Cool, Batch, Move, Ask}
use Rattle.nm_migrator_work.specs.Kinds.{IsListBy, AwaitsBy}
use Rattle.nm_migrator_work.proofs.Choosing.{asked-into}
use Rattle.nm_migrator_work.proofs.work.MigratorWorkPiece.start.Goals as goal

pub returns-in-Mark-clause-step : goal.returns-in-Mark-clause-step
returns-in-Mark-clause-step g c = λ h v may.
    let begun = rw c.in-Mark.is at may in
    rw c.in-Mark.is (asked-into (g.M.Part.awaits c.start.new.self) (AwaitsBy g.M.Part.awaits g.L.Part.awaits g.C.Part.awaits g.B.Part.awaits g.V.Part.awaits g.A.Part.awaits (Mark c.start.new.self)) (g.M.Part.shape (g.M.Part.made c.in-Mark.part)) (IsListBy g.M.Part.shape g.L.Part.shape g.C.Part.shape g.B.Part.shape g.V.Part.shape g.A.Part.shape (Mark (g.M.Part.made c.in-Mark.part))) (λ x. Mark x)
    (λ k u own action w. w) (λ k own x w. w) h v _ _ (c.start.ensures.step h v begun))

pub returns-in-Looks-clause-step : goal.returns-in-Looks-clause-step
returns-in-Looks-clause-step g c = λ h v may.
    let begun = rw c.in-Looks.is at may in
    rw c.in-Looks.is (asked-into (g.L.Part.awaits c.start-in-Looks.new.self) (AwaitsBy g.M.Part.awaits g.L.Part.awaits g.C.Part.awaits g.B.Part.awaits g.V.Part.awaits g.A.Part.awaits (Looks c.start-in-Looks.new.self)) (g.L.Part.shape (g.L.Part.made c.in-Looks.part)) (IsListBy g.M.Part.shape g.L.Part.shape g.C.Part.shape g.B.Part.shape g.V.Part.shape g.A.Part.shape (Looks (g.L.Part.made c.in-Looks.part))) (λ x. Looks x)
    (λ k u own action w. w) (λ k own x w. w) h v _ _ (c.start-in-Looks.ensures.step h v begun))

pub returns-in-Cool-clause-step : goal.returns-in-Cool-clause-step
returns-in-Cool-clause-step g c = λ h v may.
    let begun = rw c.in-Cool.is at may in
    rw c.in-Cool.is (asked-into (g.C.Part.awaits c.start-in-Cool.new.self) (AwaitsBy g.M.Part.awaits g.L.Part.awaits g.C.Part.awaits g.B.Part.awaits g.V.Part.awaits g.A.Part.awaits (Cool c.start-in-Cool.new.self)) (g.C.Part.shape (g.C.Part.made c.in-Cool.part)) (IsListBy g.M.Part.shape g.L.Part.shape g.C.Part.shape g.B.Part.shape g.V.Part.shape g.A.Part.shape (Cool (g.C.Part.made c.in-Cool.part))) (λ x. Cool x)
    (λ k u own action w. w) (λ k own x w. w) h v _ _ (c.start-in-Cool.ensures.step h v begun))

pub returns-in-Batch-clause-step : goal.returns-in-Batch-clause-step
returns-in-Batch-clause-step g c = λ h v may.
    let begun = rw c.in-Batch.is at may in
    rw c.in-Batch.is (asked-into (g.B.Part.awaits c.start-in-Batch.new.self) (AwaitsBy g.M.Part.awaits g.L.Part.awaits g.C.Part.awaits g.B.Part.awaits g.V.Part.awaits g.A.Part.awaits (Batch c.start-in-Batch.new.self)) (g.B.Part.shape (g.B.Part.made c.in-Batch.part)) (IsListBy g.M.Part.shape g.L.Part.shape g.C.Part.shape g.B.Part.shape g.V.Part.shape g.A.Part.shape (Batch (g.B.Part.made c.in-Batch.part))) (λ x. Batch x)
    (λ k u own action w. w) (λ k own x w. w) h v _ _ (c.start-in-Batch.ensures.step h v begun))

pub returns-in-Move-clause-step : goal.returns-in-Move-clause-step
returns-in-Move-clause-step g c = λ h v may.
    let begun = rw c.in-Move.is at may in
    rw c.in-Move.is (asked-into (g.V.Part.awaits c.start-in-Move.new.self) (AwaitsBy g.M.Part.awaits g.L.Part.awaits g.C.Part.awaits g.B.Part.awaits g.V.Part.awaits g.A.Part.awaits (Move c.start-in-Move.new.self)) (g.V.Part.shape (g.V.Part.made c.in-Move.part)) (IsListBy g.M.Part.shape g.L.Part.shape g.C.Part.shape g.B.Part.shape g.V.Part.shape g.A.Part.shape (Move (g.V.Part.made c.in-Move.part))) (λ x. Move x)
    (λ k u own action w. w) (λ k own x w. w) h v _ _ (c.start-in-Move.ensures.step h v begun))

pub returns-in-Ask-clause-step : goal.returns-in-Ask-clause-step
returns-in-Ask-clause-step g c = λ h v may.
    let begun = rw c.in-Ask.is at may in
    rw c.in-Ask.is (asked-into (g.A.Part.awaits c.start-in-Ask.new.self) (AwaitsBy g.M.Part.awaits g.L.Part.awaits g.C.Part.awaits g.B.Part.awaits g.V.Part.awaits g.A.Part.awaits (Ask c.start-in-Ask.new.self)) (g.A.Part.shape (g.A.Part.made c.in-Ask.part)) (IsListBy g.M.Part.shape g.L.Part.shape g.C.Part.shape g.B.Part.shape g.V.Part.shape g.A.Part.shape (Ask (g.A.Part.made c.in-Ask.part))) (λ x. Ask x)
    (λ k u own action w. w) (λ k own x w. w) h v _ _ (c.start-in-Ask.ensures.step h v begun))

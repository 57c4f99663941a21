use Rattle.nm_migrator.proofs.Acting.{agrees-by}
use Rattle.nm_migrator.proofs.actor.MigratorActorActor.next.Goals as goal

pub returns-clause-turn : goal.returns-clause-turn
returns-clause-turn c = λ turns last h answer.
    let t = c.next.ensures.turn turns last h.worker answer in
    record { agreed = agrees-by c.args.self.now (record { worker = c.next.new.self }) turns last c.args.heard c.next.result c.next.ensures.made h t.agreed; permitted = t.permitted }

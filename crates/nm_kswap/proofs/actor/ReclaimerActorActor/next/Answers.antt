use Rattle.std.proofs.Common.{sym, subst}
use Rattle.nm_base.specs.Geometry.{IsGeometry}
use Rattle.nm_kswap.proofs.Agreeing.{worker-part, worker-empty}
use Rattle.nm_kswap.proofs.actor.ReclaimerActorActor.next.Goals as goal

pub returns-clause-turn : goal.returns-clause-turn
returns-clause-turn c = λ turns last agreed answer.
    let t = c.next.ensures.turn turns last agreed.worker answer in
    record {
      agreed = record {
        geometry = subst IsGeometry (sym c.next.ensures.made) agreed.geometry;
        worker = t.agreed;
        part = worker-part _ _ c.next.new.self _ _ t.agreed;
        empty = worker-empty _ _ c.next.new.self _ _ t.agreed;
      };
      permitted = t.permitted;
    }

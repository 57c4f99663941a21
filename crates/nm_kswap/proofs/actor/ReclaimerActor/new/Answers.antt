use Rattle.std.proofs.Common.{sym, subst}
use Rattle.nm_base.specs.Geometry.{IsGeometry}
use Rattle.nm_kswap.proofs.Agreeing.{new-part, new-follows}
use Rattle.nm_kswap.proofs.actor.ReclaimerActor.new.Goals as goal

pub returns-clause-new : goal.returns-clause-new
returns-clause-new c = record {
  geometry = subst IsGeometry (sym c.in_ok-new.ensures.made) c.in_ok-routine.ensures.new.geometry;
  worker = new-follows _ _ c.in_ok-new.field-0 c.in_ok-new.ensures.new;
  part = new-part _ (λ p g view own action. ⊥) c.in_ok-new.field-0 (subst IsGeometry (sym c.in_ok-new.ensures.made) c.in_ok-routine.ensures.new.geometry) (new-follows _ _ c.in_ok-new.field-0 c.in_ok-new.ensures.new);
  empty = tt;
}

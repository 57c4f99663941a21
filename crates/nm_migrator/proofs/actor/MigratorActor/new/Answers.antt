use Rattle.std.proofs.Common.{ℕ, Option, ap, ◌∙◌}
use Rattle.nm_base.specs.Geometry.{Geometry}
use Rattle.nm_migrator.proofs.Acting.{new-by}
use Rattle.nm_migrator.proofs.actor.MigratorActor.new.Goals as goal

pub returns-clause-new : goal.returns-clause-new
returns-clause-new c = new-by (record { worker = c.in_ok-new.field-0 }) (ap (λ (m : Geometry × Option ℕ × ℕ). m.2) (c.in_ok-new.ensures.made ∙ c.in_ok-routine.ensures.made)) c.in_ok-new.ensures.new

use Rattle.std.proofs.Common.{◌∙◌, subst, rules}
use Rattle.nm_base.specs.Geometry.{Geometry}
use Rattle.nm_core.specs.State.{view_of}
use Rattle.nm_actor_rows.specs.Following.{IsMade}
use Rattle.nm_actor_rows.proofs.Following.{following-more, following-still}
use Rattle.nm_actor_rows.proofs.rows.machine.play.Goals.{in-Other+else-assert, in-Gives+in-Do+else-assert-2+else-not-made}
use Rattle.nm_actor_rows.proofs.rows.machine.play.Goals as goal

pub loop-line-preserved : goal.loop-line-preserved
loop-line-preserved g c = elim c.match-line.branch [
  | in-Other+else-assert w ↦
      rw (w.state-is, w.part-is, w.step-is) (
        w.intrude-made.ensures.geometry ∙ c.loop-line.invariant.0,
        c.loop-line.invariant.1,
        following-still _ _ _ _ _ _ _ _ _ w.intrude-made.ensures.view c.loop-line.invariant.2,
      )
  | in-Gives+in-Do+else-assert-2+else-not-made w ↦
      let M : Geometry → Type 0 = λ geometry. IsMade geometry (view_of c.loop-line.state c.args.actor) (view_of w.make-made.new.state c.args.actor) w.in-Do.given w.in-Gives.reply in
      let made = subst M c.loop-line.invariant.0 (w.make-made.ensures.made (search rules)) in
      rw (w.state-is, w.part-is, w.step-is) (
        w.make-made.ensures.geometry ∙ c.loop-line.invariant.0,
        w.after-step.ensures.made ∙ c.loop-line.invariant.1,
        following-more (g.P.Part.awaits c.loop-line.part) (g.P.Part.awaits w.after-step.new.self) g.P.Part.shape g.P.Part.leaves (g.P.Part.ended c.loop-line.part) (g.P.Part.ended w.after-step.new.self) _ _ _ _ _ _ _ _ _ _ c.loop-line.invariant.1 c.loop-line.invariant.2 w.in-Do.is made w.after-step.ensures.step,
      )
]

use Rattle.std.proofs.Common.{◌∙◌}
use Rattle.nm_actor_rows.proofs.Following.{following-more, following-still}
use Rattle.nm_work_rows.proofs.driver.play.Goals.{in-Other+else-assert_eq, in-Gives+in-Do+else-assert_eq-2+else-assert_eq-3}
use Rattle.nm_work_rows.proofs.driver.play.Goals as goal

pub loop-line-preserved : goal.loop-line-preserved
loop-line-preserved g c = elim c.match-line.branch [
  | in-Other+else-assert_eq w ↦
      rw (w.state-is, w.part-is, w.given-is) (record {
        reached = w.intrude-told.ensures.reached;
        made = c.loop-line.invariant.made;
        following = following-still _ _ _ _ _ _ _ _ _ w.intrude-told.ensures.view c.loop-line.invariant.following;
      })
  | in-Gives+in-Do+else-assert_eq-2+else-assert_eq-3 w ↦
      rw (w.state-is, w.part-is, w.given-is) (record {
        reached = w.step-told.ensures.reached;
        made = w.after-given.ensures.made ∙ c.loop-line.invariant.made;
        following = following-more (g.P.Part.awaits c.loop-line.part) (g.P.Part.awaits w.after-given.new.self) g.P.Part.shape g.P.Part.leaves (g.P.Part.ended c.loop-line.part) (g.P.Part.ended w.after-given.new.self) _ _ _ _ _ _ _ _ _ _ c.loop-line.invariant.made c.loop-line.invariant.following w.in-Do.is w.step-told.ensures.made w.after-given.ensures.step;
      })
]

pub loop-more-preserved : goal.loop-more-preserved
loop-more-preserved g c = record {
  reached = c.step-told-in-Do-given.ensures.reached;
  made = c.after-given-in-Do-given.ensures.made ∙ c.loop-more.invariant.made;
  following = following-more (g.P.Part.awaits c.loop-more.part) (g.P.Part.awaits c.after-given-in-Do-given.new.self) g.P.Part.shape g.P.Part.leaves (g.P.Part.ended c.loop-more.part) (g.P.Part.ended c.after-given-in-Do-given.new.self) _ _ _ _ _ _ _ _ _ _ c.loop-more.invariant.made c.loop-more.invariant.following c.in-Do-given.is c.step-told-in-Do-given.ensures.made c.after-given-in-Do-given.ensures.step;
}

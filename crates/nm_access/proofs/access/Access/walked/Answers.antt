-- The translation is cached, and the page is marked where that is due.
use Rattle.std.proofs.Common.{refl}
use Rattle.nm_catchup.specs.Catching.{kept_of}
use Rattle.nm_access.proofs.Going.{gone}
use Rattle.nm_access.proofs.Answers.{after-walk, walked-put}
use Rattle.nm_access.proofs.access.Access.walked.Goals as goal

pub returns-clause-step : goal.returns-clause-step
returns-clause-step g c = λ g' was view turns turn h answer.
    gone _ g.F.Part.made g.F.Part.awaits c.mark.new.self _ c.mark.result _ g' was view _ c.mark.ensures.stage c.mark.ensures.turn
    (after-walk _ g.F.Part.made g.F.Part.awaits c.args.self.now c.put.new.self _ c.args.stamp c.args.word g' was view turns turn c.requires.stage refl
    (walked-put c.args.self.now.made c.args.word c.args.stamp c.frame_of-frame.result c.walked_dirty-dirty.result (kept_of c.args.self.now.cache) (kept_of c.put.new.self) c.put.ensures c.frame_of-frame.ensures c.walked_dirty-dirty.ensures) h answer)

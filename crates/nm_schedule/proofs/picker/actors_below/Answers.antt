use Rattle.std.proofs.Common.{◌≡◌, ◌++◌, ◌∷◌, [], ◌∙◌, rules}
use Rattle.nm_schedule.proofs.Actives.{below-more}
use Rattle.nm_schedule.proofs.picker.actors_below.Goals as goal

pub loop-actor-preserved : goal.loop-actor-preserved
loop-actor-preserved c =
    let p : c.push.new.self.items ≡ c.loop-actor.all.items ++ c.loop-actor.actor ∷ [] = search rules in
    p ∙ below-more c.loop-actor.all.items c.loop-actor.actor c.loop-actor.invariant

use Rattle.nm_arena_chair.proofs.LaneAnswers.{take-answer, joined-took}
use Rattle.nm_arena_chair.proofs.lane.take_from.Goals as goal

pub returns-clause-answer : goal.returns-clause-answer
returns-clause-answer g c = take-answer c.args._rested c.args.queue.now c.args.pass.now c.pop.new.pass c.pop.result c.requires c.pop.ensures

pub returns-clause-joined : goal.returns-clause-joined
returns-clause-joined g c = joined-took c.args.pass.now c.pop.new.pass c.pop.result c.pop.ensures

use Rattle.nm_arena_chair.proofs.LaneAnswers.{put-answer, joined-put}
use Rattle.nm_arena_chair.proofs.lane.put_in.Goals as goal

pub returns-clause-answer : goal.returns-clause-answer
returns-clause-answer g c = put-answer c.args._rested c.args.queue.now c.args.page c.args.pass.now c.push.new.pass c.push.result c.requires c.push.ensures

pub returns-clause-joined : goal.returns-clause-joined
returns-clause-joined g c = joined-put c.args.queue.now.capacity c.args.page c.args.pass.now c.push.new.pass c.push.result c.push.ensures

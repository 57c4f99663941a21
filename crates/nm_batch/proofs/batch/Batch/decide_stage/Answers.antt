use Rattle.nm_batch.proofs.Pieces.{decide-none, decide-no-word, decide-some}
use Rattle.nm_batch.proofs.batch.Batch.decide_stage.Goals as goal

pub returns-in-None : goal.returns-in-None
returns-in-None c = decide-none c.args.self.now.place c.len-next.result c.len-next.ensures.count c.in-None.ensures.none

pub returns-in-None-get : goal.returns-in-None-get
returns-in-None-get c = decide-no-word c.args.self.now.place c.len-next.result c.in-Some.piece _ c.len-next.ensures.count c.in-Some.ensures.some c.in-None-get.ensures.none

pub returns-in-Some-get : goal.returns-in-Some-get
returns-in-Some-get c = decide-some c.args.self.now.place c.len-next.result c.in-Some.piece _ c.in-Some-get.word _ c.len-next.ensures.count c.in-Some.ensures.some c.in-Some-get.ensures.some

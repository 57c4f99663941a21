use Rattle.nm_commit.proofs.Unmapped.{after-unmap, after-raise}
use Rattle.nm_commit.proofs.unmap.UnmapOnePlanAct.go_on.Goals as goal

pub returns-in-Word-clause-next : goal.returns-in-Word-clause-next
returns-in-Word-clause-next c = λ g first now later own known shown left over.
    after-unmap c.args.self.now c.go.new.self c.go.result c.in-Word.word c.args.end g first now later _ c.in-Unmapping.is c.in-Word.is known left c.go.ensures.stage c.go.ensures.act

pub returns-in-Raising-clause-next : goal.returns-in-Raising-clause-next
returns-in-Raising-clause-next c = λ g first now later own known shown left over.
    after-raise c.args.self.now c.in-Raising.word c.args.end g first now later _ c.in-Raising.is known left

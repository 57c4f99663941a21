use Rattle.nm_copying.proofs.Copied.{after-load, after-store, after-last}
use Rattle.nm_copying.proofs.copies.CopiesPlanAct.go_on.Goals as goal

pub returns-in-Word-clause-next : goal.returns-in-Word-clause-next
returns-in-Word-clause-next c = λ g first now later own known shown left over.
    after-load c.args.self.now c.go.new.self c.go.result c.in-Loading.index c.in-Word.word c.args.end g first now later _ c.in-Loading.is c.in-Word.is known left c.go.ensures.stage c.go.ensures.act

pub returns-then-index-self-clause-next : goal.returns-then-index-self-clause-next
returns-then-index-self-clause-next c = λ g first now later own known shown left over.
    after-store c.args.self.now c.go-then-index-self.new.self c.go-then-index-self.result c.in-Storing.index c.in-Storing.word c.args.end g first now later _ c.in-Storing.is c.if-index-self.true known left c.go-then-index-self.ensures.stage c.go-then-index-self.ensures.act

pub returns-else-index-self-clause-next : goal.returns-else-index-self-clause-next
returns-else-index-self-clause-next c = λ g first now later own known shown left over.
    after-last c.args.self.now c.in-Storing.index c.in-Storing.word c.args.end g first now later _ c.in-Storing.is c.if-index-self.false known left

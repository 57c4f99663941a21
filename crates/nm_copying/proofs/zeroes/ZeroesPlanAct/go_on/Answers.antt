use Rattle.nm_copying.proofs.Zeroed.{after-zero, after-last-zero}
use Rattle.nm_copying.proofs.zeroes.ZeroesPlanAct.go_on.Goals as goal

pub returns-then-index-self-clause-next : goal.returns-then-index-self-clause-next
returns-then-index-self-clause-next c = λ g first now later own known shown left over.
    after-zero c.args.self.now c.go.new.self c.go.result c.in-Zeroing.index c.args._end g first now later _ c.in-Zeroing.is c.if-index-self.true known left c.go.ensures.stage c.go.ensures.act

pub returns-else-index-self-clause-next : goal.returns-else-index-self-clause-next
returns-else-index-self-clause-next c = λ g first now later own known shown left over.
    after-last-zero c.args.self.now c.in-Zeroing.index c.args._end g first now later _ c.in-Zeroing.is c.if-index-self.false known left

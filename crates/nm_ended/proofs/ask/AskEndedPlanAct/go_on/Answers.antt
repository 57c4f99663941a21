use Rattle.std.proofs.Common.{◌+◌, refl}
use Rattle.nm_ended.proofs.Asking.{ask-more, ask-all, ask-none}
use Rattle.nm_ended.proofs.ask.AskEndedPlanAct.go_on.Goals as goal

pub returns-then-self-clause-next : goal.returns-then-self-clause-next
returns-then-self-clause-next c = λ g first now later own known shown left over.
    ask-more c.args.self.now (record c.args.self.now { cpu = c.args.self.now.cpu + 1 }) c.ask.result c.in-Word.word c.args.end g first now later _ c.in-Word.is c.if-word.true c.if-self.true known left refl c.ask.ensures

pub returns-else-self-clause-next : goal.returns-else-self-clause-next
returns-else-self-clause-next c = λ g first now later own known shown left over.
    ask-all c.args.self.now c.in-Word.word c.args.end g first now later _ c.in-Word.is c.if-word.true c.if-self.false known left

pub returns-else-word-clause-next : goal.returns-else-word-clause-next
returns-else-word-clause-next c = λ g first now later own known shown left over.
    ask-none c.args.self.now c.in-Word.word c.args.end g first now later _ c.in-Word.is c.if-word.false known left

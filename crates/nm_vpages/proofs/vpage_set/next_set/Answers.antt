use Rattle.std.proofs.Common.{arith}
use Rattle.nm_vpages.proofs.Sets.{none-shifted, next-shifted}
use Rattle.nm_vpages.proofs.vpage_set.next_set.Goals as goal

pub returns-then-rest-eq0-clause-none : goal.returns-then-rest-eq0-clause-none
returns-then-rest-eq0-clause-none c = none-shifted c.args.word c.args.start c.if-rest-eq0.true

pub returns-else-rest-eq0-clause-some : goal.returns-else-rest-eq0-clause-some
returns-else-rest-eq0-clause-some c = next-shifted c.args.word c.args.start c.requires (omega arith) c.if-rest-eq0.false

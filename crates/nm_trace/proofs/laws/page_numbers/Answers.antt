-- Pages with one place among those that were seen are one.
use Rattle.nm_trace.proofs.Numbers.{own-numbers}
use Rattle.nm_trace.proofs.laws.page_numbers.Goals as goal

pub returns : goal.returns
returns c = own-numbers

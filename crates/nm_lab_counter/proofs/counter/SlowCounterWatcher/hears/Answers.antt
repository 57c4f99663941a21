-- The count after a turn is that of the turns with it.
use Rattle.std.proofs.Common.{◌≡◌, arith}
use Rattle.nm_lab_counter.specs.Counts.{when_told}
use Rattle.nm_lab_counter.proofs.Counting.{counted}
use Rattle.nm_lab_counter.proofs.counter.SlowCounterWatcher.hears.Goals as goal

pub returns : goal.returns
returns c = λ g before seen.
    let same : c.when_told-added.result ≡ when_told c.args.played.heard c.args.self.now.next = c.when_told-added.ensures in
    let sum = c.saturating_add-self.ensures in
    counted g before c.args.played c.args.self.now.slow c.args.self.now.next c.saturating_add-self.result seen (λ few. omega (arith, sum, same, few))

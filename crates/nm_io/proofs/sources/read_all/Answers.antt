use Rattle.std.proofs.Common.{◌+◌, ◌≤◌, ◌∙◌, length, arith, rules}
use Rattle.nm_io.proofs.Fronts.{Consumes-behind}
use Rattle.nm_io.proofs.Turns.{GivesInReads-more, some_taken}
use Rattle.nm_io.proofs.sources.read_all.Goals as goal

pub loop-taken-preserved : goal.loop-taken-preserved
loop-taken-preserved g c =
    let read = c.in_ok-n.ensures in
    let room : c.loop-taken.taken + c.in_ok-n.n ≤ length c.read_more.new.bytes.items = search rules in
    let some = some_taken c.loop-taken.taken c.in_ok-n.n c.read_more.new.bytes.items c.if-n-eq0.false room in
    record {
      within = omega arith;
      most = omega arith;
      faults = read.kept (λ e. absurd (cc)) ∙ c.loop-taken.invariant.faults;
      lost = Consumes-behind _ _ _ _ _ _ _ c.loop-taken.invariant.lost read.front read.ok;
      given = GivesInReads-more _ _ _ _ _ _ _ _ c.loop-taken.invariant.given read.front some read.once;
    }

use Rattle.std.proofs.Common.{◌≡◌, ◌+◌, None, replicate, rules}
use Rattle.std.specs.List.{range_with_len}
use Rattle.nm_schedule.proofs.Noting.{stands-first}
use Rattle.nm_schedule.proofs.picker.Picker.new.Goals as goal

pub returns : goal.returns
returns c =
    let none : c.in_ok-bumped.bumped.items ≡ replicate (c.args.cpus + 2) None = search rules in
    let is : c.in_ok-active.active.items ≡ range_with_len 0 (c.args.cpus + 2) = search rules in
    stands-first c.args.schedule.now c.args.cpus c.in_ok-active.active.items c.in_ok-bumped.bumped.items c.plan_of.result.now c.first_way-way.result c.requires.few c.requires.plan is none c.plan_of.ensures c.first_way-way.ensures

use Rattle.std.proofs.Common.{◌+◌, []}
use Rattle.nm_schedule.specs.Standing.{plan_of}
use Rattle.nm_schedule.proofs.Noting.{draw-first, plan-first, way-same, plan-same, all-first, planned}
use Rattle.nm_schedule.proofs.picker.first_way.Goals as goal

pub returns-in-Shuffle : goal.returns-in-Shuffle
returns-in-Shuffle c = draw-first c.args.schedule.now c.in-Shuffle.number c.next.result c.in-Shuffle.turns c.in-Shuffle.is c.next.ensures

pub returns-in-Plan : goal.returns-in-Plan
returns-in-Plan c =
    way-same c.args.schedule.now (c.args.cpus + 2) c.plan_of.result.now (plan_of c.args.schedule.now) c.way_from.result c.plan_of.ensures
    (c.way_from.ensures c.args.schedule.now (c.args.cpus + 2) [] (all-first (c.args.cpus + 2) c.args.active.now c.requires.active)
    (plan-same (c.args.cpus + 2) c.plan_of.result.now (plan_of c.args.schedule.now) c.plan_of.ensures (planned c.args.cpus c.args.schedule.now c.requires.plan))
    (plan-first c.args.schedule.now (c.args.cpus + 2) c.in-Plan.turns c.plan_of.result.now c.in-Plan.items c.in-Plan.is c.plan_of.ensures))

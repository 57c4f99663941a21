use Rattle.std.proofs.Common.{◌≡◌, drop}
use Rattle.std.specs.List.{filter}
use Rattle.std.specs.Prelude.{nat_le}
use Rattle.nm_schedule.proofs.picker.first_from.Given as goal

abbrev pub invariant-loop-actor : goal.invariant-loop-actor
invariant-loop-actor l = filter (nat_le l.from) l.active ≡ filter (nat_le l.from) (drop l.actor-index l.active)

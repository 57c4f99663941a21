use Rattle.std.proofs.Common.{◌≡◌, ℕ, List, length, drop}
use Rattle.nm_script.specs.declared.schedule.Schedule.{Schedule}
use Rattle.nm_schedule.specs.declared.turn.Played.{Played}
use Rattle.nm_schedule.specs.Played.{active_actors}
use Rattle.nm_schedule.specs.Standing.{ArePlanned, Carries}
use Rattle.nm_schedule.proofs.picker.way_from.Given as goal

abbrev pub invariant-loop-place : goal.invariant-loop-place
invariant-loop-place l = (schedule : Schedule) (actors : ℕ) (before : List Played) → l.active ≡ active_actors actors before → ArePlanned actors l.items
    → Carries schedule actors (drop l.fn.from l.items) (length before) before → Carries schedule actors (drop l.place l.items) (length before) before

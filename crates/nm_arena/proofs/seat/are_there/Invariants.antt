use Rattle.std.proofs.Common.{take, All}
use Rattle.nm_arena.specs.Views.{IsThere}
use Rattle.nm_arena.proofs.seat.are_there.Given as goal

abbrev pub invariant-loop-view : goal.invariant-loop-view
invariant-loop-view l = All IsThere (take l.view-index l.views)

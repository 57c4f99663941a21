use Rattle.std.proofs.Common.{◌≡◌, map, take}
use Rattle.nm_crew.specs.Crewed.{tally_of}
use Rattle.nm_thread_run.proofs.running.counts_of_all.Given as goal

abbrev pub invariant-loop-cpu : goal.invariant-loop-cpu
invariant-loop-cpu g l = l.tally ≡ tally_of (map g.C.Actor.counted (take l.cpu-index l.crew.cpus.items))

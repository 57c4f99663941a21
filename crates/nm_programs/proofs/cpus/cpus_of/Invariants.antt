use Rattle.std.proofs.Common.{◌≡◌, length}
use Rattle.nm_access.specs.Faults.{fault_kinds}
use Rattle.nm_cpu.specs.Agreeing.{FollowsCpu}
use Rattle.nm_crew.specs.Crewed.{AtEach}
use Rattle.nm_programs.specs.Cpus.{IsCpuAt}
use Rattle.nm_programs.proofs.cpus.cpus_of.Given as goal

abbrev pub invariant-loop-number : goal.invariant-loop-number
invariant-loop-number g l = record {
  many : length l.cpus.items ≡ l.number;
  each : AtEach (IsCpuAt (λ c. c.made) (FollowsCpu (fault_kinds g.F.Part.shape g.F.Part.leaves g.F.Faults.waits_at g.F.Faults.missing g.F.Faults.shadowed g.F.Faults.counted) g.F.Part.made g.F.Part.awaits) l.script) l.cpus.items;
}

use Rattle.std.proofs.Common.{take}
use Rattle.nm_flat.specs.Memory.{IsLegal, IsMemory, memory_after}
use Rattle.nm_flat.proofs.memory.replay.Given as goal

abbrev pub invariant-loop-access : goal.invariant-loop-access
invariant-loop-access l = record {
  legal : IsLegal l.g (take l.access-index l.list);
  memory : IsMemory l.g l.words.items (memory_after l.g (take l.access-index l.list));
}

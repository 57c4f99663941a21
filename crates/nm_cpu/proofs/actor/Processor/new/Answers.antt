-- A processor that has given no turn.
use Rattle.std.proofs.Common.{refl}
use Rattle.nm_cpu.proofs.Starting.{starts}
use Rattle.nm_cpu.proofs.actor.Processor.new.Goals as goal

pub returns-clause-new : goal.returns-clause-new
returns-clause-new g c = starts _ g.F.Part.made g.F.Part.awaits _ c.requires refl c.in_ok-access.ensures c.in_ok-results.ensures.items refl c.in_ok-results.ensures.capacity c.in_ok-counter.ensures.counted c.in_ok-counter.ensures.pages

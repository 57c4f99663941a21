-- The five facts of a run follow from the laws, the legality of accesses and the law of transactions.
use Rattle.std.proofs.Common.{List}
use Rattle.nm_base.specs.Geometry.{Geometry, IsGeometry}
use Rattle.nm_action.specs.declared.action.Event.{Event}
use Rattle.nm_core.specs.Runs.{IsRun, state_after}
use Rattle.nm_world.specs.Worlds.{World}
use Rattle.nm_world.specs.Sights.{sight_of}
use Rattle.nm_world.specs.ShadowLaw.{IsMaster}
use Rattle.nm_world.specs.Laws.{AreAll}
use Rattle.nm_world.specs.Seen.{world_of}
use Rattle.nm_copies.proofs.Closing.{facts_hold}
use Rattle.nm_runs.proofs.EachRun.{all_in_run}
use Rattle.nm_laws.proofs.OneRole.{one_role_in_run}
use Rattle.nm_legal.proofs.EachRun.{placed_run, legal_run}
use Rattle.nm_transactions.proofs.EachRun.{transactions_obey}
use Rattle.nm_laws.specs.Facts.{AreTrueShadows, HoldsOfRun}

-- where all the groups hold, shadows are true: a writable word of a master's page would name a home with a shadow
shadows_true : (g : Geometry) (m : World) → IsGeometry g → AreAll g m → AreTrueShadows g (sight_of g m)
shadows_true g m is all k some =
    let master : IsMaster g (sight_of g m) k = all.shadows.masters k some in
    record { master = master; unwritable = ((facts_hold g m is all).shadowed.shadowed master.page k master.home some).unwritable }

pub facts_in_run : (g : Geometry) (events : List Event) → IsGeometry g → IsRun g events → HoldsOfRun g events
facts_in_run g events is run =
    let all : AreAll g (world_of (state_after g events)) = all_in_run g events is run in
    record {
      placed = placed_run g events is run;
      legal = legal_run g events is run;
      transactions = transactions_obey g events is run;
      shadows = shadows_true g (world_of (state_after g events)) is all;
      roles = record { tests = one_role_in_run g events is run; names = all.frames.roles };
      held = record { locks = all.locks.locks; turns = all.locks.turns };
    }

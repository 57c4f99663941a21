-- That turns leave no mark, from what each actor's part of them shows.
use Rattle.std.proofs.Common.{◌+◌, List, sym, subst}
use Rattle.nm_base.specs.Geometry.{Geometry, IsGeometry}
use Rattle.nm_action.specs.Own.{Own}
use Rattle.nm_core.specs.Runs.{IsRun, state_after}
use Rattle.nm_schedule.specs.declared.turn.Played.{Played}
use Rattle.nm_schedule.specs.Played.{events_of}
use Rattle.nm_play.proofs.Own.{own-turns}
use Rattle.nm_marks.specs.Marks.{HasOnlyMarks, IsNoMark}
use Rattle.nm_settled.specs.Ended.{HasNoMark}
use Rattle.nm_unmarked.specs.Unmarking.{IsProcessorUnmarking, IsMigratorUnmarking, TakeMarksBack}
use Rattle.nm_unmarked.proofs.EachRun.{unmarked-run}
use Rattle.nm_settled_play.specs.EndedTurns.{TurnsTakeMarksBack}

turns-back : (g : Geometry) (played : List Played) → TurnsTakeMarksBack g played → TakeMarksBack g (events_of played)
turns-back g played h =
    let M : Own → Type 0 = λ l. IsMigratorUnmarking g l in
    let N : Own → Type 0 = λ l. HasOnlyMarks IsNoMark l in
    record {
      processors = λ cpu there. subst IsProcessorUnmarking (sym (own-turns cpu played)) (h.processors cpu there);
      migrator = subst M (sym (own-turns g.cpus played)) h.migrator;
      reclaimer = subst N (sym (own-turns (g.cpus + 1) played)) h.reclaimer;
    }

pub unmarked-turns : (g : Geometry) (played : List Played) → IsGeometry g → IsRun g (events_of played) → TurnsTakeMarksBack g played → HasNoMark (state_after g (events_of played))
unmarked-turns g played is run h = unmarked-run g (events_of played) is run (turns-back g played h)

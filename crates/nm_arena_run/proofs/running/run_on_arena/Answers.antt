-- The end words were made for the script's geometry.
use Rattle.std.proofs.Common.{refl, ap, ◌∙◌}
use Rattle.nm_core.specs.EndWords.{empty_end}
use Rattle.nm_crew.proofs.Ends.{empty-room}
use Rattle.nm_arena_run.proofs.running.run_on_arena.Goals as goal

pub close-requires-clause-room : goal.close-requires-clause-room
close-requires-clause-room g c = empty-room c.args.script.now.geometry _ _ refl (c.in_ok-end.ensures ∙ ap (λ s. empty_end s.geometry) c.script.view_is)

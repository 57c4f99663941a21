-- What the passes have seen, and what the machine's words are.
use Rattle.nm_arena_run.proofs.ThreadRunMade.{thread_run_made}
use Rattle.nm_arena_run.proofs.running.close.Goals as goal

pub returns : goal.returns
returns g c =
    thread_run_made _ _ _ _ _ _ _ _ _ _ c.requires.script c.requires.left c.close.ensures.whole c.close-2.ensures.whole c.close-3.ensures

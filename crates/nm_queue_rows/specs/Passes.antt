-- What a thread keeps of its pass.
use Rattle.std.specs.Prelude.{◌≡◌}
use Rattle.nm_queue.specs.Passes.{PassState}

-- it is a pass of the same queue, and no pass was made by it or joined into it
pub record KeepsPasses (old new : PassState) : Type 0 where
  pub queue : new.queue ≡ old.queue
  pub made : new.known.made ≡ old.known.made
  pub joined : new.known.joined ≡ old.known.joined

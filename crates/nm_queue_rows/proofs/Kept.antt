-- A push and a pop keep the queue of a pass, and make and join none.
use Rattle.std.proofs.Common.{ℕ, ap, ◌∙◌, Option, Some, None}
use Rattle.std.specs.Prelude.{Result, Ok, Err}
use Rattle.nm_action.specs.declared.turn.Full.{Full}
use Rattle.nm_queue.specs.Passes.{Known, PassState, IsPushAnswer, IsPopAnswer}
use Rattle.nm_queue_rows.specs.Passes.{KeepsPasses}

pub pushed_kept : (capacity page : ℕ) (old new : PassState) (r : Result Unit Full) → IsPushAnswer capacity page old new r → KeepsPasses old new
pushed_kept capacity page old new (Ok _) is = record {
  queue = ap (λ (p : PassState). p.queue) is.is;
  made = ap (λ (k : Known). k.made) is.known.is;
  joined = ap (λ (k : Known). k.joined) is.known.is;
}
pushed_kept capacity page old new (Err _) is = record {
  queue = ap (λ (p : PassState). p.queue) is.is;
  made = ap (λ (p : PassState). p.known.made) is.is;
  joined = ap (λ (p : PassState). p.known.joined) is.is;
}

pub popped_kept : (old new : PassState) (r : Option ℕ) → IsPopAnswer old new r → KeepsPasses old new
popped_kept old new (Some page) is = record {
  queue = ap (λ (p : PassState). p.queue) is.is;
  made = ap (λ (k : Known). k.made) is.known.is;
  joined = ap (λ (k : Known). k.joined) is.known.is;
}
popped_kept old new None is = record {
  queue = ap (λ (p : PassState). p.queue) is.is;
  made = ap (λ (p : PassState). p.known.made) is.is;
  joined = ap (λ (p : PassState). p.known.joined) is.is;
}

pub kept_twice : (a b c : PassState) → KeepsPasses a b → KeepsPasses b c → KeepsPasses a c
kept_twice a b c ab bc = record { queue = bc.queue ∙ ab.queue; made = bc.made ∙ ab.made; joined = bc.joined ∙ ab.joined }

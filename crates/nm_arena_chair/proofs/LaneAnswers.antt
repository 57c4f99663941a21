-- What a push and a pop of a chair's pass change of the chair's lane.
use Rattle.std.proofs.Common.{◌≡◌, ℕ, ◌<◌, Bool, true, false, List, [], ◌∷◌, length, refl, ap, Option, Some, None, Result, Ok, Err, arith}
use Rattle.std.specs.Prelude.{IfSome}
use Rattle.std.specs.Option.{option_map}
use Rattle.nm_action.specs.declared.turn.Full.{Full}
use Rattle.nm_actor.specs.Lanes.{held_with, IsHeldWithout, IsPutAnswer, IsTakeAnswer}
use Rattle.nm_queue.specs.Histories.{pages_left}
use Rattle.nm_queue.specs.Passes.{PassState, QueueState, Known, PutThen, TookThen, HeldThen, IsPushAnswer, IsPopAnswer}
use Rattle.nm_queue.proofs.Alone.{held_alone, room_alone, put_alone, taken_alone}
use Rattle.nm_arena_chair.specs.LaneFaces.{held_by, lane_by, IsAloneAt, IsPassAt}

room-at : (rested : Bool) (capacity page : ℕ) (old new : Known) → IsAloneAt rested old → PutThen capacity page old new → IfSome (held_by rested capacity old) (λ h. length h.pages < h.capacity)
room-at false capacity page old new alone then = tt
room-at true capacity page old new alone then = room_alone capacity page old new then alone

held-put : (rested : Bool) (capacity page : ℕ) (old new : Known) → IsAloneAt rested old → PutThen capacity page old new → held_by rested capacity new ≡ option_map (held_with page) (held_by rested capacity old)
held-put false capacity page old new alone then = refl
held-put true capacity page old new alone then = ap (λ l. Some (record { capacity = capacity; pages = l })) (put_alone capacity page old new then alone)

full-at : (rested : Bool) (capacity : ℕ) (k : Known) → IsAloneAt rested k → HeldThen capacity k → IfSome (held_by rested capacity k) (λ h. length h.pages ≡ h.capacity)
full-at false capacity k alone held = tt
full-at true capacity k alone held = held_alone capacity k held alone

nil-of : {A : Type 0} (xs : List A) → length xs ≡ 0 → xs ≡ []
nil-of [] e = refl
nil-of (x ∷ xs) e = absurd (omega arith)

empty-at : (rested : Bool) (capacity : ℕ) (k : Known) → IsAloneAt rested k → HeldThen 0 k → IfSome (held_by rested capacity k) (λ h. h.pages ≡ [])
empty-at false capacity k alone held = tt
empty-at true capacity k alone held = nil-of (pages_left k.seen) (held_alone 0 k held alone)

held-took : (rested : Bool) (capacity page : ℕ) (old new : Known) → IsAloneAt rested old → TookThen page old new → IsHeldWithout page (held_by rested capacity old) (held_by rested capacity new)
held-took false capacity page old new alone then = tt
held-took true capacity page old new alone then = record { front = []; back = pages_left new.seen; before = taken_alone page old new then alone; after = refl; capacity = refl }

-- the lane with the passes' fields
pub put-answer : (rested : Bool) (q : QueueState) (page : ℕ) (old new : PassState) (result : Result Unit Full) → IsPassAt rested q old → IsPushAnswer q.capacity page old new result
    → IsPutAnswer page (lane_by rested q.capacity old) (lane_by rested q.capacity new) result
put-answer rested q page old new (Ok u) at pushed = record {
  room = room-at rested q.capacity page old.known new.known at.alone pushed.known;
  is = λ i. record {
    moves = ap (λ (k : Known). k.moves) pushed.known.is i;
    fulls = ap (λ (p : PassState). p.fulls) pushed.is i;
    empties = ap (λ (p : PassState). p.empties) pushed.is i;
    held = held-put rested q.capacity page old.known new.known at.alone pushed.known i;
  };
}
put-answer rested q page old new (Err e) at refused = record {
  full = full-at rested q.capacity old.known at.alone refused.full;
  is = ap (lane_by rested q.capacity) refused.is;
}

pub take-answer : (rested : Bool) (q : QueueState) (old new : PassState) (result : Option ℕ) → IsPassAt rested q old → IsPopAnswer old new result
    → IsTakeAnswer (lane_by rested q.capacity old) (lane_by rested q.capacity new) result
take-answer rested q old new (Some page) at popped = record {
  held = held-took rested q.capacity page old.known new.known at.alone popped.known;
  is = λ i. record {
    moves = ap (λ (k : Known). k.moves) popped.known.is i;
    fulls = ap (λ (p : PassState). p.fulls) popped.is i;
    empties = ap (λ (p : PassState). p.empties) popped.is i;
    held = held_by rested q.capacity new.known;
  };
}
take-answer rested q old new None at refused = record {
  empty = empty-at rested q.capacity old.known at.alone refused.empty;
  is = ap (lane_by rested q.capacity) refused.is;
}

-- the passes that were joined into it stay
pub joined-put : (capacity page : ℕ) (old new : PassState) (result : Result Unit Full) → IsPushAnswer capacity page old new result → new.known.joined ≡ old.known.joined
joined-put capacity page old new (Ok u) pushed = ap (λ (k : Known). k.joined) pushed.known.is
joined-put capacity page old new (Err e) refused = ap (λ (p : PassState). p.known.joined) refused.is

pub joined-took : (old new : PassState) (result : Option ℕ) → IsPopAnswer old new result → new.known.joined ≡ old.known.joined
joined-took old new (Some page) popped = ap (λ (k : Known). k.joined) popped.known.is
joined-took old new None refused = ap (λ (p : PassState). p.known.joined) refused.is

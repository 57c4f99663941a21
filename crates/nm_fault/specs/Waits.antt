-- Where an actor may catch up with what others did, before it makes an action.
use Rattle.std.specs.Prelude.{◌≡◌, ℕ, ◌==◌, ◌&&◌, Bool, true, false, [], ◌∷◌, ◌++◌, Option, Some, None}
use Rattle.nm_base.specs.Geometry.{Geometry}
use Rattle.nm_action.specs.declared.action.Action.{Action}
use Rattle.nm_action.specs.declared.action.Action.TheVariants.{Lock, TakeTurn, ReleaseTurn}
use Rattle.nm_action.specs.declared.action.Reply.{Reply}
use Rattle.nm_action.specs.declared.action.Reply.TheVariants.{Busy}
use Rattle.nm_action.specs.Own.{Own}
use Rattle.nm_pool.specs.declared.job.PoolEnd.TheVariants.{AtFloor}
use Rattle.nm_pool.specs.declared.job.PoolJob.TheVariants.{Take}
use Rattle.nm_pool.specs.Pool.{IsPool}

abbrev pub is_busy : Reply → Bool
is_busy (Busy word) = true
is_busy _ = false

-- an action locks this page
abbrev pub locks : ℕ → Action → Bool
locks page (Lock b) = b == page
locks page _ = false

-- an action takes the turn of this tier
abbrev pub takes_turn : ℕ → Action → Bool
takes_turn tier (TakeTurn t) = t == tier
takes_turn tier _ = false

-- an action waits after another one, which was answered so: it is the same Lock or TakeTurn, which was Busy; or the turn of
-- tier 0 was released, and is to be taken again, as a search for a frame does that is made again
abbrev pub waits_between : Action → Reply → Action → Bool
waits_between (Lock page) reply action = is_busy reply && locks page action
waits_between (TakeTurn tier) reply action = is_busy reply && takes_turn tier action
waits_between (ReleaseTurn tier) reply action = (tier == 0) && takes_turn 0 action
waits_between _ reply action = false

-- an action waits, by the event before it
abbrev pub waits_after : Option (Action × Reply) → Action → Bool
waits_after None action = false
waits_after (Some event) action = waits_between event.0 event.1 action

-- the last event of an own list
abbrev pub last_event : Own → Option (Action × Reply)
last_event [] = None
last_event (event ∷ []) = Some event
last_event (event ∷ (next ∷ own)) = last_event (next ∷ own)

-- an action waits after this own list
abbrev pub is_waiting : Own → Action → Bool
is_waiting own action = waits_after (last_event own) action

-- after a try for the last frames of tier 0 that had none, whatever came before it, taking the turn of tier 0 waits
abbrev pub DoesSearchWait : Type 0
DoesSearchWait = (g : Geometry) (before last : Own) (n : ℕ) → IsPool g (Take 0 0) last (AtFloor n) → is_waiting (before ++ last) (TakeTurn 0) ≡ true

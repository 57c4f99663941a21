-- How many bumps and raises there are after an action, and what its actor has polled.
use Rattle.std.specs.Prelude.{ℕ, ◌+◌}
use Rattle.nm_action.specs.declared.action.Reply.{Reply}
use Rattle.nm_action.specs.declared.action.Reply.TheVariants.{Word}
use Rattle.nm_action.specs.declared.action.Action.{Action}
use Rattle.nm_action.specs.declared.action.Action.TheVariants.{Poll, Bump, Raise}

-- the bumps after an action, of so many before
abbrev pub bumps_after : Action → ℕ → ℕ
bumps_after Bump n = n + 1
bumps_after _ n = n

-- the raises after an action, of so many before
abbrev pub raises_after : Action → ℕ → ℕ
raises_after (Raise _) n = n + 1
raises_after _ n = n

-- what the actor has polled after an action
abbrev pub polled_after : Action → Reply → ℕ → ℕ
polled_after Poll (Word n) seen = n
polled_after _ _ seen = seen

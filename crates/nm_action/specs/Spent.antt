-- What an actor has drawn.
use Rattle.std.specs.Prelude.{◌+◌}
use Rattle.nm_action.specs.declared.spent.Spent.{Spent}
use Rattle.nm_action.specs.declared.action.Action.{Action}
use Rattle.nm_action.specs.declared.action.Action.TheVariants.{Bump, Raise}

-- what is drawn after an action: one bump more after a Bump, one raise more after a Raise
abbrev pub counted : Action → Spent → Spent
counted Bump s = record s { bumps = s.bumps + 1 }
counted (Raise _) s = record s { raises = s.raises + 1 }
counted _ s = s

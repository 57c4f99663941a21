-- Which actions an own list may have, of Marks and acknowledgements.
use Rattle.std.specs.Prelude.{ℕ}
use Rattle.nm_action.specs.declared.action.AckTo.{AckTo}
use Rattle.nm_action.specs.declared.action.Action.{Action}
use Rattle.nm_action.specs.declared.action.Action.TheVariants.{Ack, Mark}

-- if an action is a Mark, it is from one of these values to another; if it is an acknowledgement, it is one of these
abbrev pub IsActionOf : (ℕ → ℕ → Type 0) → (AckTo → Type 0) → Action → Type 0
IsActionOf may ack (Mark page old new) = may old new
IsActionOf may ack (Ack to) = ack to
IsActionOf may ack action = Unit {0}

-- no acknowledgement at all
abbrev pub IsNoAck : AckTo → Type 0
IsNoAck to = ⊥

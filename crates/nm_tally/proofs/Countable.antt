-- The pages of a permitted action are in range.
use Rattle.nm_base.specs.Geometry.{Geometry, page_count}
use Rattle.nm_action.specs.declared.action.Action.{Action}
use Rattle.nm_action.specs.declared.action.Action.TheVariants.{Lock, Unlock, Mark}
use Rattle.nm_permit.specs.Permitted.{InRange}
use Rattle.nm_tally.specs.Counting.{IsCountable}

-- an action whose numbers are in range can be counted
pub countable : (g : Geometry) (action : Action) → InRange g action → IsCountable (page_count g) action
countable g (Lock page) h = h
countable g (Unlock page) h = h
countable g (Mark page from to) h = h
countable g action h = tt

-- Both lanes as lists, and what a put and a take change of them.
use Rattle.std.specs.Prelude.{drop}
use Rattle.nm_action.specs.declared.turn.Lane.{Lane}
use Rattle.nm_action.specs.declared.turn.Lane.TheVariants.{Candidates, Pending}
use Rattle.nm_actor.specs.Lanes.{Held}

-- what each lane holds, in the order in which the pages were put, and how many it can hold
pub record PortLanes : Type 0 where
  pub candidates : Held
  pub pending : Held

abbrev pub held_in : Lane → PortLanes → Held
held_in Candidates l = l.candidates
held_in Pending l = l.pending

abbrev pub with_held : Lane → Held → PortLanes → PortLanes
with_held Candidates h l = record l { candidates = h }
with_held Pending h l = record l { pending = h }

-- a lane without its first page, or as it was where it has none
abbrev pub without_first : Held → Held
without_first h = record h { pages = drop 1 h.pages }

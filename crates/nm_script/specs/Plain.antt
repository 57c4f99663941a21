-- What a script says, without where it lies in memory.
use Rattle.std.specs.Prelude.{ℕ, List, Option}
use Rattle.nm_base.specs.Geometry.{Geometry}
use Rattle.nm_tiers.specs.declared.nodes.Node.{Node}
use Rattle.nm_script.specs.declared.script.Line.{Line}
use Rattle.nm_script.specs.declared.schedule.Schedule.{Schedule}

pub record Script : Type 0 where
  pub version : ℕ
  pub geometry : Geometry
  pub programs : List (List Line)
  pub schedule : Schedule
  pub nodes : List Node
  pub retry : Option ℕ

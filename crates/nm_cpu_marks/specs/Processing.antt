-- What a processor does before it acknowledges its end.
use Rattle.std.specs.Prelude.{◌≡◌, [], ◌∷◌, ◌++◌}
use Rattle.nm_action.specs.declared.action.AckTo.{AckTo}
use Rattle.nm_action.specs.declared.action.AckTo.TheVariants.{Seen, Off, End}
use Rattle.nm_action.specs.declared.action.Action.{Action}
use Rattle.nm_action.specs.declared.action.Action.TheVariants.{Ack}
use Rattle.nm_action.specs.declared.action.Reply.{Reply}
use Rattle.nm_action.specs.Own.{Own}
use Rattle.nm_marks.specs.Contents.{HasOnly}
use Rattle.nm_marks.specs.Marks.{IsCandidateMark}
use Rattle.nm_part_marks.specs.Actions.{IsActionOf}

-- an acknowledgement that is not the last
abbrev pub IsEarlyAck : AckTo → Type 0
IsEarlyAck Seen = Unit {0}
IsEarlyAck Off = Unit {0}
IsEarlyAck End = ⊥

-- an action before the end: if it is a Mark it makes a candidate or takes one back, and it is no acknowledgement of the end
abbrev pub IsProcessing : Action → Type 0
IsProcessing = IsActionOf IsCandidateMark IsEarlyAck

-- such actions, and then the acknowledgement of the end
pub record EndsOnce (own : Own) : Type 0 where
  pub front : Own
  pub reply : Reply
  pub is : own ≡ front ++ (Ack End, reply) ∷ []
  pub before : HasOnly IsProcessing front

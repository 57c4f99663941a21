-- The processors are asked whether they have ended: no Mark is made.
use Rattle.std.proofs.Common.{ℕ, zero, suc, ◌+◌, true, false}
use Rattle.nm_base.specs.Geometry.{Geometry}
use Rattle.nm_action.specs.declared.action.AckTo.{AckTo}
use Rattle.nm_action.specs.declared.action.Action.TheVariants.{SeeAck}
use Rattle.nm_part.specs.Patterns.{Ends, Either}
use Rattle.nm_ended.specs.Asking.{tells_end, AsksFrom}
use Rattle.nm_marks.specs.Contents.{ListsOnly}
use Rattle.nm_marks.proofs.Patterns.{only-ends, only-then, only-either}
use Rattle.nm_part_marks.specs.Actions.{IsActionOf}

pub asks-actions : (may : ℕ → ℕ → Type 0) (ack : AckTo → Type 0) (g : Geometry) (cpu more : ℕ) → ListsOnly (IsActionOf may ack) (AsksFrom g cpu more)
asks-actions may ack g cpu zero = only-ends (IsActionOf may ack) true
asks-actions may ack g cpu (suc more) =
    only-then (IsActionOf may ack) (SeeAck cpu) g (λ reply. Either (tells_end reply) (AsksFrom g (cpu + 1) more) (Ends false)) tt
    (λ reply. only-either (IsActionOf may ack) (tells_end reply) (AsksFrom g (cpu + 1) more) (Ends false) (asks-actions may ack g (cpu + 1) more) (only-ends (IsActionOf may ack) false))

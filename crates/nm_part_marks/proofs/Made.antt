-- Of which Marks a list has, from which actions it may have.
use Rattle.std.proofs.Common.{ℕ}
use Rattle.nm_action.specs.declared.action.Action.{Action}
use Rattle.nm_action.specs.declared.action.Action.TheVariants.{Ack, Mark}
use Rattle.nm_action.specs.Own.{Own}
use Rattle.nm_marks.specs.Contents.{HasOnly}
use Rattle.nm_marks.specs.Marks.{IsMarkOf, HasOnlyMarks}
use Rattle.nm_marks.proofs.Contents.{only-more}
use Rattle.nm_part_marks.specs.Actions.{IsActionOf, IsNoAck}

mark-of : (may : ℕ → ℕ → Type 0) (action : Action) → IsActionOf may IsNoAck action → IsMarkOf may action
mark-of may (Mark page old new) h = h
mark-of may (Ack to) h = tt
mark-of may _ h = tt

pub marks-of : (may : ℕ → ℕ → Type 0) (own : Own) → HasOnly (IsActionOf may IsNoAck) own → HasOnlyMarks may own
marks-of may own h = only-more (IsActionOf may IsNoAck) (IsMarkOf may) (mark-of may) own h

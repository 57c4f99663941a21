-- The pieces of the migrator's work but the Mark of a hot page: each Mark takes a mark back.
use Rattle.std.proofs.Common.{ℕ, List, refl, inl, inr}
use Rattle.nm_base.specs.Geometry.{Geometry}
use Rattle.nm_action.specs.declared.action.Action.TheVariants as action
use Rattle.nm_action.specs.declared.spent.Spent.{Spent}
use Rattle.nm_action.specs.Own.{Own}
use Rattle.nm_looks.specs.Parts.{page_looks}
use Rattle.nm_batch.specs.Places.{batch_made}
use Rattle.nm_migrator_work.specs.declared.work.MigratorWork.TheVariants.{Mark, Looks, Cool, Batch, Move, Ask}
use Rattle.nm_migrator_work.specs.Works.{MigratorWorkEnd, IsMigratorWork, made_mark, made_looks, made_cool, made_batch, made_move, made_ask}
use Rattle.nm_marks.specs.Contents.{ListsOnly}
use Rattle.nm_marks.specs.Marks.{IsMarkOf}
use Rattle.nm_marks.proofs.Patterns.{only-act}
use Rattle.nm_part_marks.specs.Actions.{IsNoAck}
use Rattle.nm_part_marks.proofs.Made.{marks-of}
use Rattle.nm_part_marks.proofs.Leaves.{looks-actions}
use Rattle.nm_part_marks.proofs.Moves.{batch-actions, locked-actions, cool-actions}
use Rattle.nm_part_marks.proofs.Asking.{asks-actions}
use Rattle.nm_migrator_marks.proofs.Clearing.{IsReturnMark}

-- each Mark of a piece of work takes a mark back
abbrev Returns : (Own → MigratorWorkEnd → Type 0) → Type 0
Returns work = ListsOnly (IsMarkOf IsReturnMark) work

pub unmark-returns : (g : Geometry) (page : ℕ) → Returns (IsMigratorWork (made_mark page 1 0) g)
unmark-returns g page own (Mark reply) h = only-act (IsMarkOf IsReturnMark) (action.Mark page 1 0) g (inl (record { old_is = refl; new_is = refl })) own reply h
unmark-returns g page own (Looks seen) h = absurd h
unmark-returns g page own (Cool end) h = absurd h
unmark-returns g page own (Batch told) h = absurd h
unmark-returns g page own (Move told) h = absurd h
unmark-returns g page own (Ask all) h = absurd h

pub look-returns : (g : Geometry) (page : ℕ) → Returns (IsMigratorWork (made_looks g page) g)
look-returns g page own (Mark reply) h = absurd h
look-returns g page own (Looks seen) h = marks-of IsReturnMark own (looks-actions IsReturnMark IsNoAck (page_looks g page 0) g own seen h)
look-returns g page own (Cool end) h = absurd h
look-returns g page own (Batch told) h = absurd h
look-returns g page own (Move told) h = absurd h
look-returns g page own (Ask all) h = absurd h

pub cool-returns : (g : Geometry) (page : ℕ) → Returns (IsMigratorWork (made_cool g page) g)
cool-returns g page own (Mark reply) h = absurd h
cool-returns g page own (Looks seen) h = absurd h
cool-returns g page own (Cool end) h = marks-of IsReturnMark own (cool-actions IsReturnMark IsNoAck (inl (record { old_is = refl; new_is = refl })) (record { 0 = g; 1 = page }) g own end h)
cool-returns g page own (Batch told) h = absurd h
cool-returns g page own (Move told) h = absurd h
cool-returns g page own (Ask all) h = absurd h

pub batch-returns : (g : Geometry) (pieces : List (ℕ × ℕ)) (spent : Spent) → Returns (IsMigratorWork (made_batch g pieces spent) g)
batch-returns g pieces spent own (Mark reply) h = absurd h
batch-returns g pieces spent own (Looks seen) h = absurd h
batch-returns g pieces spent own (Cool end) h = absurd h
batch-returns g pieces spent own (Batch told) h = marks-of IsReturnMark own (batch-actions IsReturnMark IsNoAck (inr (record { old_is = refl; new_is = refl })) (batch_made (record { pieces = pieces; spent = spent })) g own told.end h.shown)
batch-returns g pieces spent own (Move told) h = absurd h
batch-returns g pieces spent own (Ask all) h = absurd h

pub move-returns : (g : Geometry) (page count : ℕ) (spent : Spent) → Returns (IsMigratorWork (made_move g page count spent) g)
move-returns g page count spent own (Mark reply) h = absurd h
move-returns g page count spent own (Looks seen) h = absurd h
move-returns g page count spent own (Cool end) h = absurd h
move-returns g page count spent own (Batch told) h = absurd h
move-returns g page count spent own (Move told) h = marks-of IsReturnMark own (locked-actions IsReturnMark IsNoAck (inr (record { old_is = refl; new_is = refl })) (record { page = page; count = count; spent = spent }) g own told.end.end h.shown)
move-returns g page count spent own (Ask all) h = absurd h

pub ask-returns : (g : Geometry) → Returns (IsMigratorWork (made_ask g) g)
ask-returns g own (Mark reply) h = absurd h
ask-returns g own (Looks seen) h = absurd h
ask-returns g own (Cool end) h = absurd h
ask-returns g own (Batch told) h = absurd h
ask-returns g own (Move told) h = absurd h
ask-returns g own (Ask all) h = marks-of IsReturnMark own (asks-actions IsReturnMark IsNoAck g 0 g.cpus own all h)

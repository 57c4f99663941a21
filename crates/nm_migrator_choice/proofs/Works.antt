-- What is told of the pieces of the migrator's work.
use Rattle.std.proofs.Common.{◌≡◌, ℕ, Bool, List, refl}
use Rattle.nm_base.specs.Geometry.{Geometry}
use Rattle.nm_action.specs.declared.action.Action.{Action}
use Rattle.nm_action.specs.declared.action.Action.TheVariants as action
use Rattle.nm_action.specs.declared.action.Reply.{Reply}
use Rattle.nm_action.specs.declared.spent.Spent.{Spent}
use Rattle.nm_action.specs.declared.tally.Tally.{Tally}
use Rattle.nm_action.specs.Own.{Own}
use Rattle.nm_tally.specs.Counts.{zero_tally}
use Rattle.nm_compose.specs.Acts.{IsAct}
use Rattle.nm_ended.specs.Asking.{IsAsking}
use Rattle.nm_looks.specs.declared.seen.Seen.{Seen}
use Rattle.nm_looks.specs.Seeing.{IsLooks}
use Rattle.nm_looks.specs.Parts.{page_looks}
use Rattle.nm_cool.specs.declared.cool.Cooled.{Cooled}
use Rattle.nm_cool.specs.Cooling.{IsCooling}
use Rattle.nm_txn.specs.declared.end.TxnEnd.{TxnEnd}
use Rattle.nm_batch.specs.Places.{batch_made}
use Rattle.nm_txn.specs.Batches.{IsBatch}
use Rattle.nm_locked.specs.declared.choose.ChooseMade.{ChooseMade}
use Rattle.nm_locked.specs.declared.locked.LockedEnd.{LockedEnd}
use Rattle.nm_locked.specs.declared.locked.LockedOver.{LockedOver}
use Rattle.nm_locked.specs.Moves.{IsLockedInMove}
use Rattle.nm_drawing.specs.declared.drawing.Drawn.{Drawn}
use Rattle.nm_drawing.specs.Draws.{IsDrawingList}
use Rattle.nm_migrator_work.specs.declared.work.MigratorWork.TheVariants.{Mark, Looks, Cool, Batch, Move, Ask}
use Rattle.nm_migrator_work.specs.Works.{MigratorWorkMade, MigratorWorkEnd, IsMigratorWork, made_mark, made_looks, made_cool, made_batch, made_move, made_ask}
use Rattle.nm_migrator_work.specs.Ends.{mark_reply_in, looks_in, cooled_in, batch_in, move_in, drawn_in, all_ended_in, pieces_counts, move_counts, migrator_counts}
use Rattle.nm_choice.specs.Deterministic.{AreRepliesApart, AgreeOnTold}
use Rattle.nm_choice.proofs.Acts.{one-act}
use Rattle.nm_note_choice.proofs.Works.{IsOfKind, kind-told, with_spent, with_counts, drawing-told}
use Rattle.nm_part_choice.proofs.Leaves.{looks-one}
use Rattle.nm_part_choice.proofs.Moves.{batch-one, locked-one, cool-one}
use Rattle.nm_part_choice.proofs.Keeping.{asking-one}

-- the same is told, with what it counts, of any two ends of a piece of work
abbrev pub TellsOnce : {Z : Type 0} → (MigratorWorkEnd → Z) → MigratorWorkMade → Geometry → Type 0
TellsOnce tell work g = AgreeOnTold AreRepliesApart (with_counts tell migrator_counts) (IsMigratorWork work g) (IsMigratorWork work g)

-- nothing is counted
abbrev uncounted : {Z : Type 0} → Z → Z × Tally
uncounted z = (z, zero_tally)

-- ---- Marks

abbrev into_mark : Reply → MigratorWorkEnd
into_mark x = Mark x

mark_kind : (g : Geometry) (page old new : ℕ) (own : Own) (end : MigratorWorkEnd) → IsMigratorWork (made_mark page old new) g own end → IsOfKind into_mark (IsAct (action.Mark page old new) g) own end
mark_kind g page old new own (Mark x) h = record { part = x; is = refl; shown = h }
mark_kind g page old new own (Looks x) h = absurd h
mark_kind g page old new own (Cool x) h = absurd h
mark_kind g page old new own (Batch x) h = absurd h
mark_kind g page old new own (Move x) h = absurd h
mark_kind g page old new own (Ask x) h = absurd h

pub mark-told : (g : Geometry) (page old new : ℕ) → TellsOnce mark_reply_in (made_mark page old new) g
mark-told g page old new = kind-told (IsMigratorWork (made_mark page old new) g) into_mark (IsAct (action.Mark page old new) g) (λ (x : Reply). x) (with_counts mark_reply_in migrator_counts) (uncounted {Z = Reply}) (λ x. refl) (mark_kind g page old new) (one-act (action.Mark page old new) g)

-- ---- Looks

abbrev into_looks : Seen → MigratorWorkEnd
into_looks x = Looks x

looks_kind : (g : Geometry) (page : ℕ) (own : Own) (end : MigratorWorkEnd) → IsMigratorWork (made_looks g page) g own end → IsOfKind into_looks (IsLooks (page_looks g page 0) g) own end
looks_kind g page own (Mark x) h = absurd h
looks_kind g page own (Looks x) h = record { part = x; is = refl; shown = h }
looks_kind g page own (Cool x) h = absurd h
looks_kind g page own (Batch x) h = absurd h
looks_kind g page own (Move x) h = absurd h
looks_kind g page own (Ask x) h = absurd h

pub looks-told : (g : Geometry) (page : ℕ) → TellsOnce looks_in (made_looks g page) g
looks-told g page = kind-told (IsMigratorWork (made_looks g page) g) into_looks (IsLooks (page_looks g page 0) g) (λ (x : Seen). x) (with_counts looks_in migrator_counts) (uncounted {Z = Seen}) (λ x. refl) (looks_kind g page) (looks-one (page_looks g page 0) g)

-- ---- cooling

abbrev into_cool : Cooled → MigratorWorkEnd
into_cool x = Cool x

cool_kind : (g : Geometry) (page : ℕ) (own : Own) (end : MigratorWorkEnd) → IsMigratorWork (made_cool g page) g own end → IsOfKind into_cool (IsCooling (record { 0 = g; 1 = page }) g) own end
cool_kind g page own (Mark x) h = absurd h
cool_kind g page own (Looks x) h = absurd h
cool_kind g page own (Cool x) h = record { part = x; is = refl; shown = h }
cool_kind g page own (Batch x) h = absurd h
cool_kind g page own (Move x) h = absurd h
cool_kind g page own (Ask x) h = absurd h

pub cool-told : (g : Geometry) (page : ℕ) → TellsOnce cooled_in (made_cool g page) g
cool-told g page = kind-told (IsMigratorWork (made_cool g page) g) into_cool (IsCooling (record { 0 = g; 1 = page }) g) (λ (x : Cooled). x) (with_counts cooled_in migrator_counts) (uncounted {Z = Cooled}) (λ x. refl) (cool_kind g page) (cool-one (record { 0 = g; 1 = page }) g)

-- ---- the question whether all have ended

abbrev into_ask : Bool → MigratorWorkEnd
into_ask x = Ask x

ask_kind : (g : Geometry) (own : Own) (end : MigratorWorkEnd) → IsMigratorWork (made_ask g) g own end → IsOfKind into_ask (IsAsking g.cpus g) own end
ask_kind g own (Mark x) h = absurd h
ask_kind g own (Looks x) h = absurd h
ask_kind g own (Cool x) h = absurd h
ask_kind g own (Batch x) h = absurd h
ask_kind g own (Move x) h = absurd h
ask_kind g own (Ask x) h = record { part = x; is = refl; shown = h }

pub ask-told : (g : Geometry) → TellsOnce all_ended_in (made_ask g) g
ask-told g = kind-told (IsMigratorWork (made_ask g) g) into_ask (IsAsking g.cpus g) (λ (x : Bool). x) (with_counts all_ended_in migrator_counts) (uncounted {Z = Bool}) (λ x. refl) (ask_kind g) (asking-one g.cpus g)

-- ---- batches

abbrev into_batch : Drawn (List TxnEnd) → MigratorWorkEnd
into_batch x = Batch x

-- the ends of a batch and what was drawn, as told
abbrev batch_told : List TxnEnd × Spent → Drawn (List TxnEnd) × Tally
batch_told p = (record { end = p.0; spent = p.1 }, pieces_counts zero_tally p.0)

abbrev BatchList : Geometry → List (ℕ × ℕ) → Spent → Own → List TxnEnd → Type 0
BatchList g pieces spent own ends = IsBatch (batch_made (record { pieces = pieces; spent = spent })) g own ends

batch_kind : (g : Geometry) (pieces : List (ℕ × ℕ)) (spent : Spent) (own : Own) (end : MigratorWorkEnd) → IsMigratorWork (made_batch g pieces spent) g own end → IsOfKind into_batch (λ own told. IsDrawingList (BatchList g pieces spent own) spent own told) own end
batch_kind g pieces spent own (Mark x) h = absurd h
batch_kind g pieces spent own (Looks x) h = absurd h
batch_kind g pieces spent own (Cool x) h = absurd h
batch_kind g pieces spent own (Batch x) h = record { part = x; is = refl; shown = h }
batch_kind g pieces spent own (Move x) h = absurd h
batch_kind g pieces spent own (Ask x) h = absurd h

pub batch-told : (g : Geometry) (pieces : List (ℕ × ℕ)) (spent : Spent) → TellsOnce batch_in (made_batch g pieces spent) g
batch-told g pieces spent = kind-told (IsMigratorWork (made_batch g pieces spent) g) into_batch (λ own told. IsDrawingList (BatchList g pieces spent own) spent own told) (with_spent (λ (ends : List TxnEnd). ends)) (with_counts batch_in migrator_counts) batch_told (λ x. refl)
    (batch_kind g pieces spent) (drawing-told (BatchList g pieces spent) spent (λ (ends : List TxnEnd). ends) (batch-one (batch_made (record { pieces = pieces; spent = spent })) g))

-- ---- locked moves

abbrev into_move : Drawn LockedOver → MigratorWorkEnd
into_move x = Move x

abbrev move_over : LockedOver → LockedEnd
move_over over = over.end

-- what a locked move tells: how it ended, and what was drawn then
abbrev pub move_tells : MigratorWorkEnd → LockedEnd × Spent
move_tells end = (move_in end, drawn_in end)

abbrev move_told : LockedEnd × Spent → (LockedEnd × Spent) × Tally
move_told p = (p, move_counts p.0)

abbrev MoveList : Geometry → ℕ → ℕ → Spent → Own → LockedOver → Type 0
MoveList g page count spent own over = IsLockedInMove (record { page = page; count = count; spent = spent }) g own over.end

moves_over : (g : Geometry) (page count : ℕ) (spent : Spent) → AgreeOnTold AreRepliesApart move_over (MoveList g page count spent) (MoveList g page count spent)
moves_over g page count spent own other one two h k = locked-one (record { page = page; count = count; spent = spent }) g own other one.end two.end h k

move_kind : (g : Geometry) (page count : ℕ) (spent : Spent) (own : Own) (end : MigratorWorkEnd) → IsMigratorWork (made_move g page count spent) g own end → IsOfKind into_move (λ own told. IsDrawingList (MoveList g page count spent own) spent own told) own end
move_kind g page count spent own (Mark x) h = absurd h
move_kind g page count spent own (Looks x) h = absurd h
move_kind g page count spent own (Cool x) h = absurd h
move_kind g page count spent own (Batch x) h = absurd h
move_kind g page count spent own (Move x) h = record { part = x; is = refl; shown = h }
move_kind g page count spent own (Ask x) h = absurd h

pub move-told : (g : Geometry) (page count : ℕ) (spent : Spent) → TellsOnce move_tells (made_move g page count spent) g
move-told g page count spent = kind-told (IsMigratorWork (made_move g page count spent) g) into_move (λ own told. IsDrawingList (MoveList g page count spent own) spent own told) (with_spent move_over) (with_counts move_tells migrator_counts) move_told (λ x. refl)
    (move_kind g page count spent) (drawing-told (MoveList g page count spent) spent move_over (moves_over g page count spent))

-- How the tasks of the migrator ended: what is told by an end, and what it counts. Of an end of another kind nothing is claimed.
use Rattle.std.specs.Prelude.{ℕ, Bool, false, List, [], ◌∷◌, Option, Some, None}
use Rattle.nm_action.specs.declared.action.Reply.{Reply}
use Rattle.nm_action.specs.declared.action.Reply.TheVariants as replies
use Rattle.nm_action.specs.declared.spent.Spent.{Spent}
use Rattle.nm_action.specs.declared.tally.Tally.{Tally}
use Rattle.nm_action.specs.Tally.{sum_of}
use Rattle.nm_tally.specs.Counts.{zero_tally}
use Rattle.nm_looks.specs.declared.seen.Seen.{Seen}
use Rattle.nm_looks.specs.Seeing.{nothing_seen}
use Rattle.nm_cool.specs.declared.cool.Cooled.{Cooled}
use Rattle.nm_cool.specs.declared.cool.Cooled.TheVariants as cooled
use Rattle.nm_txn.specs.declared.end.TxnEnd.{TxnEnd}
use Rattle.nm_txn.specs.declared.end.TxnEnd.TheVariants as ends
use Rattle.nm_locked.specs.declared.locked.LockedEnd.{LockedEnd}
use Rattle.nm_locked.specs.declared.locked.LockedEnd.TheVariants as moves
use Rattle.nm_drawing.specs.declared.drawing.Drawn.{Drawn}
use Rattle.nm_worker.specs.declared.routine.Ended.{Ended}
use Rattle.nm_worker.specs.declared.routine.Ended.TheVariants as ended
use Rattle.nm_migrator_work.specs.declared.work.MigratorWork.TheVariants.{Mark, Looks, Cool, Batch, Move, Ask}
use Rattle.nm_migrator_work.specs.Works.{MigratorWorkEnd}

-- What is told.

abbrev pub nothing_drawn : Spent
nothing_drawn = record { bumps = 0; raises = 0 }

-- the reply to a Mark
abbrev pub mark_reply_in : MigratorWorkEnd → Reply
mark_reply_in (Mark reply) = reply
mark_reply_in end = replies.Busy 0

-- what Looks have seen
abbrev pub looks_in : MigratorWorkEnd → Seen
looks_in (Looks seen) = seen
looks_in end = nothing_seen

-- how a candidate was cooled
abbrev pub cooled_in : MigratorWorkEnd → Cooled
cooled_in (Cool end) = end
cooled_in end = cooled.Cold

-- how the pieces of a batch ended, in order, and what was drawn then
abbrev pub batch_in : MigratorWorkEnd → Drawn (List TxnEnd)
batch_in (Batch told) = told
batch_in end = record { end = []; spent = nothing_drawn }

-- how a locked move ended, and what was drawn then
abbrev pub move_in : MigratorWorkEnd → LockedEnd
move_in (Move told) = told.end.end
move_in end = moves.Gone

abbrev pub drawn_in : MigratorWorkEnd → Spent
drawn_in (Move told) = told.spent
drawn_in end = nothing_drawn

-- whether all processors have ended
abbrev pub all_ended_in : MigratorWorkEnd → Bool
all_ended_in (Ask all) = all
all_ended_in end = false

-- the list for taken words that a locked move gives back
abbrev pub words_in : MigratorWorkEnd → Option (List (ℕ × ℕ))
words_in (Move told) = Some told.end.taken
words_in end = None

-- The ends of tasks.

abbrev pub work_in : Ended MigratorWorkEnd → MigratorWorkEnd
work_in (ended.Run end) = end
work_in end = Ask false

abbrev pub full_in : Ended MigratorWorkEnd → Bool
full_in (ended.Put full) = full
full_in end = false

abbrev pub taken_page_in : Ended MigratorWorkEnd → Option ℕ
taken_page_in (ended.Take page) = page
taken_page_in end = None

-- What is counted.

-- the end of a piece of a batch; one that was busy counts nothing
abbrev pub piece_counts : TxnEnd → Tally
piece_counts ends.Committed = record zero_tally { committed = 1 }
piece_counts (ends.Aborted word) = record zero_tally { aborted = 1 }
piece_counts (ends.NoFrame n) = record zero_tally { noframe = 1 }
piece_counts ends.Gone = record zero_tally { gone = 1 }
piece_counts ends.Worn = record zero_tally { worn = 1 }
piece_counts ends.Busy = zero_tally

-- the counts so far with those of some pieces
abbrev pub pieces_counts : Tally → List TxnEnd → Tally
pieces_counts tally [] = tally
pieces_counts tally (end ∷ ends) = pieces_counts (sum_of tally (piece_counts end)) ends

-- the end of a locked move
abbrev pub move_counts : LockedEnd → Tally
move_counts moves.Moved = record zero_tally { moved = 1 }
move_counts (moves.NoFrame n) = record zero_tally { noframe = 1 }
move_counts moves.Gone = record zero_tally { gone = 1 }
move_counts moves.Worn = record zero_tally { worn = 1 }
move_counts moves.Busy = zero_tally

-- the end of a piece of work: the ends of a batch are counted when the batch is over
abbrev pub migrator_counts : MigratorWorkEnd → Tally
migrator_counts (Batch told) = pieces_counts zero_tally told.end
migrator_counts (Move told) = move_counts told.end.end
migrator_counts end = zero_tally

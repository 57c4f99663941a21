-- The end of a work is of its kind.
use Rattle.std.proofs.Common.{◌≡◌, ℕ, Bool, List, refl}
use Rattle.nm_base.specs.Geometry.{Geometry}
use Rattle.nm_action.specs.declared.action.Reply.{Reply}
use Rattle.nm_action.specs.declared.spent.Spent.{Spent}
use Rattle.nm_view.specs.Views.{View}
use Rattle.nm_looks.specs.declared.seen.Seen.{Seen}
use Rattle.nm_cool.specs.declared.cool.Cooled.{Cooled}
use Rattle.nm_txn.specs.declared.end.TxnEnd.{TxnEnd}
use Rattle.nm_locked.specs.declared.locked.LockedOver.{LockedOver}
use Rattle.nm_drawing.specs.declared.drawing.Drawn.{Drawn}
use Rattle.nm_migrator_work.specs.declared.work.MigratorWork.TheVariants as works
use Rattle.nm_migrator_work.specs.Works.{MigratorWorkEnd, MigratorWorkLeaves, made_mark, made_looks, made_cool, made_batch, made_move, made_ask}

pub mark-kind : (g : Geometry) (page from to : ℕ) (now later : View) (end : MigratorWorkEnd) → MigratorWorkLeaves (made_mark page from to) g now end later → (x : Reply) × (end ≡ works.Mark x)
mark-kind g page from to now later (works.Mark x) h = (x, refl)
mark-kind g page from to now later (works.Looks x) h = absurd h
mark-kind g page from to now later (works.Cool x) h = absurd h
mark-kind g page from to now later (works.Batch x) h = absurd h
mark-kind g page from to now later (works.Move x) h = absurd h
mark-kind g page from to now later (works.Ask x) h = absurd h

pub looks-kind : (g : Geometry) (page : ℕ) (now later : View) (end : MigratorWorkEnd) → MigratorWorkLeaves (made_looks g page) g now end later → (x : Seen) × (end ≡ works.Looks x)
looks-kind g page now later (works.Mark x) h = absurd h
looks-kind g page now later (works.Looks x) h = (x, refl)
looks-kind g page now later (works.Cool x) h = absurd h
looks-kind g page now later (works.Batch x) h = absurd h
looks-kind g page now later (works.Move x) h = absurd h
looks-kind g page now later (works.Ask x) h = absurd h

pub cool-kind : (g : Geometry) (page : ℕ) (now later : View) (end : MigratorWorkEnd) → MigratorWorkLeaves (made_cool g page) g now end later → (x : Cooled) × (end ≡ works.Cool x)
cool-kind g page now later (works.Mark x) h = absurd h
cool-kind g page now later (works.Looks x) h = absurd h
cool-kind g page now later (works.Cool x) h = (x, refl)
cool-kind g page now later (works.Batch x) h = absurd h
cool-kind g page now later (works.Move x) h = absurd h
cool-kind g page now later (works.Ask x) h = absurd h

pub batch-kind : (g : Geometry) (pieces : List (ℕ × ℕ)) (begun : Spent) (now later : View) (end : MigratorWorkEnd) → MigratorWorkLeaves (made_batch g pieces begun) g now end later → (x : Drawn (List TxnEnd)) × (end ≡ works.Batch x)
batch-kind g pieces begun now later (works.Mark x) h = absurd h
batch-kind g pieces begun now later (works.Looks x) h = absurd h
batch-kind g pieces begun now later (works.Cool x) h = absurd h
batch-kind g pieces begun now later (works.Batch x) h = (x, refl)
batch-kind g pieces begun now later (works.Move x) h = absurd h
batch-kind g pieces begun now later (works.Ask x) h = absurd h

pub move-kind : (g : Geometry) (page count : ℕ) (begun : Spent) (now later : View) (end : MigratorWorkEnd) → MigratorWorkLeaves (made_move g page count begun) g now end later → (x : Drawn LockedOver) × (end ≡ works.Move x)
move-kind g page count begun now later (works.Mark x) h = absurd h
move-kind g page count begun now later (works.Looks x) h = absurd h
move-kind g page count begun now later (works.Cool x) h = absurd h
move-kind g page count begun now later (works.Batch x) h = absurd h
move-kind g page count begun now later (works.Move x) h = (x, refl)
move-kind g page count begun now later (works.Ask x) h = absurd h

pub ask-kind : (g : Geometry) (now later : View) (end : MigratorWorkEnd) → MigratorWorkLeaves (made_ask g) g now end later → (x : Bool) × (end ≡ works.Ask x)
ask-kind g now later (works.Mark x) h = absurd h
ask-kind g now later (works.Looks x) h = absurd h
ask-kind g now later (works.Cool x) h = absurd h
ask-kind g now later (works.Batch x) h = absurd h
ask-kind g now later (works.Move x) h = absurd h
ask-kind g now later (works.Ask x) h = (x, refl)

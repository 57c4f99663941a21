-- After each work the view is as empty as before, and what was drawn is known.
use Rattle.std.proofs.Common.{◌≡◌, ℕ, ◌+◌, List, [], ◌∷◌, length, refl, sym, subst}
use Rattle.nm_base.specs.Geometry.{Geometry}
use Rattle.nm_action.specs.declared.spent.Spent.{Spent}
use Rattle.nm_view.specs.declared.view.Owned.{Owned}
use Rattle.nm_view.specs.declared.view.Scanned.{Scanned}
use Rattle.nm_view.specs.Lists.{edit}
use Rattle.nm_view.specs.Views.{Op, View}
use Rattle.nm_view.specs.Operations.{page_of}
use Rattle.nm_event.specs.After.{spoiled}
use Rattle.nm_mappings.specs.Visits.{visited}
use Rattle.nm_mappings.specs.declared.visits.Visit.TheVariants as visits
use Rattle.nm_cool.specs.declared.cool.Cooled.{Cooled}
use Rattle.nm_cool.specs.declared.cool.Cooled.TheVariants as cooled
use Rattle.nm_cool.specs.Cooling.{IsCooledLeft}
use Rattle.nm_txn.specs.declared.end.TxnEnd.{TxnEnd}
use Rattle.nm_batch.specs.Leaving.{spoiled_each}
use Rattle.nm_locked.specs.declared.choose.ChooseMade.{ChooseMade}
use Rattle.nm_locked.specs.declared.locked.LockedEnd.{LockedEnd}
use Rattle.nm_locked.specs.declared.locked.LockedEnd.TheVariants as ends
use Rattle.nm_locked.specs.declared.locked.LockedOver.{LockedOver}
use Rattle.nm_locked.specs.Chosen.{HasClosedInMove}
use Rattle.nm_locked.specs.Leaving.{IsLockedLeft}
use Rattle.nm_drawing.specs.declared.drawing.Drawn.{Drawn}
use Rattle.nm_worker.specs.Routines.{IsDrawn, IsLeftEmpty}
use Rattle.nm_migrator_work.specs.declared.work.MigratorWork.TheVariants as works
use Rattle.nm_migrator_work.specs.Works.{MigratorWorkEnd, MigratorWorkLeaves, made_mark, made_looks, made_cool, made_batch, made_move, made_ask}

-- the view is empty, and so much is drawn
abbrev pub RestsWith : Spent → View → Type 0
RestsWith spent view = IsLeftEmpty view × IsDrawn spent view

spoiled-none : (page : ℕ) (owned : List Owned) → owned ≡ [] → spoiled page owned ≡ []
spoiled-none page owned none = rw none refl

spoiled-each-none : (pages : List ℕ) (owned : List Owned) → owned ≡ [] → spoiled_each pages owned ≡ []
spoiled-each-none [] owned none = none
spoiled-each-none (page ∷ pages) owned none = spoiled-none page (spoiled_each pages owned) (spoiled-each-none pages owned none)

-- the view is the same
same-rests : (now later : View) (spent : Spent) → later ≡ now → IsLeftEmpty now → IsDrawn spent now → RestsWith spent later
same-rests now later spent is rests drawn = let R : View → Type 0 = λ v. RestsWith spent v in subst R (sym is) (rests, drawn)

-- the view is the same but for what is known of owned frames, for the scan, and for what was drawn
left-empty : (page : ℕ) (now later : View) (scan : Scanned) (bumps raises : ℕ) → later ≡ record now { owned = spoiled page now.owned; scan = scan; bumps = bumps; raises = raises } → IsLeftEmpty now → IsLeftEmpty later
left-empty page now later scan bumps raises is rests =
    let R : View → Type 0 = λ v. IsLeftEmpty v in
    subst R (sym is) (record { ops = rests.ops; owned = spoiled-none page now.owned rests.owned; turn = rests.turn })

pub mark-rests : (g : Geometry) (page from to : ℕ) (now later : View) (end : MigratorWorkEnd) (spent : Spent)
    → IsLeftEmpty now → IsDrawn spent now → MigratorWorkLeaves (made_mark page from to) g now end later → RestsWith spent later
mark-rests g page from to now later (works.Mark reply) spent rests drawn h = same-rests now later spent h.is rests drawn
mark-rests g page from to now later (works.Looks x) spent rests drawn h = absurd h
mark-rests g page from to now later (works.Cool x) spent rests drawn h = absurd h
mark-rests g page from to now later (works.Batch x) spent rests drawn h = absurd h
mark-rests g page from to now later (works.Move x) spent rests drawn h = absurd h
mark-rests g page from to now later (works.Ask x) spent rests drawn h = absurd h

looks-same : (page : ℕ) (told : List (ℕ × ℕ)) (ops : List Op) → ops ≡ [] → edit page_of page (visited visits.Look told) ops ≡ []
looks-same page told ops none = rw none refl

pub looks-rests : (g : Geometry) (page : ℕ) (now later : View) (end : MigratorWorkEnd) (spent : Spent)
    → IsLeftEmpty now → IsDrawn spent now → MigratorWorkLeaves (made_looks g page) g now end later → RestsWith spent later
looks-rests g page now later (works.Looks seen) spent rests drawn h =
    let R : View → Type 0 = λ v. RestsWith spent v in
    subst R (sym h.is) (record { ops = looks-same page h.told now.ops rests.ops; owned = rests.owned; turn = rests.turn }, record { bumps = drawn.bumps; raises = drawn.raises })
looks-rests g page now later (works.Mark x) spent rests drawn h = absurd h
looks-rests g page now later (works.Cool x) spent rests drawn h = absurd h
looks-rests g page now later (works.Batch x) spent rests drawn h = absurd h
looks-rests g page now later (works.Move x) spent rests drawn h = absurd h
looks-rests g page now later (works.Ask x) spent rests drawn h = absurd h

cooled-rests : (g : Geometry) (page : ℕ) (now later : View) (end : Cooled) (spent : Spent)
    → IsLeftEmpty now → IsDrawn spent now → IsCooledLeft (record { 0 = g; 1 = page }) now end later → RestsWith spent later
cooled-rests g page now later cooled.Busy spent rests drawn h = same-rests now later spent h rests drawn
cooled-rests g page now later cooled.Cold spent rests drawn h =
    let R : View → Type 0 = λ v. RestsWith spent v in
    subst R (sym h) (record { ops = rests.ops; owned = spoiled-none page now.owned rests.owned; turn = rests.turn }, record { bumps = drawn.bumps; raises = drawn.raises })

pub cool-rests : (g : Geometry) (page : ℕ) (now later : View) (end : MigratorWorkEnd) (spent : Spent)
    → IsLeftEmpty now → IsDrawn spent now → MigratorWorkLeaves (made_cool g page) g now end later → RestsWith spent later
cool-rests g page now later (works.Cool end) spent rests drawn h = cooled-rests g page now later end spent rests drawn h
cool-rests g page now later (works.Mark x) spent rests drawn h = absurd h
cool-rests g page now later (works.Looks x) spent rests drawn h = absurd h
cool-rests g page now later (works.Batch x) spent rests drawn h = absurd h
cool-rests g page now later (works.Move x) spent rests drawn h = absurd h
cool-rests g page now later (works.Ask x) spent rests drawn h = absurd h

pub ask-rests : (g : Geometry) (now later : View) (end : MigratorWorkEnd) (spent : Spent)
    → IsLeftEmpty now → IsDrawn spent now → MigratorWorkLeaves (made_ask g) g now end later → RestsWith spent later
ask-rests g now later (works.Ask all) spent rests drawn h = same-rests now later spent h rests drawn
ask-rests g now later (works.Mark x) spent rests drawn h = absurd h
ask-rests g now later (works.Looks x) spent rests drawn h = absurd h
ask-rests g now later (works.Cool x) spent rests drawn h = absurd h
ask-rests g now later (works.Batch x) spent rests drawn h = absurd h
ask-rests g now later (works.Move x) spent rests drawn h = absurd h

pub batch-rests : (g : Geometry) (pieces : List (ℕ × ℕ)) (begun : Spent) (now later : View) (told : Drawn (List TxnEnd))
    → IsLeftEmpty now → MigratorWorkLeaves (made_batch g pieces begun) g now (works.Batch told) later → IsLeftEmpty later × IsDrawn told.spent later × (length told.end ≡ length pieces)
batch-rests g pieces begun now later told rests h =
    let R : View → Type 0 = λ v. IsLeftEmpty v in
    (subst R (sym h.left.is) (record { ops = rests.ops; owned = spoiled-each-none h.left.pages now.owned rests.owned; turn = rests.turn }), h.drawn, h.left.count)

closed-rests : (page : ℕ) (now later : View) → IsLeftEmpty now → HasClosedInMove page now later → IsLeftEmpty later
closed-rests page now later rests h = left-empty page now later h.scan now.bumps now.raises h.is rests

moved-rests : (made : ChooseMade) (now later : View) (end : LockedEnd) → IsLeftEmpty now → IsLockedLeft made now end later → IsLeftEmpty later
moved-rests made now later ends.Moved rests h = left-empty made.page now later h.scan (now.bumps + 1) (now.raises + made.count) h.is rests
moved-rests made now later (ends.NoFrame n) rests h = closed-rests made.page now later rests h
moved-rests made now later ends.Gone rests h = closed-rests made.page now later rests h
moved-rests made now later ends.Worn rests h = closed-rests made.page now later rests h
moved-rests made now later ends.Busy rests h = let R : View → Type 0 = λ v. IsLeftEmpty v in subst R (sym h) rests

pub move-rests : (g : Geometry) (page count : ℕ) (begun : Spent) (now later : View) (told : Drawn LockedOver)
    → IsLeftEmpty now → MigratorWorkLeaves (made_move g page count begun) g now (works.Move told) later → IsLeftEmpty later × IsDrawn told.spent later
move-rests g page count begun now later told rests h = (moved-rests (record { page = page; count = count; spent = begun }) now later told.end.end rests h.left, h.drawn)

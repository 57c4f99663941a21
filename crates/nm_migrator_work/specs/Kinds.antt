-- The kinds of the migrator's work: all that is said of a piece of it is said by the piece of its kind.
use Rattle.nm_base.specs.Geometry.{Geometry}
use Rattle.nm_action.specs.declared.action.Action.{Action}
use Rattle.nm_action.specs.declared.turn.Step.{Step}
use Rattle.nm_action.specs.declared.turn.Step.TheVariants.{Do, Over}
use Rattle.nm_action.specs.Own.{Own}
use Rattle.nm_view.specs.Views.{View}
use Rattle.nm_migrator_work.specs.declared.work.MigratorWork.{MigratorWork}
use Rattle.nm_migrator_work.specs.declared.work.MigratorWork.TheVariants.{Mark, Looks, Cool, Batch, Move, Ask}

-- In these, what each kind says of itself is given, in the order of the kinds; their parts P, what they were made with M, and
-- their ends X.

-- what a piece was made with
abbrev pub made_by : {P1 P2 P3 P4 P5 P6 M1 M2 M3 M4 M5 M6 : Type 0} → (P1 → M1) → (P2 → M2) → (P3 → M3) → (P4 → M4) → (P5 → M5) → (P6 → M6) → MigratorWork P1 P2 P3 P4 P5 P6 → MigratorWork M1 M2 M3 M4 M5 M6
made_by mark looks cool batch locked ask (Mark p) = Mark (mark p)
made_by mark looks cool batch locked ask (Looks p) = Looks (looks p)
made_by mark looks cool batch locked ask (Cool p) = Cool (cool p)
made_by mark looks cool batch locked ask (Batch p) = Batch (batch p)
made_by mark looks cool batch locked ask (Move p) = Move (locked p)
made_by mark looks cool batch locked ask (Ask p) = Ask (ask p)

-- the step of a piece of a kind, by how its end is one of the work
abbrev pub step_into : {X Y : Type 0} → (X → Y) → Step X → Step Y
step_into into (Do action) = Do action
step_into into (Over end) = Over (into end)

-- it has given no action
abbrev pub IsNewBy : {P1 P2 P3 P4 P5 P6 : Type 0} → (P1 → Type 0) → (P2 → Type 0) → (P3 → Type 0) → (P4 → Type 0) → (P5 → Type 0) → (P6 → Type 0) → MigratorWork P1 P2 P3 P4 P5 P6 → Type 0
IsNewBy mark looks cool batch locked ask (Mark p) = mark p
IsNewBy mark looks cool batch locked ask (Looks p) = looks p
IsNewBy mark looks cool batch locked ask (Cool p) = cool p
IsNewBy mark looks cool batch locked ask (Batch p) = batch p
IsNewBy mark looks cool batch locked ask (Move p) = locked p
IsNewBy mark looks cool batch locked ask (Ask p) = ask p

-- it may begin
abbrev pub MayBy : {M1 M2 M3 M4 M5 M6 : Type 0} → (M1 → Geometry → View → Type 0) → (M2 → Geometry → View → Type 0) → (M3 → Geometry → View → Type 0) → (M4 → Geometry → View → Type 0) → (M5 → Geometry → View → Type 0) → (M6 → Geometry → View → Type 0) → MigratorWork M1 M2 M3 M4 M5 M6 → Geometry → View → Type 0
MayBy mark looks cool batch locked ask (Mark m) g view = mark m g view
MayBy mark looks cool batch locked ask (Looks m) g view = looks m g view
MayBy mark looks cool batch locked ask (Cool m) g view = cool m g view
MayBy mark looks cool batch locked ask (Batch m) g view = batch m g view
MayBy mark looks cool batch locked ask (Move m) g view = locked m g view
MayBy mark looks cool batch locked ask (Ask m) g view = ask m g view

-- a finished list of it, and the end that this shows, which is of its kind
abbrev pub IsListBy : {M1 M2 M3 M4 M5 M6 X1 X2 X3 X4 X5 X6 : Type 0} → (M1 → Geometry → Own → X1 → Type 0) → (M2 → Geometry → Own → X2 → Type 0) → (M3 → Geometry → Own → X3 → Type 0) → (M4 → Geometry → Own → X4 → Type 0) → (M5 → Geometry → Own → X5 → Type 0) → (M6 → Geometry → Own → X6 → Type 0) → MigratorWork M1 M2 M3 M4 M5 M6 → Geometry → Own → MigratorWork X1 X2 X3 X4 X5 X6 → Type 0
IsListBy mark looks cool batch locked ask (Mark m) g own (Mark x) = mark m g own x
IsListBy mark looks cool batch locked ask (Looks m) g own (Looks x) = looks m g own x
IsListBy mark looks cool batch locked ask (Cool m) g own (Cool x) = cool m g own x
IsListBy mark looks cool batch locked ask (Batch m) g own (Batch x) = batch m g own x
IsListBy mark looks cool batch locked ask (Move m) g own (Move x) = locked m g own x
IsListBy mark looks cool batch locked ask (Ask m) g own (Ask x) = ask m g own x
IsListBy mark looks cool batch locked ask m g own x = ⊥

-- what it leaves
abbrev pub LeavesBy : {M1 M2 M3 M4 M5 M6 X1 X2 X3 X4 X5 X6 : Type 0} → (M1 → Geometry → View → X1 → View → Type 0) → (M2 → Geometry → View → X2 → View → Type 0) → (M3 → Geometry → View → X3 → View → Type 0) → (M4 → Geometry → View → X4 → View → Type 0) → (M5 → Geometry → View → X5 → View → Type 0) → (M6 → Geometry → View → X6 → View → Type 0) → MigratorWork M1 M2 M3 M4 M5 M6 → Geometry → View → MigratorWork X1 X2 X3 X4 X5 X6 → View → Type 0
LeavesBy mark looks cool batch locked ask (Mark m) g view (Mark x) left = mark m g view x left
LeavesBy mark looks cool batch locked ask (Looks m) g view (Looks x) left = looks m g view x left
LeavesBy mark looks cool batch locked ask (Cool m) g view (Cool x) left = cool m g view x left
LeavesBy mark looks cool batch locked ask (Batch m) g view (Batch x) left = batch m g view x left
LeavesBy mark looks cool batch locked ask (Move m) g view (Move x) left = locked m g view x left
LeavesBy mark looks cool batch locked ask (Ask m) g view (Ask x) left = ask m g view x left
LeavesBy mark looks cool batch locked ask m g view x left = ⊥

-- it awaits the answer to an action
abbrev pub AwaitsBy : {P1 P2 P3 P4 P5 P6 : Type 0} → (P1 → Geometry → View → Own → Action → Type 0) → (P2 → Geometry → View → Own → Action → Type 0) → (P3 → Geometry → View → Own → Action → Type 0) → (P4 → Geometry → View → Own → Action → Type 0) → (P5 → Geometry → View → Own → Action → Type 0) → (P6 → Geometry → View → Own → Action → Type 0) → MigratorWork P1 P2 P3 P4 P5 P6 → Geometry → View → Own → Action → Type 0
AwaitsBy mark looks cool batch locked ask (Mark p) g view own action = mark p g view own action
AwaitsBy mark looks cool batch locked ask (Looks p) g view own action = looks p g view own action
AwaitsBy mark looks cool batch locked ask (Cool p) g view own action = cool p g view own action
AwaitsBy mark looks cool batch locked ask (Batch p) g view own action = batch p g view own action
AwaitsBy mark looks cool batch locked ask (Move p) g view own action = locked p g view own action
AwaitsBy mark looks cool batch locked ask (Ask p) g view own action = ask p g view own action

-- it is over
abbrev pub EndedBy : {P1 P2 P3 P4 P5 P6 X1 X2 X3 X4 X5 X6 : Type 0} → (P1 → Geometry → Own → X1 → Type 0) → (P2 → Geometry → Own → X2 → Type 0) → (P3 → Geometry → Own → X3 → Type 0) → (P4 → Geometry → Own → X4 → Type 0) → (P5 → Geometry → Own → X5 → Type 0) → (P6 → Geometry → Own → X6 → Type 0) → MigratorWork P1 P2 P3 P4 P5 P6 → Geometry → Own → MigratorWork X1 X2 X3 X4 X5 X6 → Type 0
EndedBy mark looks cool batch locked ask (Mark p) g own (Mark x) = mark p g own x
EndedBy mark looks cool batch locked ask (Looks p) g own (Looks x) = looks p g own x
EndedBy mark looks cool batch locked ask (Cool p) g own (Cool x) = cool p g own x
EndedBy mark looks cool batch locked ask (Batch p) g own (Batch x) = batch p g own x
EndedBy mark looks cool batch locked ask (Move p) g own (Move x) = locked p g own x
EndedBy mark looks cool batch locked ask (Ask p) g own (Ask x) = ask p g own x
EndedBy mark looks cool batch locked ask p g own x = ⊥

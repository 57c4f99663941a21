-- How far an operation has come, and its flush, after each step of its actor that leaves them.
use Rattle.std.proofs.Common.{◌≡◌, ◌≢◌, ℕ, ◌+◌, map, Bool, List, Option, Some, None, refl, ap, ◌∙◌}
use Rattle.std.specs.Prelude.{option_map}
use Rattle.nm_base.specs.Geometry.{Geometry, backing_page}
use Rattle.nm_action.specs.declared.action.Action.{Action}
use Rattle.nm_action.specs.declared.action.Action.TheVariants.{Load, Store, Add, Look, Walk, Peek, Poll, Ack, Lock, Unlock, Bump, SeeAck, Raise, Soften, Arm, ClearDirty, Unmap, Map, Grant, CopyLoad, CopyStore, SetHome, SetShadow, TakeTurn, Scan, GiveFrame, PutFrame, ReleaseTurn, Mark, Read}
use Rattle.nm_action.specs.declared.action.Cell.{Cell}
use Rattle.nm_action.specs.declared.action.Cell.TheVariants as cells
use Rattle.nm_action.specs.declared.action.Reply.{Reply}
use Rattle.nm_action.specs.declared.action.Reply.TheVariants.{Done, Word, Busy, Lost}
use Rattle.nm_view.specs.declared.view.Phase.{Phase}
use Rattle.nm_view.specs.Lists.{find, edit}
use Rattle.nm_view.specs.Views.{Op, View}
use Rattle.nm_view.specs.Opening.{opened}
use Rattle.nm_view.specs.Operations.{page_of, op_on}
use Rattle.nm_view.proofs.Items.{some_same, not_none}
use Rattle.nm_view.proofs.Finds.{find_edit_other, find_erase_other, find_join_other, find_map, find_edit}
use Rattle.nm_event.specs.After.{after_of, edit_under, looked_at, read_cell, cleared_at, taken_at, raised_to, loaded, copied_one, homed_at, shaded, mapped_at, granted_at}
use Rattle.nm_words.specs.declared.names.Where.TheVariants as words
use Rattle.nm_step.specs.Table.{home_frame, cell_word}
use Rattle.nm_world.specs.Worlds.{World, moved, op_at, pte_at, reply_in}
use Rattle.nm_world.proofs.Parts.{part_edit, part_under, part_of}
use Rattle.nm_world.proofs.Writing.{own_view, other_view}

-- of an operation, how far it has come, what it took, and its flush
pub record Course : Type 0 where
  pub phase : Phase
  pub cleared : Bool
  pub moved : Bool
  pub taken : List (ℕ × ℕ)
  pub due : Bool
  pub flush : Option ℕ
  pub seen : ℕ

abbrev pub course_of : Op → Course
course_of o = record { phase = o.phase; cleared = o.cleared; moved = o.moved; taken = o.taken; due = o.due; flush = o.flush; seen = o.seen }

-- an action of an actor leaves the course of its operation on b
abbrev pub LeavesCourse : Geometry → ℕ → Action → Type 0
LeavesCourse g b (Lock c) = c ≢ b
LeavesCourse g b (Unlock c) = c ≢ b
LeavesCourse g b (SetHome c _) = c ≢ b
LeavesCourse g b (ClearDirty u) = backing_page g u ≢ Some b
LeavesCourse g b (Unmap u) = backing_page g u ≢ Some b
LeavesCourse g b (Map u _) = backing_page g u ≢ Some b
LeavesCourse g b Bump = ⊥
LeavesCourse g b (SeeAck _) = ⊥
LeavesCourse g b _ = Unit {0}

-- the course of a view's operation on b is as before
abbrev SameCourse : View → View → ℕ → Type 0
SameCourse view new b = option_map course_of (op_on new b) ≡ option_map course_of (op_on view b)

-- the operation on another page is edited
edit_apart : (page : Option ℕ) (b : ℕ) (f : Op → Op) (ops : List Op) → ((o : Op) → page_of (f o) ≡ page_of o) → page ≢ Some b → option_map course_of (find page_of b (edit_under page f ops)) ≡ option_map course_of (find page_of b ops)
edit_apart None b f ops keeps apart = refl
edit_apart (Some c) b f ops keeps apart = ap (option_map course_of) (find_edit_other page_of c f b ops keeps (λ same. apart (ap Some same)))

walk_course : (g : Geometry) (view : View) (v e b : ℕ) (write : Bool) (r : Reply) → SameCourse view (after_of g view (Walk v e write) r) b
walk_course g view v e b write Done = refl
walk_course g view v e b write (Word n) = refl
walk_course g view v e b write (Busy n) = refl
walk_course g view v e b write (Lost n) = refl

lock_course : (g : Geometry) (view : View) (c b : ℕ) (r : Reply) → c ≢ b → SameCourse view (after_of g view (Lock c) r) b
lock_course g view c b Done other = ap (option_map course_of) (find_join_other page_of (opened c view.room.aliases) b view.ops other)
lock_course g view c b (Word n) other = refl
lock_course g view c b (Busy n) other = refl
lock_course g view c b (Lost n) other = refl

turn_course : (g : Geometry) (view : View) (t b : ℕ) (r : Reply) → SameCourse view (after_of g view (TakeTurn t) r) b
turn_course g view t b Done = refl
turn_course g view t b (Word n) = refl
turn_course g view t b (Busy n) = refl
turn_course g view t b (Lost n) = refl

mark_course : (g : Geometry) (view : View) (c old new b : ℕ) (r : Reply) → SameCourse view (after_of g view (Mark c old new) r) b
mark_course g view c old new b Done = refl
mark_course g view c old new b (Word n) = refl
mark_course g view c old new b (Busy n) = refl
mark_course g view c old new b (Lost n) = refl

read_page : (cell : Cell) (n : ℕ) (o : Op) → page_of (read_cell cell n o) ≡ page_of o
read_page (cells.Home b) n o = refl
read_page (cells.Shadow k) n o = refl

read_course : (cell : Cell) (n : ℕ) (o : Op) → course_of (read_cell cell n o) ≡ course_of o
read_course (cells.Home b) n o = refl
read_course (cells.Shadow k) n o = refl

-- each kind that leaves it
course_left : (g : Geometry) (m : World) (a : ℕ) (action : Action) (b : ℕ) → LeavesCourse g b action → SameCourse (m.view a) (after_of g (m.view a) action (reply_in g m a action)) b
course_left g m a (Look v) b h = part_of course_of g v (looked_at v (pte_at m v)) b (m.view a).ops (λ o. refl) (λ o. refl)
course_left g m a (Walk v e write) b h = walk_course g (m.view a) v e b write (reply_in g m a (Walk v e write))
course_left g m a (Lock c) b h = lock_course g (m.view a) c b (reply_in g m a (Lock c)) h
course_left g m a (Unlock c) b h = ap (option_map course_of) (find_erase_other page_of c b (m.view a).ops h)
course_left g m a Bump b h = absurd h
course_left g m a (SeeAck p) b h = absurd h
course_left g m a (Raise v) b h = part_of course_of g v (raised_to v (m.word (words.Stamp v) + 1)) b (m.view a).ops (λ o. refl) (λ o. refl)
course_left g m a (ClearDirty v) b h = edit_apart (backing_page g v) b (cleared_at v) (m.view a).ops (λ o. refl) h
course_left g m a (Unmap v) b h = edit_apart (backing_page g v) b (taken_at v (pte_at m v)) (m.view a).ops (λ o. refl) h
course_left g m a (Map v word) b h = edit_apart (backing_page g v) b (mapped_at v word) (m.view a).ops (λ o. refl) h
course_left g m a (Grant v) b h = part_of course_of g v (granted_at v (pte_at m v)) b (m.view a).ops (λ o. refl) (λ o. refl)
course_left g m a (CopyLoad c i) b h = part_edit course_of c (loaded (m.word (words.Mem (home_frame (m.view a) c) i))) b (m.view a).ops (λ o. refl) (λ o. refl)
course_left g m a (CopyStore c f i x) b h = part_under course_of c copied_one b (m.view a).ops (λ o. refl) (λ o. refl)
course_left g m a (SetHome c f) b h = ap (option_map course_of) (find_edit_other page_of c (homed_at f) b (m.view a).ops (λ o. refl) h)
course_left g m a (SetShadow c k s) b h = part_edit course_of c (shaded c s) b (m.view a).ops (λ o. refl) (λ o. refl)
course_left g m a (TakeTurn t) b h = turn_course g (m.view a) t b (reply_in g m a (TakeTurn t))
course_left g m a (Mark c old new) b h = mark_course g (m.view a) c old new b (reply_in g m a (Mark c old new))
course_left g m a (Read c cell) b h = part_edit course_of c (read_cell cell (m.word (cell_word cell))) b (m.view a).ops (read_page cell (m.word (cell_word cell))) (read_course cell (m.word (cell_word cell)))
course_left g m a (Load v i) b h = refl
course_left g m a (Store v i x) b h = refl
course_left g m a (Add v i x) b h = refl
course_left g m a (Peek v) b h = refl
course_left g m a Poll b h = refl
course_left g m a (Ack to) b h = refl
course_left g m a (Soften v bit) b h = refl
course_left g m a (Arm v) b h = refl
course_left g m a (Scan t k) b h = refl
course_left g m a (GiveFrame f) b h = refl
course_left g m a (PutFrame f) b h = refl
course_left g m a (ReleaseTurn t) b h = refl

-- an operation after a step: there is one, with this course
pub record HasCourse (found : Option Op) (x : Course) : Type 0 where
  pub op : Op
  pub here : found ≡ Some op
  pub same : course_of op ≡ x

course_there : (found : Option Op) (x : Course) → option_map course_of found ≡ Some x → HasCourse found x
course_there None x is = absurd (not_none x is)
course_there (Some o) x is = record { op = o; here = refl; same = some_same (course_of o) x is }

-- the operation of the actor that makes the step
pub course_own : (g : Geometry) (m : World) (a : ℕ) (action : Action) (b : ℕ) (o : Op) → LeavesCourse g b action → op_at m a b ≡ Some o → HasCourse (op_at (moved g m a action) a b) (course_of o)
course_own g m a action b o leaves here =
    let new : View = after_of g (m.view a) action (reply_in g m a action) in
    let own : op_at (moved g m a action) a b ≡ op_on new b = ap (λ w. op_on w b) (own_view a new m.view) in
    course_there (op_at (moved g m a action) a b) (course_of o) (ap (option_map course_of) own ∙ course_left g m a action b leaves ∙ ap (option_map course_of) here)

-- the operation of another actor
pub op_other : (g : Geometry) (m : World) (c : ℕ) (action : Action) (a b : ℕ) → a ≢ c → op_at (moved g m c action) a b ≡ op_at m a b
op_other g m c action a b other = ap (λ w. op_on w b) (other_view c (after_of g (m.view c) action (reply_in g m c action)) m.view a other)

-- the own operation where each is changed, as by a Bump and a SeeAck
pub op_each : (g : Geometry) (m : World) (a : ℕ) (action : Action) (b : ℕ) (f : Op → Op) (o : Op) → ((x : Op) → page_of (f x) ≡ page_of x) → (after_of g (m.view a) action (reply_in g m a action)).ops ≡ map f (m.view a).ops → op_at m a b ≡ Some o → op_at (moved g m a action) a b ≡ Some (f o)
op_each g m a action b f o keeps ops here =
    let new : View = after_of g (m.view a) action (reply_in g m a action) in
    ap (λ w. op_on w b) (own_view a new m.view) ∙ ap (find page_of b) ops ∙ find_map page_of f b (m.view a).ops keeps ∙ ap (option_map f) here

-- the own operation where it is edited
pub op_edited : (g : Geometry) (m : World) (a : ℕ) (action : Action) (b : ℕ) (f : Op → Op) (o : Op) → ((x : Op) → page_of (f x) ≡ page_of x) → (after_of g (m.view a) action (reply_in g m a action)).ops ≡ edit page_of b f (m.view a).ops → op_at m a b ≡ Some o → op_at (moved g m a action) a b ≡ Some (f o)
op_edited g m a action b f o keeps ops here =
    let new : View = after_of g (m.view a) action (reply_in g m a action) in
    ap (λ w. op_on w b) (own_view a new m.view) ∙ ap (find page_of b) ops ∙ find_edit page_of b f (m.view a).ops keeps ∙ ap (option_map f) here

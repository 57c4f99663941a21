-- The locked move as a task: the move inside it is the whole work.
use Rattle.std.proofs.Common.{◌≡◌, [], ◌∷◌, ◌++◌, Option, Some, sym, ◌∙◌, subst}
use Rattle.nm_base.specs.Geometry.{Geometry}
use Rattle.nm_action.specs.declared.action.Action.{Action}
use Rattle.nm_action.specs.Own.{Own}
use Rattle.nm_view.specs.Views.{View}
use Rattle.nm_event.specs.After.{view_after}
use Rattle.nm_part.specs.Parts.{IsBegunWith, IsAsked, IsEnded}
use Rattle.nm_locked.specs.declared.locked.LockedEnd.{LockedEnd}
use Rattle.nm_locked.specs.declared.locked.LockedOver.{LockedOver}
use Rattle.nm_locked.specs.Chosen.{MayChoose}
use Rattle.nm_locked.specs.Moves.{IsLockedInMove}
use Rattle.nm_locked.specs.Leaving.{IsLockedLeft}
use Rattle.nm_locked_run.specs.declared.run.LockedRun.{LockedRun}
use Rattle.nm_locked_run.specs.Runs.{LockedMade}
use Rattle.nm_locked_task.specs.Tasks.{IsMoveFor, IsNewMove, AwaitsMove}

-- the finished lists of the move inside, and of the task
abbrev MoveShape : LockedMade → Geometry → Own → LockedOver → Type 0
MoveShape made g own over = IsLockedInMove made.1 g own over.end

abbrev TaskShape : LockedMade → Geometry → Own → LockedEnd → Type 0
TaskShape made g own end = IsLockedInMove made.1 g own end

-- the move of new work is for that work
pub new-move : (is_new : LockedRun → Type 0) (made_by : LockedRun → LockedMade) (made : LockedMade) (work : Option LockedRun) (run : LockedRun)
    → work ≡ Some run → IsNewMove is_new made_by made work → IsMoveFor (is_new run) made (made_by run)
new-move is_new made_by made work run is new = let W : Option LockedRun → Type 0 = λ w. IsNewMove is_new made_by made w in subst W is new

-- what is awaited, the move awaits
pub awaited-move : (awaits : LockedRun → Geometry → View → Own → Action → Type 0) (made_by : LockedRun → LockedMade) (made : LockedMade) (work : Option LockedRun) (run : LockedRun) (g : Geometry) (view : View) (own : Own) (action : Action)
    → work ≡ Some run → AwaitsMove awaits made_by made work g view own action → IsMoveFor (awaits run g view own action) made (made_by run)
awaited-move awaits made_by made work run g view own action is h =
    let W : Option LockedRun → Type 0 = λ w. AwaitsMove awaits made_by made w g view own action in subst W is h

-- a move may begin as the task may
pub may-move : (made run : LockedMade) (g : Geometry) (view : View) → run ≡ made → MayChoose made.0 made.1 g view → MayChoose run.0 run.1 g view
may-move made run g view for may = let P : LockedMade → Type 0 = λ m. MayChoose m.0 m.1 g view in subst P (sym for) may

begun : (made run : LockedMade) (g : Geometry) (own : Own) (action : Action) → run ≡ made → IsBegunWith (MoveShape run g) own action → IsBegunWith (TaskShape made g) own action
begun made run g own action for h =
    let P : LockedMade → Type 0 = λ m. IsLockedInMove m.1 g ((own ++ (action, h.reply) ∷ []) ++ h.begun.rest) h.begun.outcome.end in
    record { reply = h.reply; begun = record { rest = h.begun.rest; outcome = h.begun.outcome.end; whole = subst P for h.begun.whole } }

-- the action of the move is the task's
pub move-asked : (made run now : LockedMade) (awaits : Geometry → View → Own → Action → Type 0) (g : Geometry) (view : View) (own : Own) (action : Action)
    → run ≡ made → now ≡ run → IsAsked awaits (MoveShape run) g view own action
    → IsAsked (λ g view own action. IsMoveFor (awaits g view own action) made now) (TaskShape made) g view own action
move-asked made run now awaits g view own action for kept h = record {
  quiet = h.quiet;
  permitted = h.permitted;
  awaited = record { held = h.awaited; for = kept ∙ for };
  begun = begun made run g own action for h.begun;
}

-- the end of the move is the task's
pub move-ended : (made run : LockedMade) (g : Geometry) (view : View) (own : Own) (over : LockedOver) (ended : Geometry → Own → LockedOver → Type 0) (idle : Geometry → Own → LockedEnd → Type 0)
    → run ≡ made → IsEnded (MoveShape run) (λ g view over left. IsLockedLeft run.1 view over.end left) ended g view own over → idle g own over.end
    → IsEnded (TaskShape made) (λ g view end left. IsLockedLeft made.1 view end left) idle g view own over.end
move-ended made run g view own over ended idle for h kept =
    let S : LockedMade → Type 0 = λ m. IsLockedInMove m.1 g own over.end in
    let L : LockedMade → Type 0 = λ m. IsLockedLeft m.1 view over.end (view_after g view own) in
    record { shown = subst S for h.shown; left = subst L for h.left; over = kept }

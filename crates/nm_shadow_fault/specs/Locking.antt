-- A page is locked, again while it is busy.
use Rattle.std.specs.Prelude.{◌≡◌, ℕ, List, [], ◌∷◌, ◌++◌}
use Rattle.nm_base.specs.Geometry.{Geometry}
use Rattle.nm_base.specs.Ranges.{IsPage}
use Rattle.nm_action.specs.declared.action.Action.{Action}
use Rattle.nm_action.specs.declared.action.Action.TheVariants.{Lock}
use Rattle.nm_action.specs.declared.action.Reply.TheVariants.{Done, Busy}
use Rattle.nm_action.specs.Own.{Own}
use Rattle.nm_view.specs.Opening.{opened}
use Rattle.nm_view.specs.Views.{View}
use Rattle.nm_permit.specs.Permitted.{MayLock}

-- the Lock was lock_refused once for each of these words
abbrev pub lock_refused : ℕ → List ℕ → Own
lock_refused page [] = []
lock_refused page (w ∷ ws) = (Lock page, Busy w) ∷ lock_refused page ws

-- the page is locked, after some refusals
pub record IsLockTaken (page : ℕ) (own : Own) : Type 0 where
  pub busy : List ℕ
  pub is : own ≡ lock_refused page busy ++ (Lock page, Done) ∷ []

-- the same as a pattern, which ends with nothing but that the page is locked
abbrev pub LocksPage : ℕ → Own → Unit {0} → Type 0
LocksPage page own locked = IsLockTaken page own

-- it may begin
pub record MayLocks (page : ℕ) (g : Geometry) (view : View) : Type 0 where
  pub exists : IsPage g page
  pub lock : MayLock view page

-- it leaves an operation on the page, in which nothing is known
pub record LeavesLocked (page : ℕ) (view left : View) : Type 0 where
  pub is : left ≡ record view { ops = view.ops ++ opened page view.room.aliases ∷ [] }

-- the answer to a Lock is awaited
pub record AwaitsLock (page : ℕ) (g : Geometry) (view : View) (own : Own) (action : Action) : Type 0 where
  pub may : MayLocks page g view
  pub busy : List ℕ
  pub is : own ≡ lock_refused page busy
  pub lock : action ≡ Lock page

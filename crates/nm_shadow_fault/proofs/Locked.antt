-- The steps of locking a page.
use Rattle.std.proofs.Common.{◌≡◌, ℕ, List, [], ◌∷◌, ◌++◌, refl, sym, ap, ◌∙◌, subst, append-nil}
use Rattle.nm_base.specs.Geometry.{Geometry}
use Rattle.nm_action.specs.declared.action.Action.{Action}
use Rattle.nm_action.specs.declared.action.Action.TheVariants.{Lock}
use Rattle.nm_action.specs.declared.action.Reply.TheVariants.{Done, Busy}
use Rattle.nm_action.specs.Own.{Own}
use Rattle.nm_view.specs.Opening.{opened}
use Rattle.nm_view.specs.Views.{View}
use Rattle.nm_permit.specs.Permitted.{Allowed}
use Rattle.nm_event.specs.After.{after_of, view_after}
use Rattle.nm_part.specs.Parts.{IsAsked, IsEnded}
use Rattle.nm_part.specs.Patterns.{CanEnd}
use Rattle.nm_part.proofs.OwnLemmas.{view-push}
use Rattle.nm_shadow_fault.specs.Locking.{lock_refused, IsLockTaken, LocksPage, MayLocks, LeavesLocked, AwaitsLock}

-- refusals leave the view as it was
pub refused-view : (g : Geometry) (view : View) (page : ℕ) (busy : List ℕ) → view_after g view (lock_refused page busy) ≡ view
refused-view g view page [] = refl
refused-view g view page (w ∷ busy) = refused-view g view page busy

pub refused-push : (page : ℕ) (busy : List ℕ) (word : ℕ) → lock_refused page busy ++ (Lock page, Busy word) ∷ [] ≡ lock_refused page (busy ++ word ∷ [])
refused-push page [] word = refl
refused-push page (w ∷ busy) word = ap (λ (own : Own). (Lock page, Busy w) ∷ own) (refused-push page busy word)

locked-list : (page : ℕ) (busy : List ℕ) (own : Own) → own ≡ lock_refused page busy → (own ++ (Lock page, Done) ∷ []) ++ [] ≡ lock_refused page busy ++ (Lock page, Done) ∷ []
locked-list page busy own is = append-nil (own ++ (Lock page, Done) ∷ []) ∙ ap (λ (l : Own). l ++ (Lock page, Done) ∷ []) is

-- the Lock is asked for, after some refusals
pub lock-asked : (page : ℕ) (g : Geometry) (view : View) (own : Own) (busy : List ℕ) → MayLocks page g view → own ≡ lock_refused page busy
    → IsAsked (AwaitsLock page) (λ g own (end : Unit {0}). IsLockTaken page own) g view own (Lock page)
lock-asked page g view own busy may is =
    let V : View → Type 0 = λ v. Allowed g v (Lock page) in
    let now : view_after g view own ≡ view = ap (λ (l : Own). view_after g view l) is ∙ refused-view g view page busy in
    record {
      quiet = tt;
      permitted = subst V (sym now) (record { range = may.exists; permitted = may.lock });
      awaited = record { may = may; busy = busy; is = is; lock = refl };
      begun = record { reply = Done; begun = record { rest = []; outcome = tt; whole = record { busy = busy; is = locked-list page busy own is } } };
    }

-- the Lock was answered
pub lock-step : (page : ℕ) (g : Geometry) (view : View) (own : Own) (action : Action) (word : ℕ) → AwaitsLock page g view own action
    → IsAsked (AwaitsLock page) (λ g own (end : Unit {0}). IsLockTaken page own) g view (own ++ (action, Busy word) ∷ []) (Lock page)
lock-step page g view own action word a =
    lock-asked page g view (own ++ (action, Busy word) ∷ []) (a.busy ++ word ∷ []) a.may (ap (λ (l : Own). l ++ (action, Busy word) ∷ []) a.is ∙ (ap (λ (x : Action). lock_refused page a.busy ++ (x, Busy word) ∷ []) a.lock ∙ refused-push page a.busy word))

lock-left : (page : ℕ) (g : Geometry) (view : View) (own : Own) (action : Action) → AwaitsLock page g view own action → view_after g view (own ++ (action, Done) ∷ []) ≡ record view { ops = view.ops ++ opened page view.room.aliases ∷ [] }
lock-left page g view own action a =
    view-push g view own action Done
    ∙ (ap (λ (x : Action). after_of g (view_after g view own) x Done) a.lock
    ∙ ap (λ (v : View). after_of g v (Lock page) Done) (ap (λ (l : Own). view_after g view l) a.is ∙ refused-view g view page a.busy))

-- the page was locked
pub lock-ended : (page : ℕ) (g : Geometry) (view : View) (own : Own) (action : Action) → AwaitsLock page g view own action
    → IsEnded (λ g own (end : Unit {0}). IsLockTaken page own) (λ g view (end : Unit {0}) left. LeavesLocked page view left) (λ g own end. Unit {0}) g view (own ++ (action, Done) ∷ []) tt
lock-ended page g view own action a = record {
  shown = record { busy = a.busy; is = ap (λ (l : Own). l ++ (action, Done) ∷ []) a.is ∙ ap (λ (x : Action). lock_refused page a.busy ++ (x, Done) ∷ []) a.lock };
  left = record { is = lock-left page g view own action a };
  over = tt;
}

-- the pattern has a list
pub some-lock : (page : ℕ) → CanEnd (LocksPage page)
some-lock page = record { rest = (Lock page, Done) ∷ []; outcome = tt; shown = record { busy = []; is = refl } }

-- What an actor has drawn, after one action more.
use Rattle.std.proofs.Common.{◌≡◌, ℕ, ◌+◌, sym, ap, subst, arith}
use Rattle.nm_base.specs.Geometry.{Geometry}
use Rattle.nm_action.specs.declared.action.Action.{Action}
use Rattle.nm_action.specs.declared.action.Action.TheVariants.{Bump, Raise}
use Rattle.nm_action.specs.declared.action.Reply.{Reply}
use Rattle.nm_action.specs.declared.action.Reply.TheVariants.{Done, Word, Busy, Lost}
use Rattle.nm_action.specs.declared.spent.Spent.{Spent}
use Rattle.nm_action.specs.Spent.{counted}
use Rattle.nm_view.specs.Views.{View}
use Rattle.nm_permit.specs.Permitted.{Allowed}
use Rattle.nm_step.specs.Table.{change_of, IsReplyTo}
use Rattle.nm_event.specs.Fitting.{Fits}
use Rattle.nm_event.specs.After.{after_of}
use Rattle.nm_worker.specs.Routines.{IsDrawn}
use Rattle.nm_worker.specs.Workers.{IsFewDrawn}

-- the action that is kept is the one that was given, and it is permitted
pub record IsKept (g : Geometry) (view : View) (kept action : Action) : Type 0 where
  pub same : kept ≡ action
  pub permitted : Allowed g view action

-- a Bump and a Raise are answered by a word, and draw one more; nothing else draws
drawn-by : (spent : Spent) (action : Action) (reply : Reply) (g : Geometry) (view : View) → IsReplyTo (change_of g view action) reply → IsDrawn spent view → IsDrawn (counted action spent) (after_of g view action reply)
drawn-by spent Bump (Word n) g view kind h = record { bumps = ap (λ (k : ℕ). k + 1) h.bumps; raises = h.raises }
drawn-by spent Bump Done g view kind h = absurd kind
drawn-by spent Bump (Busy n) g view kind h = absurd kind
drawn-by spent Bump (Lost n) g view kind h = absurd kind
drawn-by spent (Raise v) (Word n) g view kind h = record { bumps = h.bumps; raises = ap (λ (k : ℕ). k + 1) h.raises }
drawn-by spent (Raise v) Done g view kind h = absurd kind
drawn-by spent (Raise v) (Busy n) g view kind h = absurd kind
drawn-by spent (Raise v) (Lost n) g view kind h = absurd kind
drawn-by spent _ (Word n) g view kind h = record { bumps = h.bumps; raises = h.raises }
drawn-by spent _ Done g view kind h = record { bumps = h.bumps; raises = h.raises }
drawn-by spent _ (Busy n) g view kind h = record { bumps = h.bumps; raises = h.raises }
drawn-by spent _ (Lost n) g view kind h = record { bumps = h.bumps; raises = h.raises }

pub drawn-after : (spent spending : Spent) (kept action : Action) (reply : Reply) (g : Geometry) (view : View)
    → spending ≡ counted kept spent → IsKept g view kept action → IsDrawn spent view → Fits g view action reply → IsDrawn spending (after_of g view action reply)
drawn-after spent spending kept action reply g view is at h fits =
    let D : Spent → Type 0 = λ s. IsDrawn s (after_of g view action reply) in
    let K : Action → Type 0 = λ a. IsDrawn (counted a spent) (after_of g view action reply) in
    subst D (sym is) (subst K (sym at.same) (drawn-by spent action reply g view fits.kind h))

few-by : (spent : Spent) (action : Action) (g : Geometry) (view : View) → Allowed g view action → IsDrawn spent view → IsFewDrawn spent → IsFewDrawn (counted action spent)
few-by spent Bump g view may h few = let below = may.permitted.few in record { bumps = omega (arith, h.bumps, below); raises = few.raises }
few-by spent (Raise v) g view may h few = let below = may.permitted.few in record { bumps = few.bumps; raises = omega (arith, h.raises, below) }
few-by spent _ g view may h few = record { bumps = few.bumps; raises = few.raises }

pub few-after : (spent spending : Spent) (kept action : Action) (g : Geometry) (view : View)
    → spending ≡ counted kept spent → IsKept g view kept action → IsDrawn spent view → IsFewDrawn spent → IsFewDrawn spending
few-after spent spending kept action g view is at h few =
    let K : Action → Type 0 = λ a. IsFewDrawn (counted a spent) in
    subst IsFewDrawn (sym is) (subst K (sym at.same) (few-by spent action g view at.permitted h few))

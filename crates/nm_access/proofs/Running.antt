-- A processor whose access awaits an answer has not ended.
use Rattle.std.proofs.Common.{◌≡◌, ◌≢◌, ℕ, Bool, List, ◌++◌, Option, Some, None, IsSome, IfSome, sym, ap, ◌∙◌, subst, arith}
use Rattle.nm_base.specs.Geometry.{Geometry}
use Rattle.nm_action.specs.declared.action.Action.{Action}
use Rattle.nm_action.specs.Own.{Own}
use Rattle.nm_action.specs.declared.turn.Turn.{Turn}
use Rattle.nm_view.specs.Views.{View, end_word, most_bumps}
use Rattle.nm_event.specs.After.{view_after}
use Rattle.nm_actor.specs.Turns.{Turns}
use Rattle.nm_catchup.specs.declared.cache.TranslationCache.{TranslationCache}
use Rattle.nm_catchup.specs.CatchUp.{Kept}
use Rattle.nm_catchup.specs.Catching.{IsKeptWith, IsAcked, AwaitsCatch, kept_of}
use Rattle.nm_access.specs.declared.made.AccessMade.{AccessMade}
use Rattle.nm_access.specs.declared.access.AccessStage.{AccessStage}
use Rattle.nm_access.specs.declared.access.AccessStage.TheVariants as accesses
use Rattle.nm_access.specs.Turning.{action_turns}
use Rattle.nm_access.specs.Faults.{FaultKinds}
use Rattle.nm_access.specs.Accesses.{Carried}
use Rattle.nm_access.specs.Accessing.{IsAccessReady, IsAtAccessStage, view_then}
use Rattle.nm_access.proofs.TurnSteps.{then-own}

none-some : IsSome {T = ℕ} None → ⊥
none-some e = cc

acked-running : (acked : Option ℕ) (view : View) → IfSome acked (IsAcked view) → IsSome acked → view.acked ≢ end_word
acked-running None view said on = λ ended. absurd (none-some on)
acked-running (Some number) view said on = λ ended. omega (arith, said.is, said.most, ended)

-- a processor whose translations are on has acknowledged a number of bumps
pub kept-running : (g : Geometry) (kept : Kept) (view : View) → IsKeptWith g kept view → IsSome kept.acked → view.acked ≢ end_word
kept-running g kept view all on = acked-running kept.acked view all.acked on

ready-running : (g : Geometry) (kept : Kept) (view : View) → IsAccessReady g kept view → view.acked ≢ end_word
ready-running g kept view h = kept-running g kept view h.all h.on

caught-running : (cache : TranslationCache) (before : Kept) (g : Geometry) (view : View) (front turns : Turns) (own : Own) (action : Action) → turns ≡ front ++ action_turns own
    → (view_then g view front).acked ≢ end_word → AwaitsCatch cache before g (view_then g view front) own action → (view_then g view turns).acked ≢ end_word
caught-running cache before g view front turns own action is running h = λ ended.
    h.running running (sym (ap (λ (v : View). v.acked) (ap (λ (l : Turns). view_then g view l) is ∙ then-own g view front own)) ∙ ended)

pub access-running : {M X : Type 0} (kinds : FaultKinds M X) (made : AccessMade) (stage : AccessStage) (hinted : Bool) (fault : M) (awaits : Geometry → View → Own → Action → Type 0) (cache : TranslationCache) (ends : List X) (g : Geometry) (was : Carried X) (view : View) (turns : Turns) (turn : Turn)
    → IsAtAccessStage kinds made stage hinted fault awaits cache ends g was view turns turn → (view_then g view turns).acked ≢ end_word
access-running kinds made accesses.Resting hinted fault awaits cache ends g was view turns turn h = absurd h
access-running kinds made accesses.CatchingUp hinted fault awaits cache ends g was view turns turn h = caught-running cache h.before g view h.front turns h.own h.action h.is h.running h.awaited
access-running kinds made accesses.Faulting hinted fault awaits cache ends g was view turns turn h = kept-running g (kept_of cache) (view_then g view turns) h.all h.on
access-running kinds made (accesses.Waiting waiting) hinted fault awaits cache ends g was view turns turn h =
    caught-running cache h.middle g view h.before turns h.own h.action h.is (kept-running g h.middle (view_then g view h.before) h.run.all h.run.on) h.awaited
access-running kinds made accesses.Peeking hinted fault awaits cache ends g was view turns turn h = ready-running g (kept_of cache) (view_then g view turns) h.known
access-running kinds made (accesses.Looking stamp) hinted fault awaits cache ends g was view turns turn h = ready-running g (kept_of cache) (view_then g view turns) h.known.ready
access-running kinds made accesses.Softening hinted fault awaits cache ends g was view turns turn h = ready-running g (kept_of cache) (view_then g view turns) h.known
access-running kinds made (accesses.Walking stamp word) hinted fault awaits cache ends g was view turns turn h = ready-running g (kept_of cache) (view_then g view turns) h.known.peeked.ready
access-running kinds made accesses.Marking hinted fault awaits cache ends g was view turns turn h = ready-running g (kept_of cache) (view_then g view turns) h.known.ready
access-running kinds made accesses.Putting hinted fault awaits cache ends g was view turns turn h = ready-running g (kept_of cache) (view_then g view turns) h.known.ready
access-running kinds made accesses.Unmarking hinted fault awaits cache ends g was view turns turn h = ready-running g (kept_of cache) (view_then g view turns) h.known.ready
access-running kinds made accesses.Touching hinted fault awaits cache ends g was view turns turn h = ready-running g (kept_of cache) (view_then g view turns) h.known.ready

-- That a permitted step of a world keeps all the groups.
use Rattle.std.proofs.Common.{ℕ}
use Rattle.nm_base.specs.Geometry.{Geometry, IsGeometry}
use Rattle.nm_action.specs.declared.action.Action.{Action}
use Rattle.nm_view.specs.Opening.{IsActor}
use Rattle.nm_permit.specs.Permitted.{Allowed}
use Rattle.nm_world.specs.Worlds.{World, moved}
use Rattle.nm_world.specs.Sights.{sight_of}
use Rattle.nm_world.specs.ShapeLaw.{ShapeLaw}
use Rattle.nm_world.specs.LockLaw.{LockLaw}
use Rattle.nm_world.specs.CacheLaw.{CacheLaw}
use Rattle.nm_world.specs.FrameLaw.{FrameLaw}
use Rattle.nm_world.specs.ShadowLaw.{ShadowLaw}
use Rattle.nm_world.specs.CopyLaw.{CopyLaw}
use Rattle.nm_world.specs.Bounds.{HasBounds}
use Rattle.nm_world.specs.Laws.{AreAll, IsReady}
use Rattle.nm_world.proofs.Shapes.{ShapeLaw-moved}
use Rattle.nm_fits.proofs.EachReply.{Fits-reply_in}
use Rattle.nm_locks.proofs.EachKind.{lock_law}
use Rattle.nm_caches.proofs.Kept.{cache_kept_of}
use Rattle.nm_copies.proofs.Closing.{copies_stand}
use Rattle.nm_frames.specs.Facts.{HasFrameFacts, HasShadowFacts}
use Rattle.nm_frames.proofs.Steps.{frames_step, shadows_step}

-- where all the groups hold, a permitted action can be made
pub ready_of : (g : Geometry) (m : World) (a : ℕ) (action : Action) → IsGeometry g → AreAll g m → IsActor g a → Allowed g (m.view a) action → IsReady g m a action
ready_of g m a action is all there may = record { shaped = all.shape; actor = there; allowed = may; fits = Fits-reply_in g m a action is all there may }

frame_facts : (g : Geometry) (m : World) → IsGeometry g → AreAll g m → HasFrameFacts g m
frame_facts g m is all = record { geometry = is; locks = all.locks; copies = all.copies; bounds = all.bounds }

shadow_facts : (g : Geometry) (m : World) → IsGeometry g → AreAll g m → HasShadowFacts g m
shadow_facts g m is all = record { geometry = is; locks = all.locks; caches = all.caches; copies = all.copies; frames = all.frames; bounds = all.bounds }

shape_moved : (g : Geometry) (m : World) (a : ℕ) (action : Action) → IsGeometry g → AreAll g m → IsActor g a → Allowed g (m.view a) action → ShapeLaw g (moved g m a action)
shape_moved g m a action is all there may = ShapeLaw-moved g m a action is (ready_of g m a action is all there may)

locks_moved : (g : Geometry) (m : World) (a : ℕ) (action : Action) → IsGeometry g → AreAll g m → IsActor g a → Allowed g (m.view a) action → LockLaw g (moved g m a action)
locks_moved g m a action is all there may = lock_law g m a action all there may (Fits-reply_in g m a action is all there may)

caches_moved : (g : Geometry) (m : World) (a : ℕ) (action : Action) → IsGeometry g → AreAll g m → IsActor g a → Allowed g (m.view a) action → CacheLaw g (moved g m a action)
caches_moved g m a action is all there may = cache_kept_of g m a action all (ready_of g m a action is all there may)

frames_moved : (g : Geometry) (m : World) (a : ℕ) (action : Action) → IsGeometry g → AreAll g m → IsActor g a → Allowed g (m.view a) action → FrameLaw g (sight_of g (moved g m a action))
frames_moved g m a action is all there may = frames_step g m a action (frame_facts g m is all) (ready_of g m a action is all there may) all.frames

shadows_moved : (g : Geometry) (m : World) (a : ℕ) (action : Action) → IsGeometry g → AreAll g m → IsActor g a → Allowed g (m.view a) action → ShadowLaw g (sight_of g (moved g m a action))
shadows_moved g m a action is all there may = shadows_step g m a action (shadow_facts g m is all) (ready_of g m a action is all there may) all.shadows

-- the copies of SeeAck rest on what the step leaves of caches and locks
copies_moved : (g : Geometry) (m : World) (a : ℕ) (action : Action) → IsGeometry g → AreAll g m → IsActor g a → Allowed g (m.view a) action → CopyLaw g (sight_of g (moved g m a action))
copies_moved g m a action is all there may =
    copies_stand g m a action is all (ready_of g m a action is all there may) (shape_moved g m a action is all there may) (locks_moved g m a action is all there may) (caches_moved g m a action is all there may)

-- all the groups, with the bounds, which each state has by itself
pub all_moved : (g : Geometry) (m : World) (a : ℕ) (action : Action) → IsGeometry g → AreAll g m → IsActor g a → Allowed g (m.view a) action → HasBounds g (moved g m a action) → AreAll g (moved g m a action)
all_moved g m a action is all there may bounds = record {
  shape = shape_moved g m a action is all there may;
  locks = locks_moved g m a action is all there may;
  caches = caches_moved g m a action is all there may;
  copies = copies_moved g m a action is all there may;
  shadows = shadows_moved g m a action is all there may;
  frames = frames_moved g m a action is all there may;
  bounds = bounds;
}

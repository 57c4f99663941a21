-- What a shootdown leaves of the operations of a view.
use Rattle.std.proofs.Common.{◌≡◌, ℕ, Some, IsTrue, IsSomeAnd, ap, ◌∙◌}
use Rattle.std.specs.Prelude.{option_map}
use Rattle.nm_base.specs.Geometry.{Geometry}
use Rattle.nm_view.specs.Lists.{find}
use Rattle.nm_view.specs.Views.{Op, View}
use Rattle.nm_view.specs.Operations.{page_of, op_on, IsFlushEnded}
use Rattle.nm_view.proofs.Finds.{find_map}
use Rattle.nm_shoot.specs.Flushed.{IsFlushed}

-- the operation on a page is the one before, flushed
pub op-after : (g : Geometry) (v left : View) (number page : ℕ) → (h : IsFlushed g v number left) → op_on left page ≡ option_map h.flushed (op_on v page)
op-after g v left number page h = ap (λ (w : View). find page_of page w.ops) h.is ∙ (find_map page_of h.flushed page v.ops (λ o. ap page_of (h.each o).same))

-- the flush of an operation that was due has ended
pub due-ended : (g : Geometry) (v left : View) (number page : ℕ) (o : Op) → IsFlushed g v number left → op_on v page ≡ Some o → IsTrue o.due → IsSomeAnd (op_on left page) (IsFlushEnded g)
due-ended g v left number page o h e due = rw (op-after g v left number page h, e) ((h.each o).due due)

-- a flush that had ended has still ended
pub kept-ended : (g : Geometry) (v left : View) (number page : ℕ) (o : Op) → IsFlushed g v number left → op_on v page ≡ Some o → IsFlushEnded g o → IsSomeAnd (op_on left page) (IsFlushEnded g)
kept-ended g v left number page o h e was = rw (op-after g v left number page h, e) ((h.each o).kept was)

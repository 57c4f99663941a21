-- The batch as a part: its steps are those of its composite.
use Rattle.std.proofs.Common.{◌≡◌, ℕ, List, length, refl, sym, subst}
use Rattle.nm_base.specs.Geometry.{Geometry}
use Rattle.nm_action.specs.declared.action.Action.{Action}
use Rattle.nm_action.specs.Own.{Own}
use Rattle.nm_view.specs.Views.{View}
use Rattle.nm_part.specs.Parts.{IsAsked, IsEnded}
use Rattle.nm_txn.specs.declared.end.TxnEnd.{TxnEnd}
use Rattle.nm_txn.specs.Batches.{BatchMade, IsBatch}
use Rattle.nm_batch.specs.Leaving.{IsBatchLeft}
use Rattle.nm_batch.specs.Tasks.{HasBatchEnds, IsToldEnds, IsBatchTaskLeft}

-- an action of the composite is the task's
pub batch-asked : (made : BatchMade) (awaits : Geometry → View → Own → Action → Type 0) (g : Geometry) (view : View) (own : Own) (action : Action)
    → IsAsked awaits (λ g own ends. IsBatch made g own ends) g view own action → IsAsked awaits (λ g own count. HasBatchEnds made g own count) g view own action
batch-asked made awaits g view own action h = record {
  quiet = h.quiet;
  permitted = h.permitted;
  awaited = h.awaited;
  begun = record {
    reply = h.begun.reply;
    begun = record {
      rest = h.begun.begun.rest;
      outcome = length h.begun.begun.outcome;
      whole = record { ends = h.begun.begun.outcome; shown = h.begun.begun.whole; count_is = refl };
    };
  };
}

-- so is its end
pub batch-ended : (made now : BatchMade) (told ends : List TxnEnd) (ended : Geometry → Own → List TxnEnd → Type 0) (count : ℕ) (g : Geometry) (view : View) (own : Own)
    → now ≡ made → told ≡ ends → count ≡ length ends → IsEnded (λ g own ends. IsBatch made g own ends) (λ g view ends left. IsBatchLeft made view ends left) ended g view own ends
    → IsEnded (λ g own count. HasBatchEnds made g own count) (λ g view count left. IsBatchTaskLeft made view count left) (λ g own count. IsToldEnds now told g own count) g view own count
batch-ended made now told ends ended count g view own same is long h =
    let T : List TxnEnd → Type 0 = λ l. IsToldEnds made l g own count in
    let M : BatchMade → Type 0 = λ m. IsToldEnds m told g own count in
    record {
      shown = record { ends = ends; shown = h.shown; count_is = long };
      left = record { ends = ends; count_is = long; left_is = h.left };
      over = subst M (sym same) (subst T (sym is) (record { shown = h.shown; count_is = long }));
    }

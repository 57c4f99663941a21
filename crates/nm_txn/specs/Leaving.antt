-- When a transaction may begin, and what it leaves.
use Rattle.std.specs.Prelude.{◌≡◌, ℕ, ◌+◌, []}
use Rattle.nm_base.specs.Geometry.{Geometry}
use Rattle.nm_view.specs.declared.view.Scanned.{Scanned}
use Rattle.nm_view.specs.Views.{View}
use Rattle.nm_event.specs.After.{spoiled}
use Rattle.nm_prepare.specs.declared.prepare.PrepareMade.{PrepareMade}
use Rattle.nm_prepare.specs.Ready.{MayPrepare, HasClosed}
use Rattle.nm_txn.specs.declared.end.TxnEnd.{TxnEnd}
use Rattle.nm_txn.specs.declared.end.TxnEnd.TheVariants.{Committed, Aborted, NoFrame, Gone, Worn, Busy}

-- it may begin: its first steps may, and the view has no open operation
pub record MayTxn (mine : Geometry) (made : PrepareMade) (g : Geometry) (view : View) : Type 0 where
  pub prepare : MayPrepare mine made g view
  pub alone : view.ops ≡ []

-- it was decided: no operation and no frame of its own is left; two bumps and two raises were made
pub record HasDecided (page : ℕ) (view left : View) : Type 0 where
  pub scan : Scanned
  pub is : left ≡ record view { owned = spoiled page view.owned; scan = scan; bumps = view.bumps + 2; raises = view.raises + 2 }

-- what it leaves
abbrev pub IsTxnLeft : PrepareMade → View → TxnEnd → View → Type 0
IsTxnLeft made view Committed left = HasDecided made.page view left
IsTxnLeft made view (Aborted word) left = HasDecided made.page view left
IsTxnLeft made view (NoFrame n) left = HasClosed made.page view left
IsTxnLeft made view Gone left = HasClosed made.page view left
IsTxnLeft made view Worn left = HasClosed made.page view left
IsTxnLeft made view Busy left = left ≡ view

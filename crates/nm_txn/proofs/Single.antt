-- A batch of one piece.
use Rattle.std.proofs.Common.{◌≡◌, ◌↔◌, ℕ, List, [], ◌∷◌, ◌++◌, refl, ap}
use Rattle.nm_base.specs.Geometry.{Geometry}
use Rattle.nm_action.specs.Own.{Own}
use Rattle.nm_part.specs.Patterns.{Ends, Follows}
use Rattle.nm_shoot.specs.Shootdown.{IsShootdown}
use Rattle.nm_copying.specs.Copying.{IsCopying}
use Rattle.nm_copying.specs.declared.copies.CopiesMade.{CopiesMade}
use Rattle.nm_prepare.specs.declared.prepare.PrepareMade.{PrepareMade}
use Rattle.nm_prepare.specs.declared.prepare.Prepared.{Prepared}
use Rattle.nm_prepare.specs.declared.prepare.Prepared.TheVariants as prepared
use Rattle.nm_prepare.specs.Preparing.{IsPrepare}
use Rattle.nm_commit.specs.declared.decide.DecideMade.{DecideMade}
use Rattle.nm_commit.specs.declared.decide.Decided.{Decided}
use Rattle.nm_commit.specs.declared.unmap.UnmapMade.{UnmapMade}
use Rattle.nm_commit.specs.Unmapping.{UnmapsOne}
use Rattle.nm_commit.specs.Deciding.{IsDeciding}
use Rattle.nm_txn.specs.declared.end.TxnEnd.{TxnEnd}
use Rattle.nm_txn.specs.declared.end.TxnEnd.TheVariants.{Busy}
use Rattle.nm_txn.specs.Transactions.{early_end, decided_end, Decides, FlushesAgain, Unmaps, Copies, FlushesFirst, AfterPrepare, IsTxn}
use Rattle.nm_txn.specs.Stages.{deciding}
use Rattle.nm_txn.specs.declared.batch.ReadyPiece.{ReadyPiece}
use Rattle.nm_txn.specs.Batches.{ready_of, ends_of, AfterPrepares, IsBatch, one_piece, IsOneTransaction}

-- what comes after goes over into what comes after
follows-map : {X O Q : Type 0} (first : Own → X → Type 0) (after : X → Own → O → Type 0) (other : X → Own → Q → Type 0) (own : Own) (o : O) (q : Q)
    → ((x : X) (rest : Own) → after x rest o → other x rest q) → Follows first after own o → Follows first other own q
follows-map first after other own o q step h = record { end = h.end; front = h.front; back = h.back; shown = h.shown; rest = step h.end h.back h.rest; is = h.is }

ends-one : (own : Own) (end outcome : TxnEnd) → Ends (end ∷ []) own (outcome ∷ []) → Ends end own outcome
ends-one own end outcome h = let e : outcome ∷ [] ≡ end ∷ [] = h.is in record { none = h.none; is = cc }

one-ends : (own : Own) (end outcome : TxnEnd) → Ends end own outcome → Ends (end ∷ []) own (outcome ∷ [])
one-ends own end outcome h = record { none = h.none; is = ap (λ (t : TxnEnd). t ∷ []) h.is }

abbrev one : PrepareMade → ℕ → ℕ → List ReadyPiece
one made home frame = record { page = made.page; vpage = made.vpage; home = home; frame = frame } ∷ []

-- after the steps up to the first flush, from the batch to the transaction
from-batch : (made : PrepareMade) (g : Geometry) (prepared : Prepared) (own : Own) (end : TxnEnd) → AfterPrepares g (prepared ∷ []) (ready_of ((made.page, made.vpage) ∷ []) (prepared ∷ [])) own (end ∷ []) → AfterPrepare g made prepared own end
from-batch made g prepared.Busy own end h = ends-one own Busy end h
from-batch made g (prepared.Closed early) own end h = ends-one own (early_end early) end h
from-batch made g (prepared.Ready home frame) own end h =
    follows-map (IsShootdown g.cpus) _ (λ number. Copies g made home frame) own (end ∷ []) end (λ number own h.
    follows-map (IsCopying (record { page = made.page; frame = frame; words = g.words }) g) _ (λ copied. Unmaps g made home frame) own (end ∷ []) end (λ copied own h.
    follows-map (UnmapsOne (record { page = made.page; vpage = made.vpage }) g) _ (λ word. FlushesAgain g made home frame word) own (end ∷ []) end (λ word own h.
    follows-map (IsShootdown g.cpus) _ (λ number. Decides g made home frame word) own (end ∷ []) end (λ number own h.
    follows-map (IsDeciding (deciding made home frame word) g) _ (λ decided. Ends (decided_end decided)) own (end ∷ []) end (λ decided own h.
    ends-one own (decided_end decided) end h) h) h) h) h) h

-- and back
to-batch : (made : PrepareMade) (g : Geometry) (prepared : Prepared) (own : Own) (end : TxnEnd) → AfterPrepare g made prepared own end → AfterPrepares g (prepared ∷ []) (ready_of ((made.page, made.vpage) ∷ []) (prepared ∷ [])) own (end ∷ [])
to-batch made g prepared.Busy own end h = one-ends own Busy end h
to-batch made g (prepared.Closed early) own end h = one-ends own (early_end early) end h
to-batch made g (prepared.Ready home frame) own end h =
    follows-map (IsShootdown g.cpus) (λ number. Copies g made home frame) _ own end (end ∷ []) (λ number own h.
    follows-map (IsCopying (record { page = made.page; frame = frame; words = g.words }) g) (λ copied. Unmaps g made home frame) _ own end (end ∷ []) (λ copied own h.
    follows-map (UnmapsOne (record { page = made.page; vpage = made.vpage }) g) (λ word. FlushesAgain g made home frame word) _ own end (end ∷ []) (λ word own h.
    follows-map (IsShootdown g.cpus) (λ number. Decides g made home frame word) _ own end (end ∷ []) (λ number own h.
    follows-map (IsDeciding (deciding made home frame word) g) (λ decided. Ends (decided_end decided)) _ own end (end ∷ []) (λ decided own h.
    one-ends own (decided_end decided) end h) h) h) h) h) h

-- the lists of a batch of one piece are those of a transaction
pub one-transaction : IsOneTransaction
one-transaction made g own end = (
  (λ h. follows-map (IsPrepare made g) _ (AfterPrepare g made) own (end ∷ []) end (λ prepared own h. from-batch made g prepared own end h) h),
  (λ h. follows-map (IsPrepare made g) (AfterPrepare g made) _ own end (end ∷ []) (λ prepared own h. to-batch made g prepared own end h) h),
)
